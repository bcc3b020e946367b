-- Where the length is right the words are the session's, all of them: `put_whole`. Assumes nothing.
use Rattle.std.proofs.Common.{length, eq-eqb}
use Rattle.session_words.specs.Layout.{session_size}
use Rattle.session_words.proofs.Given.{fit_session}
use Rattle.session_words.proofs.Pieces.{put_whole}
use Rattle.session_words.proofs.put_session.Goals as goal

pub returns-then-fits : goal.returns-then-fits
returns-then-fits c =
    let z = c.args in
    let w = z.words.now in
    rw (eq-eqb (length w) session_size c.if-fits.true)
    (put_whole z.session (fit_session z.session _ c.well_formed.1.0) w _ c.if-fits.true c.put.ensures.stored)
