-- Over 64 events it is not sound; else it is what its tests of t, the score, the piano now and the kept cues say.
use borrow.Author.Tests.{le-leb, lt-leb}
use Rattle.session_record.specs.Record.{sound_session_to}
use Rattle.session_record.proofs.is_sound_session.Goals as goal

pub returns-then-session-gt64 : goal.returns-then-session-gt64
unfolding sound_session_to
returns-then-session-gt64 c = rw (lt-leb _ 64 c.if-session-gt64.true)

pub returns : goal.returns
unfolding sound_session_to
returns c =
    let few = c.if-session-gt64.false in
    rw (le-leb _ 64 few, c.is_sound_score-in_score.ensures, c.is_sound_piano-now.ensures, c.are_sound-kept.ensures)
