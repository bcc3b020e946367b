-- What a call from C or Rust promises: refusals 1 to 6 of the file it is handed; 7 where its words are no session's; else the session's call
-- on the session that the words are, whose outcome is answered in numbers and written over the words. Definitions only: assumes nothing.
use Rattle.std.specs.Prelude.{◌≡◌, Bool, cond, List, ℕ, ◌*◌, eqb, length, Result, Ok, Err}
use Rattle.refusal.specs.declared.Refusal.{Refusal}
use Rattle.refusal.specs.Refusal.{number_of, number_in}
use Rattle.std.specs.Float.{binary64}
use Rattle.std.specs.Float.Ieee.{of_bits}
use Rattle.instrument.specs.declared.Instrument.{Instrument}
use Rattle.instrument_file.specs.File.{read_of, instrument_in}
use Rattle.instrument.specs.Work.{counted_part}
use Rattle.machine.specs.Refusals.{scratch_cells}
use Rattle.session_record.specs.declared.Session.{Session}
use Rattle.session.specs.declared.Answer.{Answer}
use Rattle.session.specs.declared.Answer.TheVariants.{Opened, Played, Cued, Went, Edited}
use Rattle.session.specs.declared.Outcome.{Outcome}
use Rattle.session_words.specs.Layout.{session_size}
use Rattle.session_words.specs.Session.{words_of, session_of, is_session}
use Rattle.crossing.specs.declared.Begun.{Begun}
use Rattle.crossing.specs.declared.Report.{Report}
use Rattle.crossing.specs.declared.Sizes.{Sizes}

-- ---- answers as numbers

abbrev pub refused_by : ℕ → Report
refused_by n = record { refusal = n; value = 0; dropped = 0; contacts = 0 }

abbrev pub accepted_with : ℕ → ℕ → ℕ → Report
accepted_with value dropped contacts = record { refusal = 0; value = value; dropped = dropped; contacts = contacts }

unfoldable pub report_of : Result Answer Refusal → Report
report_of (Err e) = refused_by (number_of e)
report_of (Ok Opened) = accepted_with 0 0 0
report_of (Ok (Played k contacts)) = accepted_with k 0 contacts
report_of (Ok Cued) = accepted_with 0 0 0
report_of (Ok (Went n)) = accepted_with n 0 0
report_of (Ok (Edited t dropped)) = accepted_with t dropped 0

-- what a file asks of its player; zeros where it is refused
unfoldable pub sizes_of : Result Instrument Refusal → Sizes
sizes_of (Ok i) =
    record {
      refusal = 0;
      fs = i.common.fs;
      keys = i.key_count;
      strings = i.string_count;
      words = session_size;
      work = 5 * counted_part i;
      scratch = scratch_cells i;
    }
sizes_of (Err e) = record { refusal = number_of e; fs = of_bits binary64 0; keys = 0; strings = 0; words = 0; work = 0; scratch = 0 }

-- ---- a call

-- the number that refuses what is handed, 0 for none: the file's own, 1 to 6; then 7 where the rest is not what it must be
unfoldable pub handed_refusal : ℕ → Bool → ℕ
handed_refusal file whole = cond (eqb file 0) (cond whole 0 7) file

-- the number that refuses the file f, or else the rest, which is `whole` where it is what it must be
abbrev pub refused_at : List ℕ → Bool → ℕ
refused_at f whole = handed_refusal (number_in (read_of f)) whole

-- what a call begins with, of the file f and the words w
pub record Begins (f w : List ℕ) (r : Result Begun Refusal) : Type 0 where
  pub number : number_in r ≡ refused_at f (is_session w)
  pub begun : (b : Begun) → r ≡ Ok b → (b.instrument ≡ instrument_in (read_of f)) × (b.session ≡ session_of w)

-- and open, whose words may hold anything before
pub record Opens (f w : List ℕ) (r : Result Instrument Refusal) : Type 0 where
  pub number : number_in r ≡ refused_at f (eqb (length w) session_size)
  pub instrument : (i : Instrument) → r ≡ Ok i → i ≡ instrument_in (read_of f)

-- an outcome in numbers and words: w before, w' after. A refused call changes no word
pub record Keeps (o : Outcome) (w : List ℕ) (r : Report) (w' : List ℕ) : Type 0 where
  pub report : r ≡ report_of o.answer
  pub words : r.refusal ≡ 0 → w' ≡ words_of o.session
  pub stays : (r.refusal ≡ 0 → ⊥) → w' ≡ w

pub record Called (Promise : Outcome → Type 0) (w : List ℕ) (r : Report) (w' : List ℕ) : Type 0 where
  pub outcome : Outcome
  pub meets : Promise outcome
  pub keeps : Keeps outcome w r w'

-- f is the file; `whole` tells whether the words are a session's, for insert its numbers an event's too, for open whether there are as
-- many words as a session has
-- Stays says that every lent cell but the words stayed, Promise what the session's call promises
pub record Crosses (f : List ℕ) (whole : Bool) (w : List ℕ) (r : Report) (w' : List ℕ) (Stays : Type 0)
    (Promise : Instrument → Session → Outcome → Type 0) : Type 0 where
  pub refuses : (refused_at f whole ≡ 0 → ⊥) → (r ≡ refused_by (refused_at f whole)) × (w' ≡ w) × Stays
  pub calls : refused_at f whole ≡ 0 → Called (Promise (instrument_in (read_of f)) (session_of w)) w r w'
