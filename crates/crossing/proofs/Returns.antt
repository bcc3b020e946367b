-- What each function here returns, over plain values, and the laws of the number that refuses. Assumes nothing.
use Rattle.std.proofs.Common.{◌≡◌, refl, sym, ap, ◌∙◌, Bool, true, false, ◌&&◌, cond, List, ℕ, length, arith, eq-eqb, eqb-true}
use Rattle.std.specs.Prelude.{Option, Some, None, Result, Ok, Err}
use Rattle.std.specs.Result.{IsErrAnd}
use lib.Dec.{eqb}
use borrow.Author.Tests.{ne_eqb, eqb-false}
use Rattle.counting.specs.Every.{and_left}
use Rattle.refusal.specs.declared.Refusal.{Refusal}
use Rattle.refusal.specs.Refusal.{number_of, number_in, number_not_zero}
use Rattle.refusal.specs.declared.Refusal.TheVariants.{Record}
use Rattle.instrument.specs.declared.Instrument.{Instrument}
use Rattle.instrument_file.specs.File.{read_of, instrument_in}
use Rattle.session.specs.declared.Answer.{Answer}
use Rattle.session.specs.declared.Answer.TheVariants.{Opened, Played, Cued, Went, Edited}
use Rattle.session.specs.declared.Outcome.{Outcome}
use Rattle.session_record.specs.declared.Session.{Session}
use Rattle.session_words.specs.Layout.{session_size}
use Rattle.session_words.specs.Session.{session_of, is_session, session_in, PutMeets}
use Rattle.crossing.specs.declared.Report.{Report}
use Rattle.crossing.specs.Crossing.{refused_by, report_of, handed_refusal, refused_at, Begins, Opens, Keeps}

-- ---- the number that refuses what is handed

module _ (file : ℕ) (whole : Bool) where
  -- nothing is refused where the file is accepted and the rest is what it must be
  pub nothing_refused : handed_refusal file whole ≡ 0 → (file ≡ 0) × (whole ≡ true)
  unfolding handed_refusal
  nothing_refused h = go (eqb file 0) refl whole h
    where
      go : (b : Bool) → eqb file 0 ≡ b → (t : Bool) → cond b (cond t 0 7) file ≡ 0 → (file ≡ 0) × (t ≡ true)
      go true e true h = (eqb-true file 0 e, refl)
      go true e false h = absurd (omega arith)
      go false e t h = absurd (eqb-false file 0 e h)

  -- one test more decides where nothing is refused yet
  pub more_decides : (more : Bool) → handed_refusal file whole ≡ 0 → cond more 0 7 ≡ handed_refusal file (whole && more)
  unfolding handed_refusal
  more_decides more h = rw ((nothing_refused h).0, (nothing_refused h).1)

  -- it leaves the number of what is refused already
  pub refused_already : (more : Bool) → (handed_refusal file whole ≡ 0 → ⊥) → handed_refusal file whole ≡ handed_refusal file (whole && more)
  unfolding handed_refusal
  refused_already more h = go (eqb file 0) whole h
    where
      go : (b t : Bool) → (cond b (cond t 0 7) file ≡ 0 → ⊥) → cond b (cond t 0 7) file ≡ cond b (cond (t && more) 0 7) file
      go true true h = absurd (h refl)
      go true false h = refl
      go false t h = refl

-- a refused file refuses, whatever the rest is; beside an accepted one the rest decides
pub file_refuses : (e : Refusal) (whole : Bool) → number_of e ≡ handed_refusal (number_of e) whole
unfolding handed_refusal
file_refuses e whole = rw (ne_eqb (number_of e) 0 (number_not_zero e))

pub rest_refuses : 7 ≡ handed_refusal 0 false
unfolding handed_refusal
rest_refuses = refl

pub none_refuses : 0 ≡ handed_refusal 0 true
unfolding handed_refusal
none_refuses = refl

-- ---- the words

pub long : (w : List ℕ) → is_session w ≡ true → length w ≡ session_size
unfolding is_session
long w h = eqb-true (length w) session_size (and_left (eqb (length w) session_size) _ h)

module _ (w : List ℕ) where
  session_told : (s : Session) → session_in w ≡ Some s → (is_session w ≡ true) × (s ≡ session_of w)
  unfolding session_in
  session_told s e = go (is_session w) refl e
    where
      held : Option Session → Session
      held (Some x) = x
      held None = session_of w

      go : (b : Bool) → is_session w ≡ b → cond b (Some (session_of w)) None ≡ Some s → (is_session w ≡ true) × (s ≡ session_of w)
      go true h e = (h, sym (ap held e))
      go false h e = absurd (cc e)

  none_told : session_in w ≡ None → is_session w ≡ false
  unfolding session_in
  none_told e = go (is_session w) refl e
    where
      go : (b : Bool) → is_session w ≡ b → cond b (Some (session_of w)) None ≡ None → is_session w ≡ false
      go true h e = absurd (cc e)
      go false h e = h

-- ---- what a call begins with

-- the refusal that a question mark hands on
pub handed_on : {A : Type 0} (e : Refusal) (r : Result A Refusal) → IsErrAnd r (λ x. x ≡ e) → Err e ≡ r
handed_on e (Ok a) h = absurd h
handed_on e (Err x) h = ap Err (sym h)

module _ (f w : List ℕ) where
  module _ (e : Refusal) (read : read_of f ≡ Err e) where
    pub begins_refused : Begins f w (Err e)
    begins_refused =
        record {
          number = file_refuses e (is_session w) ∙ ap (λ r. handed_refusal (number_in r) (is_session w)) (sym read);
          begun = λ b k. absurd (cc k);
        }

    pub opens_refused : Opens f w (Err e)
    opens_refused =
        record {
          number = file_refuses e (eqb (length w) session_size) ∙ ap (λ r. handed_refusal (number_in r) (eqb (length w) session_size)) (sym read);
          instrument = λ i k. absurd (cc k);
        }

  module _ (i : Instrument) (read : read_of f ≡ Ok i) where
    is_i : i ≡ instrument_in (read_of f)
    is_i = ap instrument_in (sym read)

    number_is : (whole b : Bool) → whole ≡ b → (n : ℕ) → n ≡ handed_refusal 0 b → n ≡ refused_at f whole
    number_is whole b h n e = e ∙ ap (handed_refusal 0) (sym h) ∙ ap (λ r. handed_refusal (number_in r) whole) (sym read)

    pub begins : (s : Session) → session_in w ≡ Some s → Begins f w (Ok (record { instrument = i; session = s }))
    begins s told =
        record {
          number = number_is (is_session w) true (session_told w s told).0 0 none_refuses;
          begun = λ b k. let same : b ≡ record { instrument = i; session = s } = cc k in rw same (is_i, (session_told w s told).1);
        }

    pub begins_not : session_in w ≡ None → Begins f w (Err Record)
    begins_not told = record { number = number_is (is_session w) false (none_told w told) 7 rest_refuses; begun = λ b k. absurd (cc k) }

    pub opens : length w ≡ session_size → Opens f w (Ok i)
    opens h =
        record {
          number = number_is (eqb (length w) session_size) true (eq-eqb (length w) session_size h) 0 none_refuses;
          instrument = λ j k. let same : j ≡ i = cc k in same ∙ is_i;
        }

    pub opens_not : (length w ≡ session_size → ⊥) → Opens f w (Err Record)
    opens_not h =
        record {
          number = number_is (eqb (length w) session_size) false (ne_eqb (length w) session_size h) 7 rest_refuses;
          instrument = λ j k. absurd (cc k);
        }

-- ---- what it keeps

module _ (o : Outcome) (w : List ℕ) (r : Report) where
  pub keeps_refused : (e : Refusal) → o.answer ≡ Err e → r ≡ refused_by (number_of e) → Keeps o w r w
  unfolding report_of
  keeps_refused e is er =
      record {
        report = rw is er;
        words = λ z. absurd (number_not_zero e (sym (ap (λ (x : Report). x.refusal) er) ∙ z));
        stays = λ _. refl;
      }

  accepts : (a : Answer) → (report_of (Ok a)).refusal ≡ 0
  unfolding report_of
  accepts Opened = refl
  accepts (Played k contacts) = refl
  accepts Cued = refl
  accepts (Went n) = refl
  accepts (Edited t dropped) = refl

  pub keeps_written : (a : Answer) → o.answer ≡ Ok a → r ≡ report_of (Ok a) → (t : Bool) (w' : List ℕ) → length w ≡ session_size → PutMeets o.session w t w'
      → Keeps o w r w'
  keeps_written a is er t w' k p =
      record {
        report = rw is er;
        words = λ _. p.writes (p.answer ∙ eq-eqb (length w) session_size k);
        stays = λ z. absurd (z (ap (λ (x : Report). x.refusal) er ∙ accepts a));
      }
