-- What each return of a call from C or Rust gives, over plain values: what `begin` promises and what the session's call promises make
-- the call's promise. Assumes nothing.
use Rattle.std.proofs.Common.{◌≡◌, refl, sym, ap, subst, ◌∙◌, Bool, true, false, ◌&&◌, cond, List, [], ℕ, ◌+◌, ◌≤◌, ◌<◌, length, get_or, map, arith, eqb-true}
use Rattle.std.specs.Prelude.{Option, Some, None, Result, Ok, Err}
use Rattle.std.specs.Float.Ieee.{Float}
use Rattle.std.proofs.lemmas.List.{ext_get_or, length-map, get_or-map}
use lib.Dec.{eqb}
use Rattle.counting.specs.Below.{all_below}
use Rattle.counting.specs.Meets.{Meets}
use Rattle.refusal.specs.declared.Refusal.{Refusal}
use Rattle.refusal.specs.declared.Refusal.TheVariants.{Record}
use Rattle.refusal.specs.Refusal.{number_of, number_in, number_not_zero}
use Rattle.little_endian.specs.Bytes.{Bytes}
use Rattle.instrument.specs.declared.Instrument.{Instrument}
use Rattle.instrument_file.specs.File.{read_of, instrument_in}
use Rattle.instrument_writer.specs.Write.{WriteMeets}
use Rattle.instrument_writer.specs.Saving.{read_written}
use Rattle.weights.specs.Weights.{weighted_by, whole_pairs}
use Rattle.score.specs.declared.Event.{Event}
use Rattle.session_record.specs.declared.Session.{Session}
use Rattle.session.specs.declared.Answer.{Answer}
use Rattle.session.specs.declared.Outcome.{Outcome}
use Rattle.session.specs.Calls.{ScratchStays}
use Rattle.energies.specs.declared.Energies.{Energies}
use Rattle.energies.specs.Energy.{EnergiesMeet}
use Rattle.session_words.specs.Layout.{session_size}
use Rattle.session_words.specs.Session.{session_of, is_session, is_event, event_of}
use Rattle.crossing.specs.declared.Begun.{Begun}
use Rattle.crossing.specs.declared.Report.{Report}
use Rattle.crossing.specs.Crossing.{refused_by, report_of, handed_refusal, refused_at, Begins, Opens, Keeps, Crosses}
use Rattle.crossing.proofs.Returns.{nothing_refused, more_decides, refused_already, file_refuses, rest_refuses, none_refuses, long}
use Rattle.gingerfile.specs.declared.KeyEnergies.{KeyEnergies}
use Rattle.gingerfile.specs.Adjust.{adjust_number, Adjusts, written_as, AdjustMeets, GivesBack}
use Rattle.gingerfile.specs.Energies.{no_energies, flat_in, Asks, EnergiesCross}

-- ---- scratch, where the report tells the number: an accepted call answers 0, so another number is a refused one's

pub report_stays : {number : ℕ} {scratch scratch' : List Float} {r : Report} {answer a : Result Answer Refusal} → r ≡ report_of answer
    → ScratchStays number scratch scratch'
    → (report_of a).refusal ≡ 0 → (number ≡ 0 → answer ≡ a) → ScratchStays r.refusal scratch scratch'
report_stays er stays none accepted refused =
    stays (λ e. refused (ap (λ (x : Report). x.refusal) er ∙ ap (λ (x : Result Answer Refusal). (report_of x).refusal) (accepted e) ∙ none))

-- ---- a call

module _ {f w : List ℕ} {whole : Bool} {Stays : Type 0} {Promise : Instrument → Session → Outcome → Type 0} {r : Report} where
  pub crosses_refused : (n : ℕ) → n ≡ refused_at f whole → (n ≡ 0 → ⊥) → r ≡ refused_by n → Stays → Crosses f whole w r w Stays Promise
  crosses_refused n e h er same = record { refuses = λ _. (er ∙ ap refused_by e, refl, same); calls = λ z. absurd (h (e ∙ z)) }

  pub crosses_called : 0 ≡ refused_at f whole → {w' : List ℕ} {o : Outcome} → Promise (instrument_in (read_of f)) (session_of w) o → Keeps o w r w'
      → Crosses f whole w r w' Stays Promise
  crosses_called e m keeps = record { refuses = λ z. absurd (z (sym e)); calls = λ _. record { outcome = _; meets = m; keeps = keeps } }

-- an event by its numbers
module _ (kind key : ℕ) (v : Float) where
  pub event_told : (e : Event) → cond (is_event kind key) (Some (event_of kind key v)) None ≡ Some e → (is_event kind key ≡ true) × (e ≡ event_of kind key v)
  event_told e told = go (is_event kind key) refl told
    where
      held : Option Event → Event
      held (Some x) = x
      held None = event_of kind key v

      go : (b : Bool) → is_event kind key ≡ b → cond b (Some (event_of kind key v)) None ≡ Some e → (is_event kind key ≡ true) × (e ≡ event_of kind key v)
      go true h t = (h, sym (ap held t))
      go false h t = absurd (cc t)

  pub no_event_told : cond (is_event kind key) (Some (event_of kind key v)) None ≡ None → is_event kind key ≡ false
  no_event_told told = go (is_event kind key) refl told
    where
      go : (b : Bool) → is_event kind key ≡ b → cond b (Some (event_of kind key v)) None ≡ None → is_event kind key ≡ false
      go true h t = absurd (cc t)
      go false h t = h

-- after `begin`
module _ {f w : List ℕ} {b : Result Begun Refusal} (m : Begins f w b) where
  number_of_error : (e : Refusal) → b ≡ Err e → number_of e ≡ refused_at f (is_session w)
  number_of_error e is = ap number_in (sym is) ∙ m.number

  module _ (e : Refusal) (is : b ≡ Err e) {Stays : Type 0} {Promise : Instrument → Session → Outcome → Type 0} {r : Report} where
    pub call_refused : r ≡ refused_by (number_of e) → Stays → Crosses f (is_session w) w r w Stays Promise
    call_refused = crosses_refused (number_of e) (number_of_error e is) (number_not_zero e)

    pub insert_refused : (kind key : ℕ) → r ≡ refused_by (number_of e) → Stays → Crosses f (is_session w && is_event kind key) w r w Stays Promise
    insert_refused kind key =
        let n = number_of_error e is in
        crosses_refused (number_of e)
        (n ∙ refused_already (number_in (read_of f)) (is_session w) (is_event kind key) (λ z. number_not_zero e (n ∙ z)))
        (number_not_zero e)

  module _ (g : Begun) (is : b ≡ Ok g) where
    accepted : 0 ≡ refused_at f (is_session w)
    accepted = ap number_in (sym is) ∙ m.number

    pub begun_long : length w ≡ session_size
    begun_long = long w (nothing_refused (number_in (read_of f)) (is_session w) (sym accepted)).1

    -- what holds of what `begin` gave holds of what the file and the words are
    begun_is : (P : Instrument → Session → Type 0) → P g.instrument g.session → P (instrument_in (read_of f)) (session_of w)
    begun_is P p = subst (P (instrument_in (read_of f))) (m.begun g is).1 (subst (λ (i : Instrument). P i g.session) (m.begun g is).0 p)

    -- whether an event's numbers are one decides where file and words are accepted
    event_decides : (kind key : ℕ) → cond (is_event kind key) 0 7 ≡ refused_at f (is_session w && is_event kind key)
    event_decides kind key = more_decides (number_in (read_of f)) (is_session w) (is_event kind key) (sym accepted)

    module _ {Stays : Type 0} {Promise : Instrument → Session → Outcome → Type 0} {r : Report} where
      pub call_made : {w' : List ℕ} {o : Outcome} → Promise g.instrument g.session o → Keeps o w r w' → Crosses f (is_session w) w r w' Stays Promise
      call_made {w'} {o} p keeps = crosses_called accepted (begun_is (λ i s. Promise i s o) p) keeps

      -- insert, whose event is numbers too
      pub insert_none : (kind key : ℕ) → is_event kind key ≡ false → r ≡ refused_by 7 → Stays → Crosses f (is_session w && is_event kind key) w r w Stays Promise
      insert_none kind key none =
          crosses_refused 7 (sym (ap (λ (t : Bool). cond t 0 7) none) ∙ event_decides kind key) (λ z. omega arith)

      pub insert_made : (kind key : ℕ) → is_event kind key ≡ true → {w' : List ℕ} {o : Outcome} → Promise g.instrument g.session o → Keeps o w r w'
          → Crosses f (is_session w && is_event kind key) w r w' Stays Promise
      insert_made kind key event {w'} {o} p keeps =
          crosses_called (sym (ap (λ (t : Bool). cond t 0 7) event) ∙ event_decides kind key) (begun_is (λ i s. Promise i s o) p) keeps

    -- energies
    pub asks_made : {work : List Float} {a : Result Energies Refusal} → EnergiesMeet g.instrument g.session work a → Asks f w work a
    asks_made {work} {a} p = record { refuses = λ z. absurd (z (sym accepted)); asks = λ _. begun_is (λ i s. EnergiesMeet i s work a) p }

  pub asks_refused : (e : Refusal) → b ≡ Err e → (work : List Float) → Asks f w work (Err e)
  asks_refused e is work =
      let n = number_of_error e is in record { refuses = λ _. n; asks = λ z. absurd (number_not_zero e (n ∙ z)) }

module _ {f w : List ℕ} {work : List Float} {a : Result Energies Refusal} (m : Asks f w work a) where
  pub energies_cross : {r : KeyEnergies} → r ≡ flat_in a → EnergiesCross f w work r
  energies_cross {r} er =
      record {
        refuses = λ h. er ∙ refused a (m.refuses h) h;
        asks = λ z. record { answer = a; meets = m.asks z; flat = er };
      }
    where
      refused : (x : Result Energies Refusal) → number_in x ≡ refused_at f (is_session w) → (refused_at f (is_session w) ≡ 0 → ⊥)
          → flat_in x ≡ no_energies (refused_at f (is_session w))
      refused (Ok found) n h = absurd (h (sym n))
      refused (Err e) n h = ap no_energies n

-- ---- open, whose words may hold anything before

module _ {f w : List ℕ} {b : Result Instrument Refusal} (m : Opens f w b) where
  module _ {Stays : Type 0} {Promise : Instrument → Session → Outcome → Type 0} {r : Report} where
    pub open_refused : (e : Refusal) → b ≡ Err e → r ≡ refused_by (number_of e) → Stays → Crosses f (eqb (length w) session_size) w r w Stays Promise
    open_refused e is = crosses_refused (number_of e) (ap number_in (sym is) ∙ m.number) (number_not_zero e)

    pub open_made : (i : Instrument) → b ≡ Ok i → {w' : List ℕ} {o : Outcome} → Promise i (session_of w) o → Keeps o w r w'
        → Crosses f (eqb (length w) session_size) w r w' Stays Promise
    open_made i is {w'} {o} p keeps =
        crosses_called (ap number_in (sym is) ∙ m.number) (subst (λ (x : Instrument). Promise x (session_of w) o) (m.instrument i is) p) keeps

  pub open_long : (i : Instrument) → b ≡ Ok i → length w ≡ session_size
  open_long i is =
      eqb-true (length w) session_size
      (nothing_refused (number_in (read_of f)) (eqb (length w) session_size) (sym (ap number_in (sym is) ∙ m.number))).1

-- ---- an adjusted file

module _ (f keys : List ℕ) (weights : List Float) (out : List ℕ) where
  pub adjusts_not_read : (e : Refusal) → read_of f ≡ Err e → Adjusts f keys weights out (Err e) out
  adjusts_not_read e read =
      let whole = whole_pairs (instrument_in (read_of f)) keys weights in
      let n : number_of e ≡ adjust_number f keys weights = file_refuses e whole ∙ ap (λ r. handed_refusal (number_in r) whole) (sym read) in
      record { refuses = λ _. (n, refl); accepts = λ z. absurd (number_not_zero e (n ∙ z)) }

  module _ (i : Instrument) (read : read_of f ≡ Ok i) where
    number_is : (b : Bool) → whole_pairs i keys weights ≡ b → (n : ℕ) → n ≡ handed_refusal 0 b → n ≡ adjust_number f keys weights
    number_is b h n e =
        e ∙ ap (handed_refusal 0) (sym h) ∙ ap (λ r. handed_refusal (number_in r) (whole_pairs (instrument_in r) keys weights)) (sym read)

    pub adjusts_not_whole : whole_pairs i keys weights ≡ false → Adjusts f keys weights out (Err Record) out
    adjusts_not_whole h =
        let n = number_is false h 7 rest_refuses in
        record { refuses = λ _. (n, refl); accepts = λ z. absurd (number_not_zero Record (n ∙ z)) }

    pub adjusts_written : whole_pairs i keys weights ≡ true → {a : Result ℕ Refusal} {out' : List ℕ} → WriteMeets (weighted_by i keys weights) out a out'
        → Adjusts f keys weights out a out'
    adjusts_written h {a} {out'} m =
        let n = number_is true h 0 none_refuses in
        record {
          refuses = λ z. absurd (z (sym n));
          accepts = λ _. subst (λ r. WriteMeets (weighted_by (instrument_in r) keys weights) out a out') (sym read) m;
        }

  pub adjust_meets_is : {a : Result ℕ Refusal} {r : Report} {out' : List ℕ} → Adjusts f keys weights out a out' → r ≡ written_as a
      → AdjustMeets f keys weights out r out'
  adjust_meets_is {a} {r} {out'} m er =
      record {
        refuses = λ h. (er ∙ refused a (m.refuses h).0 h, (m.refuses h).1);
        accepts = λ z. record { answer = a; meets = m.accepts z; report = er };
      }
    where
      refused : (x : Result ℕ Refusal) → number_in x ≡ adjust_number f keys weights → (adjust_number f keys weights ≡ 0 → ⊥)
          → written_as x ≡ refused_by (adjust_number f keys weights)
      refused (Ok n) e h = absurd (h (sym e))
      refused (Err x) e h = ap refused_by e

-- with no pair nothing but the file can be refused
no_pairs : (f : List ℕ) → number_in (read_of f) ≡ 0 → adjust_number f [] [] ≡ 0
unfolding handed_refusal whole_pairs all_below
no_pairs f z = rw z

-- so that the writer gets the record that was read, and gives the file back: `read_written`
pub gives_back : (f keys : List ℕ) (weights : List Float) {out out' : List ℕ} {r : Report} → Bytes f → AdjustMeets f keys weights out r out'
    → GivesBack f keys weights out r out'
unfolding weighted_by
gives_back f keys weights {out} {out'} {r} ok m z none no_weights room =
    let adjusted : AdjustMeets f [] [] out r out' = rw (none, no_weights) at m in
    let saved = adjusted.accepts (no_pairs f z) in
    let same = read_written out out' saved.answer (read_of f) f ok refl z saved.meets room in
    (saved.report ∙ ap written_as same.0, same.1)

-- ---- what `map` on an array gives, where each call gives v

pub mapped : {A B : Type 0} (v : A → B) (xs : List A) (ys : List B) (n : ℕ) → length xs ≡ n → length ys ≡ n
    → ((i : ℕ) (d : A) (e : B) → i < n → get_or ys i e ≡ v (get_or xs i d)) → (d : A) → ys ≡ map v xs
mapped v xs ys n h k each d =
    ext_get_or (v d) ys (map v xs) (k ∙ sym h ∙ sym (length-map xs v))
    (λ i below. each i d (v d) (omega (arith, k)) ∙ sym (get_or-map v xs i d (v d) (omega (arith, k, h))))
