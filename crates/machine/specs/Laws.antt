-- Laws of the refusals and of the plain machine: what a passed test says; the machine stays sound; its refusals are 9 to 16; a cue at an
-- edit's position lives; a go replays no more than it must; and the machine before each call of a list. Assumes nothing.
use Rattle.std.specs.Prelude.{◌≡◌, refl, Bool, not, ◌⊎◌, List, [], ◌∷◌, ℕ, zero, suc, ◌+◌, ◌-◌, ◌≤◌, ◌<◌, leb, ltb, length, take, get_or}
use Rattle.std.proofs.Common.{sym, ◌∙◌, ap, inl, inr, arith, le-leb, ltb-false, leb-false}
use Rattle.std.proofs.Math.Bool.{true, false, cond}
use Rattle.std.proofs.Math.Logic.{⊎_elim}
use Rattle.std.proofs.lemmas.Bool.{not-false}
use Rattle.instrument.specs.declared.Instrument.{Instrument}
use Rattle.score.specs.declared.TimedEvent.{TimedEvent}
use Rattle.score.specs.Score.{no_event}
use Rattle.positions.specs.Positions.{end, is_in, others, up_to, greatest, distinct}
use Rattle.positions.specs.Laws.{and_both, true_or_false, in_front, in_cons, in_cases, in_none, in_up_to, greatest_bound, greatest_up_to, distinct_up_to}
use Rattle.score_edits.specs.Edits.{sound_velocity, sound_event_to, sound_score, sound_score_to, placed, removed}
use Rattle.score_edits.specs.Laws.{length_placed, length_removed, sound_placed, sound_removed, sound_position}
use Rattle.machine.specs.Refusals.{refuse_if, or_else, scratch_cells, play_refusal, cue_refusal, go_refusal, insert_refusal, remove_refusal}
use Rattle.machine.specs.Machine.{Machine, Call, Reply, opened, start_of, settled, edit, unless, does, does_to, final, final_to, replies, replies_to}

-- ---- tests in a row

pub else_first : (a b x : ℕ) → x ≡ a → (x ≡ 0 → ⊥) → x ≡ or_else a b
else_first zero b x e h = absurd (h e)
else_first (suc a) b x e h = e

pub else_next : (a b x : ℕ) → x ≡ a → x ≡ 0 → b ≡ or_else a b
else_next zero b x e h = refl
else_next (suc a) b x e h = absurd (omega arith)

pub else_zero : (a b : ℕ) → or_else a b ≡ 0 → (a ≡ 0) × (b ≡ 0)
else_zero zero b e = (refl, e)
else_zero (suc a) b e = absurd (omega arith)

pub test_passed : (b : Bool) (n : ℕ) → refuse_if b (suc n) ≡ 0 → b ≡ false
test_passed true n e = absurd (omega arith)
test_passed false n e = refl

-- ---- what a call that is not refused was given

pub play_passed : (i : Instrument) (t scratch m trace : ℕ) → play_refusal i t scratch m trace ≡ 0 → (scratch_cells i ≤ scratch) × (m ≤ trace) × (t + m ≤ end)
play_passed i t scratch m trace e =
    let a = else_zero (refuse_if (ltb scratch (scratch_cells i)) 9) _ e in
    let b = else_zero (refuse_if (ltb trace m) 10) _ a.1 in
    (ltb-false scratch (scratch_cells i) (test_passed _ 8 a.0), ltb-false trace m (test_passed _ 9 b.0), ltb-false end (t + m) (test_passed _ 10 b.1))

pub cue_passed : (t : ℕ) (cues : List ℕ) → cue_refusal t cues ≡ 0 → others t cues < 4
cue_passed t cues e = leb-false 4 (others t cues) (test_passed _ 14 e)

pub go_passed : (i : Instrument) (scratch p start : ℕ) → go_refusal i scratch p start ≡ 0 → (scratch_cells i ≤ scratch) × (p ≤ end) × (p - start ≤ 1000000)
go_passed i scratch p start e =
    let a = else_zero (refuse_if (ltb scratch (scratch_cells i)) 9) _ e in
    let b = else_zero (refuse_if (ltb end p) 11) _ a.1 in
    (ltb-false scratch (scratch_cells i) (test_passed _ 8 a.0), ltb-false end p (test_passed _ 10 b.0), ltb-false 1000000 (p - start) (test_passed _ 15 b.1))

pub insert_passed : (events : ℕ) (e : TimedEvent) → insert_refusal events e ≡ 0 → (e.position ≤ end) × (events < 64) × (sound_velocity e.event ≡ true)
insert_passed events e x =
    let a = else_zero (refuse_if (ltb end e.position) 11) _ x in
    let b = else_zero (refuse_if (leb 64 events) 12) _ a.1 in
    (ltb-false end e.position (test_passed _ 10 a.0), leb-false 64 events (test_passed _ 11 b.0), not-false _ (test_passed _ 12 b.1))

pub remove_passed : (events index : ℕ) → remove_refusal events index ≡ 0 → index < events
remove_passed events index e = leb-false events index (test_passed _ 13 e)

-- ---- the machine stays sound: what keeps refusal 7 away

pub record SoundMachine (p : Machine) : Type 0 where
  pub inside : p.t ≤ end
  pub score : sound_score p.score ≡ true
  pub few : length p.score ≤ 64
  pub below : (x : ℕ) → is_in x p.cues ≡ true → x ≤ end
  pub apart : distinct p.cues ≡ true

pub sound_opened : SoundMachine opened
unfolding sound_score_to distinct
sound_opened =
    record { inside = omega arith; score = refl; few = omega arith; below = λ x e. true_or_false (is_in x []) e (in_none x); apart = refl }

pub settled_low : (t : ℕ) (cues : List ℕ) (q : ℕ) → settled t cues q ≤ q
settled_low t cues q = go (ltb q t) refl
  where
    go : (b : Bool) → ltb q t ≡ b → cond b (greatest (up_to q cues)) t ≤ q
    go true e = greatest_up_to q cues
    go false e = ltb-false q t e

in_up_to_in : (q x : ℕ) (l : List ℕ) → is_in x (up_to q l) ≡ true → is_in x l ≡ true
unfolding up_to
in_up_to_in q x [] e = e
in_up_to_in q x (y ∷ ys) e = go (leb y q) e (in_up_to_in q x ys)
  where
    go : (b : Bool) → is_in x (cond b (y ∷ up_to q ys) (up_to q ys)) ≡ true → (is_in x (up_to q ys) ≡ true → is_in x ys ≡ true) → is_in x (y ∷ ys) ≡ true
    go true f ih = ⊎_elim (λ (h : x ≡ y). rw h (in_front y ys)) (λ (h : is_in x (up_to q ys) ≡ true). in_cons x y ys (ih h)) (in_cases x y (up_to q ys) f)
    go false f ih = in_cons x y ys (ih f)

module _ (p : Machine) (s : SoundMachine p) where
  sound_edit : (score : List TimedEvent) (q : ℕ) → sound_score score ≡ true → length score ≤ 64 → q ≤ end → SoundMachine (edit p score q).0
  sound_edit score q sc few top =
      record {
        inside = omega (arith, settled_low p.t p.cues q);
        score = sc;
        few = few;
        below = λ x e. s.below x (in_up_to_in _ x p.cues e);
        apart = distinct_up_to _ p.cues s.apart;
      }

  sound_cue_lem : (b : Bool) → is_in p.t p.cues ≡ b → SoundMachine (record { score = p.score; t = p.t; cues = cond b p.cues (p.t ∷ p.cues) })
  unfolding distinct
  sound_cue_lem true e = record { inside = s.inside; score = s.score; few = s.few; below = s.below; apart = s.apart }
  sound_cue_lem false e =
      record {
        inside = s.inside;
        score = s.score;
        few = s.few;
        below = λ x h. ⊎_elim (λ (k : x ≡ p.t). omega (arith, s.inside)) (λ (k : is_in x p.cues ≡ true). s.below x k) (in_cases x p.t p.cues h);
        apart = rw e s.apart;
      }

  unless_sound : (n : ℕ) (done : Machine × Reply) → (n ≡ 0 → SoundMachine done.0) → SoundMachine (unless n p done).0
  unless_sound zero done h = h refl
  unless_sound (suc n) done h = s

  sound_insert : (e : TimedEvent) → insert_refusal (length p.score) e ≡ 0 → SoundMachine (edit p (placed p.score e) e.position).0
  unfolding sound_event_to
  sound_insert e x =
      let a = insert_passed (length p.score) e x in
      sound_edit (placed p.score e) e.position
      (sound_placed p.score e (and_both (leb e.position end) (sound_velocity e.event) (le-leb e.position end a.0) a.2) s.score)
      (omega (arith, length_placed p.score e, a.1)) a.0

  sound_remove : (index : ℕ) → remove_refusal (length p.score) index ≡ 0
      → SoundMachine (edit p (removed p.score index) (get_or p.score index no_event).position).0
  sound_remove index x =
      let a = remove_passed (length p.score) index x in
      sound_edit (removed p.score index) (get_or p.score index no_event).position (sound_removed p.score index s.score)
      (omega (arith, length_removed p.score index a, s.few)) (sound_position p.score index no_event s.score a)

  pub sound_does : (i : Instrument) (c : Call) → SoundMachine (does i p c).0
  unfolding does_to
  sound_does i (Call.play scratch m trace) =
      unless_sound (play_refusal i p.t scratch m trace) _
      (λ e. record { inside = (play_passed i p.t scratch m trace e).2; score = s.score; few = s.few; below = s.below; apart = s.apart })
  sound_does i Call.cue =
      unless_sound (cue_refusal p.t p.cues) (record { score = p.score; t = p.t; cues = cond (is_in p.t p.cues) p.cues (p.t ∷ p.cues) }, Reply.cued)
      (λ e. sound_cue_lem (is_in p.t p.cues) refl)
  sound_does i (Call.go scratch q) =
      unless_sound (go_refusal i scratch q (start_of p.t p.cues q)) (record { score = p.score; t = q; cues = p.cues }, Reply.went (q - start_of p.t p.cues q))
      (λ e. record { inside = (go_passed i scratch q (start_of p.t p.cues q) e).1; score = s.score; few = s.few; below = s.below; apart = s.apart })
  sound_does i (Call.insert e) = unless_sound (insert_refusal (length p.score) e) (edit p (placed p.score e) e.position) (sound_insert e)
  sound_does i (Call.remove index) =
      unless_sound (remove_refusal (length p.score) index) (edit p (removed p.score index) (get_or p.score index no_event).position) (sound_remove index)

-- ---- the machine's refusals are 9 to 16: 7 and 8 never come

pub Allowed : Reply → Type 0
Allowed r = (n : ℕ) → r ≡ Reply.refused n → (9 ≤ n) × (n ≤ 16)

Numbered : ℕ → Type 0
Numbered n = (n ≡ 0) ⊎ ((9 ≤ n) × (n ≤ 16))

numbered_test : (b : Bool) (n : ℕ) → (9 ≤ n) × (n ≤ 16) → Numbered (refuse_if b n)
unfolding Numbered
numbered_test true n h = inr h
numbered_test false n h = inl refl

numbered_else : (a b : ℕ) → Numbered a → Numbered b → Numbered (or_else a b)
numbered_else zero b h g = g
numbered_else (suc a) b h g = h

numbered_three : (a b c : Bool) (x y z : ℕ) → (9 ≤ x) × (x ≤ 16) → (9 ≤ y) × (y ≤ 16) → (9 ≤ z) × (z ≤ 16)
    → Numbered (or_else (refuse_if a x) (or_else (refuse_if b y) (refuse_if c z)))
numbered_three a b c x y z hx hy hz =
    numbered_else (refuse_if a x) (or_else (refuse_if b y) (refuse_if c z)) (numbered_test a x hx)
    (numbered_else (refuse_if b y) (refuse_if c z) (numbered_test b y hy) (numbered_test c z hz))

unless_allowed : (n : ℕ) (p : Machine) (done : Machine × Reply) → Numbered n → ((m : ℕ) → done.1 ≡ Reply.refused m → ⊥) → Allowed (unless n p done).1
unfolding Allowed Numbered
unless_allowed zero p done h g m e = absurd (g m e)
unless_allowed (suc n) p done h g m e =
    let k : suc n ≡ m = cc in
    ⊎_elim (λ (z : suc n ≡ 0). absurd (omega arith)) (λ (z : (9 ≤ suc n) × (suc n ≤ 16)). (omega (arith, z.0), omega (arith, z.1))) h

pub allowed_does : (i : Instrument) (p : Machine) (c : Call) → Allowed (does i p c).1
unfolding does_to
allowed_does i p (Call.play scratch m trace) =
    unless_allowed (play_refusal i p.t scratch m trace) p _
    (numbered_three (ltb scratch (scratch_cells i)) (ltb trace m) (ltb end (p.t + m)) 9 10 11 (omega arith, omega arith) (omega arith, omega arith)
    (omega arith, omega arith))
    (λ m e. let z : ◌≡◌ {A = ℕ} 0 1 = cc in omega arith)
allowed_does i p Call.cue =
    unless_allowed (cue_refusal p.t p.cues) p _ (numbered_test (leb 4 (others p.t p.cues)) 15 (omega arith, omega arith))
    (λ m e. let z : ◌≡◌ {A = ℕ} 0 1 = cc in omega arith)
allowed_does i p (Call.go scratch q) =
    unless_allowed (go_refusal i scratch q (start_of p.t p.cues q)) p _
    (numbered_three (ltb scratch (scratch_cells i)) (ltb end q) (ltb 1000000 (q - start_of p.t p.cues q)) 9 11 16 (omega arith, omega arith)
    (omega arith, omega arith) (omega arith, omega arith))
    (λ m e. let z : ◌≡◌ {A = ℕ} 0 1 = cc in omega arith)
allowed_does i p (Call.insert e) =
    unless_allowed (insert_refusal (length p.score) e) p _
    (numbered_three (ltb end e.position) (leb 64 (length p.score)) (not (sound_velocity e.event)) 11 12 13 (omega arith, omega arith)
    (omega arith, omega arith) (omega arith, omega arith))
    (λ m e. let z : ◌≡◌ {A = ℕ} 0 1 = cc in omega arith)
allowed_does i p (Call.remove index) =
    unless_allowed (remove_refusal (length p.score) index) p _ (numbered_test (leb (length p.score) index) 14 (omega arith, omega arith))
    (λ m e. let z : ◌≡◌ {A = ℕ} 0 1 = cc in omega arith)

-- ---- "Events at q act on sample q, so a cue at q lives."

-- an edit at q leaves each cue that is not above q
pub cue_lives : (p : Machine) (score : List TimedEvent) (q x : ℕ) → x ≤ q → is_in x (edit p score q).0.cues ≡ is_in x p.cues
cue_lives p score q x h = in_up_to q x p.cues h

-- ---- an accepted go: "target minus start, never more than from 0, from the position before the go or from any kept cue, of those not above the target"

-- of the greatest position that is not above p
greatest_least : (t : ℕ) (cues : List ℕ) (p x : ℕ) → x ≤ p → (x ≡ 0) ⊎ (is_in x (t ∷ cues) ≡ true) → p - greatest (up_to p (t ∷ cues)) ≤ p - x
greatest_least t cues p x h m =
    ⊎_elim (λ (z : x ≡ 0). omega arith)
    (λ (z : is_in x (t ∷ cues) ≡ true). omega (arith, greatest_bound (up_to p (t ∷ cues)) x (in_up_to p x (t ∷ cues) h ∙ z), greatest_up_to p (t ∷ cues))) m

pub go_least : (t : ℕ) (cues : List ℕ) (p x : ℕ) → x ≤ p → (x ≡ 0) ⊎ (is_in x (t ∷ cues) ≡ true) → p - start_of t cues p ≤ p - x
go_least t cues p x h m = greatest_least t cues p x h m

-- what the number n of a go to p says of the machine before it
pub record Replayed (m : Machine) (p n : ℕ) : Type 0 where
  pub number : n ≡ p - start_of m.t m.cues p
  pub least : (x : ℕ) → x ≤ p → (x ≡ 0) ⊎ (is_in x (m.t ∷ m.cues) ≡ true) → n ≤ p - x

pub go_replays : (i : Instrument) (m : Machine) (scratch p n : ℕ) → (does i m (Call.go scratch p)).1 ≡ Reply.went n → Replayed m p n
unfolding does_to
go_replays i m scratch p n = by_refusal (go_refusal i scratch p (start_of m.t m.cues p))
  where
    replayed : p - start_of m.t m.cues p ≡ n → Replayed m p n
    replayed e = record { number = sym e; least = λ x h k. omega (arith, e, greatest_least m.t m.cues p x h k) }

    by_refusal : (a : ℕ) → (unless a m (record { score = m.score; t = p; cues = m.cues }, Reply.went (p - start_of m.t m.cues p))).1 ≡ Reply.went n
        → Replayed m p n
    by_refusal zero e = replayed cc
    by_refusal (suc a) e = absurd (let z : ◌≡◌ {A = ℕ} 0 1 = cc in omega arith)

-- ---- a list of calls

pub sound_final : (i : Instrument) (p : Machine) (cs : List Call) → SoundMachine p → SoundMachine (final i p cs)
unfolding final_to
sound_final i p [] s = s
sound_final i p (c ∷ cs) s = sound_final i (does i p c).0 cs (sound_does p s i c)

-- reply k is that of call k, after the first k calls
pub replies_at : (i : Instrument) (p : Machine) (cs : List Call) (k : ℕ) → k < length cs
    → get_or (replies i p cs) k Reply.cued ≡ (does i (final i p (take k cs)) (get_or cs k Call.cue)).1
unfolding replies_to final_to
replies_at i p [] k h = absurd (omega arith)
replies_at i p (c ∷ cs) zero h = refl
replies_at i p (c ∷ cs) (suc k) h = replies_at i (does i p c).0 cs k (omega arith)

pub replies_length : (i : Instrument) (p : Machine) (cs : List Call) → length (replies i p cs) ≡ length cs
unfolding replies_to
replies_length i p [] = refl
replies_length i p (c ∷ cs) = ap suc (replies_length i (does i p c).0 cs)
