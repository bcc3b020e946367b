-- Document 02, W8: "Any list of calls from opening that got no 11 under the old end gets the same answers, score, position and cues under
-- the new one." For any end and a later one, from any machine. One call: the end stands in one test of play, go and insert alone, and where
-- that does not refuse under the earlier end it does not under the later one. Assumes nothing.
use Rattle.std.specs.Prelude.{◌≡◌, Bool, true, false, ℕ, zero, suc, ◌+◌, ◌-◌, ◌≤◌, ltb, length}
use Rattle.std.proofs.Math.Path.{refl}
use Rattle.std.proofs.Common.{ap, arith, ltb-false, le-ltb}
use mathlib.Core.List.{List, [], ◌∷◌}
use Rattle.instrument.specs.declared.Instrument.{Instrument}
use Rattle.machine.specs.Refusals.{refuse_if, or_else, scratch_test, trace_test, end_test, full_test, velocity_test, replay_test, play_refusal_to}
use Rattle.machine.specs.Refusals.{go_refusal_to, insert_refusal_to}
use Rattle.machine.specs.Machine.{Machine, Call, Reply, start_of, unless, does_to, final_to, replies_to}

-- refused as past the end
abbrev pub PastEnd : Reply → Type 0
PastEnd r = r ≡ Reply.refused 11

-- no reply of the list is 11
unfoldable pub NonePastEnd : List Reply → Type 0
NonePastEnd [] = Unit {0}
NonePastEnd (r ∷ rs) = (PastEnd r → ⊥) × NonePastEnd rs

-- a refusal of 11 is the reply
reply_past_end : (p : Machine) (done : Machine × Reply) (n : ℕ) → n ≡ 11 → PastEnd (unless n p done).1
reply_past_end p done zero e = absurd (omega arith)
reply_past_end p done (suc n) e = ap Reply.refused e

-- of two ends, the second not below the first: whatever the first allows, the second does
module _ (a b : ℕ) (allows : (q : ℕ) → q ≤ a → q ≤ b) where
  -- the test alone, ahead of others, and behind others
  end_same : (q : ℕ) → (end_test a q ≡ 11 → ⊥) → end_test a q ≡ end_test b q
  end_same q h = by_test (ltb a q) refl h
    where
      by_test : (t : Bool) → ltb a q ≡ t → (refuse_if t 11 ≡ 11 → ⊥) → refuse_if t 11 ≡ end_test b q
      by_test true e h = absurd (h refl)
      by_test false e h = rw (le-ltb b q (allows q (ltb-false a q e)))

  end_first : (q y : ℕ) → (or_else (end_test a q) y ≡ 11 → ⊥) → or_else (end_test a q) y ≡ or_else (end_test b q) y
  end_first q y h = ap (λ x. or_else x y) (end_same q (λ e. h (ap (λ x. or_else x y) e)))

  end_behind : (x y z : ℕ) → (or_else x y ≡ 11 → ⊥) → ((y ≡ 11 → ⊥) → y ≡ z) → or_else x y ≡ or_else x z
  end_behind zero y z h g = g h
  end_behind (suc x) y z h g = refl

  does_longer : (i : Instrument) (p : Machine) (c : Call) → (PastEnd (does_to a i p c).1 → ⊥) → does_to a i p c ≡ does_to b i p c
  unfolding does_to
  does_longer i p (Call.play scratch m trace) h =
      let same : play_refusal_to a i p.t scratch m trace ≡ play_refusal_to b i p.t scratch m trace =
      end_behind (scratch_test i scratch) _ _ (λ e. h (reply_past_end p _ _ e)) (λ g. end_behind (trace_test m trace) _ _ g (end_same (p.t + m))) in
      rw same
  does_longer i p Call.cue h = refl
  does_longer i p (Call.go scratch q) h =
      let start = start_of p.t p.cues q in
      let same : go_refusal_to a i scratch q start ≡ go_refusal_to b i scratch q start =
      end_behind (scratch_test i scratch) _ _ (λ e. h (reply_past_end p _ _ e)) (end_first q (replay_test (q - start))) in
      rw same
  does_longer i p (Call.insert e) h =
      let same : insert_refusal_to a (length p.score) e ≡ insert_refusal_to b (length p.score) e =
      end_first e.position (or_else (full_test (length p.score)) (velocity_test e)) (λ z. h (reply_past_end p _ _ z)) in
      rw same
  does_longer i p (Call.remove index) h = refl

  -- a list of calls
  same_where_allowed : (i : Instrument) (p : Machine) (cs : List Call) → NonePastEnd (replies_to a i p cs)
      → (replies_to a i p cs ≡ replies_to b i p cs) × (final_to a i p cs ≡ final_to b i p cs)
  unfolding replies_to final_to NonePastEnd
  same_where_allowed i p [] h = (refl, refl)
  same_where_allowed i p (c ∷ cs) h =
      let e = does_longer i p c h.0 in
      let rest = same_where_allowed i (does_to a i p c).0 cs h.1 in
      (rw (← e) (ap (λ l. (does_to a i p c).1 ∷ l) rest.0), rw (← e) rest.1)

module _ (a b : ℕ) (longer : a ≤ b) where
  -- a list of calls of which none is refused as 11 under the end a: the same replies, and the same machine after it
  pub longer_same : (i : Instrument) (p : Machine) (cs : List Call) → NonePastEnd (replies_to a i p cs)
      → (replies_to a i p cs ≡ replies_to b i p cs) × (final_to a i p cs ≡ final_to b i p cs)
  longer_same = same_where_allowed a b (λ q h. omega arith)
