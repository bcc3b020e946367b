-- The invariant: the sections of the first keys are stored up to `at`, and `rest` is the strings of the others. One turn is `key_turn`.
use mathlib.Core.Path.{◌≡◌, refl, ap, ◌∙◌}
use mathlib.Core.List.{List}
use native.Mathlib.Omega.{arith}
use lib.ListN.{length, take, get_or}
use lib.Seq.{sets}
use Rattle.std.proofs.lemmas.List.{length-take-le, get_or-take, length-drop}
use Rattle.counting.specs.Below.{gather}
use Rattle.instrument_fields.specs.declared.KeyDesign.{KeyDesign}
use Rattle.instrument_fields.specs.declared.LoopDesign.{LoopDesign}
use Rattle.instrument.specs.Valid.{past_key, string_at, string_sum}
use Rattle.instrument.specs.ValidLaws.{valid_counts, string_sum_none}
use Rattle.instrument_encoding.specs.Encode.{key_bytes}
use Rattle.instrument_writer.proofs.Loops.{at_none, key_fits, at_next, rest_next, key_turn}
use Rattle.instrument_writer.proofs.ValidInstrument.put_keys.Goals as goal

pub shared_ref_as_front-keys : goal.shared_ref_as_front-keys
shared_ref_as_front-keys c = let counts = valid_counts c.args.self.now.instrument c.args.self.now.valid in omega arith

pub loop-key-init : goal.loop-key-init
unfolding gather
loop-key-init c =
    let a = c.args in
    let i = a.self.now.instrument in
    let counts = valid_counts i a.self.now.valid in (
      length-take-le i.key_count i.keys (omega (arith, a.self.now.places.0)),
      refl,
      rw string_sum_none refl,
      at_none i a.p (length a.b.now) a.self.now.valid c.requires,
      refl,
    )

pub split_at-requires : goal.split_at-requires
split_at-requires c =
    let i = c.args.self.now.instrument in
    let k = c.loop-key.key-index in
    let fits = key_fits _ _ _ _ _ c.loop-key.invariant.3 (omega (arith, c.loop-key.invariant.0)) in
    let same = ap (λ (d : KeyDesign). d.strings) (get_or-take i.key_count i.keys k past_key (omega (arith, c.loop-key.invariant.0))) in
    let left = ap (λ (l : List LoopDesign). length l) c.loop-key.invariant.2 ∙ length-drop (string_sum i.keys k) i.strings in
    omega (arith, same, fits.strings, left, c.args.self.now.places.1)

pub put_key-requires : goal.put_key-requires
put_key-requires c =
    let i = c.args.self.now.instrument in
    let k = c.loop-key.key-index in
    let fits = key_fits _ _ _ _ _ c.loop-key.invariant.3 (omega (arith, c.loop-key.invariant.0)) in
    let same = ap (λ (d : KeyDesign). d.strings) (get_or-take i.key_count i.keys k past_key (omega (arith, c.loop-key.invariant.0))) in
    (omega (arith, same, fits.ends, c.loop-key.invariant.1), omega (arith, same, fits.few), c.split_at.ensures.front_len)

pub overflow_add-at-in-loop-key : goal.overflow_add-at-in-loop-key
overflow_add-at-in-loop-key c =
    let i = c.args.self.now.instrument in
    let k = c.loop-key.key-index in
    let fits = key_fits _ _ _ _ _ c.loop-key.invariant.3 (omega (arith, c.loop-key.invariant.0)) in
    let same = ap (λ (d : KeyDesign). d.strings) (get_or-take i.key_count i.keys k past_key (omega (arith, c.loop-key.invariant.0))) in
    omega (arith, same, fits.ends, c.loop-key.invariant.1)

pub loop-key-preserved : goal.loop-key-preserved
loop-key-preserved c =
    let a = c.args in
    let i = a.self.now.instrument in
    let k = c.loop-key.key-index in
    let here = get_or-take i.key_count i.keys k past_key (omega (arith, c.loop-key.invariant.0)) in
    let same = ap (λ (d : KeyDesign). d.strings) here in
    let front =
    ap
    (λ (l : List LoopDesign). sets c.loop-key.b c.loop-key.at (key_bytes (get_or (take i.key_count i.keys) k past_key) (λ j. string_at l j)))
    c.split_at.ensures.front in (
      c.loop-key.invariant.0,
      c.put_key.auto.b ∙ c.loop-key.invariant.1,
      c.split_at.ensures.back ∙ rest_next i k _ same _ c.loop-key.invariant.2,
      rw same (at_next i a.p (length a.b.now) c.loop-key.at k c.loop-key.invariant.3 (omega (arith, c.loop-key.invariant.0))),
      key_turn i k a.b.now c.loop-key.b _ a.p c.loop-key.at _ _ here refl _ c.loop-key.invariant.2 c.loop-key.invariant.3.place c.loop-key.invariant.4
          (c.put_key.ensures ∙ front),
    )

pub shape_of-b : goal.shape_of-b
shape_of-b c = c.loop-key.invariant.1

pub returns : goal.returns
returns c =
    let all : c.loop-key.key-index ≡ c.args.self.now.instrument.key_count = omega (arith, c.loop-key.invariant.0, c.loop-key.invariant.3.below) in
    rw all at c.loop-key.invariant.4
