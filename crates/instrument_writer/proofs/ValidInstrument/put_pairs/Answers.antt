-- The invariant: the pairs of the first k keys are stored, and the next section starts at `offset`. One turn is `pair_next`.
use mathlib.Core.Path.{◌≡◌, refl, ap, ◌∙◌}
use native.Mathlib.Omega.{arith}
use lib.ListN.{length}
use Rattle.std.proofs.lemmas.List.{length-take-le, get_or-take}
use Rattle.counting.specs.Below.{gather}
use Rattle.instrument_fields.specs.declared.KeyDesign.{KeyDesign}
use Rattle.instrument.specs.Valid.{past_key}
use Rattle.instrument.specs.ValidLaws.{valid_counts}
use Rattle.instrument_writer.proofs.Loops.{pair_none, pair_fits, pair_on, pair_next}
use Rattle.instrument_writer.proofs.ValidInstrument.put_pairs.Goals as goal

pub shared_ref_as_front-keys : goal.shared_ref_as_front-keys
shared_ref_as_front-keys c = let counts = valid_counts c.args.self.now.instrument c.args.self.now.valid in omega arith

pub loop-k-init : goal.loop-k-init
unfolding gather
loop-k-init c =
    let a = c.args in
    let i = a.self.now.instrument in
    let counts = valid_counts i a.self.now.valid in
    (length-take-le i.key_count i.keys (omega (arith, a.self.now.places.0)), refl, pair_none i (length a.b.now) a.self.now.valid c.requires, refl)

pub offset_bounds-keys-k : goal.offset_bounds-keys-k
offset_bounds-keys-k c =
    let counts = valid_counts c.args.self.now.instrument c.args.self.now.valid in
    record { fits = omega (arith, c.loop-k.invariant.0) }

pub overflow_mul-size : goal.overflow_mul-size
overflow_mul-size c =
    let i = c.args.self.now.instrument in
    let fits = pair_fits _ _ _ _ c.loop-k.invariant.2 (omega (arith, c.loop-k.invariant.0)) in
    let same = ap (λ (d : KeyDesign). d.strings) (get_or-take i.key_count i.keys c.loop-k.k past_key (omega (arith, c.loop-k.invariant.0))) in
    omega (arith, same, fits.few)

pub overflow_add-size : goal.overflow_add-size
overflow_add-size c =
    let i = c.args.self.now.instrument in
    let fits = pair_fits _ _ _ _ c.loop-k.invariant.2 (omega (arith, c.loop-k.invariant.0)) in
    let same = ap (λ (d : KeyDesign). d.strings) (get_or-take i.key_count i.keys c.loop-k.k past_key (omega (arith, c.loop-k.invariant.0))) in
    omega (arith, same, fits.few)

pub put_pair-requires : goal.put_pair-requires
put_pair-requires c =
    let i = c.args.self.now.instrument in
    let fits = pair_fits _ _ _ _ c.loop-k.invariant.2 (omega (arith, c.loop-k.invariant.0)) in
    let same = ap (λ (d : KeyDesign). d.strings) (get_or-take i.key_count i.keys c.loop-k.k past_key (omega (arith, c.loop-k.invariant.0))) in
    (omega (arith, fits.place, c.loop-k.invariant.1), omega (arith, fits.ends), omega (arith, same, fits.few))

pub overflow_add-offset-in-loop-k : goal.overflow_add-offset-in-loop-k
overflow_add-offset-in-loop-k c =
    let i = c.args.self.now.instrument in
    let fits = pair_fits _ _ _ _ c.loop-k.invariant.2 (omega (arith, c.loop-k.invariant.0)) in
    let same = ap (λ (d : KeyDesign). d.strings) (get_or-take i.key_count i.keys c.loop-k.k past_key (omega (arith, c.loop-k.invariant.0))) in
    omega (arith, same, fits.ends)

pub loop-k-preserved : goal.loop-k-preserved
loop-k-preserved c =
    let a = c.args in
    let k = c.loop-k.k in
    let same =
    ap (λ (d : KeyDesign). d.strings)
    (get_or-take a.self.now.instrument.key_count a.self.now.instrument.keys k past_key (omega (arith, c.loop-k.invariant.0))) in (
      c.loop-k.invariant.0,
      c.put_pair.auto.b ∙ c.loop-k.invariant.1,
      rw same (pair_on a.self.now.instrument (length a.b.now) c.loop-k.offset k c.loop-k.invariant.2 (omega (arith, c.loop-k.invariant.0))),
      pair_next a.self.now.instrument a.b.now c.loop-k.b _ c.loop-k.offset k c.loop-k.invariant.2.place c.loop-k.invariant.3 (rw same at c.put_pair.ensures),
    )

pub shape_of-b : goal.shape_of-b
shape_of-b c = c.loop-k.invariant.1

pub returns : goal.returns
returns c =
    let all : c.loop-k.k ≡ c.args.self.now.instrument.key_count = omega (arith, c.loop-k.invariant.0, c.loop-k.invariant.2.below) in
    rw all at c.loop-k.invariant.3
