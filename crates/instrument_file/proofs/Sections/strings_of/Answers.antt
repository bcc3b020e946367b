-- The invariant: the strings of the keys before k are in place, m of them, and zeros after them. Start, turn and end are laws of proofs/Filled.antt.
use mathlib.Core.Path.{refl, ap}
use native.Mathlib.Omega.{arith}
use Rattle.std.proofs.lemmas.List.{length-take-le, get_or-take}
use Rattle.instrument_fields.specs.declared.KeyDesign.{KeyDesign}
use Rattle.instrument.specs.Valid.{past_key}
use Rattle.instrument_file.proofs.Filled.{strings_none, strings_room, strings_turn, strings_all}
use Rattle.instrument_file.proofs.Sections.strings_of.Goals as goal

pub loop-k-init : goal.loop-k-init
loop-k-init c = (length-take-le c.args.self.keys c.args.keys.now (omega arith), refl, strings_none c.requires.0 c.requires.1 c.no_string-out.ensures)

pub overflow_add-end : goal.overflow_add-end
overflow_add-end c =
    let i = c.loop-k.k in
    let room = strings_room c.loop-k.invariant.2 (omega (arith, c.loop-k.invariant.0)) in
    let same = ap (λ (d : KeyDesign). d.strings) (get_or-take c.args.self.keys c.args.keys.now i past_key (omega (arith, c.loop-k.invariant.0))) in
    record { fits = omega (arith, same, room) }

pub read_strings-requires : goal.read_strings-requires
read_strings-requires c =
    let i = c.loop-k.k in
    let room = strings_room c.loop-k.invariant.2 (omega (arith, c.loop-k.invariant.0)) in
    let same = ap (λ (d : KeyDesign). d.strings) (get_or-take c.args.self.keys c.args.keys.now i past_key (omega (arith, c.loop-k.invariant.0))) in
    omega (arith, same, room)

pub loop-k-preserved : goal.loop-k-preserved
loop-k-preserved c =
    let i = c.loop-k.k in
    let room = strings_room c.loop-k.invariant.2 (omega (arith, c.loop-k.invariant.0)) in
    let same = ap (λ (d : KeyDesign). d.strings) (get_or-take c.args.self.keys c.args.keys.now i past_key (omega (arith, c.loop-k.invariant.0))) in (
      c.loop-k.invariant.0,
      refl,
      strings_turn c.loop-k.invariant.2 (omega (arith, c.loop-k.invariant.0)) c.section.array_long same
          (omega arith) (omega (arith, same, room)) c.section.ensures c.read_strings.ensures,
    )

pub returns : goal.returns
returns c = strings_all c.loop-k.invariant.2 (omega (arith, c.loop-k.invariant.0))

pub offset_bounds-out-m : goal.offset_bounds-out-m
offset_bounds-out-m c =
    let room = strings_room c.loop-k.invariant.2 (omega (arith, c.loop-k.invariant.0)) in
    record { fits = omega (arith, room) }

pub slice_bounds-out-end : goal.slice_bounds-out-end
slice_bounds-out-end c =
    let i = c.loop-k.k in
    let room = strings_room c.loop-k.invariant.2 (omega (arith, c.loop-k.invariant.0)) in
    let same = ap (λ (d : KeyDesign). d.strings) (get_or-take c.args.self.keys c.args.keys.now i past_key (omega (arith, c.loop-k.invariant.0))) in
    omega (arith, same, room, c.section.array_long)
