-- `energies::key_energies` meets its contract: 7 and 8 are the session's, and what they let through has its first part. Assumes nothing.
use mathlib.Core.Path.{sym}
use native.Mathlib.Omega.{arith}
use Rattle.energies.proofs.Call.{fine, part_there}
use Rattle.energies.proofs.key_energies.Goals as goal

pub part_size-w-requires : goal.part_size-w-requires
part_size-w-requires c =
    let from = c.args in
    (fine from.instrument from.session from.work.now c.in_ok-record_refusal.ensures).sound

pub slice_bounds-part_energies-end : goal.slice_bounds-part_energies-end
slice_bounds-part_energies-end c =
    let from = c.args in
    sym (part_there from.instrument from.session from.work.now c.in_ok-record_refusal.ensures _ c.part_size-w.ensures)

pub part_energies-requires : goal.part_energies-requires
part_energies-requires c =
    let from = c.args in
    let z = c.in_ok-record_refusal.ensures in (
      (fine from.instrument from.session from.work.now z).sound,
      omega (arith, part_there from.instrument from.session from.work.now z _ c.part_size-w.ensures, c.part_size-w.ensures),
    )
