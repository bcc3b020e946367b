-- `energies::part_energies` meets its contract: the walk over the designs lent is the walk over the instrument's strings. Assumes nothing.
use mathlib.Core.Path.{◌≡◌, sym}
use native.Mathlib.Omega.{arith}
use lib.ListN.{length}
use lib.Seq.{length-take-le}
use borrow.Author.Rules.{rules}
use Rattle.sample_constants.specs.Laws.{filled_strings}
use Rattle.energies.proofs.Call.{few, walkable, energies_are}
use Rattle.energies.proofs.part_energies.Goals as goal

pub string_table-designs-requires : goal.string_table-designs-requires
string_table-designs-requires c =
    let at_most = few c.args.instrument c.requires.0 in
    record { key_count_bound = at_most.0; string_count_bound = at_most.1 }

pub slice_bounds-designs-end : goal.slice_bounds-designs-end
slice_bounds-designs-end c =
    let long : length c.string_table-designs.result ≡ 32 = search rules in
    omega (arith, long, (few c.args.instrument c.requires.0).1)

pub slice_bounds-sum_strings-end : goal.slice_bounds-sum_strings-end
slice_bounds-sum_strings-end c =
    let long : length c.string_table-designs.result ≡ 32 = search rules in
    sym (length-take-le c.args.instrument.string_count c.string_table-designs.result (omega (arith, long, (few c.args.instrument c.requires.0).1)))

pub sum_strings-requires : goal.sum_strings-requires
sum_strings-requires c =
    let i = c.args.instrument in
    let strings = filled_strings i c.string_table-designs.result (search rules) (few i c.requires.0).1 c.string_table-designs.ensures in
    let can = walkable i c.requires.0 c.args.cells.now strings c.requires.1 in
    record { all_fit = can.0; has_cells = can.1 }

pub pairs_of-requires : goal.pairs_of-requires
pairs_of-requires c = (few c.args.instrument c.requires.0).0

pub returns : goal.returns
returns c =
    let i = c.args.instrument in
    let strings = filled_strings i c.string_table-designs.result (search rules) (few i c.requires.0).1 c.string_table-designs.ensures in
    energies_are i c.requires.0 c.args.cells.now strings _ _ c.sum_strings.ensures c.pairs_of.ensures
