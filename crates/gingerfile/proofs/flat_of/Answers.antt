-- Each element is what its call gives: `mapped`. Assumes nothing.
use Rattle.std.proofs.Common.{◌≡◌, length, arith, rules}
use Rattle.energies.specs.Energy.{no_energy}
use Rattle.gingerfile.specs.Energies.{energy_of, number_of, flat_of}
use Rattle.gingerfile.proofs.Returns.{mapped}
use Rattle.gingerfile.proofs.flat_of.Goals as goal

pub returns : goal.returns
unfolding flat_of
returns c =
    let pairs = c.args.found.keys in
    let long : length pairs ≡ 16 = omega arith in
    let found = c.map.ensures.items in
    let named = c.map-2.ensures.items in
    rw (
      mapped energy_of pairs c.map.result 16 long found.long (λ i d e h. let called = found.at i d e h in search rules) no_energy,
      mapped number_of pairs c.map-2.result 16 long named.long (λ i d e h. let called = named.at i d e h in search rules) no_energy,
    )
