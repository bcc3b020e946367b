-- `sample_constants::string_design` meets its contract: the search among the keys lent finds the string's key. Assumes nothing.
use Rattle.std.proofs.Common.{◌≡◌, ℕ, ap, ◌∙◌, arith, rules, length}
use Rattle.instrument.specs.Valid.{key_at, string_at}
use Rattle.sample_constants.specs.Model.{string_of, string_in}
use Rattle.sample_constants.specs.Laws.{owner_fits}
use Rattle.sample_constants.proofs.KeySearch.{owner_lent}
use Rattle.sample_constants.proofs.string_design.Goals as goal

pub offset_bounds-instrument-k : goal.offset_bounds-instrument-k
offset_bounds-instrument-k c =
    let i = c.args.instrument.now in
    let long : length i.keys ≡ 16 = search rules in
    record { fits = omega (arith, c.unwrap_or-k.ensures ∙ c.owner.ensures ∙ owner_lent i c.args.i long c.requires.keys, owner_fits i c.args.i c.requires.keys) }

pub bounds-instrument-k : goal.bounds-instrument-k
bounds-instrument-k c =
    let i = c.args.instrument.now in
    let long : length i.keys ≡ 16 = search rules in
    omega (arith, c.unwrap_or-k.ensures ∙ c.owner.ensures ∙ owner_lent i c.args.i long c.requires.keys, owner_fits i c.args.i c.requires.keys)

pub returns : goal.returns
unfolding string_in
returns c =
    let i = c.args.instrument.now in
    let long : length i.keys ≡ 16 = search rules in
    let k = c.unwrap_or-k.ensures ∙ c.owner.ensures ∙ owner_lent i c.args.i long c.requires.keys in
    c.design_of.ensures ∙ ap (λ (k : ℕ). string_of (string_at i.strings c.args.i) (key_at i.keys k) k) k
