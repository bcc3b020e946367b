-- `sample_constants::string_table` meets its contract: each place of the array is made by the rule. Assumes nothing.
use Rattle.std.proofs.Common.{arith, rules}
use Rattle.cells.specs.Made.{made_at}
use Rattle.string.specs.Table.{past_design}
use Rattle.sample_constants.specs.Model.{string_in}
use Rattle.sample_constants.proofs.string_table.Goals as goal

pub returns : goal.returns
returns c =
    let i = c.args.instrument.now in
    record {
      each = λ k h. made_at c.from_fn.result (string_in i) (λ k y q called. search rules) c.from_fn.ensures.items k past_design
          (omega (arith, h, c.requires.string_count_bound));
    }
