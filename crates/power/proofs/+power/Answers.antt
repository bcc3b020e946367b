-- `power::power` meets its contract: each way out is a law of proofs/Cases.antt. Assumes nothing.
use mathlib.Core.Path.{sym, ◌∙◌}
use Rattle.power.proofs.Cases.{halves_two, halves_three, halves_more, quarters_few, quarters_more, power_nan, power_none}
use Rattle.power.proofs.+power.Goals as goal

pub returns-then-word-le2 : goal.returns-then-word-le2
returns-then-word-le2 t c = halves_two c.args.x c.args.word c.if-x.true c.if-word-le2.true

pub returns-then-word-eq3 : goal.returns-then-word-eq3
returns-then-word-eq3 t c = let a = c.args in halves_three a.x c.root.result a.word c.if-x.true c.if-word-eq3.true c.root.ensures.value

pub returns-then-word-lt256 : goal.returns-then-word-lt256
returns-then-word-lt256 t c =
    let a = c.args in
    halves_more a.x c.power.result a.word c.if-x.true c.if-word-le2.false c.if-word-eq3.false c.if-word-lt256.true c.power.ensures

pub returns-then-word-lt264 : goal.returns-then-word-lt264
returns-then-word-lt264 t c = let a = c.args in quarters_few a.x c.few_quarters.result a.word c.if-x.true c.if-word-lt256.false c.few_quarters.ensures

pub returns-else-word-lt264 : goal.returns-else-word-lt264
returns-else-word-lt264 t c =
    let a = c.args in
    quarters_more a.x c.power-else-word-lt264.result a.word c.if-x.true c.if-word-lt264.false c.power-else-word-lt264.ensures

pub returns-then-is_nan : goal.returns-then-is_nan
returns-then-is_nan t c = power_nan c.args.x c.args.word c.if-x.false (sym c.is_nan.ensures.value ∙ c.if-is_nan.true)

pub returns-else-is_nan : goal.returns-else-is_nan
returns-else-is_nan t c = power_none c.args.x c.args.word c.if-x.false (sym c.is_nan.ensures.value ∙ c.if-is_nan.false)
