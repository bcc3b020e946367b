-- Each call answers one test of the definition: those of the first strings, and of the places behind them.
use Rattle.counting.specs.Every.{every, every_after}
use Rattle.instrument.specs.Valid.{strings_valid}
use Rattle.instrument.proofs.Lists.{string_sum_first, string_sum_most, strings_in_range_first, strings_unused_rest}
use native.Mathlib.Omega.{arith}
use Rattle.instrument.proofs.strings_valid.Goals as goal

pub string_sum-requires : goal.string_sum-requires
string_sum-requires c =
    let i = c.args.i.now in
    let most = string_sum_most i.keys i.key_count (omega arith) c.requires.0 c.requires.2 in
    omega arith

pub returns : goal.returns
unfolding strings_valid every every_after
returns c =
    let i = c.args.i.now in
    let total = string_sum_first i.keys i.key_count (omega arith) in
    let room = strings_in_range_first i.strings i.string_count (omega arith) in
    let unused = strings_unused_rest i.strings i.string_count (omega arith) in
    cc
