-- Each call answers one test of the definition: those of the first keys, and of the places behind them.
use Rattle.counting.specs.Every.{every, every_after}
use Rattle.instrument.specs.Valid.{keys_valid}
use Rattle.instrument.proofs.Lists.{keys_in_range_first, keys_apart_first, keys_unused_rest}
use native.Mathlib.Omega.{arith}
use Rattle.instrument.proofs.keys_valid.Goals as goal

pub returns : goal.returns
unfolding keys_valid every every_after
returns c =
    let i = c.args.i.now in
    let room = keys_in_range_first i.keys i.key_count (omega arith) in
    let apart = keys_apart_first i.keys i.key_count (omega arith) in
    let unused = keys_unused_rest i.keys i.key_count (omega arith) in
    cc
