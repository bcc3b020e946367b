-- `sample::bridge` meets its contract: the calls' equations, one put into the next, are `bridge_speeds` and the strings' ends. Assumes nothing.
use Rattle.keys.specs.Keys.{bridge_speeds}
use Rattle.sample.proofs.bridge.Goals as goal

pub returns : goal.returns
unfolding bridge_speeds
returns c =
    let speeds = c.bridge_speeds.ensures in
    let total = c.weighted_total-total.ensures in
    let sums = c.sum_keys.ensures in
    let ends = c.bridge_strings.ensures in
    record {
      cells = rw (speeds, total, sums) at ends.0;
      out = rw (speeds, total, sums) at ends.1;
    }
