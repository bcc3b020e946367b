-- Before each turn the next digit's weight is half of d = 2 ^ (53 - counter), and twice the number is y * d + 2 * q * q. Assumes nothing.
use Rattle.std.proofs.Common.{◌*◌, ◌^◌}
use Rattle.root.proofs.Squares.{Turn}
use Rattle.root.proofs.Radicand.nearest_root.Given as goal

abbrev pub invariant-loop : goal.invariant-loop
invariant-loop l = Turn (2 * (l.fn.self.c * 2 ^ 52)) l.q l.y l.d l.counter
