-- A turn finds the next digit or not; after the last one q is the whole root. Assumes nothing.
use Rattle.std.proofs.Common.{◌*◌, ◌^◌, arith}
use Rattle.root.proofs.Squares.{turn_kept, turn_new, last_root, round_down, round_up}
use Rattle.root.proofs.Radicand.nearest_root.Goals.{then-t-y, else-t-y}
use Rattle.root.proofs.Radicand.nearest_root.Goals as goal

pub loop-preserved : goal.loop-preserved
loop-preserved c =
    let l = c.loop in
    elim c.if-t-y.branch [
      | then-t-y w ↦ rw (w.q-is, w.y-is) (turn_new _ l.q l.y l.d l.counter l.invariant c.loop-test.true w.if-t-y.true)
      | else-t-y w ↦ rw (w.q-is, w.y-is) (turn_kept _ l.q l.y l.d l.counter l.invariant c.loop-test.true w.if-t-y.false)
    ]

pub returns-then-y-q : goal.returns-then-y-q
returns-then-y-q c =
    let l = c.loop in
    let m = c.args.self.c * 2 ^ 52 in
    let r = last_root m l.q l.y l.d l.counter l.invariant c.loop-test.false in
    round_up m l.q r.0 (omega (arith, r.1))

pub returns-else-y-q : goal.returns-else-y-q
returns-else-y-q c =
    let l = c.loop in
    let m = c.args.self.c * 2 ^ 52 in
    let r = last_root m l.q l.y l.d l.counter l.invariant c.loop-test.false in
    round_down m l.q r.0 (omega (arith, r.1))
