-- One turn looks at the last of the keys that are left (proofs/Lists.antt).
use mathlib.Core.Path.{sym, ap, ◌∙◌}
use native.Mathlib.Omega.{arith}
use Rattle.instrument.specs.Valid.{keys_apart}
use Rattle.instrument.proofs.Lists.{before_first, apart_not, apart_next, apart_none}
use Rattle.instrument.proofs.keys_apart.Goals as goal

pub returns-then-not-is_new : goal.returns-then-not-is_new
returns-then-not-is_new c =
    let v = c.loop-last.invariant in
    let s = c.in-Some.ensures.cases in
    let e = apart_not _ _ _ _ v.0 v.1 s.0 s.1 (sym c.is_new.ensures ∙ c.if-not-is_new.true) in
    sym (v.2 ∙ e)

pub loop-last-preserved : goal.loop-last-preserved
loop-last-preserved c =
    let v = c.loop-last.invariant in
    let s = c.in-Some.ensures.cases in
    let e = apart_next _ _ _ _ v.0 v.1 s.0 s.1 (sym c.is_new.ensures ∙ c.if-not-is_new.false) in
    (omega arith, before_first _ _ _ _ v.0 v.1 s.0 s.1, v.2 ∙ e)

pub returns : goal.returns
returns c =
    let v = c.loop-last.invariant in
    sym (v.2 ∙ ap (keys_apart _) c.in_default.ensures.cases ∙ apart_none _)
