-- As in the other calls; numbers that are no event's are refused as words that are no session's are. Assumes nothing.
use Rattle.std.proofs.Common.{refl, sym, ◌∙◌}
use Rattle.gingerfile.proofs.Returns.{begun_long, insert_refused, insert_none, insert_made, event_told, no_event_told}
use Rattle.gingerfile.proofs.gingerfile_insert.Goals as goal

pub keep-requires : goal.keep-requires
keep-requires c = begun_long c.begin.ensures _ c.in-Ok.is

pub returns-in-Some : goal.returns-in-Some
returns-in-Some c =
    let z = c.args in
    let told = event_told z.kind z.key z.velocity _ (sym c.checked_event.ensures ∙ c.in-Some.is) in
    insert_made c.begin.ensures _ c.in-Ok.is z.kind z.key told.0 (rw told.1 at c.insert-outcome.ensures) c.keep.ensures

pub returns-in-None : goal.returns-in-None
returns-in-None c =
    let z = c.args in
    let none = no_event_told z.kind z.key z.velocity (sym c.checked_event.ensures ∙ c.in-None.is) in
    insert_none c.begin.ensures _ c.in-Ok.is z.kind z.key none c.refused_for.ensures refl

pub returns-in-Err : goal.returns-in-Err
returns-in-Err c =
    let z = c.args in
    insert_refused c.begin.ensures _ c.in-Err.is z.kind z.key c.refused_for-in-Err.ensures refl
