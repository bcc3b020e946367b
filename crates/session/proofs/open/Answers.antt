-- A refused open gives a fresh session and changes no cell. Where the tests passed, which `p` holds in each need, the first part is silenced.
use Rattle.std.proofs.Common.{sym, ◌∙◌, ap, arith, length-take-le, Ok}
use Rattle.refusal.specs.Refusal.{number_in}
use Rattle.counting.specs.Meets.{meets_accepted}
use Rattle.session_record.specs.Laws.{open_passed, passed_zero}
use Rattle.session.specs.declared.Answer.TheVariants.{Opened}
use Rattle.session.specs.Calls.{fresh_session}
use Rattle.session.proofs.Calls.{silenced}
use Rattle.session.proofs.open.Goals as goal

pub part_size-w-requires : goal.part_size-w-requires
part_size-w-requires c = (open_passed c.args.instrument _ (passed_zero _ _ c.open_refusal.ensures _ c.in_default.is)).0

pub slice_bounds-silence_part-end : goal.slice_bounds-silence_part-end
slice_bounds-silence_part-end c =
    let p = open_passed c.args.instrument _ (passed_zero _ _ c.open_refusal.ensures _ c.in_default.is) in
    omega (arith, p.1, c.part_size-w.ensures)

pub slice_bounds-silence_part-end-2 : goal.slice_bounds-silence_part-end-2
slice_bounds-silence_part-end-2 c =
    let p = open_passed c.args.instrument _ (passed_zero _ _ c.open_refusal.ensures _ c.in_default.is) in
    sym (length-take-le _ _ (omega (arith, p.1, c.part_size-w.ensures)))

pub returns : goal.returns
returns c =
    let from = c.args in
    let p = open_passed from.instrument _ (passed_zero _ _ c.open_refusal.ensures _ c.in_default.is) in
    let made = c.fresh-session.ensures ∙ ap fresh_session c.silent_piano-piano.ensures in
    meets_accepted _ c.open_refusal.ensures (ap number_in c.in_default.is) (
      ap (λ s. record { answer = Ok Opened; session = s }) made,
      silenced from.instrument from.work.now p.0 p.1 _ c.part_size-w.ensures _ c.silence_part.ensures,
    )
