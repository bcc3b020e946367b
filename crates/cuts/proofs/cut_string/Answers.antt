-- `cuts::cut_string` meets its contract. Assumes nothing.
use Rattle.std.proofs.Common.{arith, ℕ, max, ap, ◌∙◌}
use Rattle.cuts.specs.Cuts.{cuts_of}
use Rattle.cuts.specs.Laws.{next_fits}
use Rattle.cuts.proofs.cut_string.Goals as goal

pub returns : goal.returns
unfolding cuts_of
returns c =
    rw (
      c.max-3.ensures,
      c.saturating_sub-4.ensures,
      c.saturating_sub-3.ensures,
      c.cell_at-nd.ensures,
      c.max-2.ensures,
      c.saturating_sub-2.ensures,
      c.cell_at-na.ensures,
      c.max.ensures,
      c.saturating_sub.ensures,
      c.half_of-half.ensures,
    )

pub overflow_add-na : goal.overflow_add-na
overflow_add-na c =
    let end = c.max.ensures ∙ ap (λ (m : ℕ). max m 1) c.saturating_sub.ensures in
    record { fits = next_fits c.args.n c.max.result c.cell_at-na.result _ _ (omega arith) end c.cell_at-na.ensures }

pub overflow_add-na-2 : goal.overflow_add-na-2
overflow_add-na-2 c =
    let end = c.max.ensures ∙ ap (λ (m : ℕ). max m 1) c.saturating_sub.ensures in
    record { fits = next_fits c.args.n c.max.result c.cell_at-na.result _ _ (omega arith) end c.cell_at-na.ensures }
