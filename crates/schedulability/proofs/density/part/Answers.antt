use Rattle.std.proofs.Common.{arith, sym, ◌∙◌}
use Rattle.std.proofs.lemmas.Option.{cond_some}
use Rattle.model.specs.Of.{of}
use Rattle.model.proofs.Kept.{kept}
use Rattle.schedulability.specs.Parts.{cost_fits}
use Rattle.schedulability.proofs.density.part.Goals as goal

pub overflow_mul-scaled : goal.overflow_mul-scaled
overflow_mul-scaled c =
    let r = c.args.roster.now in
    let took = cond_some _ _ _ (sym c.time_of.ensures ∙ c.unwrap-time.ensures) in
    omega (arith, took.1, c.from.ensures, c.switch_time.ensures, cost_fits (of r) c.args.task.now c.args.step (kept r) c.requires.bounded c.requires.named)
