-- A task that stands is found.
use Rattle.std.proofs.Common.{◌∙◌}
use Rattle.model.specs.Of.{of}
use Rattle.model.proofs.Kept.{kept}
use Rattle.model.proofs.Lookups.{finds_some}
use Rattle.timing.proofs.assignment.Assignment.step_of.Goals as goal

pub unwrap-place-requires : goal.unwrap-place-requires
unwrap-place-requires c =
    let r = c.args.self.now.roster.now in
    finds_some (of r).tasks c.args.priority c.find.result (kept r).rising (rw c.tasks.ensures at c.find.ensures) ∙ c.requires
