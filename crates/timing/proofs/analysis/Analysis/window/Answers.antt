use Rattle.model.specs.Of.{of}
use Rattle.model.proofs.Kept.{kept}
use Rattle.timing.proofs.Limits.{task_limits}
use Rattle.timing.proofs.analysis.Analysis.window.Goals as goal

pub window-requires : goal.window-requires
window-requires c =
    let r = c.args.self.now.given.roster.now in
    let limits = task_limits (of r) c.args.place (kept r) c.requires in
    record { late = rw (c.from.ensures, c.tasks.ensures) limits.0; due = rw (c.from-2.ensures, c.tasks.ensures) limits.1 }

pub returns : goal.returns
returns c = rw (c.demand.ensures.own, c.demand.ensures.urgent, c.from.ensures, c.from-2.ensures, c.tasks.ensures) at c.window.ensures
