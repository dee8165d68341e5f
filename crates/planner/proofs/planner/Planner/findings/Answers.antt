use Rattle.planner.proofs.Bounds.{in_bounds}
use Rattle.planner.proofs.planner.Planner.findings.Goals as goal

pub returns-clause-bounds : goal.returns-clause-bounds
returns-clause-bounds g c = rw (← c.self.view_is) (in_bounds c.self.inside c.self.invariant)
