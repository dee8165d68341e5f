use Rattle.std.proofs.Common.{Decides, subst}
use Rattle.model.specs.Of.{of}
use Rattle.planner.specs.State.{Passes}
use Rattle.planner.proofs.Striding.{set_at, front_set}
use Rattle.planner.proofs.planner.Planner.next_passes.Goals as goal

pub returns : goal.returns
returns g c =
    let p = c.self.inside in
    let s = of p.roster in
    let set = set_at s p.sets.base p.sets.places p.sets.number c.digits.result.now c.digits.ensures c.self.invariant.base c.self.invariant.places in
    rw (← c.self.view_is) (subst (λ z. Decides c.ask.result (Passes g.Q.Test s p.test.below z)) (front_set s p.sets.number _ set) c.ask.ensures)
