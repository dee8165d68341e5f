use Rattle.std.proofs.Common.{arith}
use Rattle.timing.proofs.Demands.{demand_fits, demand_rises, under_next}
use Rattle.timing.proofs.demand.Demand.window.Goals as goal

pub loop-w-preserved : goal.loop-w-preserved
loop-w-preserved c =
    let d = c.args.self.now in
    simp c.over-next.ensures (
      under_next _ _ (λ u v. demand_rises _ _ u v d.bounded) c.loop-w.invariant.0,
      demand_fits _ _ _ d.small d.few d.bounded (omega arith),
    )
