use Rattle.std.proofs.Common.{◌+◌, ◌-◌, ◌^◌, ◌<◌}
use Rattle.timing.specs.Demand.{demand, Under}
use Rattle.timing.proofs.demand.Demand.window.Given as goal

abbrev pub invariant-loop-w : goal.invariant-loop-w
invariant-loop-w l = Under (demand l.self.own l.self.urgent.now) l.w × (l.w < 2 ^ 63)

abbrev pub decreases-loop-w : goal.decreases-loop-w
decreases-loop-w l = l.deadline + 1 - l.w
