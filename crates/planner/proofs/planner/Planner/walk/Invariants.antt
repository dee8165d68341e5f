use Rattle.planner.specs.State.{Walked}
use Rattle.planner.proofs.Posed.{rates}
use Rattle.planner.proofs.planner.Planner.walk.Given as goal

abbrev pub invariant-loop-strides : goal.invariant-loop-strides
invariant-loop-strides g l = Walked g.Q.Test (rates g.C.Amount g.C.Tariff) l.initial.self l.strides l.self
