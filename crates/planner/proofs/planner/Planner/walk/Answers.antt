use Rattle.std.proofs.Common.{refl}
use Rattle.planner.specs.Search.{standstill}
use Rattle.planner.proofs.planner.Planner.walk.Goals as goal

pub loop-strides-init : goal.loop-strides-init
loop-strides-init g c = record { stands = refl; test = refl; strides = standstill }
