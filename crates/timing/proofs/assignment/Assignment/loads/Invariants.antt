use Rattle.std.proofs.Common.{◌≡◌, map, length, take}
use Rattle.std.specs.List.{zip}
use Rattle.model.specs.Of.{of}
use Rattle.timing.specs.Times.{load}
use Rattle.timing.proofs.assignment.Assignment.loads.Given as goal

-- the loads of the tasks so far
abbrev pub invariant-loop-task : goal.invariant-loop-task
invariant-loop-task l =
    l.loads.items ≡ map (load (of l.self.roster.now)) (take (length l.yielded) (zip (of l.self.roster.now).tasks l.self.set.now))
