use Rattle.std.proofs.Common.{◌≡◌, map, take}
use Rattle.model.specs.Of.{of}
use Rattle.timing.specs.Times.{hold}
use Rattle.timing.proofs.assignment.Assignment.holds.Given as goal

-- the holds of the sections so far
abbrev pub invariant-loop-section : goal.invariant-loop-section
invariant-loop-section l =
    l.holds.items ≡ map (hold (of l.self.roster.now) l.self.set.now) (take l.section-index (of l.self.roster.now).sections)
