use Rattle.std.proofs.Common.{◌≡◌, ℕ, ◌<◌, length, get_or, take}
use Rattle.timing.specs.Times.{ceiling}
use Rattle.timing.proofs.holds.ceilings.Given as goal

-- the ceilings that the sections so far give
abbrev pub invariant-loop-section : goal.invariant-loop-section
invariant-loop-section l =
    (length l.ceilings ≡ 8)
    × ((k : ℕ) → k < 8 → get_or l.ceilings k 0 ≡ ceiling (take l.section-index l.sections) k)
