use Rattle.std.proofs.Common.{ℕ, ◌<◌, get_or}
use Rattle.model.specs.Of.{of}
use Rattle.timing.specs.Windows.{Told}
use Rattle.timing.proofs.windows.windows.Given as goal

-- the tasks so far are told
abbrev pub invariant-loop-place : goal.invariant-loop-place
invariant-loop-place l = (k : ℕ) → k < l.place → Told (of l.roster) l.set k (get_or l.window-items k 0)
