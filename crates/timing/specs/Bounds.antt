-- What every sum of this crate stays below, as the bounds of a roster give it.
use Rattle.std.specs.Prelude.{ℕ, ◌+◌, ◌-◌, ◌*◌, ◌^◌}
use Rattle.model.specs.Bounds as model
use Rattle.model.specs.Quotient.{up}

-- the longest that a task or a section runs: all cycles at the slowest clock
abbrev pub max_time : ℕ
max_time = up (model.max_cycles * 1000) model.min_clock

-- what one release of a task takes at most: its time and the switch time
abbrev pub max_cost : ℕ
max_cost = max_time + model.max_switch

-- a task's own time and its blocking
abbrev pub max_own : ℕ
max_own = 2 * max_time

-- the longest period, so also deadline and jitter
abbrev pub max_period : ℕ
max_period = model.max_period

-- a task has at most this many more urgent ones
abbrev pub max_loads : ℕ
max_loads = model.max_tasks - 1

-- the whole processor, of which a task's share is a part
abbrev pub scale : ℕ
scale = 2 ^ 32

-- the ceiling of a resource that no section holds: less urgent than every task
abbrev pub no_ceiling : ℕ
no_ceiling = model.max_priority + 1
