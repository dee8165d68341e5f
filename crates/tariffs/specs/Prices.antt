-- The prices of the tariffs: of the task at a place in priority order, at a step.
use Rattle.std.specs.Prelude.{ℕ, ◌*◌, Bool, cond, ◌&&◌, length, nat_lt, slice_index_or}
use Rattle.model.specs.Rewrite.{blank_task}
use Rattle.model.specs.System.{System}

-- there is such a task and such a step
abbrev pub in_roster : System → ℕ → ℕ → Bool
in_roster s i g = nat_lt i (length s.tasks) && nat_lt g (length s.steps)

abbrev pub voltage : System → ℕ → ℕ
voltage s g = (slice_index_or s.steps g (record { clock = 0; voltage = 0 })).voltage

-- cycles times voltage squared; outside the roster it is zero
abbrev pub energy_price : System → ℕ → ℕ → ℕ
energy_price s i g = cond (in_roster s i g) ((slice_index_or s.tasks i blank_task).cycles * (voltage s g * voltage s g)) 0

abbrev pub peak_price : System → ℕ → ℕ → ℕ
peak_price s i g = cond (in_roster s i g) (voltage s g) 0

-- what the energy of one task is at most: all cycles at the highest voltage
abbrev pub max_energy_price : ℕ
max_energy_price = 25_000_000_000_000
