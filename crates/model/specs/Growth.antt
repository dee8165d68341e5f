-- A system with a margin on every number of cycles.
use Rattle.std.specs.Prelude.{ℕ, ◌+◌, ◌*◌, ◌≤◌, min, map}
use Rattle.std.specs.List.{AllByRecursion}
use Rattle.model.specs.declared.kinds.Task.{Task}
use Rattle.model.specs.declared.kinds.Section.{Section}
use Rattle.model.specs.Bounds.{max_cycles}
use Rattle.model.specs.Quotient.{up}
use Rattle.model.specs.System.{System, system}

-- a margin in percent; one above this is taken as this
abbrev pub max_margin : ℕ
max_margin = 100

abbrev pub margin : ℕ → ℕ
margin percent = min percent max_margin

abbrev pub grown_cycles : ℕ → ℕ → ℕ
grown_cycles m cycles = up (cycles * (100 + m)) 100

abbrev pub grown_task : ℕ → Task → Task
grown_task m t = record {
  priority = t.priority;
  cycles = grown_cycles m t.cycles;
  period = t.period;
  deadline = t.deadline;
  jitter = t.jitter;
  floor = t.floor;
}

abbrev pub grown_section : ℕ → Section → Section
grown_section m c = record { owner = c.owner; resource = c.resource; cycles = grown_cycles m c.cycles }

abbrev pub grown : ℕ → System → System
grown m s = system s.steps s.switch (map (grown_task m) s.tasks) (map (grown_section m) s.sections)

-- no task and no section would pass the bound of cycles
pub record Grows (m : ℕ) (s : System) : Type 0 where
  pub tasks : AllByRecursion (λ t. grown_cycles m t.cycles ≤ max_cycles) s.tasks
  pub sections : AllByRecursion (λ c. grown_cycles m c.cycles ≤ max_cycles) s.sections
