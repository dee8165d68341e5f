-- Growth with one past the bound of cycles in place of every number above it. The calls speak of it as an Option (Fitting.antt);
-- this is the other way, and leaves the same roster.
use Rattle.std.specs.Prelude.{ℕ, ◌+◌, min}
use Rattle.model.specs.declared.kinds.Task.{Task}
use Rattle.model.specs.declared.kinds.Section.{Section}
use Rattle.model.specs.Bounds.{max_cycles}
use Rattle.model.specs.Growth.{grown_cycles}

abbrev pub capped_cycles : ℕ → ℕ → ℕ
capped_cycles m cycles = min (grown_cycles m cycles) (max_cycles + 1)

abbrev pub capped_task : ℕ → Task → Task
capped_task m t = record {
  priority = t.priority;
  cycles = capped_cycles m t.cycles;
  period = t.period;
  deadline = t.deadline;
  jitter = t.jitter;
  floor = t.floor;
}

abbrev pub capped_section : ℕ → Section → Section
capped_section m c = record { owner = c.owner; resource = c.resource; cycles = capped_cycles m c.cycles }
