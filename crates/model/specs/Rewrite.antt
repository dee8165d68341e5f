-- A task's record under alteration.
use Rattle.std.specs.Prelude.{None}
use Rattle.model.specs.declared.kinds.Task.{Task}

-- the record that a read past the end of a list gives
abbrev pub blank_task : Task
blank_task = record { priority = 0; cycles = 0; period = 0; deadline = 0; jitter = 0; floor = None }

-- `old` with every number of `new` but the priority
abbrev pub rewritten : Task → Task → Task
rewritten new old = record {
  priority = old.priority;
  cycles = new.cycles;
  period = new.period;
  deadline = new.deadline;
  jitter = new.jitter;
  floor = new.floor;
}
