-- The density of a set: the part of the processor that the tasks need before their deadlines.
use Rattle.std.specs.Prelude.{◌≡◌, ℕ, ◌+◌, ◌*◌, ◌≤◌, List, [], sum_by}
use Rattle.std.specs.List.{zip, AllByRecursion}
use Rattle.model.specs.declared.kinds.Task.{Task}
use Rattle.model.specs.Quotient.{up}
use Rattle.model.specs.System.{System}
use Rattle.timing.specs.Times.{IsSet, clock, time}

-- the whole processor
abbrev pub whole : ℕ
whole = 1_000_000_000

-- the part that a task needs at a step, rounded up
abbrev pub part : System → Task × ℕ → ℕ
part s a = up ((time a.0.cycles (clock s a.1) + s.switch) * whole) a.0.deadline

abbrev pub density : System → List ℕ → ℕ
density s set = sum_by (part s) (zip s.tasks set)

abbrev pub Steady : Task → Type 0
Steady t = t.jitter ≡ 0

pub record Sparse (s : System) (set : List ℕ) : Type 0 where
  pub isset : IsSet s set
  -- no task has jitter, and no section stands
  pub steady : AllByRecursion Steady s.tasks
  pub free : s.sections ≡ []
  pub light : density s set ≤ whole
