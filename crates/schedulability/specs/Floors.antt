-- A task's floor is the slowest step that it may run at.
use Rattle.std.specs.Prelude.{ℕ, ◌≤◌, List, IfSome}
use Rattle.std.specs.List.{zip, AllByRecursion}
use Rattle.model.specs.declared.kinds.Task.{Task}
use Rattle.model.specs.System.{System}

-- a task at a step, which is no slower than its floor
abbrev pub Allowed : Task × ℕ → Type 0
Allowed a = IfSome a.0.floor (λ f. a.1 ≤ f)

abbrev pub WithinFloors : System → List ℕ → Type 0
WithinFloors s set = AllByRecursion Allowed (zip s.tasks set)
