-- Looking a task up by its priority in a list in any order.
use Rattle.std.specs.Prelude.{◌≡◌, ℕ, ◌<◌, List, length, Option, MatchOption, slice_index_or}
use Rattle.std.specs.List.{prefix_len}
use Rattle.model.specs.declared.kinds.Task.{Task}
use Rattle.model.specs.Records.{before}
use Rattle.model.specs.Rewrite.{blank_task}

-- the place of the first task whose number is not smaller than p
abbrev pub rank : ℕ → List Task → ℕ
rank p tasks = prefix_len (before p) tasks

abbrev pub StandsAt : List Task → ℕ → ℕ → Type 0
StandsAt tasks p k = (k < length tasks) × ((slice_index_or tasks k blank_task).priority ≡ p)

-- that place where its number is p, and otherwise nothing, whatever stands behind it
abbrev pub Finds : List Task → ℕ → Option ℕ → Type 0
Finds tasks p r = MatchOption r (StandsAt tasks p (rank p tasks) → ⊥) (λ k. (k ≡ rank p tasks) × StandsAt tasks p k)
