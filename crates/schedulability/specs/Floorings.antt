-- Floors, task by task.
use Rattle.std.specs.Prelude.{ℕ, ◌<◌, ◌≤◌, Bool, true, false, List, [], ◌∷◌, length, take, IfSome, Some, None, Option, MatchBool, Decides, refl}
use Rattle.std.proofs.Common.{arith}
use Rattle.std.proofs.lemmas.Bool.{false≢true}
use Rattle.std.proofs.lemmas.List.Elements.{All-from_all_within, All-from_recursion, recursion_from_All}
use Rattle.std.specs.List.{zip, AllZip, AllByRecursion, AllWithin, HoldsAt}
use Rattle.model.specs.Rewrite.{blank_task}
use Rattle.model.specs.declared.kinds.Task.{Task}
use Rattle.timing.proofs.Fronts.{zip_front}
use Rattle.schedulability.specs.Floors.{Allowed}

faster_step : (floor : Option ℕ) (g h : ℕ) → g ≤ h → IfSome floor (λ f. h ≤ f) → IfSome floor (λ f. g ≤ f)
faster_step None g h le allowed = tt
faster_step (Some f) g h le allowed = omega arith

-- a faster set keeps the floors
pub floors_faster : (tasks : List Task) (fast slow : List ℕ) → AllZip ◌≤◌ fast slow → AllByRecursion Allowed (zip tasks slow) → AllByRecursion Allowed (zip tasks fast)
floors_faster [] fast slow faster all = tt
floors_faster (t ∷ tasks) [] slow faster all = tt
floors_faster (t ∷ tasks) (g ∷ fast) [] faster all = absurd faster
floors_faster (t ∷ tasks) (g ∷ fast) (h ∷ slow) faster all =
    (faster_step t.floor g h faster.0 all.0, floors_faster tasks fast slow faster.1 all.1)

-- what a pass over the pairs finds: all allowed, or one that is not
pub kept_from_cases : (tasks : List Task) (list : List ℕ) (r : Bool) → MatchBool r (AllWithin Allowed (zip tasks list) 0 (length (zip tasks list))) ((k : ℕ) × (k < length (zip tasks list)) × HoldsAt (λ a. Allowed a → ⊥) (zip tasks list) k) → Decides r (AllByRecursion Allowed (zip tasks (take (length tasks) list)))
kept_from_cases tasks list true h =
    (λ _. rw (zip_front tasks list) (recursion_from_All Allowed (zip tasks list) (All-from_all_within Allowed (zip tasks list) h)), λ _. refl)
kept_from_cases tasks list false (k, low, broken) = (
  λ e. absurd (false≢true e),
  λ kept. absurd (broken (blank_task, 0) (All-from_recursion Allowed (zip tasks list) (rw (zip_front tasks list) at kept) k (blank_task, 0) low)),
)
