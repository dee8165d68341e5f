-- What show writes.
use Rattle.std.proofs.Common.{◌≡◌, ℕ, ◌≤◌, List, ◌++◌, length, drop, is_some, Some, ap, ◌∙◌, subst, arith}
use Rattle.std.proofs.lemmas.List.{take_all, take-append-le}
use Rattle.model.specs.Refusals.{AllKept}
use Rattle.model.specs.System.{System}
use Rattle.model.specs.declared.kinds.Task.{Task}
use Rattle.odometer.proofs.Numbers.{length_digits}
use Rattle.schedulability.specs.declared.test.Test as tests
use Rattle.planner.specs.Rates.{Rates}
use Rattle.timing.specs.Times.{front}
use Rattle.planner.specs.declared.events.Event.{Event}
use Rattle.planner.specs.declared.refusals.SearchRefusal.TheVariants.{Allowance, ShortList, NothingShown}
use Rattle.planner.specs.Calls.{ShowRule}
use Rattle.planner.specs.Claim.{Led, posed}
use Rattle.planner.specs.Events.{standing, settled_by}
use Rattle.planner.specs.Search.{Found, Cheapest}
use Rattle.planner.specs.State.{State, set_of}

-- a set that is shown, and a list with a place for each task, keep the rules of show
pub rules_kept : {Q C : Type 0} (x : State Q C) (list : List ℕ) (y : Found C) → x.search.shown ≡ Some y → length x.stands.tasks ≤ length list → AllKept (ShowRule x list)
rules_kept x list y is long Allowance = tt
rules_kept x list y is long ShortList = long
rules_kept x list y is long NothingShown = ap is_some is

-- the places past the tasks are those of the list before
pub wrote : (s : System) (n : ℕ) (steps list : List ℕ) {tasks : List Task} → tasks ≡ s.tasks → steps ≡ set_of s n → steps ++ drop (length tasks) list ≡ set_of s n ++ drop (length s.tasks) list
wrote s n steps list tasks set = rw (set, tasks)

-- a list begins with the set that was written into it
pub front_written : (s : System) (n : ℕ) (list : List ℕ) → front s (set_of s n ++ list) ≡ set_of s n
front_written s n list =
    let long : length (set_of s n) ≡ length s.tasks = length_digits (length s.steps) (length s.tasks) n in
    take-append-le (length s.tasks) (set_of s n) list (omega (arith, long)) ∙ take_all (length s.tasks) (set_of s n) (omega (arith, long))

-- and where events lead to that state, the set is the cheapest of those settled that pass
pub written_cheapest : {Q C : Type 0} {q : tests.Ghosts Q} {t : Rates C} (opening : System) (test : Q) (events : List Event) (x : State Q C) (y : Found C) (list after : List ℕ) → x.search.shown ≡ Some y → after ≡ set_of x.stands y.number ++ list → Led q t opening test events x → (z : Found C) × (front (standing opening events) after ≡ set_of (standing opening events) z.number) × Cheapest (posed q t opening test events) (settled_by events) z
written_cheapest opening test events x y list after is wrote h =
    (y, subst (λ s. front s after ≡ set_of s y.number) h.stands (ap (front x.stands) wrote ∙ front_written x.stands y.number list), h.claim.right.cheapest y is)
