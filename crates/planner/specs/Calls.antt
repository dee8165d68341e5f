-- What the calls of a planner ask, and what they leave.
use Rattle.std.specs.Prelude.{◌≡◌, ℕ, ◌≤◌, true, List, ◌++◌, length, drop, is_some, Some, None, Option}
use Rattle.std.specs.Result as results
use Rattle.model.specs.System.{System}
use Rattle.planner.specs.declared.refusals.SearchRefusal.{SearchRefusal}
use Rattle.planner.specs.declared.refusals.SearchRefusal.TheVariants.{Allowance, ShortList, NothingShown}
use Rattle.model.specs.Refusals.{roster_number, AllKept, First, Outcome}
use Rattle.planner.specs.Refusals.{search_number}
use Rattle.schedulability.specs.declared.test.Test as tests
use Rattle.planner.specs.Rates.{Rates}
use Rattle.planner.specs.declared.events.Call.{Call}
use Rattle.planner.specs.declared.events.Call.TheVariants.{Change, Plan}
use Rattle.planner.specs.declared.events.Event.{Event}
use Rattle.planner.specs.declared.events.Event.TheVariants.{Changed, Planned}
use Rattle.planner.specs.declared.events.Progress.{Progress}
use Rattle.planner.specs.Changes.{ChangeRule, left_by}
use Rattle.planner.specs.Search.{Found, Ran}
use Rattle.planner.specs.State.{State, opened, problem, set_of}

-- the most strides that one plan call may be allowed
abbrev pub max_allowance : ℕ
max_allowance = 1_000_000

-- the rule behind each refusal of a plan call; one that it never gives asks nothing
abbrev pub PlanRule : ℕ → SearchRefusal → Type 0
PlanRule allowance Allowance = (1 ≤ allowance) × (allowance ≤ max_allowance)
PlanRule allowance ShortList = Unit {0}
PlanRule allowance NothingShown = Unit {0}

-- the rule behind each refusal of show: the list has a place for each task, and a set is shown
abbrev pub ShowRule : {Q C : Type 0} → State Q C → List ℕ → SearchRefusal → Type 0
ShowRule x list Allowance = Unit {0}
ShowRule x list ShortList = length x.stands.tasks ≤ length list
ShowRule x list NothingShown = is_some x.search.shown ≡ true

-- a list whose first places are the steps of a set, the further ones as they were
abbrev pub written : {C : Type 0} → System → Option (Found C) → List ℕ → List ℕ
written s None list = list
written s (Some x) list = set_of s x.number ++ drop (length s.tasks) list

-- the call of an event
abbrev pub call_of : Event → Call
call_of (Changed c _) = Change c
call_of (Planned allowance _) = Plan allowance

module _ {Q C : Type 0} (q : tests.Ghosts Q) (t : Rates C) where
  -- a plan call moves the search and nothing else
  pub record Moved (x : State Q C) (allowance : ℕ) (answer : Progress) (y : State Q C) : Type 0 where
    pub stands : y.stands ≡ x.stands
    pub test : y.test ≡ x.test
    pub ran : Ran (problem q t x.stands x.test) x.search allowance answer y.search

  -- What an event does to a planner: an accepted change starts the search again, an accepted plan call
  -- moves it, and a refusal is due and leaves all as it was.
  abbrev pub Happens : State Q C → Event → State Q C → Type 0
  Happens x (Changed c r) y = Outcome roster_number (ChangeRule x.stands c) x (opened (left_by x.stands c) x.test) y r
  Happens x (Planned allowance r) y =
      results.MatchResult r
      (λ answer. AllKept (PlanRule allowance) × Moved x allowance answer y)
      (λ e. First search_number (PlanRule allowance) e × (y ≡ x))
