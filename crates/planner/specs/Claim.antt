-- The claim: what a planner tells after any list of events is right.
use Rattle.std.specs.Prelude.{◌≡◌, ℕ, List, [], ◌∷◌, ◌++◌, Some, None, Option, Result}
use Rattle.std.specs.Result as results
use Rattle.model.specs.Refusals.{roster_number, AllKept, First, Verdict}
use Rattle.planner.specs.Refusals.{search_number}
use Rattle.model.specs.System.{System}
use Rattle.planner.specs.declared.refusals.SearchRefusal.{SearchRefusal}
use Rattle.planner.specs.declared.refusals.SearchRefusal.TheVariants.{NothingShown}
use Rattle.timing.specs.Times.{front}
use Rattle.schedulability.specs.declared.test.Test as tests
use Rattle.planner.specs.Rates.{Rates}
use Rattle.planner.specs.declared.events.Event.{Event}
use Rattle.planner.specs.declared.events.Event.TheVariants.{Changed, Planned}
use Rattle.planner.specs.declared.events.Progress.{Progress}
use Rattle.planner.specs.declared.findings.Findings.{Findings}
use Rattle.planner.specs.declared.findings.Shown.{Shown}
use Rattle.planner.specs.declared.mark.Mark.{Mark}
use Rattle.planner.specs.Calls.{PlanRule, Happens}
use Rattle.planner.specs.Changes.{ChangeRule}
use Rattle.planner.specs.Events.{standing, stands_after, settled_by, settled_after}
use Rattle.planner.specs.Search.{Problem, Found, search, Cheapest, NonePasses, Shows, Marked, mark_of, Ran}
use Rattle.planner.specs.Shown.{number_of, steps_of, found_in}
use Rattle.planner.specs.State.{State, InBounds, problem, set_of, sets_of}

-- what can be seen of a planner
pub record Told (C : Type 0) : Type 0 where
  pub mark : Mark
  pub settled : ℕ
  pub shown : Option (Found C)

abbrev pub told : {Q C : Type 0} → State Q C → Told C
told x = record { mark = mark_of (sets_of x.stands) x.search; settled = x.search.settled; shown = x.search.shown }

abbrev pub told_by : {C : Type 0} → Findings C → Told C
told_by f = record { mark = f.mark; settled = f.settled; shown = found_in f.shown }

-- the steps of a shown set are those of its number
abbrev pub Named : {C : Type 0} → System → Findings C → Type 0
Named {C} s f = (x : Shown C) → f.shown ≡ Some x → steps_of x ≡ set_of s (number_of x)

-- What is told of a search is right, where so many sets are settled.
pub record Right {C : Type 0} (p : Problem C) (settled : ℕ) (r : Told C) : Type 0 where
  -- a set shown is settled, passes, and is the cheapest of those
  pub cheapest : (x : Found C) → r.shown ≡ Some x → Cheapest p settled x
  -- nothing is shown exactly when no settled set passes
  pub shows_none : r.shown ≡ None → NonePasses p settled
  pub none_shown : NonePasses p settled → r.shown ≡ None
  pub marked : Marked p settled r.mark

-- An accepted plan call took what was rightly shown for the sets then settled to what is rightly shown for
-- those that it answers, by the strides of the rule.
pub record Made {C : Type 0} (p : Problem C) (settled allowance : ℕ) (answer : Progress) : Type 0 where
  pub before : Option (Found C)
  pub after : Option (Found C)
  pub right_before : Shows p (search settled before)
  pub right_after : Shows p (search answer.settled after)
  pub ran : Ran p (search settled before) allowance answer (search answer.settled after)

module _ {Q C : Type 0} (q : tests.Ghosts Q) (t : Rates C) where
  -- an answer is the one that the rules give for what then stood and was settled
  abbrev pub Answered : System → Q → ℕ → Event → Type 0
  Answered s test settled (Changed c r) = Verdict roster_number (ChangeRule s c) r
  Answered s test settled (Planned allowance r) =
      results.MatchResult r
      (λ answer. AllKept (PlanRule allowance) × Made (problem q t s test) settled allowance answer)
      (First search_number (PlanRule allowance))

  -- and so is each of a list, from what stood and was settled before it
  abbrev pub Answers : System → Q → ℕ → List Event → Type 0
  Answers s test settled [] = Unit {0}
  Answers s test settled (e ∷ later) = Answered s test settled e × Answers (stands_after s e) test (settled_after settled e) later

  -- what is searched after the events
  abbrev pub posed : System → Q → List Event → Problem C
  posed opening test events = problem q t (standing opening events) test

  -- The claim on what is told after the events, by a planner that was opened over a system and a test.
  pub record Claim (opening : System) (test : Q) (events : List Event) (r : Told C) : Type 0 where
    pub settled : r.settled ≡ settled_by events
    -- what is shown and the mark are right for what stands and the sets that are settled
    pub right : Right (posed opening test events) (settled_by events) r
    -- every plan call made its strides, and every refusal was due
    pub answers : Answers opening test 0 events

  -- The events lead from the opening to a planner in the state x.
  pub record Led (opening : System) (test : Q) (events : List Event) (x : State Q C) : Type 0 where
    pub stands : x.stands ≡ standing opening events
    pub asks : x.test ≡ test
    pub claim : Claim opening test events (told x)

  -- Whatever leads to the state x leads, with one event more, to the state y.
  abbrev pub Leads : State Q C → Event → State Q C → Type 0
  Leads x e y = (opening : System) (test : Q) (events : List Event) → Led opening test events x → Led opening test (events ++ (e ∷ [])) y

  -- What an event does to a planner, that whatever led to it leads on, and what holds of it in any case.
  pub record Follows (x : State Q C) (e : Event) (y : State Q C) : Type 0 where
    pub happens : Happens q t x e y
    pub leads : Leads x e y
    pub before : InBounds x
    pub after : InBounds y

  -- What show says of the list that it was given: a set written there is the cheapest of those settled that pass,
  -- and where nothing is shown, none of them passes.
  abbrev pub Seen : System → Q → List Event → List ℕ → Result (Unit {0}) SearchRefusal → Type 0
  Seen opening test events list r =
      results.MatchResult r
      (λ _. (x : Found C) × (front (standing opening events) list ≡ set_of (standing opening events) x.number) × Cheapest (posed opening test events) (settled_by events) x)
      (λ e. e ≡ NothingShown → NonePasses (posed opening test events) (settled_by events))
