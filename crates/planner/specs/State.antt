-- What a planner says: what stands, the test, and how far the search has come.
use Rattle.std.specs.Prelude.{◌≡◌, ℕ, ◌≤◌, List, length, Some}
use Rattle.model.specs.System.{System, Keeps}
use Rattle.odometer.specs.Digits.{digits, total}
use Rattle.schedulability.specs.Floors.{WithinFloors}
use Rattle.schedulability.specs.declared.test.Test as tests
use Rattle.tariffs.specs.Charges.{charge_of}
use Rattle.planner.specs.Rates.{Rates, amount_of, tariff_of}
use Rattle.planner.specs.Search.{Problem, Found, Search, start, Strides}

-- the steps of a set by its number: its digits in base of the count of steps, most urgent task first
abbrev pub set_of : System → ℕ → List ℕ
set_of s n = digits (length s.steps) (length s.tasks) n

-- how many sets a system has
abbrev pub sets_of : System → ℕ
sets_of s = total (length s.steps) (length s.tasks)

-- a set passes when no step exceeds its task's floor and the test says yes
abbrev pub Passes : {Q : Type 0} → tests.Ghosts Q → System → Q → List ℕ → Type 0
Passes q s test set = WithinFloors s set × q.passes test s set

-- what is searched for a system and a test, under a tariff
abbrev pub problem : {Q C : Type 0} → tests.Ghosts Q → Rates C → System → Q → Problem C
problem q t s test = record {
  steps = length s.steps;
  tasks = length s.tasks;
  Passes = λ n. Passes q s test (set_of s n);
  charge = λ n. charge_of (amount_of t) (tariff_of t) s (set_of s n);
  leq = t.leq;
}

pub record State (Q C : Type 0) : Type 0 where
  pub stands : System
  pub test : Q
  pub search : Search C

-- what holds of every planner, whatever led to it
pub record InBounds {Q C : Type 0} (x : State Q C) : Type 0 where
  pub keeps : Keeps x.stands
  -- no more sets are settled than there are, and none is shown of a number above their count
  pub settled : x.search.settled ≤ sets_of x.stands
  pub shown : (y : Found C) → x.search.shown ≡ Some y → y.number ≤ sets_of x.stands

abbrev pub opened : {Q C : Type 0} → System → Q → State Q C
opened s test = record { stands = s; test = test; search = start }

-- what is searched in a state
abbrev pub sought : {Q C : Type 0} → tests.Ghosts Q → Rates C → State Q C → Problem C
sought q t x = problem q t x.stands x.test

-- so many strides lead from one state to another, in which the same system and test stand
pub record Walked {Q C : Type 0} (q : tests.Ghosts Q) (t : Rates C) (x : State Q C) (n : ℕ) (y : State Q C) : Type 0 where
  pub stands : y.stands ≡ x.stands
  pub test : y.test ≡ x.test
  pub strides : Strides (problem q t x.stands x.test) x.search n y.search
