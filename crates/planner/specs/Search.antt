-- A search through numbered sets for the cheapest that passes.
use Rattle.std.specs.Prelude.{◌≡◌, ℕ, suc, ◌+◌, ◌%◌, ◌^◌, ◌<◌, ◌≤◌, Bool, true, cond, is_some, Some, None, Option, MatchOption, ◌≢◌, nat_lt}
use Rattle.odometer.specs.Digits.{total, Zeros}
use Rattle.planner.specs.declared.mark.Mark.{Mark}
use Rattle.planner.specs.declared.mark.Mark.TheVariants.{Open, Best, Nothing}
use Rattle.planner.specs.declared.events.Progress.{Progress}

-- What is searched: so many steps for each of so many tasks, the numbers of the sets that pass,
-- the charge of each set, and the order of charges.
pub record Problem (C : Type 0) : Type 1 where
  pub steps : ℕ
  pub tasks : ℕ
  pub Passes : ℕ → Type 0
  pub charge : ℕ → C
  pub leq : C → C → Bool

-- how many sets there are; they are numbered from 0
abbrev pub sets : {C : Type 0} → Problem C → ℕ
sets p = total p.steps p.tasks

-- a set by its number, with its charge
pub record Found (C : Type 0) : Type 0 where
  pub number : ℕ
  pub charge : C

-- how far a search has come: the sets numbered below `settled` are settled
pub record Search (C : Type 0) : Type 0 where
  pub settled : ℕ
  pub shown : Option (Found C)

abbrev pub search : {C : Type 0} → ℕ → Option (Found C) → Search C
search settled shown = record { settled = settled; shown = shown }

-- nothing is settled, and nothing shown
abbrev pub start : {C : Type 0} → Search C
start = search 0 None

-- ---- what may be shown

-- a settled set that passes, and the cheapest of those; of several such the one with the smallest number
pub record Cheapest {C : Type 0} (p : Problem C) (settled : ℕ) (x : Found C) : Type 0 where
  pub within : x.number < settled
  pub passes : p.Passes x.number
  pub charged : x.charge ≡ p.charge x.number
  -- every other such set has at least its charge, and a higher number where the charges are equal
  pub least : (n : ℕ) → n < settled → p.Passes n → (n ≢ x.number) → p.leq x.charge (p.charge n) ≡ true
  pub first : (n : ℕ) → n < settled → p.Passes n → (n ≢ x.number) → p.charge n ≡ x.charge → x.number < n

abbrev pub NonePasses : {C : Type 0} → Problem C → ℕ → Type 0
NonePasses p settled = (n : ℕ) → n < settled → p.Passes n → ⊥

-- what is shown is right for what is settled
abbrev pub Shows : {C : Type 0} → Problem C → Search C → Type 0
Shows p x = MatchOption x.shown (NonePasses p x.settled) (Cheapest p x.settled)

-- ---- strides

-- m is the least multiple of a power above n
pub record LeastMultiple (power n m : ℕ) : Type 0 where
  pub above : n < m
  pub multiple : m % power ≡ 0
  pub least : (k : ℕ) → n < k → k % power ≡ 0 → m ≤ k

-- what is shown after a set that passes: that set, where none was shown or its charge is less
abbrev pub cheaper : {C : Type 0} → (C → C → Bool) → Option (Found C) → Found C → Found C
cheaper leq None new = new
cheaper leq (Some old) new = cond (leq old.charge new.charge) old new

abbrev pub looked_at : {C : Type 0} → Problem C → ℕ → Found C
looked_at p n = record { number = n; charge = p.charge n }

-- A stride looks at the set whose number is `settled`.
pub data Stride {C : Type 0} (p : Problem C) (x : Search C) : Search C → Type 0 where
  passed : p.Passes x.settled → Stride p x (search (x.settled + 1) (Some (cheaper p.leq x.shown (looked_at p x.settled))))
  -- where the fastest set fails, every set does
  fastest_failed : x.settled ≡ 0 → (p.Passes 0 → ⊥) → Stride p x (search (sets p) x.shown)
  -- where another fails that ends in z zeros, so do the slower ones up to the next multiple
  failed : (z next : ℕ) → 0 < x.settled → (p.Passes x.settled → ⊥) → Zeros p.steps p.tasks x.settled z → LeastMultiple (p.steps ^ (z + 1)) x.settled next → Stride p x (search next x.shown)

-- so many strides, each where a set is left to look at
pub data Strides {C : Type 0} (p : Problem C) (x : Search C) : ℕ → Search C → Type 0 where
  standstill : Strides p x 0 x
  onward : {n : ℕ} {y z : Search C} → Strides p x n y → y.settled < sets p → Stride p y z → Strides p x (suc n) z

-- ---- marks

abbrev pub mark_of : {C : Type 0} → ℕ → Search C → Mark
mark_of count x = cond (nat_lt x.settled count) Open (cond (is_some x.shown) Best Nothing)

-- What a mark says of a search that has settled so many sets: that sets are left, that all are settled and
-- one passes, that all are settled and none passes. One of the three holds, so the mark is determined.
abbrev pub Marked : {C : Type 0} → Problem C → ℕ → Mark → Type 0
Marked p settled Open = settled < sets p
Marked p settled Best = (settled ≡ sets p) × ((n : ℕ) × (n < settled) × p.Passes n)
Marked p settled Nothing = (settled ≡ sets p) × NonePasses p settled

-- ---- a plan call

-- what a plan call of that allowance makes of a search, and answers
pub record Ran {C : Type 0} (p : Problem C) (x : Search C) (allowance : ℕ) (answer : Progress) (y : Search C) : Type 0 where
  pub strides : Strides p x answer.strides y
  pub few : answer.strides ≤ allowance
  -- fewer strides than allowed only where all is settled
  pub whole : answer.strides < allowance → y.settled ≡ sets p
  pub settled : answer.settled ≡ y.settled
  pub mark : answer.mark ≡ mark_of (sets p) y
  -- where sets are left, at least as many further ones are settled as strides were allowed
  pub further : answer.mark ≡ Open → x.settled + allowance ≤ y.settled
