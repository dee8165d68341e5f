-- A search goes onward stride by stride, and what it shows stays right.
use Rattle.std.proofs.Common.{◌≡◌, ℕ, zero, suc, ◌+◌, ◌%◌, ◌^◌, ◌<◌, ◌≤◌, min, true, false, cond, ltb, is_some, Some, None, Option, sym, refl, ◌∙◌, inl, inr, mod-eq_of_lt, arith, MatchOption}
use native.Mathlib.Nat.{mod-one, pow-le-pow_right, pow-zero, zero-mod}
use Rattle.std.proofs.lemmas.Bool.{both_ways, cases_eq, cases_lt, cond_both, ltb-false, ltb-true}
use Rattle.std.proofs.lemmas.Bool.Decides.{nat_tests}
use Rattle.odometer.specs.Digits.{next_multiple, Zeros}
use Rattle.odometer.proofs.Numbering.{fastest}
use Rattle.odometer.proofs.Numbers.{multiple_above}
use Rattle.odometer.proofs.Skips.{next_clear, next_least, next_within, skip}
use Rattle.planner.specs.declared.mark.Mark.TheVariants.{Open, Best, Nothing}
use Rattle.planner.specs.declared.events.Progress.{Progress}
use Rattle.planner.specs.Search.{Problem, sets, Found, Search, search, Cheapest, NonePasses, Shows, LeastMultiple, cheaper, looked_at, Stride, passed, fastest_failed, failed, Strides, standstill, onward, mark_of, Marked, Ran}
use Rattle.planner.proofs.Orderly.{Orderly}

-- ---- how far a stride goes

-- A set other than the fastest has a digit that is not zero.
zeros_fewer : (g t n z : ℕ) → 0 < n → n < g ^ t → Zeros g t n z → z < t
zeros_fewer g t n z some small zs =
    elim (cases_lt z t) [
      | inl l ↦ l
      | inr l ↦
          let e : z ≡ t = omega (arith, zs.few) in
          let none : n % g ^ t ≡ 0 = rw e at zs.clear in
          absurd (omega (arith, mod-eq_of_lt small))
    ]

-- The least multiple above n is not above the odometer's next.
least_next : (g k n m : ℕ) → 1 ≤ g → LeastMultiple (g ^ k) n m → m ≤ next_multiple g k n
least_next g k n m pos l = l.least (next_multiple g k n) (multiple_above g k n pos).0 (next_clear g k n)

pub stride_onward : {C : Type 0} (p : Problem C) (x y : Search C) → x.settled < sets p → Stride p x y → x.settled < y.settled
stride_onward p x _ left (passed passes) = omega arith
stride_onward p x _ left (fastest_failed first fails) = left
stride_onward p x _ left (failed z next some fails zs l) = l.above

pub stride_within : {C : Type 0} (p : Problem C) (x y : Search C) → 1 ≤ p.steps → x.settled < sets p → Stride p x y → y.settled ≤ sets p
stride_within p x _ pos left (passed passes) = omega arith
stride_within p x _ pos left (fastest_failed first fails) = omega arith
stride_within p x _ pos left (failed z next some fails zs l) =
    let z_small = zeros_fewer p.steps p.tasks x.settled z some left zs in
    omega (arith, least_next p.steps (z + 1) x.settled next pos l, next_within p.steps (z + 1) p.tasks x.settled pos left (omega arith))

pub strides_onward : {C : Type 0} (p : Problem C) (x : Search C) (n : ℕ) (y : Search C) → Strides p x n y → x.settled + n ≤ y.settled
strides_onward p x _ _ standstill = omega arith
strides_onward p x _ z (onward {n} {y} before left stride) = omega (arith, strides_onward p x n y before, stride_onward p y z left stride)

pub strides_within : {C : Type 0} (p : Problem C) (x : Search C) (n : ℕ) (y : Search C) → 1 ≤ p.steps → x.settled ≤ sets p → Strides p x n y → y.settled ≤ sets p
strides_within p x _ _ pos within standstill = within
strides_within p x _ z pos within (onward {n} {y} before left stride) = stride_within p y z pos left stride

-- ---- what is shown stays right

-- What passes is numbered below s, where from s up to next all fail.
below : {C : Type 0} (p : Problem C) (s next : ℕ) → ((n : ℕ) → s ≤ n → n < next → p.Passes n → ⊥) → (n : ℕ) → n < next → p.Passes n → n < s
below p s next fails n l passes = elim (cases_lt n s) [ inl k ↦ k | inr k ↦ absurd (fails n k l passes) ]

-- So what is shown stays right.
shows_further : {C : Type 0} (p : Problem C) (s next : ℕ) (shown : Option (Found C)) → s ≤ next → ((n : ℕ) → s ≤ n → n < next → p.Passes n → ⊥)
    → MatchOption shown (NonePasses p s) (Cheapest p s) → MatchOption shown (NonePasses p next) (Cheapest p next)
shows_further p s next None le fails none = λ n l passes. none n (below p s next fails n l passes) passes
shows_further p s next (Some old) le fails c = record {
  within = omega (arith, c.within);
  passes = c.passes;
  charged = c.charged;
  least = λ n l passes. c.least n (below p s next fails n l passes) passes;
  first = λ n l passes. c.first n (below p s next fails n l passes) passes;
}

-- The set looked at passes: it is shown where none was, and else the cheaper of the two.
module _ {C : Type 0} (p : Problem C) (s : ℕ) (o : Orderly p) (passes : p.Passes s) where
  takes : NonePasses p s → Cheapest p (s + 1) (looked_at p s)
  takes none = record {
    within = omega arith;
    passes = passes;
    charged = refl;
    least = λ n l q other. absurd (none n (omega arith) q);
    first = λ n l q other. absurd (none n (omega arith) q);
  }

  module _ (old : Found C) (c : Cheapest p s old) where
    keeps : p.leq old.charge (p.charge s) ≡ true → Cheapest p (s + 1) old
    keeps e = record {
      within = omega (arith, c.within);
      passes = c.passes;
      charged = c.charged;
      least = λ n l q other. elim (cases_eq n s) [ inl same ↦ rw same e | inr not-s ↦ c.least n (omega arith) q other ];
      first = λ n l q other equal. elim (cases_eq n s) [ inl same ↦ omega (arith, c.within) | inr not-s ↦ c.first n (omega arith) q other equal ];
    }

    -- the old one is charged at most what any other is, itself too
    at_most : (n : ℕ) → n < s → p.Passes n → p.leq (p.charge old.number) (p.charge n) ≡ true
    at_most n l q =
        elim (cases_eq n old.number) [
          | inl same ↦ rw same (elim (o.total old.number old.number) [ inl t ↦ t | inr t ↦ t ])
          | inr other ↦ rw c.charged at (c.least n l q other)
        ]

    replaces : p.leq old.charge (p.charge s) ≡ false → Cheapest p (s + 1) (looked_at p s)
    replaces e =
        let more : p.leq (p.charge old.number) (p.charge s) ≡ false = rw c.charged at e in
        let less : p.leq (p.charge s) (p.charge old.number) ≡ true = elim (o.total s old.number) [ inl t ↦ t | inr t ↦ absurd (both_ways _ more t) ] in
        record {
          within = omega arith;
          passes = passes;
          charged = refl;
          least = λ n l q other. o.transitive s old.number n less (at_most n (omega arith) q);
          first = λ n l q other equal. absurd (both_ways _ more (rw equal at (at_most n (omega arith) q)));
        }

  cheapest_passed : (shown : Option (Found C)) → MatchOption shown (NonePasses p s) (Cheapest p s) → Cheapest p (s + 1) (cheaper p.leq shown (looked_at p s))
  cheapest_passed None none = takes none
  cheapest_passed (Some old) c = cond_both (p.leq old.charge (p.charge s)) old (looked_at p s) (Cheapest p (s + 1)) (keeps old c) (replaces old c)

pub shows_stride : {C : Type 0} (p : Problem C) (x y : Search C) → Orderly p → x.settled < sets p → Shows p x → Stride p x y → Shows p y
shows_stride p x _ o left shows (passed passes) = cheapest_passed p x.settled o passes x.shown shows
shows_stride p x _ o left shows (fastest_failed first fails) =
    shows_further p x.settled (sets p) x.shown (omega arith)
    (λ n le small passes. fails (o.faster 0 n (fastest p.steps p.tasks n) passes)) shows
shows_stride p x _ o left shows (failed z next some fails zs l) =
    let near = least_next p.steps (z + 1) x.settled next o.some_step l in
    shows_further p x.settled next x.shown (omega (arith, l.above))
    (λ n le small passes. fails (o.faster x.settled n (skip p.steps p.tasks z x.settled n o.some_step zs.clear le (omega arith)) passes)) shows

pub shows_strides : {C : Type 0} (p : Problem C) (x : Search C) (n : ℕ) (y : Search C) → Orderly p → Shows p x → Strides p x n y → Shows p y
shows_strides p x _ _ o shows standstill = shows
shows_strides p x _ z o shows (onward {n} {y} before left stride) = shows_stride p y z o left (shows_strides p x n y o shows before) stride

-- ---- the mark

-- where all is settled
ended : {C : Type 0} (p : Problem C) (s : ℕ) (shown : Option (Found C)) → s ≡ sets p → MatchOption shown (NonePasses p s) (Cheapest p s)
    → Marked p s (cond (is_some shown) Best Nothing)
ended p s None all none = (all, none)
ended p s (Some best) all c = (all, (best.number, c.within, c.passes))

pub marked : {C : Type 0} (p : Problem C) (x : Search C) → Shows p x → x.settled ≤ sets p → Marked p x.settled (mark_of (sets p) x)
marked p x shows within =
    cond_both (ltb x.settled (sets p)) Open (cond (is_some x.shown) Best Nothing) (Marked p x.settled)
    (λ e. ltb-true x.settled (sets p) e)
    (λ e. ended p x.settled x.shown (omega (arith, ltb-false x.settled (sets p) e)) shows)

-- ---- the odometer's skip is a stride

-- Every number ends in some count of zeros.
pub zeros_exist : (g t n : ℕ) → (z : ℕ) × Zeros g t n z
zeros_exist g zero n = (0, record { few = omega arith; clear = rw pow-zero (mod-one n); ends = λ l. absurd (omega arith) })
zeros_exist g (suc t) n =
    let (z, zs) = zeros_exist g t n in
    elim (cases_eq (n % g ^ (z + 1)) 0) [
      | inl clear ↦
          let all : z ≡ t = elim (cases_lt z t) [ inl l ↦ absurd (zs.ends l clear) | inr l ↦ omega (arith, zs.few) ] in
          (z + 1, record { few = omega arith; clear = clear; ends = λ l. absurd (omega arith) })
      | inr not-clear ↦ (z, record { few = omega (arith, zs.few); clear = zs.clear; ends = λ l. not-clear })
    ]

-- From number 0 the skip goes over every set.
skips_all : (g t z : ℕ) → 1 ≤ g → Zeros g t 0 z → min (next_multiple g (z + 1) 0) (g ^ t) ≡ g ^ t
skips_all g t z pos zs =
    elim (cases_lt z t) [
      | inl l ↦ absurd (zs.ends l (zero-mod (g ^ (z + 1))))
      | inr l ↦
          let far : g ^ t ≤ g ^ (z + 1) = pow-le-pow_right pos (omega arith) in
          omega (arith, multiple_above g (z + 1) 0 pos)
    ]

-- From another it goes to the least multiple above.
skips_least : (g t n z : ℕ) → 1 ≤ g → 0 < n → n < g ^ t → Zeros g t n z → LeastMultiple (g ^ (z + 1)) n (min (next_multiple g (z + 1) n) (g ^ t))
skips_least g t n z pos some small zs =
    let few = zeros_fewer g t n z some small zs in
    let within = next_within g (z + 1) t n pos small (omega arith) in
    let same : min (next_multiple g (z + 1) n) (g ^ t) ≡ next_multiple g (z + 1) n = omega arith in
    rw same (record { above = (multiple_above g (z + 1) n pos).0; multiple = next_clear g (z + 1) n; least = next_least g (z + 1) n pos })

pub stride_skips : {C : Type 0} (p : Problem C) (x : Search C) (next : ℕ) → 1 ≤ p.steps → x.settled < sets p → (p.Passes x.settled → ⊥)
    → (z : ℕ) → Zeros p.steps p.tasks x.settled z → next ≡ min (next_multiple p.steps (z + 1) x.settled) (sets p)
    → Stride p x (search next x.shown)
stride_skips p x next pos left fails z zs is =
    elim (cases_eq x.settled 0) [
      | inl first ↦
          let all : next ≡ sets p = is ∙ rw first (skips_all p.steps p.tasks z pos (rw first at zs)) in
          rw all (fastest_failed first (rw first at fails))
      | inr later ↦
          let some : 0 < x.settled = omega arith in
          failed z next some fails zs (rw is (skips_least p.steps p.tasks x.settled z pos some left zs))
    ]

-- ---- a plan call

-- The mark says that sets are left only where some are.
open_left : {C : Type 0} (count : ℕ) (x : Search C) → mark_of count x ≡ Open → x.settled < count
open_left count x is = grind (arith, nat_tests)

pub ran : {C : Type 0} (p : Problem C) (x y : Search C) (allowance : ℕ) (answer : Progress) → Strides p x answer.strides y → answer.strides ≤ allowance
    → (answer.strides < allowance → y.settled ≡ sets p) → answer.settled ≡ y.settled → answer.mark ≡ mark_of (sets p) y
    → Ran p x allowance answer y
ran p x y allowance answer made few whole settled mark = record {
  strides = made;
  few = few;
  whole = whole;
  settled = settled;
  mark = mark;
  further = λ is.
      let left = open_left (sets p) y (sym mark ∙ is) in
      elim (cases_lt answer.strides allowance) [
        | inl l ↦ omega (arith, whole l)
        | inr l ↦ omega (arith, strides_onward p x answer.strides y made)
      ];
}
