-- Demand rises with the window, no sum of it wraps, and it is at least what the shares say.
use Rattle.std.proofs.Common.{◌≡◌, ℕ, zero, suc, ◌+◌, ◌*◌, ◌^◌, ◌<◌, ◌≤◌, List, [], ◌∷◌, length, get_or, sum_by, ⊎_elim, mul-le-mul_right, mul_assoc, add-mul, mul-le-mul, lt_of_mul-lt-mul_right, mul-le-mul_left, mul-add, div-le_self, div-mul-le_self, mul_left_comm, arith}
use Rattle.std.specs.List.{AllByRecursion}
use Rattle.std.proofs.ByRecursion.{All-get_or, All-weaker, sum_by_le}
use Rattle.std.proofs.lemmas.List.Sums.{sum_by-cons}
use Rattle.std.proofs.lemmas.Bool.{cases_lt}
use Rattle.timing.specs.declared.demand.Load.{Load}
use Rattle.timing.specs.Bounds.{max_own, max_cost, max_period, max_loads, scale}
use Rattle.model.specs.Quotient.{up}
use Rattle.timing.specs.Demand.{interference, share, demand, Bounded, Under, Window}
use Rattle.model.proofs.Quotients.{up_covers, up_close, up_least, up_rises}

-- what holds of the terms, some times over, holds of their sums
sums_le : {X : Type 0} (f g : X → ℕ) (a b : ℕ) (xs : List X) → AllByRecursion (λ x. f x * a ≤ g x * b) xs → sum_by f xs * a ≤ sum_by g xs * b
sums_le f g a b [] h = omega arith
sums_le f g a b (x ∷ xs) (here, rest) = simp (sum_by-cons, add-mul) (omega (arith, here, sums_le f g a b xs rest))

interference_rises : (v w : ℕ) (l : Load) → v ≤ w → Bounded l → interference v l * 1 ≤ interference w l * 1
interference_rises v w l h (some, _, _) =
    let rise = up_rises (v + l.jitter) (w + l.jitter) l.period some (omega arith) in
    omega (arith, mul-le-mul_right l.cost rise)

pub demand_rises : (own : ℕ) (urgent : List Load) (v w : ℕ) → AllByRecursion Bounded urgent → v ≤ w → demand own urgent v ≤ demand own urgent w
demand_rises own urgent v w bounded h =
    let each = All-weaker Bounded _ (λ l. interference_rises v w l h) urgent bounded in
    omega (arith, sums_le (interference v) (interference w) 1 1 urgent each)

interference_fits : (w : ℕ) (l : Load) → w ≤ max_period → Bounded l → interference w l ≤ 2 * max_period * max_cost
interference_fits w l short (some, late, cheap) =
    mul-le-mul (up_least (w + l.jitter) l.period (2 * max_period) some (omega arith)) cheap

-- an item of a list of bounded loads
pub bounded_at : (xs : List Load) (k : ℕ) (x : Load) → AllByRecursion Bounded xs → k < length xs → x ≡ get_or xs k x → Bounded x
bounded_at xs k x bounded low is = rw (← is) at (All-get_or Bounded xs k x low bounded)

pub interferences_fit : (urgent : List Load) (w : ℕ) → length urgent ≤ max_loads → AllByRecursion Bounded urgent → w ≤ max_period → sum_by (interference w) urgent < 2 ^ 62
interferences_fit urgent w few bounded short =
    let each = All-weaker Bounded _ (λ l. interference_fits w l short) urgent bounded in
    omega (arith, sum_by_le (interference w) (2 * max_period * max_cost) urgent each)

pub demand_fits : (own : ℕ) (urgent : List Load) (w : ℕ) → own ≤ max_own → length urgent ≤ max_loads → AllByRecursion Bounded urgent → w ≤ max_period → demand own urgent w < 2 ^ 63
demand_fits own urgent w small few bounded short = omega (arith, interferences_fit urgent w few bounded short)

share_fits : (l : Load) → Bounded l → share l ≤ max_cost * scale
share_fits l (_, _, cheap) = omega (arith, div-le_self (l.cost * scale) l.period)

pub shares_fit : (urgent : List Load) → length urgent ≤ max_loads → AllByRecursion Bounded urgent → sum_by share urgent < 2 ^ 63
shares_fit urgent few bounded =
    omega (arith, sum_by_le share (max_cost * scale) urgent (All-weaker Bounded _ share_fits urgent bounded))

-- over w a more urgent task takes at least its share of w
interference_shares : (w : ℕ) (l : Load) → Bounded l → share l * w ≤ interference w l * scale
interference_shares w l (some, _, _) =
    let n = up (w + l.jitter) l.period in
    let reach : w ≤ n * l.period = omega (arith, up_covers (w + l.jitter) l.period some) in
    omega (
      arith,
      mul-le-mul_left (share l) reach,
      mul_left_comm (share l) n l.period,
      mul-le-mul_left n (div-mul-le_self (l.cost * scale) l.period),
      mul_assoc n l.cost scale,
    )

pub demand_shares : (own : ℕ) (urgent : List Load) (w : ℕ) → AllByRecursion Bounded urgent → own * scale + sum_by share urgent * w ≤ demand own urgent w * scale
demand_shares own urgent w bounded =
    let each = All-weaker Bounded _ (interference_shares w) urgent bounded in
    omega (arith, sums_le share (interference w) w scale urgent each)

-- the iteration may start where the spare part of the processor has done the task's own part
pub under_start : (asked : ℕ → ℕ) (own total spare : ℕ) → 1 ≤ own → 1 ≤ spare → spare ≤ scale → scale ≤ spare + total → ((w : ℕ) → own * scale + total * w ≤ asked w * scale) → Under asked (up (own * scale) spare)
under_start asked own total spare some left part wide asks =
    let a = own * scale in
    let covers = up_covers a spare left in
    let close = up_close a spare left in
    let pos : 0 * spare < up a spare * spare = omega arith in
    let split : (w : ℕ) → w * scale ≤ w * spare + w * total = λ w. omega (arith, mul-le-mul_left w wide, mul-add w spare total) in
    record {
      positive = lt_of_mul-lt-mul_right spare pos;
      rising = omega (arith, split (up a spare), asks (up a spare));
      below = λ v _ e. up_least a spare v left (omega (arith, split v, asks v));
    }

-- the iteration goes on from what is asked for within w
pub under_next : (asked : ℕ → ℕ) (w : ℕ) → ((u v : ℕ) → u ≤ v → asked u ≤ asked v) → Under asked w → Under asked (asked w)
under_next asked w rises under = record {
  positive = omega arith;
  rising = rises w (asked w) under.rising;
  below = λ v pos e. omega (arith, rises w v (under.below v pos e));
}

-- from a w up to v the iteration comes to a window, where what is asked for within v fits it
settling : (asked : ℕ → ℕ) (v : ℕ) → ((u w : ℕ) → u ≤ w → asked u ≤ asked w) → asked v ≤ v → (n w : ℕ) → v ≤ w + n → w ≤ v → Under asked w → (u : ℕ) × (u ≤ v) × Window asked u
settling asked v rises fits zero w near low under = (w, low, record { positive = under.positive; settles = omega (arith, rises w v low); least = under.below })
settling asked v rises fits (suc n) w near low under =
    ⊎_elim
    (λ lt. settling asked v rises fits n (asked w) (omega arith) (omega (arith, rises w v low)) (under_next asked w rises under))
    (λ ge. (w, low, record { positive = under.positive; settles = omega arith; least = under.below }))
    (cases_lt w (asked w))

-- where what is asked for within v fits it, there is a window no longer than v
pub window_within : (asked : ℕ → ℕ) (v : ℕ) → ((u w : ℕ) → u ≤ w → asked u ≤ asked w) → 1 ≤ asked 1 → 1 ≤ v → asked v ≤ v → (w : ℕ) × (w ≤ v) × Window asked w
window_within asked v rises some pos fits =
    settling asked v rises fits v 1 (omega arith) pos (record { positive = omega arith; rising = some; below = λ u p e. p })
