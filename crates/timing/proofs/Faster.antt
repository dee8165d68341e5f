-- A faster set asks for no more, so every task that meets its deadline under a slower one still does.
use Rattle.std.proofs.Common.{◌≡◌, ℕ, zero, suc, ◌*◌, ◌<◌, ◌≤◌, max, List, [], ◌∷◌, map, length, get_or, take, fold, sum_by, filter, refl, ⊎_elim, mul-le-mul_left, add-one, arith}
use Rattle.std.proofs.lemmas.List.Elements.{AllZip-get_or, length_all_zip}
use Rattle.std.proofs.ByRecursion.{All-from_get_or, All-get_or, All-take}
use Rattle.std.proofs.lemmas.List.{get_or_past}
use Rattle.std.proofs.lemmas.List.Sums.{sum_by_more}
use Rattle.std.proofs.lemmas.Bool.{cases_Bool, cases_lt}
use Rattle.model.specs.declared.kinds.Section.{Section}
use Rattle.model.specs.Lookup.{rank}
use Rattle.model.specs.Records.{Above}
use Rattle.model.specs.System.{System, Keeps}
use Rattle.model.specs.Quotient.{up}
use Rattle.model.proofs.Lists.{pairwise_getD}
use Rattle.model.proofs.Quotients.{up_covers, up_least}
use Rattle.timing.specs.declared.demand.Load.{Load}
use Rattle.timing.specs.Demand.{interference, Bounded}
use Rattle.timing.specs.Times.{IsSet, Faster, clock, time, loads, hold, blocks}
use Rattle.timing.specs.Windows.{idle, task, own, demand_at, MeetsAt, Responds}
use Rattle.timing.proofs.Demands.{demand_rises, window_within}
use Rattle.timing.proofs.Limits.{length-loads, load_at, loads_bounded, own_limits}
use Rattle.timing.proofs.Systems.{clock_fast}

-- a greater divisor goes in no more often
up_falls : (a b d : ℕ) → 0 < b → b ≤ d → up a d ≤ up a b
up_falls a b d some h = up_least a d (up a b) (omega arith) (omega (arith, up_covers a b some, mul-le-mul_left (up a b) h))

-- a later step has a slower clock
clock_falls : (s : System) (g h : ℕ) → Keeps s → g ≤ h → h < length s.steps → clock s h ≤ clock s g
clock_falls s g h k le low =
    ⊎_elim
    (λ lt. let above = pairwise_getD Above s.steps g h (record { clock = 0; voltage = 0 }) lt low k.falling in omega (arith, above.0))
    (λ (ge : h ≤ g). let same : g ≡ h = omega arith in rw same (omega arith))
    (cases_lt g h)

-- sums over the same front of two lists compare as their terms do
pub sums_upto : {X : Type 0} (f : X → ℕ) (xs ys : List X) (d : X) (i : ℕ) → i ≤ length xs → i ≤ length ys → ((j : ℕ) → j < i → f (get_or xs j d) ≤ f (get_or ys j d)) → sum_by f (take i xs) ≤ sum_by f (take i ys)
sums_upto f xs ys d zero low high each = omega arith
sums_upto f xs ys d (suc i) low high each =
    let x = sum_by_more f xs i d (omega arith) in
    let y = sum_by_more f ys i d (omega arith) in
    let before = sums_upto f xs ys d i (omega arith) (omega arith) (λ j h. each j (omega arith)) in
    rw (← add-one) (omega (arith, x, y, before, each i (omega arith)))

-- the same releases, of which each takes no longer
pub record Lighter (x y : Load) : Type 0 where
  pub time : x.time ≤ y.time
  pub cost : x.cost ≤ y.cost
  pub period : x.period ≡ y.period
  pub jitter : x.jitter ≡ y.jitter

interference_falls : (w : ℕ) (x y : Load) → Lighter x y → interference w x ≤ interference w y
interference_falls w x y light = rw (light.period, light.jitter) (mul-le-mul_left _ light.cost)

module _ (s : System) (a b : List ℕ) (k : Keeps s) (slow : IsSet s b) (fast : Faster a b) where
  -- the step at a place is no greater, also past the end
  step_falls : (i : ℕ) → (get_or a i 0 ≤ get_or b i 0) × (get_or b i 0 < length s.steps)
  step_falls i =
      let long = length_all_zip ◌≤◌ a b fast in
      ⊎_elim
      (λ low. (AllZip-get_or ◌≤◌ a b i 0 0 fast (omega arith), All-get_or _ b i 0 low slow.named))
      (λ past. rw (get_or_past a i 0 (omega arith), get_or_past b i 0 past) (omega arith, k.some_step))
      (cases_lt i (length b))

  -- so it names steps of the table too
  pub isset_faster : IsSet s a
  isset_faster = record {
    whole = omega (arith, length_all_zip ◌≤◌ a b fast);
    named = All-from_get_or (λ g. g < length s.steps) a 0 (λ i _. omega (arith, step_falls i));
  }

  pub time_falls : (cycles i : ℕ) → time cycles (clock s (get_or a i 0)) ≤ time cycles (clock s (get_or b i 0))
  time_falls cycles i =
      let (le, low) = step_falls i in
      let some = clock_fast s (get_or b i 0) k low in
      up_falls (cycles * 1000) (clock s (get_or b i 0)) (clock s (get_or a i 0)) (omega arith) (clock_falls s _ _ k le low)

  -- the load of each task
  pub load_lighter : (i : ℕ) → i < length s.tasks → Lighter (get_or (loads s a) i idle) (get_or (loads s b) i idle)
  load_lighter i low =
      let le = time_falls (task s i).cycles i in
      rw (load_at s a k isset_faster i low, load_at s b k slow i low)
      (record { time = le; cost = omega arith; period = refl; jitter = refl })

  -- the longest of the sections that block, from x or y on
  blocking_falls : (p : ℕ) (cs : List Section) (x y : ℕ) → x ≤ y → fold max x (map (λ h. h.time) (filter (blocks p) (map (hold s a) cs))) ≤ fold max y (map (λ h. h.time) (filter (blocks p) (map (hold s b) cs)))
  blocking_falls p [] x y le = le
  blocking_falls p (c ∷ cs) x y le =
      let short = time_falls c.cycles (rank c.owner s.tasks) in
      ⊎_elim
      (λ e. rw e (blocking_falls p cs _ _ (omega arith)))
      (λ e. rw e (blocking_falls p cs x y le))
      (cases_Bool (blocks p (hold s a c)))

  pub demand_falls : (i w : ℕ) → i < length s.tasks → demand_at s a i w ≤ demand_at s b i w
  demand_falls i w low =
      let held = blocking_falls (task s i).priority s.sections 0 0 (omega arith) in
      let before = sums_upto (interference w) (loads s a) (loads s b) idle i (omega (arith, length-loads s a isset_faster)) (omega (arith, length-loads s b slow)) (λ j h. interference_falls w _ _ (load_lighter j (omega arith))) in
      omega (arith, held, before, (load_lighter i low).time)

  -- a task that meets its deadline still does, with a window no longer
  pub meets_faster : (i v : ℕ) → i < length s.tasks → MeetsAt s b i v → (w : ℕ) × (w ≤ v) × MeetsAt s a i w
  meets_faster i v low meets =
      let bounded = All-take Bounded i (loads s a) (loads_bounded s a k isset_faster) in
      let some = (own_limits s a k isset_faster i low).0 in
      let (w, le, window) = window_within (demand_at s a i) v (λ u x. demand_rises (own s a i) (take i (loads s a)) u x bounded) (omega arith) meets.window.positive (omega (arith, demand_falls i v low, meets.window.settles)) in
      (w, le, record { window = window; early = omega arith })

pub responds_faster : (s : System) (a b : List ℕ) → Keeps s → Faster a b → Responds s b → Responds s a
responds_faster s a b k fast responds = record {
  isset = isset_faster s a b k responds.isset fast;
  meets = λ i low.
      let (v, meets) = responds.meets i low in
      let (w, _, sooner) = meets_faster s a b k responds.isset fast i v low meets in
      (w, sooner);
}
