-- The bounds of a system's loads and holds, and so of a task's own part.
use Rattle.std.proofs.Common.{◌≡◌, ℕ, ◌+◌, ◌<◌, ◌≤◌, max, List, [], ◌∷◌, map, length, get_or, fold, filter, ap, ◌∙◌, ⊎_elim, arith}
use Rattle.std.specs.List.{zip, AllByRecursion}
use Rattle.std.proofs.ByRecursion.{All-from_get_or, All-get_or, all_kept_by, All-map}
use Rattle.std.proofs.lemmas.List.{get_or-map, length-map}
use Rattle.std.proofs.lemmas.Slice.Zip.{get_or-zip, length-zip}
use Rattle.model.specs.Lookup.{rank}
use Rattle.model.specs.Records.{TaskBounded, Ordered, Within}
use Rattle.model.specs.Rewrite.{blank_task}
use Rattle.model.specs.System.{System, Keeps, Owned}
use Rattle.model.proofs.Lookups.{sought}
use Rattle.timing.specs.declared.holds.Hold.{Hold}
use Rattle.timing.specs.Bounds.{max_period, max_time}
use Rattle.timing.specs.Demand.{Bounded}
use Rattle.timing.specs.Times.{IsSet, load, loads, blocks, blocking, hold, holds}
use Rattle.timing.specs.Windows.{task, idle, own}
use Rattle.timing.proofs.Blockers.{blank_section}
use Rattle.timing.proofs.Systems.{clock_fast, time_fits, time_some}

folded_max_fits : (m z : ℕ) (xs : List ℕ) → z ≤ m → AllByRecursion (λ x. x ≤ m) xs → fold max z xs ≤ m
folded_max_fits m z [] low all = low
folded_max_fits m z (x ∷ xs) low all = folded_max_fits m (max z x) xs (omega (arith, all.0)) all.1

pub blocking_fits : (p m : ℕ) (held : List Hold) → AllByRecursion (λ h. h.time ≤ m) held → blocking p held ≤ m
blocking_fits p m held all =
    folded_max_fits m 0 (map (λ h. h.time) (filter (blocks p) held)) (omega arith) (All-map (λ x. x ≤ m) (λ h. h.time) (filter (blocks p) held) (all_kept_by (blocks p) (λ h. h.time ≤ m) held all))

-- a load for each task
pub length-loads : (s : System) (set : List ℕ) → IsSet s set → length (loads s set) ≡ length s.tasks
length-loads s set isset = simp (length-map, length-zip) (omega (arith, isset.whole))

-- the times that a task comes with
pub task_limits : (s : System) (i : ℕ) → Keeps s → i < length s.tasks → ((task s i).jitter ≤ max_period) × ((task s i).deadline ≤ max_period)
task_limits s i k low =
    let bounds = All-get_or TaskBounded s.tasks i blank_task low k.bounded in
    let orders = All-get_or Ordered s.tasks i blank_task low k.ordered in
    (omega (arith, bounds, orders), omega (arith, bounds, orders))

module _ (s : System) (set : List ℕ) (k : Keeps s) (isset : IsSet s set) where
  step_at : (i : ℕ) → i < length s.tasks → get_or set i 0 < length s.steps
  step_at i low = All-get_or (λ g. g < length s.steps) set i 0 (omega (arith, isset.whole)) isset.named

  -- the load of the task at a place
  pub load_at : (i : ℕ) → i < length s.tasks → get_or (loads s set) i idle ≡ load s (task s i, get_or set i 0)
  load_at i low =
      get_or-map (load s) (zip s.tasks set) i (blank_task, 0) idle (omega (arith, isset.whole, length-zip s.tasks set))
      ∙ ap (load s) (get_or-zip s.tasks set i (blank_task, 0) low (omega (arith, isset.whole)))

  load_limits : (i : ℕ) → i < length s.tasks → Bounded (load s (task s i, get_or set i 0)) × (1 ≤ (load s (task s i, get_or set i 0)).time) × ((load s (task s i, get_or set i 0)).time ≤ max_time)
  load_limits i low =
      let bounds = All-get_or TaskBounded s.tasks i blank_task low k.bounded in
      let times = task_limits s i k low in
      let fast = clock_fast s (get_or set i 0) k (step_at i low) in
      let fits = time_fits (task s i).cycles _ bounds.2 fast in
      ((bounds.3, times.0, omega (arith, fits, k.short_switch)), time_some (task s i).cycles _ bounds.1 fast, fits)

  pub loads_bounded : AllByRecursion Bounded (loads s set)
  loads_bounded =
      All-map Bounded (load s) (zip s.tasks set) (All-from_get_or (λ a. Bounded (load s a)) (zip s.tasks set) (blank_task, 0) (λ i h.
      let low : i < length s.tasks = omega (arith, length-zip s.tasks set) in
      rw (get_or-zip s.tasks set i (blank_task, 0) low (omega (arith, isset.whole))) (load_limits i low).0))

  hold_limit : (i : ℕ) → i < length s.sections → (hold s set (get_or s.sections i blank_section)).time ≤ max_time
  hold_limit i low =
      let c = get_or s.sections i blank_section in
      let owned = All-get_or (Owned s.tasks) s.sections i blank_section low k.owned in
      let at = rank c.owner s.tasks in
      ⊎_elim
      (λ hit.
      let within : Within c (task s at) = rw hit.1 at owned in
      let bounds = All-get_or TaskBounded s.tasks at blank_task hit.0.0 k.bounded in
      time_fits c.cycles _ (omega (arith, bounds.2)) (clock_fast s _ k (step_at at hit.0.0)))
      (λ miss. absurd (rw miss.1 at owned))
      (sought s.tasks c.owner k.rising)

  pub holds_short : AllByRecursion (λ h. h.time ≤ max_time) (holds s set)
  holds_short = All-map (λ h. h.time ≤ max_time) (hold s set) s.sections (All-from_get_or (λ c. (hold s set c).time ≤ max_time) s.sections blank_section hold_limit)

  -- a task's own part: at least 1, and bounded
  pub own_limits : (i : ℕ) → i < length s.tasks → (1 ≤ own s set i) × (own s set i ≤ max_time + max_time)
  own_limits i low =
      let part = load_limits i low in
      let short = blocking_fits (task s i).priority max_time (holds s set) holds_short in
      rw (load_at i low) (omega (arith, part.1), omega (arith, part.2, short))
