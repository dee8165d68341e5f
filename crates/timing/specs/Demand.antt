-- Demand and response window, over plain numbers.
use Rattle.std.specs.Prelude.{◌≡◌, ℕ, ◌+◌, ◌*◌, ◌/◌, ◌≤◌, List, Some, sum_by, Option}
use Rattle.timing.specs.declared.demand.Load.{Load}
use Rattle.timing.specs.Bounds.{max_cost, max_period, scale}
use Rattle.model.specs.Quotient.{up}

-- what a more urgent task asks for within w: one cost for each of its releases
abbrev pub interference : ℕ → Load → ℕ
interference w l = up (w + l.jitter) l.period * l.cost

-- the part of the processor that a more urgent task takes in the long run, rounded down
abbrev pub share : Load → ℕ
share l = l.cost * scale / l.period

-- what has to be done within w: the task's own part, and every release of a more urgent task
abbrev pub demand : ℕ → List Load → ℕ → ℕ
demand own urgent w = own + sum_by (interference w) urgent

-- the least w of at least 1 that equals its own demand
pub record Window (asked : ℕ → ℕ) (w : ℕ) : Type 0 where
  pub positive : 1 ≤ w
  pub settles : w ≡ asked w
  pub least : (v : ℕ) → 1 ≤ v → v ≡ asked v → w ≤ v

-- the iteration from w does not fall, and passes no window
pub record Under (asked : ℕ → ℕ) (w : ℕ) : Type 0 where
  pub positive : 1 ≤ w
  pub rising : w ≤ asked w
  pub below : (v : ℕ) → 1 ≤ v → v ≡ asked v → w ≤ v

-- a task released up to `jitter` late is done by its deadline, w after that release
pub record Meets (asked : ℕ → ℕ) (jitter deadline w : ℕ) : Type 0 where
  pub window : Window asked w
  pub early : w + jitter ≤ deadline

-- the answer is the window with which the deadline is met, and there is none exactly when no window does
pub record Judged (asked : ℕ → ℕ) (jitter deadline : ℕ) (answer : Option ℕ) : Type 0 where
  pub sound : (w : ℕ) → answer ≡ Some w → Meets asked jitter deadline w
  pub complete : (w : ℕ) → Meets asked jitter deadline w → answer ≡ Some w

abbrev pub Bounded : Load → Type 0
Bounded l = (1 ≤ l.period) × (l.jitter ≤ max_period) × (l.cost ≤ max_cost)
