-- The two rules of a test. That the answer depends on nothing but test, system and set is in the type of `passes`.
use Rattle.std.specs.Prelude.{ℕ, List}
use Rattle.model.specs.System.{System, Keeps}
use Rattle.timing.specs.Times.{IsSet, Faster}

pub record TestLaws {T : Type 0} (passes : T → System → List ℕ → Type 0) : Type 0 where
  -- only sets of the roster pass
  pub sets : (t : T) (s : System) (set : List ℕ) → passes t s set → IsSet s set
  -- where a set passes, every set at least as fast at each task passes too
  pub faster : (t : T) (s : System) (fast slow : List ℕ) → Keeps s → Faster fast slow → passes t s slow → passes t s fast
