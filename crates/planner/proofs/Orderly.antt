-- What a search rests on.
use Rattle.std.proofs.Common.{◌≡◌, ℕ, ◌≤◌, true, ◌⊎◌}
use Rattle.std.specs.List.{AllZip}
use Rattle.odometer.specs.Digits.{digits}
use Rattle.planner.specs.Search.{Problem}

-- the charges of any two sets compare, and where a set passes, every set at least as fast passes too
pub record Orderly {C : Type 0} (p : Problem C) : Type 0 where
  pub some_step : 1 ≤ p.steps
  pub total : (m n : ℕ) → (p.leq (p.charge m) (p.charge n) ≡ true) ⊎ (p.leq (p.charge n) (p.charge m) ≡ true)
  pub transitive : (k m n : ℕ) → p.leq (p.charge k) (p.charge m) ≡ true → p.leq (p.charge m) (p.charge n) ≡ true → p.leq (p.charge k) (p.charge n) ≡ true
  pub faster : (m n : ℕ) → AllZip ◌≤◌ (digits p.steps p.tasks m) (digits p.steps p.tasks n) → p.Passes n → p.Passes m
