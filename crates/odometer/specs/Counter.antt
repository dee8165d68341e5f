-- What the callers of an odometer see of it.
use Rattle.std.specs.Prelude.{ℕ, ◌≤◌}
use Rattle.odometer.specs.Digits.{total}

-- past the last number the odometer stands at the total
pub record Counter : Type 0 where
  pub base : ℕ
  pub places : ℕ
  pub number : ℕ
  pub some : 1 ≤ base
  pub eight : base ≤ 8
  pub few : places ≤ 16
  pub within : number ≤ total base places
