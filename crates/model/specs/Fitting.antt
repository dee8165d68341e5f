-- Growth where the number of cycles stays within its bound, and nothing where it would not.
use Rattle.std.specs.Prelude.{ℕ, Bool, cond, Some, None, Option, nat_le}
use Rattle.model.specs.Bounds.{max_cycles}
use Rattle.model.specs.Growth.{grown_cycles}

abbrev pub fits : ℕ → ℕ → Bool
fits m cycles = nat_le (grown_cycles m cycles) max_cycles

abbrev pub fitting_cycles : ℕ → ℕ → Option ℕ
fitting_cycles m cycles = cond (fits m cycles) (Some (grown_cycles m cycles)) None
