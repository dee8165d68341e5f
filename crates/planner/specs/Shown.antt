-- A set that is shown, by its number, its steps and its charge.
use Rattle.std.specs.Prelude.{ℕ, List, Some, None, Option}
use Rattle.odometer.specs.Digits.{digits}
use Rattle.planner.specs.declared.findings.Shown.{Shown}
use Rattle.planner.specs.Search.{Found}

abbrev pub number_of : {C : Type 0} → Shown C → ℕ
number_of x = x.at.number

abbrev pub steps_of : {C : Type 0} → Shown C → List ℕ
steps_of x = digits x.at.base x.at.places x.at.number

abbrev pub found : {C : Type 0} → Shown C → Found C
found x = record { number = number_of x; charge = x.charge }

abbrev pub found_in : {C : Type 0} → Option (Shown C) → Option (Found C)
found_in None = None
found_in (Some x) = Some (found x)
