-- A planner's parts: what they say, and how they fit.
use Rattle.std.specs.Prelude.{◌≡◌, length, Some}
use Rattle.model.specs.Of.{of}
use Rattle.planner.specs.declared.findings.Shown.{Shown}
use Rattle.planner.specs.declared.planner.Planner.TheInside.{Inside}
use Rattle.planner.specs.Search.{search}
use Rattle.planner.specs.Shown.{found_in}
use Rattle.planner.specs.State.{State}

-- from the program's planner to what it says
abbrev pub state : {Q C : Type 0} → Inside Q C → State Q C
state p = record { stands = of p.roster; test = p.test.below; search = search p.sets.number (found_in p.shown) }

-- the sets, and the one shown, are those of the roster
pub record Fits {Q C : Type 0} (p : Inside Q C) : Type 0 where
  pub base : p.sets.base ≡ length (of p.roster).steps
  pub places : p.sets.places ≡ length (of p.roster).tasks
  pub shown_base : (x : Shown C) → p.shown ≡ Some x → x.at.base ≡ length (of p.roster).steps
  pub shown_places : (x : Shown C) → p.shown ≡ Some x → x.at.places ≡ length (of p.roster).tasks
