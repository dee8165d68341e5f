-- Every roster keeps its rules: the fact in the roster's type, taken out of its truncation.
use Rattle.std.proofs.Common.{List, [], ◌∷◌}
use mathlib.Core.Logic.{∥∥₁_elim}
use Rattle.std.specs.Coded.{×_prop, Unit-prop}
use Rattle.std.specs.List.{AllByRecursion-prop}
use Rattle.std.proofs.Props.{props}
use Rattle.model.specs.declared.roster.Roster.{Roster}
use Rattle.model.specs.Lists.{Pairwise}
use Rattle.model.specs.Of.{of}
use Rattle.model.specs.System.{System, Keeps}

-- that every pair stands in a relation has one proof at most, where that of each pair has
pub pairwise_prop : {X : Type 0} (R : X → X → Type 0) → ((x y : X) → IsProp (R x y)) → (xs : List X) → IsProp (Pairwise R xs)
pairwise_prop R h [] = Unit-prop
pairwise_prop R h (x ∷ xs) = ×_prop (AllByRecursion-prop (R x) (h x) xs) (pairwise_prop R h xs)

keeps_prop : (s : System) → IsProp (Keeps s)
keeps_prop s = hlevel (props, pairwise_prop)

pub kept : (r : Roster) → Keeps (of r)
kept r = ∥∥₁_elim r.keeps (keeps_prop (of r)) (λ k. k)
