-- Words on lists.
use Rattle.std.specs.Prelude.{Bool, cond, List, [], ◌∷◌, Some, None, Option}
use Rattle.std.specs.List.{AllByRecursion}

-- each item stands in the relation R to every later one
abbrev pub Pairwise : {X : Type 0} → (X → X → Type 0) → List X → Type 0
Pairwise R [] = Unit {0}
Pairwise R (x ∷ xs) = AllByRecursion (R x) xs × Pairwise R xs

-- the first item that passes a test
abbrev pub first_by : {X : Type 0} → (X → Bool) → List X → Option X
first_by test [] = None
first_by test (x ∷ xs) = cond (test x) (Some x) (first_by test xs)
