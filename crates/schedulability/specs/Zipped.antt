-- Tasks side by side with the steps of a list.
use Rattle.std.specs.Prelude.{List, [], ◌∷◌}
use Rattle.std.specs.List.{zip, AllByRecursion}

-- what holds on either side holds of the pairs
pub zip_all : {X Y : Type 0} (P : X → Type 0) (Q : Y → Type 0) (xs : List X) (ys : List Y) → AllByRecursion P xs → AllByRecursion Q ys → AllByRecursion (λ a. P a.0 × Q a.1) (zip xs ys)
zip_all P Q [] ys p q = tt
zip_all P Q (x ∷ xs) [] p q = tt
zip_all P Q (x ∷ xs) (y ∷ ys) p q = ((p.0, q.0), zip_all P Q xs ys p.1 q.1)
