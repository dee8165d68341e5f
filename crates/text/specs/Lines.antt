-- Texts with separators: what stands between them, and what is put together with them.
use Rattle.std.specs.Prelude.{◌≡◌, ℕ, cond, List, [], ◌∷◌, ◌++◌, count_by, ◌==◌, ◌≢◌, nat_eq}
use Rattle.std.specs.List.{AllByRecursion}

abbrev pub newline : ℕ
newline = 10

abbrev pub space : ℕ
space = 32

-- no separator stands in it
abbrev pub Free : ℕ → List ℕ → Type 0
Free sep bs = AllByRecursion (λ b. b ≢ sep) bs

-- how many separators stand in it
abbrev pub separators : ℕ → List ℕ → ℕ
separators sep bs = count_by (λ b. nat_eq b sep) bs

-- each line followed by a newline
abbrev pub ended : List (List ℕ) → List ℕ
ended [] = []
ended (line ∷ lines) = line ++ (newline ∷ ended lines)

-- the first part with a byte in front
abbrev pub before : ℕ → List (List ℕ) → List (List ℕ)
before b [] = (b ∷ []) ∷ []
before b (part ∷ more) = (b ∷ part) ∷ more

-- the stretches between separators, one more than there are separators
abbrev pub parts : ℕ → List ℕ → List (List ℕ)
parts sep [] = [] ∷ []
parts sep (b ∷ bs) = cond (b == sep) ([] ∷ parts sep bs) (before b (parts sep bs))

-- each part after a separator
abbrev pub trailed : ℕ → List (List ℕ) → List ℕ
trailed sep [] = []
trailed sep (part ∷ more) = sep ∷ (part ++ trailed sep more)

-- parts with one separator between two
abbrev pub joined : ℕ → List (List ℕ) → List ℕ
joined sep [] = []
joined sep (part ∷ more) = part ++ trailed sep more

-- the first separator stands between two stretches
pub record Cut (sep : ℕ) (bs front back : List ℕ) : Type 0 where
  pub split : bs ≡ front ++ (sep ∷ back)
  pub free : Free sep front
