-- A line of names and a line of values, as they are written, and what is wrong with one that is neither.
use Rattle.std.specs.Prelude.{◌≡◌, ℕ, ◌+◌, ◌<◌, true, ◌⊎◌, List, [], ◌∷◌, map, length, Some, None, decimal, Option, ◌≢◌, slice_index, slice_index_or}
use Rattle.std.specs.List.{AllByRecursion}
use Rattle.model.specs.Lists.{Pairwise}
use Rattle.text.specs.Lines.{space, parts, joined}
use Rattle.text.specs.Values.{values}
use Rattle.files.specs.declared.blocks.Block.{Block}
use Rattle.files.specs.declared.fault.Fault.{Fault}
use Rattle.files.specs.declared.fault.FileRefusal.TheVariants as refusals
use Rattle.files.specs.Blocks.{width, name_of, may_lack}
use Rattle.files.specs.Faults.{at_line, at_item}

-- an order of n columns: each of them once
pub record IsOrder (n : ℕ) (order : List ℕ) : Type 0 where
  pub whole : length order ≡ n
  pub below : AllByRecursion (λ k. k < n) order
  pub once : Pairwise (λ j k. j ≢ k) order

-- a line names the columns of a block in an order
pub record Names (b : Block) (order text : List ℕ) : Type 0 where
  pub isorder : IsOrder (width b) order
  pub written : text ≡ joined space (map (name_of b) order)

-- ---- values

-- a value in writing: its digits, or `-` for none
abbrev pub cell : Option ℕ → List ℕ
cell None = 45 ∷ []
cell (Some n) = decimal n

-- it may stand in that column
abbrev pub Fits : Block → ℕ → Option ℕ → Type 0
Fits b k None = may_lack b k ≡ true
Fits b k (Some n) = n < values

-- an item is a value of that column
abbrev pub IsValue : Block → ℕ → List ℕ → Option ℕ → Type 0
IsValue b k item v = Fits b k v × (item ≡ cell v)

abbrev pub value_at : List (Option ℕ) → ℕ → Option ℕ
value_at row k = slice_index_or row k None

-- a line holds a value for each column, in the order of the names above it; the row has them in the block's own order
pub record Row (b : Block) (order : List ℕ) (row : List (Option ℕ)) (text : List ℕ) : Type 0 where
  pub whole : length row ≡ width b
  pub fits : (k : ℕ) → k < width b → Fits b k (value_at row k)
  pub written : text ≡ joined space (map (λ k. cell (value_at row k)) order)

-- the i-th item of a line, and the column in which it stands
abbrev pub item_at : List ℕ → ℕ → List ℕ
item_at text i = slice_index_or (parts space text) i []

abbrev pub column_at : List ℕ → ℕ → ℕ
column_at order i = slice_index order i

abbrev pub Valued : Block → List ℕ → List ℕ → ℕ → Type 0
Valued b order text i = (v : Option ℕ) × IsValue b (column_at order i) (item_at text i) v

-- the first item from the left that is no value of its column
pub record FirstWrong (b : Block) (order text : List ℕ) (i : ℕ) : Type 0 where
  pub within : i < width b
  pub wrong : Valued b order text i → ⊥
  pub before : (j : ℕ) → j < i → Valued b order text j

-- what is wrong with a line of values: its count of items, or else its first wrong item
abbrev pub RowFault : Block → List ℕ → ℕ → List ℕ → Fault → Type 0
RowFault b order n text f =
    ((length (parts space text) ≢ width b) × (f ≡ at_line refusals.Count n))
    ⊎ ((length (parts space text) ≡ width b) × ((i : ℕ) × FirstWrong b order text i × (f ≡ at_item n (i + 1))))
