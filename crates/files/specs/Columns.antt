-- The order of the columns that a line of names gave, and one more column of it.
use Rattle.std.specs.Prelude.{◌≡◌, ℕ, ◌<◌, ◌⊎◌, List, take, ◌≢◌}
use Rattle.std.specs.List.{ContainsAt as Has}
use Rattle.files.specs.declared.blocks.Block.{Block}
use Rattle.files.specs.declared.rows.Columns.{Columns}
use Rattle.files.specs.Blocks.{width, name_of}

abbrev pub order_of : Columns → List ℕ
order_of c = take (width c.block) c.order

-- an item names a column that was not seen before
abbrev pub Adds : Block → List ℕ → List ℕ → ℕ → Type 0
Adds b seen item k = (k < width b) × (item ≡ name_of b k) × (Has seen k → ⊥)

-- an item names no column, or one that was seen before
abbrev pub AddsNone : Block → List ℕ → List ℕ → Type 0
AddsNone b seen item =
    ((k : ℕ) → k < width b → item ≢ name_of b k)
    ⊎ ((k : ℕ) × (k < width b) × (item ≡ name_of b k) × Has seen k)
