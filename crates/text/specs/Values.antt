-- The numbers that an item can write.
use Rattle.std.specs.Prelude.{◌≡◌, ℕ, ◌<◌, ◌≤◌, List, length, slice_index_or}

-- values lie below this
abbrev pub values : ℕ
values = 1_000_000_000

-- one to nine bytes, and no zero before others
pub record Shaped (item : List ℕ) : Type 0 where
  pub some : 0 < length item
  pub few : length item ≤ 9
  pub led : slice_index_or item 0 0 ≡ 48 → length item ≡ 1
