-- The four blocks of a roster file, and the names of their columns.
use Rattle.std.specs.Prelude.{ℕ, Bool, false, List, [], ◌∷◌, length, ◌==◌, slice_index_or}
use Rattle.files.specs.declared.blocks.Block.{Block}
use Rattle.files.specs.declared.blocks.Block.TheVariants.{Switch, Steps, Tasks, Sections}

-- `switch`
abbrev pub switch_bytes : List ℕ
switch_bytes = 115 ∷ 119 ∷ 105 ∷ 116 ∷ 99 ∷ 104 ∷ []

-- `khz`
abbrev pub khz_bytes : List ℕ
khz_bytes = 107 ∷ 104 ∷ 122 ∷ []

-- `cv`
abbrev pub cv_bytes : List ℕ
cv_bytes = 99 ∷ 118 ∷ []

-- `prio`
abbrev pub prio_bytes : List ℕ
prio_bytes = 112 ∷ 114 ∷ 105 ∷ 111 ∷ []

-- `cycles`
abbrev pub cycles_bytes : List ℕ
cycles_bytes = 99 ∷ 121 ∷ 99 ∷ 108 ∷ 101 ∷ 115 ∷ []

-- `period`
abbrev pub period_bytes : List ℕ
period_bytes = 112 ∷ 101 ∷ 114 ∷ 105 ∷ 111 ∷ 100 ∷ []

-- `deadline`
abbrev pub deadline_bytes : List ℕ
deadline_bytes = 100 ∷ 101 ∷ 97 ∷ 100 ∷ 108 ∷ 105 ∷ 110 ∷ 101 ∷ []

-- `jitter`
abbrev pub jitter_bytes : List ℕ
jitter_bytes = 106 ∷ 105 ∷ 116 ∷ 116 ∷ 101 ∷ 114 ∷ []

-- `floor`
abbrev pub floor_bytes : List ℕ
floor_bytes = 102 ∷ 108 ∷ 111 ∷ 111 ∷ 114 ∷ []

-- `res`
abbrev pub res_bytes : List ℕ
res_bytes = 114 ∷ 101 ∷ 115 ∷ []

-- the columns of a block, each by its name
abbrev pub names : Block → List (List ℕ)
names Switch = switch_bytes ∷ []
names Steps = khz_bytes ∷ cv_bytes ∷ []
names Tasks = prio_bytes ∷ cycles_bytes ∷ period_bytes ∷ deadline_bytes ∷ jitter_bytes ∷ floor_bytes ∷ []
names Sections = prio_bytes ∷ res_bytes ∷ cycles_bytes ∷ []

abbrev pub width : Block → ℕ
width b = length (names b)

abbrev pub name_of : Block → ℕ → List ℕ
name_of b k = slice_index_or (names b) k []

-- the column that may hold `-`, for none: a task's floor
abbrev pub may_lack : Block → ℕ → Bool
may_lack Switch k = false
may_lack Steps k = false
may_lack Tasks k = k == 5
may_lack Sections k = false
