-- What is left of a line that is taken apart item by item.
use Rattle.std.specs.Prelude.{ℕ, List, [], Some, None, Option}
use Rattle.text.specs.Lines.{space, parts}

-- the items of what is left; after the last item there is none
abbrev pub left : Option (List ℕ) → List (List ℕ)
left None = []
left (Some line) = parts space line
