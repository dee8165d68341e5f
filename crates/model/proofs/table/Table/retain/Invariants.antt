use Rattle.std.proofs.Common.{◌≡◌, ◌≤◌, Bool}
use Rattle.std.specs.Fn.{FnReturnsAt}
use Rattle.std.proofs.lemmas.List.Filters.{FiltersInPlace}
use Rattle.model.proofs.table.Table.retain.Given as goal

-- those of the first i items that pass stand in front, and from i on the array is as it was
abbrev pub invariant-loop-i : goal.invariant-loop-i
invariant-loop-i g l =
    (l.self.len ≡ l.initial.self.len)
    × (l.kept ≤ l.i)
    × ((test : g.row.T.Denot → Bool) → ((x : g.row.T.Denot) (b : Bool) → FnReturnsAt g.F.Fn l.keep x b → b ≡ test x) → FiltersInPlace test l.initial.self.items l.self.items l.kept l.i)
