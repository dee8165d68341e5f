use Rattle.std.proofs.Common.{◌≡◌, map, length, take, Option, Some}
use Rattle.model.proofs.table.Table.try_map.Given as goal

-- the first i items are changed
abbrev pub invariant-loop-i : goal.invariant-loop-i
invariant-loop-i g l =
    (length l.items ≡ length l.self.items)
    × ((f : g.row.T.Denot → Option g.row.T.Denot) → ((x : g.row.T.Denot) (r : Option g.row.T.Denot) → goal.F-post g l.change x r → r ≡ f x) → map Some (take l.i l.items) ≡ map f (take l.i l.self.items))
