-- The list that a table holds.
use Rattle.std.specs.Prelude.{ℕ, List, take}
use Rattle.model.specs.declared.table.Table.{Table}

abbrev pub held : {T : Type 0} {N : ℕ} → Table T N → List T
held t = take t.len t.items
