use Rattle.std.proofs.Common.{◌≡◌, length, drop}
use Rattle.std.specs.Iterator.Adapters.{enumerate_source, enumerate_count, zip_first, zip_second}
use Rattle.std.specs.Slice.Iter.{iter_rest}
use Rattle.text.specs.Left.{left}
use Rattle.text.specs.Lines.{space, parts}
use Rattle.files.specs.Blocks.{width}
use Rattle.files.specs.Columns.{order_of}
use Rattle.files.proofs.Filling.{Filled}
use Rattle.files.proofs.rows.values.read_values.Given as goal

abbrev pub invariant-loop-i : goal.invariant-loop-i
invariant-loop-i l =
    (goal.iterator-loop-i).can_next l.i-iterator
    × (goal.iterator-loop-i).is_finite l.i-iterator
    × (left (zip_first (enumerate_source l.i-iterator)) ≡ drop (enumerate_count l.i-iterator) (parts space l.line.text.now))
    × (iter_rest (zip_second (enumerate_source l.i-iterator)) ≡ drop (enumerate_count l.i-iterator) (order_of l.columns))
    × Filled l.columns.block (order_of l.columns) l.line.text.now l.row.items (enumerate_count l.i-iterator)
    × (length l.row.items ≡ width l.columns.block)
