use Rattle.std.proofs.Common.{◌≡◌, length, take, drop}
use Rattle.std.specs.Iterator.Adapters.{enumerate_source, enumerate_count}
use Rattle.text.specs.Left.{left}
use Rattle.text.specs.Lines.{space, parts}
use Rattle.files.proofs.Naming.{Named}
use Rattle.files.proofs.rows.names.read_order.Given as goal

abbrev pub invariant-loop-place : goal.invariant-loop-place
invariant-loop-place l =
    (goal.iterator-loop-place).can_next l.place-iterator
    × (goal.iterator-loop-place).is_finite l.place-iterator
    × (left (enumerate_source l.place-iterator) ≡ drop (enumerate_count l.place-iterator) (parts space l.text))
    × Named l.block (take (enumerate_count l.place-iterator) l.order) (parts space l.text) (enumerate_count l.place-iterator)
    × (length l.order ≡ 6)
