-- An item that passes moves down to those that stay, and another is passed over.
use Rattle.std.proofs.Common.{◌<◌, length, get_or, refl, sym, ◌∙◌, arith}
use Rattle.std.proofs.lemmas.Fn.{says_at}
use Rattle.std.proofs.lemmas.List.Filters.{FiltersInPlace-more_no, FiltersInPlace-more_set}
use Rattle.std.proofs.lemmas.List.{get_or_default}
use Rattle.model.proofs.table.Table.retain.Goals as goal
use Rattle.model.proofs.table.Table.retain.Goals.{then-keep, else-keep}

pub loop-i-preserved : goal.loop-i-preserved
loop-i-preserved g c =
    let t = c.loop-i.self in
    let h : c.loop-i.i < length t.items = omega arith in
    let x = get_or t.items c.loop-i.i c.index-self-i.result in
    let is = get_or_default t.items c.loop-i.i c.index-self-i.result x h in
    let says = says_at g.F.Fn c.keep.ensures refl in
    elim c.if-keep.branch [
      | then-keep w ↦
          rw (w.self-is, w.kept-is) (c.loop-i.invariant.0, omega (arith, c.loop-i.invariant.1), λ test computes. FiltersInPlace-more_set {x = x} (c.loop-i.invariant.2 test computes) h (sym (computes x _ says) ∙ w.if-keep.true) is)
      | else-keep w ↦
          rw (w.self-is, w.kept-is) (c.loop-i.invariant.0, omega (arith, c.loop-i.invariant.1), λ test computes. FiltersInPlace-more_no {x = x} (c.loop-i.invariant.2 test computes) h (sym (computes x _ says) ∙ w.if-keep.false) is)
    ]
