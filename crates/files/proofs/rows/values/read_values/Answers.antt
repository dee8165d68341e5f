use Rattle.std.proofs.Common.{◌≡◌, ◌+◌, ◌<◌, ◌≤◌, length, set, [], ap, ◌∙◌, arith, ⊎_elim}
use Rattle.std.specs.Iterator.Adapters.{enumerate_source, enumerate_count, zip_first, zip_second}
use Rattle.std.specs.Slice.Iter.{iter_rest}
use Rattle.std.proofs.lemmas.List.{length-drop, length-set}
use Rattle.arrayvec.proofs.ArrayVecLemmas.{items-with_items}
use Rattle.std.proofs.lemmas.Result.{err_from_is_err_and}
use Rattle.text.specs.Left.{left}
use Rattle.text.specs.Lines.{space, parts}
use Rattle.files.specs.Blocks.{width}
use Rattle.files.specs.Columns.{order_of}
use Rattle.files.proofs.Filling.{Filled, filled_on, row_filled, row_wrong}
use Rattle.files.proofs.Naming.{next_at, past_end}
use Rattle.files.proofs.rows.values.read_values.Goals as goal

pub returns-in_err-row : goal.returns-in_err-row
returns-in_err-row c =
    let cs = c.args.columns.now in
    let text = c.args.line.text.now in
    let s = c.loop-i.i-iterator in
    let t = c.next.new.self in
    let i = enumerate_count s in
    let here = c.in-Some.ensures.steps in
    let (lt, at, _) = next_at (parts space text) (left (zip_first (enumerate_source s))) (left (zip_first (enumerate_source t))) c.in-Some.item.now [] i c.loop-i.invariant.2 here.0.0 in
    let (low, on, _) = next_at (order_of cs) (iter_rest (zip_second (enumerate_source s))) (iter_rest (zip_second (enumerate_source t))) c.in-Some.column.now 0 i c.loop-i.invariant.3 here.0.1 in
    let inside : i < width cs.block = omega (arith, lt, c.requires) in
    let p = err_from_is_err_and c.from_residual.result c.from_residual.ensures.1 in
    let (none, is) = c.in_err-row.ensures in
    rw (p.1, p.2, is, here.1)
    (row_wrong cs.block (order_of cs) text c.loop-i.row.items cs.isorder c.loop-i.invariant.5 i c.in-Some.column.now c.in-Some.item.now
    inside on at c.loop-i.invariant.4 c.args.line.number c.requires none)

pub loop-i-preserved : goal.loop-i-preserved
loop-i-preserved c =
    let cs = c.args.columns.now in
    let text = c.args.line.text.now in
    let row = c.loop-i.row.items in
    let s = c.loop-i.i-iterator in
    let t = c.next.new.self in
    let i = enumerate_count s in
    let column = c.in-Some.column.now in
    let here = c.in-Some.ensures.steps in
    let (lt, at, rest) = next_at (parts space text) (left (zip_first (enumerate_source s))) (left (zip_first (enumerate_source t))) c.in-Some.item.now [] i c.loop-i.invariant.2 here.0.0 in
    let (low, on, others) = next_at (order_of cs) (iter_rest (zip_second (enumerate_source s))) (iter_rest (zip_second (enumerate_source t))) column 0 i c.loop-i.invariant.3 here.0.1 in
    let inside : i < width cs.block = omega (arith, lt, c.requires) in
    let more : Filled cs.block (order_of cs) text (set row column c.in_ok-row.field-0) (i + 1) =
    filled_on cs.block (order_of cs) text row cs.isorder c.loop-i.invariant.5 i column c.in-Some.item.now
    inside on at c.loop-i.invariant.4 c.in_ok-row.field-0 c.in_ok-row.ensures in
    let kept : length (set row column c.in_ok-row.field-0) ≡ length row = length-set row column c.in_ok-row.field-0 in
    rw (c.deref_mut.ensures.value, items-with_items c.loop-i.row (set row column c.in_ok-row.field-0) kept) (
      c.in-Some.ensures.goes.keeps,
      tt,
      rw here.2 rest,
      rw here.2 others,
      rw here.2 more,
      kept ∙ c.loop-i.invariant.5,
    )

pub returns : goal.returns
returns c =
    let cs = c.args.columns.now in
    let text = c.args.line.text.now in
    let row = c.loop-i.row.items in
    let s = c.loop-i.i-iterator in
    let i = enumerate_count s in
    let ended : width cs.block ≤ i = ⊎_elim
    (λ first. omega (arith, c.requires, past_end (parts space text) (left (zip_first (enumerate_source s))) i c.loop-i.invariant.2 first.1.0))
    (λ second. omega (arith, cs.isorder.whole, length-drop i (order_of cs), ap length c.loop-i.invariant.3, second.1.0))
    c.in-None.ensures.steps.0 in
    row_filled cs.block (order_of cs) text row cs.isorder c.loop-i.invariant.5 c.requires (λ j low. c.loop-i.invariant.4 j (omega (arith, low, ended)))
