use Rattle.std.proofs.Common.{◌≡◌, ℕ, [], ◌+◌, ◌<◌, length, take, set, drop, refl, sym, ◌∙◌, subst, arith}
use Rattle.std.specs.Iterator.Adapters.{enumerate_source, enumerate_count}
use Rattle.std.proofs.lemmas.List.{length-set}
use Rattle.std.proofs.lemmas.Bool.{false≢true}
use Rattle.text.specs.Left.{left}
use Rattle.text.specs.Lines.{space, parts}
use Rattle.files.specs.Columns.{Adds, AddsNone}
use Rattle.files.specs.Layout.{Names}
use Rattle.files.proofs.Naming.{Named, next_at, named_all, named_more, named_none, names_count, width_few}
use Rattle.files.proofs.rows.names.read_order.Goals as goal

pub returns-then-not-fills : goal.returns-then-not-fills
returns-then-not-fills c order is = false≢true (c.if-not-fills.ensures.1 (names_count c.args.block order c.args.text.now is))

pub returns-in_err-order : goal.returns-in_err-order
returns-in_err-order c =
    let b = c.args.block in
    let text = c.args.text.now in
    let s = c.loop-place.place-iterator in
    let here = c.in-Some.ensures.steps in
    let count = c.if-not-fills.ensures.0 refl in
    let (lt, at, _) = next_at (parts space text) (left (enumerate_source s)) (left (enumerate_source c.next.new.self)) c.in-Some.item.now [] (enumerate_count s) c.loop-place.invariant.2 here.0 in
    let none : AddsNone b (take (enumerate_count s) c.loop-place.order) c.in-Some.item.now = rw here.1 at c.in_err-order.ensures in
    rw c.from_residual.ensures
    (named_none b (take (enumerate_count s) c.loop-place.order) text (enumerate_count s) (omega (arith, count, lt)) c.loop-place.invariant.3 (rw at none))

pub loop-place-preserved : goal.loop-place-preserved
loop-place-preserved c =
    let b = c.args.block in
    let ps = parts space c.args.text.now in
    let o = c.loop-place.order in
    let s = c.loop-place.place-iterator in
    let k = c.in_ok-order.field-0 in
    let here = c.in-Some.ensures.steps in
    let count = c.if-not-fills.ensures.0 refl in
    let (lt, at, rest) = next_at ps (left (enumerate_source s)) (left (enumerate_source c.next.new.self)) c.in-Some.item.now [] (enumerate_count s) c.loop-place.invariant.2 here.0 in
    let adds : Adds b (take (enumerate_count s) o) c.in-Some.item.now k = rw here.1 at c.in_ok-order.ensures in
    let room : enumerate_count s < length o = omega (arith, lt, count, width_few b, c.loop-place.invariant.4) in
    let more : Named b (take (enumerate_count s + 1) (set o (enumerate_count s) k)) ps (enumerate_count s + 1) =
    named_more b o c.in-Some.item.now ps (enumerate_count s) k lt room c.loop-place.invariant.3 at adds in (
      c.in-Some.ensures.goes.keeps,
      tt,
      rw here.2 rest,
      rw (here.2, here.1) more,
      length-set o c.in-Some.place k ∙ c.loop-place.invariant.4,
    )

pub returns : goal.returns
returns c =
    let b = c.args.block in
    let text = c.args.text.now in
    let o = c.loop-place.order in
    let s = c.loop-place.place-iterator in
    let end : drop (enumerate_count s) (parts space text) ≡ [] = sym c.loop-place.invariant.2 ∙ c.in-None.ensures.steps.0.0 in
    let (e, is) = named_all b (take (enumerate_count s) o) text (enumerate_count s) (c.if-not-fills.ensures.0 refl) end c.loop-place.invariant.3 in
    subst (λ (n : ℕ). Names b (take n o) text) e is
