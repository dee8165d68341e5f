use Rattle.std.proofs.Common.{◌≡◌, ◌<◌, eqb, length, get_or, take, sym, ◌∙◌, arith}
use Rattle.std.proofs.lemmas.List.{take_all}
use Rattle.std.proofs.lemmas.List.Sums.{count_by_more_yes, count_by_more_no}
use Rattle.std.proofs.lemmas.Bool.{eq-eqb, ne_eqb}
use Rattle.text.specs.Lines.{space}
use Rattle.text.proofs.Parting.{length_parts}
use Rattle.text.proofs.items.count.Goals as goal
use Rattle.text.proofs.items.count.Goals.{then-b-eq-SPACE, else-b-eq-SPACE}

pub loop-b-preserved : goal.loop-b-preserved
loop-b-preserved c =
    let line = c.args.line.now in
    let i = c.loop-b.b-index in
    let lt : i < length line = omega arith in
    elim c.if-b-eq-SPACE.branch [
      | then-b-eq-SPACE w ↦
          let more = count_by_more_yes (λ b. eqb b space) line i 0 lt (eq-eqb (get_or line i 0) space w.if-b-eq-SPACE.true) in
          (omega (arith, w.count-is), omega (arith, w.count-is))
      | else-b-eq-SPACE w ↦
          let same = count_by_more_no (λ b. eqb b space) line i 0 lt (ne_eqb (get_or line i 0) space w.if-b-eq-SPACE.false) in
          (omega (arith, w.count-is), omega (arith, w.count-is))
    ]

pub returns : goal.returns
returns c =
    let line = c.args.line.now in
    let all : take c.loop-b.b-index line ≡ line = take_all c.loop-b.b-index line (omega arith) in
    (rw all at c.loop-b.invariant.0) ∙ sym (length_parts space line)
