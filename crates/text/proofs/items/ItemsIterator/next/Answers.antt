use Rattle.std.proofs.Common.{length, sym, ap, ◌∙◌, arith}
use Rattle.std.specs.Option.{option_map}
use Rattle.text.specs.Left.{left}
use Rattle.text.specs.Lines.{space}
use Rattle.text.proofs.Cutting.{parts_at}
use Rattle.text.proofs.Parting.{parts_whole}
use Rattle.text.proofs.items.ItemsIterator.next.Goals as goal

pub returns-in-Some-clause-steps : goal.returns-in-Some-clause-steps
returns-in-Some-clause-steps c =
    sym (ap left c.self.view_is) ∙ ap (λ r. left (option_map (λ line. line.now) r)) c.in_ok-line.was ∙ parts_at space c.in_ok-line.line.now c.in-Some.item.now c.in-Some.rest.now c.in-Some.ensures

pub returns-in-Some-clause-goes : goal.returns-in-Some-clause-goes
returns-in-Some-clause-goes c =
    let fewer = ap length (returns-in-Some-clause-steps c) in
    record { on = λ _. (tt, tt, omega (arith, fewer)); keeps = tt; rests = λ _. tt }

pub returns-in-None-clause-steps : goal.returns-in-None-clause-steps
returns-in-None-clause-steps c =
    sym (ap left c.self.view_is) ∙ ap (λ r. left (option_map (λ line. line.now) r)) c.in_ok-line.was ∙ parts_whole space c.in_ok-line.line.now c.in-None.ensures

pub returns-in-None-clause-goes : goal.returns-in-None-clause-goes
returns-in-None-clause-goes c =
    let fewer = ap length (returns-in-None-clause-steps c) in
    record { on = λ _. (tt, tt, omega (arith, fewer)); keeps = tt; rests = λ _. tt }
