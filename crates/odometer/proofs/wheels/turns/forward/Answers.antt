use Rattle.std.proofs.Common.{◌≡◌, ℕ, suc, ◌-◌, ◌<◌, ◌≤◌, length, get_or, take, replicate, rules, arith, ◌∙◌}
use Rattle.std.proofs.lemmas.Grind.{common_steps}
use Rattle.odometer.proofs.Turning.{turned_at, turned_over, cleared_after}
use Rattle.odometer.proofs.wheels.turns.forward.Goals as goal

pub returns-in-Some : goal.returns-in-Some
returns-in-Some c n shows =
    let ws = c.args.wheels.now in
    let a = length ws - c.args.k in
    let p = c.in-Some.turning in
    let less : p < a = search rules in
    let has : get_or (take a ws) p 0 < c.args.base - 1 = grind (arith, common_steps) in
    let full : (j : ℕ) → p < j → j < a → c.args.base - 1 ≤ get_or (take a ws) j 0 = λ j above below. grind (arith, common_steps) in
    let zeros : c.fill.new.self ≡ replicate (length ws - suc p) 0 = search rules in
    cleared_after ws c.fill.new.self p _ (omega arith) zeros ∙ turned_at c.args.base c.args.k n a ws c.requires.some (omega arith) shows p less has full

pub returns-in-None : goal.returns-in-None
returns-in-None c n shows =
    let ws = c.args.wheels.now in
    let a = length ws - c.args.k in
    let full : (j : ℕ) → j < a → c.args.base - 1 ≤ get_or (take a ws) j 0 = λ j below. grind (arith, common_steps) in
    let zeros : c.fill-in-None.new.self ≡ replicate (length ws) 0 = search rules in
    zeros ∙ turned_over c.args.base c.args.k n a ws c.requires.some (omega arith) shows full
