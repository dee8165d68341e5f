use Rattle.std.proofs.Common.{◌≡◌, ◌≤◌, length, Some, sym, ap, ◌∙◌, arith}
use Rattle.std.proofs.lemmas.List.{length-take-le}
use Rattle.model.specs.Of.{of}
use Rattle.odometer.proofs.Numbers.{length_digits}
use Rattle.planner.specs.Calls.{written}
use Rattle.planner.specs.Parts.{state}
use Rattle.planner.specs.Shown.{found, found_in}
use Rattle.planner.proofs.Bounds.{in_bounds}
use Rattle.planner.proofs.Showing.{rules_kept, wrote, written_cheapest}
use Rattle.planner.proofs.Striding.{set_at}
use Rattle.planner.proofs.planner.Planner.show.Goals as goal

pub copy_from_slice-requires : goal.copy_from_slice-requires
copy_from_slice-requires g c =
    let x = c.in-Some.shown in
    let steps = ap length c.steps.ensures ∙ length_digits x.at.base x.at.places x.at.number ∙ c.self.invariant.shown_places x c.in-Some.is in
    length-take-le _ _ c.if-list-tasks.false ∙ ap length c.tasks-tasks.ensures ∙ sym steps

pub returns-clause-outcome : goal.returns-clause-outcome
returns-clause-outcome g c =
    let p = c.self.inside in
    let s = of p.roster in
    let x = c.in-Some.shown in
    let list = c.args.list.now in
    let is : found_in p.shown ≡ Some (found x) = ap found_in c.in-Some.is in
    let long : length s.tasks ≤ length list = omega (arith, c.if-list-tasks.false, ap length c.tasks-tasks.ensures) in
    let copied = c.copy_from_slice.ensures.after ∙ c.steps.ensures in
    let steps = set_at s x.at.base x.at.places x.at.number c.copy_from_slice.new.self copied (c.self.invariant.shown_base x c.in-Some.is) (c.self.invariant.shown_places x c.in-Some.is) in
    let after = wrote s x.at.number c.copy_from_slice.new.self list c.tasks-tasks.ensures steps in
    rw (← c.self.view_is) (rules_kept (state p) list (found x) is long, after ∙ ap (λ y. written s y list) (sym is))

pub returns-clause-claim : goal.returns-clause-claim
returns-clause-claim g c =
    let p = c.self.inside in
    let s = of p.roster in
    let x = c.in-Some.shown in
    let copied = c.copy_from_slice.ensures.after ∙ c.steps.ensures in
    let steps = set_at s x.at.base x.at.places x.at.number c.copy_from_slice.new.self copied (c.self.invariant.shown_base x c.in-Some.is) (c.self.invariant.shown_places x c.in-Some.is) in
    let after = wrote s x.at.number c.copy_from_slice.new.self c.args.list.now c.tasks-tasks.ensures steps in
    rw (← c.self.view_is) (λ opening test events h. written_cheapest opening test events (state p) (found x) _ _ (ap found_in c.in-Some.is) after h)

pub returns-clause-bounds : goal.returns-clause-bounds
returns-clause-bounds g c = rw (← c.self.view_is) (in_bounds c.self.inside c.self.invariant)

pub returns-then-list-tasks-clause-bounds : goal.returns-then-list-tasks-clause-bounds
returns-then-list-tasks-clause-bounds g c = rw (← c.self.view_is) (in_bounds c.self.inside c.self.invariant)

pub returns-in_default-clause-bounds : goal.returns-in_default-clause-bounds
returns-in_default-clause-bounds g c = rw (← c.self.view_is) (in_bounds c.self.inside c.self.invariant)
