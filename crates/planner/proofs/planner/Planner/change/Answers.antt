use Rattle.std.proofs.Common.{None, Ok, refl}
use Rattle.std.proofs.lemmas.Result.{err_from_is_err_and}
use Rattle.planner.specs.Parts.{state}
use Rattle.planner.specs.Search.{search}
use Rattle.planner.proofs.Bounds.{in_bounds, fresh_bounds}
use Rattle.planner.proofs.Leading.{follows, follows_refused_change, happens_change}
use Rattle.planner.proofs.Posed.{rates}
use Rattle.planner.proofs.planner.Planner.change.Goals as goal

pub returns-in_err-apply : goal.returns-in_err-apply
returns-in_err-apply g c =
    let x = state c.self.inside in
    let p = err_from_is_err_and c.from_residual.result c.from_residual.ensures.1 in
    rw (p.1, p.2, ← c.self.view_is)
    (follows_refused_change x _ c.args.change c.in_err-apply.field-0.0 (in_bounds c.self.inside c.self.invariant) c.in_err-apply.ensures.0 (λ i. record x { stands = c.in_err-apply.ensures.1 i }))

pub returns : goal.returns
returns g c =
    let x = state c.self.inside in
    rw (← c.self.view_is)
    (follows g.met.Q.Test.lawful g.met.C.Amount.lawful g.met.C.Tariff.one x _ _ (in_bounds c.self.inside c.self.invariant) (fresh_bounds c.apply.new.roster x.test _ c.first_set-self-inside.ensures.number)
    (happens_change g.Q.Test (rates g.C.Amount g.C.Tariff) x _ c.args.change (Ok tt) c.in_ok-apply.ensures refl (λ i. search (c.first_set-self-inside.ensures.number i) None)))
