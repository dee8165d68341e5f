use Rattle.std.proofs.Common.{refl}
use Rattle.std.proofs.lemmas.Result.{err_from_is_err_and}
use Rattle.planner.proofs.Bounds.{in_bounds}
use Rattle.planner.proofs.Leading.{follows, follows_refused_plan}
use Rattle.planner.proofs.Striding.{moved}
use Rattle.planner.proofs.planner.Planner.plan.Goals as goal

pub returns-in_err-judge_allowance : goal.returns-in_err-judge_allowance
returns-in_err-judge_allowance g c =
    let p = err_from_is_err_and c.from_residual.result c.from_residual.ensures.1 in
    rw (p.1, p.2) (follows_refused_plan c.args.self.now _ c.args.allowance _ (rw (← c.self.view_is) (in_bounds c.self.inside c.self.invariant)) c.in_err-judge_allowance.ensures refl)

pub returns : goal.returns
returns g c =
    let x = c.args.self.now in
    let y = c.walk-strides.new.self in
    let walk = c.walk-strides.ensures in
    let answer = c.progress.ensures in
    let moves = moved x y c.args.allowance c.walk-strides.result c.progress.result walk.walked walk.few walk.whole answer.strides answer.settled answer.mark in
    follows g.met.Q.Test.lawful g.met.C.Amount.lawful g.met.C.Tariff.one x _ y (rw (← c.self.view_is) (in_bounds c.self.inside c.self.invariant)) answer.bounds (c.in_ok-judge_allowance.ensures, moves)
