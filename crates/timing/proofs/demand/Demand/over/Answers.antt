use Rattle.std.proofs.Common.{◌≡◌, ◌<◌, ◌^◌, sum_by, rules, arith}
use Rattle.std.proofs.iter.Serving.{serving}
use Rattle.timing.specs.Demand.{interference}
use Rattle.timing.proofs.Demands.{bounded_at, interferences_fit}
use Rattle.timing.proofs.demand.Demand.over.Goals as goal

pub sum-requires-clause-can : goal.sum-requires-clause-can
sum-requires-clause-can c = grind (serving, bounded_at)

pub sum-requires-clause-fits : goal.sum-requires-clause-fits
sum-requires-clause-fits c =
    let d = c.args.self.now in
    let small : sum_by (interference c.args.w) d.urgent.now < 2 ^ 64 = omega (arith, interferences_fit d.urgent.now c.args.w d.few d.bounded c.requires) in
    search rules

pub overflow_add-result : goal.overflow_add-result
overflow_add-result c =
    let d = c.args.self.now in
    let is : c.sum.result ≡ sum_by (interference c.args.w) d.urgent.now = search rules in
    omega (arith, is, interferences_fit d.urgent.now c.args.w d.few d.bounded c.requires)
