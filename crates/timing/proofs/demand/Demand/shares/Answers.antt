use Rattle.std.proofs.iter.Serving.{serving}
use Rattle.timing.proofs.Demands.{bounded_at, shares_fit}
use Rattle.timing.proofs.demand.Demand.shares.Goals as goal

pub sum-requires-clause-can : goal.sum-requires-clause-can
sum-requires-clause-can c = grind (serving, bounded_at)

pub sum-requires-clause-fits : goal.sum-requires-clause-fits
sum-requires-clause-fits c = grind (serving, bounded_at, shares_fit)
