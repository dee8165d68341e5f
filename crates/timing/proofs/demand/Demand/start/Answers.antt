use Rattle.std.proofs.Common.{arith}
use Rattle.timing.proofs.Demands.{demand_shares, under_start}
use Rattle.timing.proofs.demand.Demand.start.Goals as goal

pub returns-clause-under : goal.returns-clause-under
returns-clause-under c =
    let d = c.args.self.now in
    rw c.div_ceil.ensures (under_start _ _ _ _ d.positive (omega arith) (omega arith) (omega arith) (λ w. demand_shares _ _ w d.bounded))
