use Rattle.model.specs.Of.{of}
use Rattle.planner.proofs.Bounds.{fresh_bounds}
use Rattle.planner.proofs.Leading.{led_opening}
use Rattle.planner.proofs.Posed.{rates}
use Rattle.planner.proofs.planner.Planner.open.Goals as goal

pub returns-clause-led : goal.returns-clause-led
returns-clause-led g c = rw c.first_set.ensures.number (led_opening g.Q.Test (rates g.C.Amount g.C.Tariff) (of c.args.roster) c.args.test)

pub returns-clause-bounds : goal.returns-clause-bounds
returns-clause-bounds g c = fresh_bounds c.args.roster c.args.test _ c.first_set.ensures.number
