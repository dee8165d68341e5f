use Rattle.std.proofs.Common.{arith}
use Rattle.odometer.proofs.Numbers.{power_small}
use Rattle.odometer.proofs.wheels.turns.power.Goals as goal

pub pow-requires : goal.pow-requires
pow-requires c = omega (arith, power_small c.from.result c.args.k (omega (arith, c.requires.base)) c.requires.few)
