use Rattle.std.proofs.Common.{refl, arith}
use Rattle.model.specs.Of.{of}
use Rattle.model.proofs.Kept.{kept}
use Rattle.tariffs.specs.Bounds.{energy_bound, energy_named}
use Rattle.tariffs.proofs.energy.EnergyTariff.price.Goals as goal

pub overflow_mul-result-2 : goal.overflow_mul-result-2
overflow_mul-result-2 c =
    let bound = energy_bound (of c.args.roster.now) c.args.place c.args.step (kept c.args.roster.now) in
    let is = energy_named (of c.args.roster.now) c.args.place c.args.step c.in-Some.ensures in
    rw (c.from.ensures, c.from-voltage.ensures, is) (omega arith)

pub returns : goal.returns
returns c =
    let bound = energy_bound (of c.args.roster.now) c.args.place c.args.step (kept c.args.roster.now) in
    let is = energy_named (of c.args.roster.now) c.args.place c.args.step c.in-Some.ensures in
    rw (c.from.ensures, c.from-voltage.ensures, is) (record { value = refl; count = bound })
