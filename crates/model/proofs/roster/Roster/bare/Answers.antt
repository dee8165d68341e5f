use Rattle.std.proofs.Common.{arith}
use Rattle.model.specs.declared.refusals.StepsRefusal.TheVariants.{Count}
use Rattle.model.proofs.Keeping.{keeps_at, keeps_loaded, same_system}
use Rattle.model.proofs.roster.Roster.bare.Goals as goal

pub from_slice-requires : goal.from_slice-requires
from_slice-requires c = (omega arith, (c.requires Count).1)

pub invariant_of-result : goal.invariant_of-result
invariant_of-result c =
    let same = same_system c.args.switch c.from_slice.ensures c.empty.ensures c.empty-2.ensures in
    record { keeps = keeps_at same (keeps_loaded c.args.steps.now c.args.switch c.requires) }
