use Rattle.std.proofs.Common.{◌∙◌}
use Rattle.model.proofs.Kept.{kept}
use Rattle.model.proofs.Lookups.{finds_some}
use Rattle.model.proofs.roster.Roster.stands.Goals as goal

pub returns : goal.returns
returns c =
    c.is_some.ensures
    ∙ finds_some _ _ c.find.result (kept c.args.self.now).rising (rw c.as_slice.ensures at c.find.ensures)
