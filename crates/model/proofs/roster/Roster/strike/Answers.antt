use Rattle.std.proofs.Common.{rules, refl}
use Rattle.model.specs.Of.{of}
use Rattle.model.specs.Records.{other_priority, other_owner}
use Rattle.model.proofs.Keeping.{keeps_at, keeps_struck, same_system}
use Rattle.model.proofs.Kept.{kept}
use Rattle.model.proofs.roster.Roster.strike.Goals as goal

pub invariant_of-self : goal.invariant_of-self
invariant_of-self c =
    let r = c.args.self.now in
    let tasks = c.retain.ensures (other_priority c.args.priority) (λ x b h. search rules) in
    let sections = c.retain-2.ensures (other_owner c.args.priority) (λ x b h. search rules) in
    record { keeps = keeps_at (same_system r.switch refl tasks sections) (keeps_struck (of r) c.args.priority (kept r)) }
