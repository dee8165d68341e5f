use Rattle.std.proofs.Common.{rules, refl}
use Rattle.model.specs.Of.{of}
use Rattle.model.specs.Records.{other_section}
use Rattle.model.proofs.Keeping.{keeps_at, keeps_section_struck, same_system}
use Rattle.model.proofs.Kept.{kept}
use Rattle.model.proofs.roster.Roster.strike_section.Goals as goal

pub invariant_of-self : goal.invariant_of-self
invariant_of-self c =
    let r = c.args.self.now in
    let sections = c.retain.ensures (other_section c.args.owner c.args.resource) (λ x b h. search rules) in
    record { keeps = keeps_at (same_system r.switch refl refl sections) (keeps_section_struck (of r) c.args.owner c.args.resource (kept r)) }
