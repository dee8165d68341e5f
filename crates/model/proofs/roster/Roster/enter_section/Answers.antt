use Rattle.std.proofs.Common.{refl, arith}
use Rattle.model.specs.declared.refusals.RosterRefusal.TheVariants.{SectionsFull}
use Rattle.model.specs.Of.{of}
use Rattle.model.proofs.Keeping.{keeps_at, keeps_section_entered, same_system}
use Rattle.model.proofs.Kept.{kept}
use Rattle.model.proofs.roster.Roster.enter_section.Goals as goal

pub push-requires : goal.push-requires
push-requires c = (omega arith, c.in_ok-judge_section.ensures SectionsFull)

pub invariant_of-self : goal.invariant_of-self
invariant_of-self c =
    let r = c.args.self.now in
    let keeps = keeps_section_entered (of r) c.args.section (kept r) c.in_ok-judge_section.ensures in
    record { keeps = keeps_at (same_system r.switch refl refl c.push.ensures) keeps }
