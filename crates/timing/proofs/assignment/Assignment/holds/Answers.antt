use Rattle.std.proofs.Common.{◌<◌, length, get_or, ap, ◌∙◌, arith}
use Rattle.std.proofs.ByRecursion.{All-get_or}
use Rattle.model.specs.Of.{of}
use Rattle.model.specs.Records.{SectionBounded}
use Rattle.model.proofs.Kept.{kept}
use Rattle.timing.specs.Times.{ceiling, hold}
use Rattle.timing.proofs.Blockers.{blank_section, made_hold, owner_stands}
use Rattle.timing.proofs.Systems.{next_mapped}
use Rattle.timing.proofs.assignment.Assignment.holds.Goals as goal

pub ceilings-ceilings-requires : goal.ceilings-ceilings-requires
ceilings-ceilings-requires c = rw c.sections.ensures (kept c.args.self.now.roster.now).sections_bounded

pub step_of-step-requires : goal.step_of-step-requires
step_of-step-requires c =
    let r = c.args.self.now.roster.now in
    owner_stands (of r) _ c.loop-section.section-index (kept r) c.sections-section-items.ensures c.loop-section-test.true

pub bounds-ceilings-section : goal.bounds-ceilings-section
bounds-ceilings-section c =
    let r = c.args.self.now.roster.now in
    let low : c.loop-section.section-index < length (of r).sections = rw c.sections-section-items.ensures at c.loop-section-test.true in
    rw c.sections-section-items.ensures (omega (arith, (All-get_or SectionBounded (of r).sections c.loop-section.section-index blank_section low (kept r).sections_bounded).1))

pub loop-section-preserved : goal.loop-section-preserved
loop-section-preserved c =
    let r = c.args.self.now.roster.now in
    let s = of r in
    let set = c.args.self.now.set.now in
    let i = c.loop-section.section-index in
    let items = c.sections-section-items.ensures in
    let low : i < length s.sections = rw items at c.loop-section-test.true in
    let resource = (get_or c.sections-section-items.result.now i blank_section).resource in
    let inside : resource < 8 = rw items (omega (arith, (All-get_or SectionBounded s.sections i blank_section low (kept r).sections_bounded).1)) in
    let roof = c.ceilings-ceilings.ensures resource inside ∙ ap (λ xs. ceiling xs resource) c.sections.ensures in
    let made = made_hold s set _ i _ _ _ items roof c.step_of-step.ensures.value c.time_at.ensures in
    c.push.ensures.items ∙ next_mapped (hold s set) s.sections c.loop-section.holds.items i blank_section _ low c.loop-section.invariant made
