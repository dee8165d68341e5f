use Rattle.std.proofs.Common.{◌≡◌, map, None, refl, ◌∙◌}
use Rattle.std.proofs.lemmas.Bool.{false≢true}
use Rattle.model.specs.declared.refusals.RosterRefusal.TheVariants.{Absent}
use Rattle.model.specs.Calls.{replaced_by}
use Rattle.model.specs.Held.{held}
use Rattle.model.specs.Of.{of}
use Rattle.model.proofs.Keeping.{keeps_at, keeps_altered, same_system}
use Rattle.model.proofs.Kept.{kept}
use Rattle.model.proofs.Lookups.{finds_some}
use Rattle.model.proofs.Places.{set_rewrites}
use Rattle.model.proofs.roster.Roster.alter.Goals as goal
use Rattle.model.proofs.roster.Roster.alter.Goals.{After-alter}

-- what the rewriting left, at the place that `find` gave
tasks : (c : After-alter) → held c.alter.new.self ≡ map (replaced_by c.args.task) (held c.args.self.now.tasks)
tasks c =
    let r = c.args.self.now in
    let there = rw c.tasks.ensures at c.in-Some.ensures in
    c.alter.ensures ∙ set_rewrites c.args.task (held r.tasks) _ (kept r).rising there.0 there.1

pub invariant_of-self : goal.invariant_of-self
invariant_of-self c =
    let r = c.args.self.now in
    let keeps = keeps_altered (of r) c.args.task (kept r) c.in_ok-judge_alteration.ensures in
    record { keeps = keeps_at (same_system r.switch refl (tasks (goal.at.invariant_of-self c).After-alter) refl) keeps }

pub returns-in-Some : goal.returns-in-Some
returns-in-Some c = (c.in_ok-judge_alteration.ensures, same_system c.args.self.now.switch refl (tasks (goal.at.returns-in-Some c).After-alter) refl)

-- a task that stands is found
pub returns-in_default : goal.returns-in_default
returns-in_default c =
    let r = c.args.self.now in
    let none = finds_some (held r.tasks) c.args.task.priority None (kept r).rising (rw c.tasks.ensures at c.in_default.ensures) in
    absurd (false≢true (none ∙ c.in_ok-judge_alteration.ensures Absent))
