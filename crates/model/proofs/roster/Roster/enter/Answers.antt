use Rattle.std.proofs.Common.{◌≡◌, ◌≤◌, length, refl, ap, ◌∙◌, arith}
use Rattle.std.specs.List.{insert}
use Rattle.std.proofs.lemmas.List.Sums.{prefix_len-le-length}
use Rattle.model.specs.declared.refusals.RosterRefusal.TheVariants.{Taken, TasksFull}
use Rattle.model.specs.Calls.{joined_by}
use Rattle.model.specs.Held.{held}
use Rattle.model.specs.Lookup.{rank}
use Rattle.model.specs.Of.{of}
use Rattle.model.specs.Records.{before, has_priority}
use Rattle.model.proofs.Keeping.{keeps_at, keeps_entered, same_system}
use Rattle.model.proofs.Kept.{kept}
use Rattle.model.proofs.Lists.{all_from_none}
use Rattle.model.proofs.Places.{inserted_joins}
use Rattle.model.proofs.roster.Roster.enter.Goals as goal
use Rattle.model.proofs.roster.Roster.enter.Goals.{After-insert}

pub insert-requires : goal.insert-requires
insert-requires c =
    let tasks = held c.args.self.now.tasks in
    let p = c.args.task.priority in
    let at : c.rank-at.result ≤ length tasks = rw (c.rank-at.ensures ∙ ap (rank p) c.tasks.ensures) (prefix_len-le-length (before p) tasks) in
    (omega arith, (c.in_ok-judge_entry.ensures TasksFull, at))

-- what `insert` left, at the place that `rank` gave
tasks : (c : After-insert) → held c.insert.new.self ≡ joined_by c.args.task (held c.args.self.now.tasks)
tasks c =
    let t = c.args.task in
    let old = held c.args.self.now.tasks in
    c.insert.ensures
    ∙ ap (λ k. insert old k t) (c.rank-at.ensures ∙ ap (rank t.priority) c.tasks.ensures)
    ∙ inserted_joins t old (kept c.args.self.now).rising (all_from_none (has_priority t.priority) old (c.in_ok-judge_entry.ensures Taken))

pub invariant_of-self : goal.invariant_of-self
invariant_of-self c =
    let r = c.args.self.now in
    record { keeps = keeps_at (same_system r.switch refl (tasks (goal.at.invariant_of-self c).After-insert) refl) (keeps_entered (of r) c.args.task (kept r) c.in_ok-judge_entry.ensures) }

pub returns : goal.returns
returns c = (c.in_ok-judge_entry.ensures, same_system c.args.self.now.switch refl (tasks (goal.at.returns c).After-insert) refl)
