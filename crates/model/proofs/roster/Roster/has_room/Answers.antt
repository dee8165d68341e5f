-- The task that `find` answers is the owner, and where it answers nothing there is none.
use Rattle.std.proofs.Common.{◌≡◌, ℕ, Bool, true, List, get_or, Some, None, Option, MatchOption, IfSome, Decides, rules}
use Rattle.std.specs.Option.{option_map}
use Rattle.model.specs.declared.kinds.Section.{Section}
use Rattle.model.specs.declared.kinds.Task.{Task}
use Rattle.model.specs.Records.{Within}
use Rattle.model.specs.Rewrite.{blank_task}
use Rattle.model.proofs.Kept.{kept}
use Rattle.model.proofs.Lookups.{looked_up}
use Rattle.model.proofs.roster.Roster.has_room.Goals as goal

asked : (tasks : List Task) (c : Section) (r : Option ℕ) (b : Bool) (Says : ℕ → Type 0) → ((k : ℕ) → Says k → Decides b (Within c (get_or tasks k blank_task)))
    → MatchOption r (b ≡ true) Says → Decides b (IfSome (option_map (λ k. get_or tasks k blank_task) r) (Within c))
asked tasks c None b Says reads holds = (λ _. tt, λ _. holds)
asked tasks c (Some k) b Says reads says = reads k says

pub returns : goal.returns
returns c =
    let same = c.as_slice-tasks.ensures in
    rw (← same, looked_up c.as_slice-tasks.result.now c.args.section.now.owner c.find.result (rw same (kept c.args.self.now).rising) c.find.ensures)
    (asked c.as_slice-tasks.result.now c.args.section.now c.find.result c.is_none_or.result _ (λ k says. search rules) c.is_none_or.ensures)
