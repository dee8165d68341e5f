use Rattle.std.proofs.Common.{◌≡◌, rules}
use Rattle.model.specs.Growth.{margin, grown, Grows}
use Rattle.model.specs.Held.{held}
use Rattle.model.specs.System.{system}
use Rattle.model.specs.Of.{of}
use Rattle.model.proofs.Growing.{all_grown, fitting_section, fitting_task, keeps_grown, no_section_grown, no_task_grown}
use Rattle.model.proofs.Keeping.{keeps_at}
use Rattle.model.proofs.Kept.{kept}
use Rattle.model.proofs.roster.Roster.grown.Goals as goal
use Rattle.model.proofs.roster.Roster.grown.Goals.{In_ok-sections}

pub returns-in_err-tasks : goal.returns-in_err-tasks
returns-in_err-tasks c =
    let m = margin c.args.percent in
    rw c.from_residual.ensures (no_task_grown m (of c.args.self.now) (c.in_err-tasks.ensures (fitting_task m) (λ x r p. search rules)))

pub returns-in_err-sections : goal.returns-in_err-sections
returns-in_err-sections c =
    let m = margin c.args.percent in
    rw c.from_residual-in_err-sections.ensures (no_section_grown m (of c.args.self.now) (c.in_err-sections.ensures (fitting_section m) (λ x r p. search rules)))

-- every task and section has grown
grows : (c : In_ok-sections) → Grows (margin c.args.percent) (of c.args.self.now)
    × (system (of c.args.self.now).steps (of c.args.self.now).switch (held c.in_ok-tasks.tasks) (held c.in_ok-sections.sections) ≡ grown (margin c.args.percent) (of c.args.self.now))
grows c =
    let m = margin c.args.percent in
    all_grown m (of c.args.self.now) (c.in_ok-tasks.ensures (fitting_task m) (λ x r p. search rules)) (c.in_ok-sections.ensures (fitting_section m) (λ x r p. search rules))

pub invariant_of-result : goal.invariant_of-result
invariant_of-result c =
    let r = c.args.self.now in
    let g = grows (goal.at.invariant_of-result c).In_ok-sections in
    record { keeps = keeps_at g.1 (keeps_grown (margin c.args.percent) (of r) (kept r) g.0) }

pub returns : goal.returns
returns c = grows (goal.at.returns c).In_ok-sections
