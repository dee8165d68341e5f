use Rattle.std.proofs.Common.{ℕ, ◌+◌, ◌<◌, ◌≢◌, List, length, get_or, set as put, ap, arith, below_more, length-take}
use Rattle.std.proofs.lemmas.List.{get_or-set_other, get_or-set_same}
use Rattle.model.specs.Of.{of}
use Rattle.model.specs.System.{System}
use Rattle.model.proofs.Kept.{kept}
use Rattle.timing.specs.Windows.{Told}
use Rattle.timing.proofs.Fronts.{told_front}
use Rattle.timing.proofs.Judgements.{told_from, told_within}
use Rattle.timing.proofs.Limits.{task_limits}
use Rattle.timing.proofs.windows.windows.Goals as goal

-- one more place
told_more : (s : System) (set out : List ℕ) (i v : ℕ) → i < length out → ((k : ℕ) → k < i → Told s set k (get_or out k 0)) → Told s set i v → (k : ℕ) → k < i + 1 → Told s set k (get_or (put out i v) k 0)
told_more s set out i v room so_far here =
    below_more (λ k. Told s set k (get_or (put out i v) k 0)) i
    (λ k h. let ne : k ≢ i = omega arith in rw (get_or-set_other out i k v 0 ne) (so_far k h))
    (rw (get_or-set_same out i v 0 room) here)

pub overflow_cast-window : goal.overflow_cast-window
overflow_cast-window c =
    let r = c.args.roster.now in
    let low : c.loop-place.place < length (of r).tasks = omega (arith, ap length c.tasks-tasks.ensures, c.loop-place-test.true, length-take (length c.tasks-tasks.result.now) c.args.out.now) in
    let within = rw c.in_ok-analysis.ensures.0 at (told_within _ _ _ c.window.result c.window.ensures) in
    omega (arith, c.unwrap_or.ensures, within, (task_limits (of r) c.loop-place.place (kept r) low).1)

pub loop-place-preserved : goal.loop-place-preserved
loop-place-preserved c =
    let r = c.args.roster.now in
    let list = c.args.set.now in
    let i = c.loop-place.place in
    let told = rw (c.in_ok-analysis.ensures.0, c.in_ok-analysis.ensures.1) at (told_from _ _ _ c.window.result c.window.ensures) in
    let here : Told (of r) list i c.unwrap_or.result = rw c.unwrap_or.ensures (told_front (of r) list i _ (kept r) told) in
    told_more (of r) list c.loop-place.window-items i c.unwrap_or.result (omega arith) c.loop-place.invariant here
