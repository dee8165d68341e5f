use Rattle.std.proofs.Common.{◌≡◌, ◌+◌, ◌<◌, map, length, get_or, ap, ◌∙◌, arith}
use Rattle.std.specs.List.{zip}
use Rattle.std.proofs.lemmas.List.{take_all, length_push}
use Rattle.std.proofs.lemmas.Slice.Zip.{get_or-zip, length-zip, zip_turn, zip_end}
use Rattle.model.specs.Of.{of}
use Rattle.model.specs.Rewrite.{blank_task}
use Rattle.timing.specs.declared.demand.Load.{Load}
use Rattle.timing.specs.Times.{load}
use Rattle.timing.proofs.Systems.{next_mapped}
use Rattle.timing.proofs.assignment.Assignment.loads.Goals as goal

pub loop-task-preserved : goal.loop-task-preserved
loop-task-preserved c =
    let s = of c.args.self.now.roster.now in
    let set = c.args.self.now.set.now in
    let i = length c.loop-task.yielded in
    let t = zip_turn s.tasks set c.loop-task.yielded c.into_iter-task-iterator.result c.loop-task.task-iterator c.next.new.self _ (cc) (cc) c.loop-task.yielded_by (c.in-Some.task, c.in-Some.step) c.in-Some.is c.next.ensures.steps in
    let here = get_or-zip s.tasks set i (blank_task, 0) t.0 t.1 in
    let low : i < length (zip s.tasks set) = omega (arith, t.0, t.1, length-zip s.tasks set) in
    let made : ◌≡◌ {A = Load} (record { time = c.time_at-time.result; cost = c.time_at-time.result + c.from-switch.result; period = c.from.result; jitter = c.from-in-loop-task.result }) (load s (get_or (zip s.tasks set) i (blank_task, 0))) =
    rw (here, ← t.2 blank_task, ← t.3 0) (cc) in
    rw length_push (c.push.ensures.items ∙ next_mapped (load s) (zip s.tasks set) c.loop-task.loads.items i (blank_task, 0) _ low c.loop-task.invariant made)

pub returns : goal.returns
returns c =
    let s = of c.args.self.now.roster.now in
    let set = c.args.self.now.set.now in
    let end = zip_end s.tasks set c.loop-task.yielded c.into_iter-task-iterator.result c.loop-task.task-iterator c.next.new.self _ (cc) (cc) c.loop-task.yielded_by c.in-None.is c.next.ensures.steps in
    c.loop-task.invariant ∙ ap (map (load s)) (take_all (length c.loop-task.yielded) (zip s.tasks set) (omega (arith, end, length-zip s.tasks set)))
