use Rattle.std.proofs.Common.{vec_items, arith}
use Rattle.model.specs.Of.{of}
use Rattle.planner.proofs.Recording.{recorded_none, recorded_more, recorded_all}
use Rattle.planner.proofs.replay.replay.Goals as goal

pub loop-call-init : goal.loop-call-init
loop-call-init g c =
    let x = c.open-planner.result in
    let empty = c.in_ok-entries.ensures in
    (recorded_none _ _ x c.args.calls.now _ empty.items c.open-planner.ensures.state c.open-planner.ensures.led, empty.len, empty.capacity)

pub loop-call-preserved : goal.loop-call-preserved
loop-call-preserved g c =
    let x = c.open-planner.result in
    let y = c.loop-call.planner in
    let z = c.record_call.new.planner in
    let more = recorded_more x c.args.calls.now c.loop-call.call-index _ (vec_items c.loop-call.entries) _ y z _ c.loop-call-test.true c.loop-call.invariant.0 c.record_call.ensures.call c.record_call.ensures.leads c.record_call.ensures.told c.record_call.ensures.steps c.push_reserved.ensures.items in
    (more, omega (arith, c.push_reserved.ensures.len, c.loop-call.invariant.1), omega (arith, c.push_reserved.ensures.capacity, c.loop-call.invariant.2))

pub returns : goal.returns
returns g c =
    recorded_all (of c.args.roster) c.args.test c.open-planner.result c.args.calls.now c.loop-call.call-index (vec_items c.loop-call.entries) c.loop-call.planner
    c.open-planner.ensures.state (omega (arith, c.loop-call-test.false)) c.loop-call.invariant.0
