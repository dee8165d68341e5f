use Rattle.std.proofs.Common.{◌≡◌, ℕ, ◌+◌, ◌<◌, ◌≤◌, List, length, get_or, take, sym, ap, ◌∙◌, arith, length-take, length-take-le}
use Rattle.std.proofs.ByRecursion.{All-take}
use Rattle.model.specs.Of.{of}
use Rattle.model.specs.System.{System}
use Rattle.model.proofs.Kept.{kept}
use Rattle.timing.specs.declared.demand.Load.{Load}
use Rattle.timing.specs.Bounds.{max_time}
use Rattle.timing.specs.Demand.{Bounded}
use Rattle.timing.specs.Times.{IsSet, loads as loads_of}
use Rattle.timing.specs.Windows.{idle}
use Rattle.timing.proofs.Limits.{length-loads, loads_bounded, own_limits}
use Rattle.timing.proofs.analysis.Analysis.demand.Goals as goal
use Rattle.timing.proofs.analysis.Analysis.demand.Goals.{After-blocking}

-- a place of a task is one of its loads
inside : (s : System) (set : List ℕ) (i : ℕ) (loads : List Load) → IsSet s set → loads ≡ loads_of s set → i < length s.tasks → i < length loads
inside s set i loads isset is low = rw (is, length-loads s set isset) low

pub bounds-deref-place : goal.bounds-deref-place
bounds-deref-place c =
    let a = c.args.self.now in
    inside _ _ _ _ a.given.isset (c.deref.ensures.0 ∙ a.loads_are) c.requires

pub slice_bounds-result-end : goal.slice_bounds-result-end
slice_bounds-result-end c =
    let a = c.args.self.now in
    sym (length-take-le c.args.place c.deref-3.result.now (omega (arith, inside _ _ _ _ a.given.isset (c.deref-3.ensures.0 ∙ a.loads_are) c.requires)))

-- the task's own part is at least 1, and bounded
limits : (c : After-blocking) → (1 ≤ (get_or c.deref.result.now c.args.place idle).time + c.blocking.result) × ((get_or c.deref.result.now c.args.place idle).time + c.blocking.result ≤ max_time + max_time)
limits c =
    let a = c.args.self.now in
    let r = a.given.roster.now in
    rw (c.blocking.ensures, c.tasks.ensures, c.deref.ensures.0, a.loads_are, c.deref-2.ensures.0, a.holds_are)
    (own_limits (of r) a.given.set.now (kept r) a.given.isset c.args.place c.requires)

pub overflow_add-result : goal.overflow_add-result
overflow_add-result c = omega (arith, limits (goal.at.overflow_add-result c).After-blocking)

pub invariant_of-result : goal.invariant_of-result
invariant_of-result c =
    let a = c.args.self.now in
    let r = a.given.roster.now in
    let set = a.given.set.now in
    let own = limits (goal.at.invariant_of-result c).After-blocking in
    let before = ap (take c.args.place) (c.deref-3.ensures.0 ∙ a.loads_are) in
    record {
      positive = own.0;
      small = omega (arith, own.1);
      few = rw before (omega (arith, length-take c.args.place (loads_of (of r) set), (kept r).few_tasks, c.requires));
      bounded = rw before (All-take Bounded c.args.place (loads_of (of r) set) (loads_bounded (of r) set (kept r) a.given.isset));
    }
