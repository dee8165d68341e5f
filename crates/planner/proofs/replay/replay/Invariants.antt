use Rattle.std.proofs.Common.{◌≡◌, ◌≤◌, length, vec_items, vec_len, vec_capacity}
use Rattle.planner.proofs.Posed.{rates}
use Rattle.planner.proofs.Recording.{Recording}
use Rattle.planner.proofs.replay.replay.Given as goal

abbrev pub invariant-loop-call : goal.invariant-loop-call
invariant-loop-call g l =
    Recording g.Q.Test (rates g.C.Amount g.C.Tariff) l.initial.planner l.calls l.call-index (vec_items l.entries) l.planner
    × (vec_len l.entries ≡ l.call-index)
    × (length l.calls ≤ vec_capacity l.entries)
