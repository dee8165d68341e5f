use Rattle.std.proofs.Common.{◌≡◌, ◌+◌, ◌≤◌, take}
use Rattle.text.specs.Lines.{space, separators}
use Rattle.text.proofs.items.count.Given as goal

-- one more than the spaces so far
abbrev pub invariant-loop-b : goal.invariant-loop-b
invariant-loop-b l = (l.count ≡ separators space (take l.b-index l.line) + 1) × (l.count ≤ l.b-index + 1)
