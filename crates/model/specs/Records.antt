-- The rules that a step, a task or a section keeps by itself, and how two of them compare.
use Rattle.std.specs.Prelude.{◌≡◌, ℕ, ◌<◌, ◌≤◌, Bool, false, not, ◌&&◌, IfSome, ◌==◌, nat_lt}
use Rattle.model.specs.declared.kinds.Step.{Step}
use Rattle.model.specs.declared.kinds.Task.{Task}
use Rattle.model.specs.declared.kinds.Section.{Section}
use Rattle.model.specs.Bounds.{min_clock, max_clock, max_voltage, max_cycles, max_period, max_priority, max_resource}

-- ---- steps

abbrev pub InRange : Step → Type 0
InRange s = (min_clock ≤ s.clock) × (s.clock ≤ max_clock) × (1 ≤ s.voltage) × (s.voltage ≤ max_voltage)

-- an earlier step has a faster clock, and needs no lower voltage
abbrev pub Above : Step → Step → Type 0
Above a b = (b.clock < a.clock) × (b.voltage ≤ a.voltage)

-- ---- tasks

abbrev pub TaskBounded : Task → Type 0
TaskBounded t =
    (t.priority ≤ max_priority) × (1 ≤ t.cycles) × (t.cycles ≤ max_cycles)
    × (1 ≤ t.period) × (t.period ≤ max_period) × (1 ≤ t.deadline)

-- a deadline lies within its period, and a jitter within its deadline
abbrev pub Ordered : Task → Type 0
Ordered t = (t.deadline ≤ t.period) × (t.jitter ≤ t.deadline)

-- a floor, where there is one, is a step of a table of `count` steps
abbrev pub FloorFits : ℕ → Task → Type 0
FloorFits count t = IfSome t.floor (λ f. f < count)

abbrev pub MoreUrgent : Task → Task → Type 0
MoreUrgent a b = a.priority < b.priority

abbrev pub has_priority : ℕ → Task → Bool
has_priority p t = t.priority == p

abbrev pub before : ℕ → Task → Bool
before p t = nat_lt t.priority p

abbrev pub after : ℕ → Task → Bool
after p t = nat_lt p t.priority

-- ---- sections

abbrev pub SectionBounded : Section → Type 0
SectionBounded c = (c.owner ≤ max_priority) × (c.resource ≤ max_resource) × (1 ≤ c.cycles)

-- a section is a part of its owner's run
abbrev pub Within : Section → Task → Type 0
Within c t = c.cycles ≤ t.cycles

-- a task takes in its own sections; one of another owner is not its concern
abbrev pub TakesIn : Task → Section → Type 0
TakesIn t c = c.owner ≡ t.priority → Within c t

abbrev pub owned_by : ℕ → Section → Bool
owned_by p c = c.owner == p

abbrev pub held_on : ℕ → ℕ → Section → Bool
held_on p r c = c.owner == p && c.resource == r

-- two sections differ in owner or in resource
abbrev pub Apart : Section → Section → Type 0
Apart c d = held_on d.owner d.resource c ≡ false

-- ---- those that a choice by owner or priority leaves

abbrev pub other_priority : ℕ → Task → Bool
other_priority p t = not (has_priority p t)

abbrev pub other_owner : ℕ → Section → Bool
other_owner p c = not (owned_by p c)

abbrev pub other_section : ℕ → ℕ → Section → Bool
other_section p r c = not (held_on p r c)
