-- For each call on a roster: the rule behind each refusal, and what an accepted call leaves.
-- A refusal that a call never gives has the rule that asks nothing.
use Rattle.std.specs.Prelude.{◌≡◌, ℕ, ◌<◌, ◌≤◌, true, false, cond, List, [], ◌∷◌, ◌++◌, map, length, is_some, IfSome, filter}
use Rattle.std.specs.List.{AllByRecursion}
use Rattle.model.specs.declared.kinds.Step.{Step}
use Rattle.model.specs.declared.kinds.Task.{Task}
use Rattle.model.specs.declared.kinds.Section.{Section}
use Rattle.model.specs.declared.refusals.StepsRefusal.{StepsRefusal}
use Rattle.model.specs.declared.refusals.StepsRefusal.TheVariants.{Count, Range, Falling}
use Rattle.model.specs.declared.refusals.RosterRefusal.{RosterRefusal}
use Rattle.model.specs.declared.refusals.RosterRefusal.TheVariants.{Bound, Deadline, Floor, Taken, Absent, TasksFull, Overlong, SectionTaken, SectionAbsent, SectionsFull}
use Rattle.model.specs.Bounds.{max_steps, max_switch, max_priority, max_resource, max_tasks, max_sections}
use Rattle.model.specs.Lists.{Pairwise}
use Rattle.model.specs.Records.{InRange, Above, TaskBounded, Ordered, FloorFits, has_priority, before, after, SectionBounded, Within, TakesIn, other_priority, other_owner, other_section}
use Rattle.model.specs.System.{System, system, task_at, section_at}

-- ---- load a step table

abbrev pub LoadRule : List Step → ℕ → StepsRefusal → Type 0
LoadRule steps switch Count = (1 ≤ length steps) × (length steps ≤ max_steps)
LoadRule steps switch Range = AllByRecursion InRange steps × (switch ≤ max_switch)
LoadRule steps switch Falling = Pairwise Above steps

-- the new table, and neither task nor section
abbrev pub loaded : List Step → ℕ → System
loaded steps switch = system steps switch [] []

-- ---- what entering and altering both ask of a task, on a table of `steps` steps

abbrev pub TaskRule : ℕ → Task → RosterRefusal → Type 0
TaskRule steps t Bound = TaskBounded t
TaskRule steps t Deadline = Ordered t
TaskRule steps t Floor = FloorFits steps t
TaskRule steps t Taken = Unit {0}
TaskRule steps t Absent = Unit {0}
TaskRule steps t TasksFull = Unit {0}
TaskRule steps t Overlong = Unit {0}
TaskRule steps t SectionTaken = Unit {0}
TaskRule steps t SectionAbsent = Unit {0}
TaskRule steps t SectionsFull = Unit {0}

-- ---- enter a task

abbrev pub EnterRule : System → Task → RosterRefusal → Type 0
EnterRule s t Bound = TaskBounded t
EnterRule s t Deadline = Ordered t
EnterRule s t Floor = FloorFits (length s.steps) t
EnterRule s t Taken = is_some (task_at t.priority s.tasks) ≡ false
EnterRule s t Absent = Unit {0}
EnterRule s t TasksFull = length s.tasks < max_tasks
EnterRule s t Overlong = Unit {0}
EnterRule s t SectionTaken = Unit {0}
EnterRule s t SectionAbsent = Unit {0}
EnterRule s t SectionsFull = Unit {0}

-- the more urgent tasks, the new one, the less urgent ones
abbrev pub joined_by : Task → List Task → List Task
joined_by t tasks = filter (before t.priority) tasks ++ (t ∷ filter (after t.priority) tasks)

abbrev pub entered : System → Task → System
entered s t = system s.steps s.switch (joined_by t s.tasks) s.sections

-- ---- alter a task

abbrev pub AlterRule : System → Task → RosterRefusal → Type 0
AlterRule s t Bound = TaskBounded t
AlterRule s t Deadline = Ordered t
AlterRule s t Floor = FloorFits (length s.steps) t
AlterRule s t Taken = Unit {0}
AlterRule s t Absent = is_some (task_at t.priority s.tasks) ≡ true
AlterRule s t TasksFull = Unit {0}
AlterRule s t Overlong = AllByRecursion (TakesIn t) s.sections
AlterRule s t SectionTaken = Unit {0}
AlterRule s t SectionAbsent = Unit {0}
AlterRule s t SectionsFull = Unit {0}

-- the new record in place of the one of its priority
abbrev pub replaced_by : Task → Task → Task
replaced_by new old = cond (has_priority new.priority old) new old

abbrev pub altered : System → Task → System
altered s t = system s.steps s.switch (map (replaced_by t) s.tasks) s.sections

-- ---- strike a task

abbrev pub StrikeRule : System → ℕ → RosterRefusal → Type 0
StrikeRule s p Bound = p ≤ max_priority
StrikeRule s p Deadline = Unit {0}
StrikeRule s p Floor = Unit {0}
StrikeRule s p Taken = Unit {0}
StrikeRule s p Absent = is_some (task_at p s.tasks) ≡ true
StrikeRule s p TasksFull = Unit {0}
StrikeRule s p Overlong = Unit {0}
StrikeRule s p SectionTaken = Unit {0}
StrikeRule s p SectionAbsent = Unit {0}
StrikeRule s p SectionsFull = Unit {0}

-- the other tasks, and the sections of other owners
abbrev pub struck : System → ℕ → System
struck s p = system s.steps s.switch (filter (other_priority p) s.tasks) (filter (other_owner p) s.sections)

-- ---- enter a section

abbrev pub SectionRule : System → Section → RosterRefusal → Type 0
SectionRule s c Bound = SectionBounded c
SectionRule s c Deadline = Unit {0}
SectionRule s c Floor = Unit {0}
SectionRule s c Taken = Unit {0}
SectionRule s c Absent = is_some (task_at c.owner s.tasks) ≡ true
SectionRule s c TasksFull = Unit {0}
SectionRule s c Overlong = IfSome (task_at c.owner s.tasks) (Within c)
SectionRule s c SectionTaken = is_some (section_at c.owner c.resource s.sections) ≡ false
SectionRule s c SectionAbsent = Unit {0}
SectionRule s c SectionsFull = length s.sections < max_sections

abbrev pub section_entered : System → Section → System
section_entered s c = system s.steps s.switch s.tasks (s.sections ++ (c ∷ []))

-- ---- strike a section

abbrev pub SectionStrikeRule : System → ℕ → ℕ → RosterRefusal → Type 0
SectionStrikeRule s p r Bound = (p ≤ max_priority) × (r ≤ max_resource)
SectionStrikeRule s p r Deadline = Unit {0}
SectionStrikeRule s p r Floor = Unit {0}
SectionStrikeRule s p r Taken = Unit {0}
SectionStrikeRule s p r Absent = is_some (task_at p s.tasks) ≡ true
SectionStrikeRule s p r TasksFull = Unit {0}
SectionStrikeRule s p r Overlong = Unit {0}
SectionStrikeRule s p r SectionTaken = Unit {0}
SectionStrikeRule s p r SectionAbsent = is_some (section_at p r s.sections) ≡ true
SectionStrikeRule s p r SectionsFull = Unit {0}

abbrev pub section_struck : System → ℕ → ℕ → System
section_struck s p r = system s.steps s.switch s.tasks (filter (other_section p r) s.sections)
