-- What a roster says: its step table, its tasks and its sections, as lists, and the rules that it keeps.
use Rattle.std.specs.Prelude.{ℕ, ◌≤◌, List, [], ◌∷◌, length, Option, MatchOption}
use Rattle.std.specs.List.{AllByRecursion}
use Rattle.model.specs.declared.kinds.Step.{Step}
use Rattle.model.specs.declared.kinds.Task.{Task}
use Rattle.model.specs.declared.kinds.Section.{Section}
use Rattle.model.specs.Bounds.{max_steps, max_switch, max_tasks, max_sections, min_clock}
use Rattle.model.specs.Lists.{Pairwise, first_by}
use Rattle.model.specs.Records.{InRange, Above, TaskBounded, Ordered, FloorFits, MoreUrgent, has_priority, SectionBounded, Within, held_on, Apart}

pub record System : Type 0 where
  -- fastest first
  pub steps : List Step
  -- the time of a change of clock, which belongs to the step table
  pub switch : ℕ
  -- most urgent first
  pub tasks : List Task
  -- in the order in which they were entered
  pub sections : List Section

abbrev pub system : List Step → ℕ → List Task → List Section → System
system steps switch tasks sections = record { steps = steps; switch = switch; tasks = tasks; sections = sections }

-- the task of a priority
abbrev pub task_at : ℕ → List Task → Option Task
task_at p tasks = first_by (has_priority p) tasks

-- the section of an owner on a resource
abbrev pub section_at : ℕ → ℕ → List Section → Option Section
section_at p r sections = first_by (held_on p r) sections

-- a section's owner stands, and the section is within it
abbrev pub Owned : List Task → Section → Type 0
Owned tasks c = MatchOption (task_at c.owner tasks) ⊥ (Within c)

-- the rules of a roster; no roster that breaks one can exist
pub record Keeps (s : System) : Type 0 where
  pub some_step : 1 ≤ length s.steps
  pub few_steps : length s.steps ≤ max_steps
  pub in_range : AllByRecursion InRange s.steps
  pub falling : Pairwise Above s.steps
  pub short_switch : s.switch ≤ max_switch
  pub few_tasks : length s.tasks ≤ max_tasks
  pub bounded : AllByRecursion TaskBounded s.tasks
  pub ordered : AllByRecursion Ordered s.tasks
  pub floors : AllByRecursion (FloorFits (length s.steps)) s.tasks
  pub rising : Pairwise MoreUrgent s.tasks
  pub few_sections : length s.sections ≤ max_sections
  pub sections_bounded : AllByRecursion SectionBounded s.sections
  pub owned : AllByRecursion (Owned s.tasks) s.sections
  pub apart : Pairwise Apart s.sections

-- a new roster: one step of the slowest clock and the lowest voltage, and no task
abbrev pub new_system : System
new_system = system (record { clock = min_clock; voltage = 1 } ∷ []) 0 [] []
