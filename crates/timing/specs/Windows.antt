-- The windows of a system under a set, and the call that gives them.
use Rattle.std.specs.Prelude.{◌≡◌, ℕ, ◌+◌, ◌<◌, ◌⊎◌, List, length, get_or, take, drop, slice_index, slice_index_or}
use Rattle.model.specs.declared.kinds.Task.{Task}
use Rattle.model.specs.declared.refusals.CallRefusal.{CallRefusal}
use Rattle.model.specs.declared.refusals.CallRefusal.TheVariants.{ShortList, NoSuchStep}
use Rattle.model.specs.Rewrite.{blank_task}
use Rattle.model.specs.System.{System}
use Rattle.timing.specs.declared.demand.Load.{Load}
use Rattle.timing.specs.Demand.{demand, Meets}
use Rattle.timing.specs.Times.{IsSet, Covers, InTable, loads, holds, blocking}

-- the task at a place in priority order
abbrev pub task : System → ℕ → Task
task s i = slice_index_or s.tasks i blank_task

abbrev pub idle : Load
idle = record { time = 0; cost = 0; period = 0; jitter = 0 }

-- its own time and its blocking
abbrev pub own : System → List ℕ → ℕ → ℕ
own s set i = (get_or (loads s set) i idle).time + blocking (task s i).priority (holds s set)

-- its demand over w; the tasks before it are the more urgent ones
abbrev pub demand_at : System → List ℕ → ℕ → ℕ → ℕ
demand_at s set i w = demand (own s set i) (take i (loads s set)) w

-- it meets its deadline with the window w
abbrev pub MeetsAt : System → List ℕ → ℕ → ℕ → Type 0
MeetsAt s set i w = Meets (demand_at s set i) (task s i).jitter (task s i).deadline w

-- every task meets its deadline
abbrev pub AllMeet : System → List ℕ → Type 0
AllMeet s set = (i : ℕ) → i < length s.tasks → (w : ℕ) × MeetsAt s set i w

-- every task meets its deadline under a set of the system
pub record Responds (s : System) (set : List ℕ) : Type 0 where
  pub isset : IsSet s set
  pub meets : AllMeet s set

-- ---- lists as sets, and the windows call

-- the rule behind each refusal of a list: it has a place for each task, and these are steps of the table
abbrev pub SetRule : System → List ℕ → CallRefusal → Type 0
SetRule s list ShortList = Covers s list
SetRule s list NoSuchStep = InTable s list

-- the rule behind each refusal: both lists have a place for each task, and the set names steps of the table
abbrev pub WindowsRule : System → List ℕ → List ℕ → CallRefusal → Type 0
WindowsRule s set out ShortList = Covers s set × Covers s out
WindowsRule s set out NoSuchStep = InTable s set

-- the window with which the task meets its deadline, or 0 where it misses
abbrev pub Told : System → List ℕ → ℕ → ℕ → Type 0
Told s set i v = MeetsAt s set i v ⊎ ((v ≡ 0) × ((w : ℕ) → MeetsAt s set i w → ⊥))

-- the list `after` tells the window of each task, and its further places are those of `before`
pub record Filled (s : System) (set before after : List ℕ) : Type 0 where
  pub told : (i : ℕ) → i < length s.tasks → Told s set i (slice_index after i)
  pub rest : drop (length s.tasks) after ≡ drop (length s.tasks) before
  pub long : length after ≡ length before
