-- What a set of steps makes of a system: times, loads, ceilings and holds.
use Rattle.std.specs.Prelude.{◌≡◌, ℕ, ◌+◌, ◌*◌, ◌<◌, ◌≤◌, min, max, Bool, ◌&&◌, List, map, length, take, fold, filter, ◌==◌, nat_le, nat_lt, slice_index, slice_index_or}
use Rattle.std.specs.List.{zip, AllZip, AllByRecursion}
use Rattle.model.specs.declared.kinds.Task.{Task}
use Rattle.model.specs.declared.kinds.Section.{Section}
use Rattle.model.specs.Lookup.{rank}
use Rattle.model.specs.System.{System}
use Rattle.timing.specs.declared.demand.Load.{Load}
use Rattle.timing.specs.declared.holds.Hold.{Hold}
use Rattle.timing.specs.Bounds.{no_ceiling}
use Rattle.model.specs.Quotient.{up}

-- ---- sets

-- A set names one step for each task, in priority order.
pub record IsSet (s : System) (set : List ℕ) : Type 0 where
  pub whole : length set ≡ length s.tasks
  pub named : AllByRecursion (λ g. g < length s.steps) set

-- the set that a list stands for: its first places, one for each task
abbrev pub front : System → List ℕ → List ℕ
front s list = take (length s.tasks) list

-- the list is long enough, and each of these places is a step of the table
abbrev pub Covers : System → List ℕ → Type 0
Covers s set = length s.tasks ≤ length set

abbrev pub InTable : System → List ℕ → Type 0
InTable s set = AllByRecursion (λ g. g < length s.steps) (front s set)

-- one set is at least as fast as another at each task: a smaller number is a faster step
abbrev pub Faster : List ℕ → List ℕ → Type 0
Faster fast slow = AllZip ◌≤◌ fast slow

-- ---- times

abbrev pub clock : System → ℕ → ℕ
clock s g = (slice_index_or s.steps g (record { clock = 0; voltage = 0 })).clock

-- the time of so many cycles at a clock in kHz, in whole microseconds
abbrev pub time : ℕ → ℕ → ℕ
time cycles khz = up (cycles * 1000) khz

-- a task under its step, as those below it see it
abbrev pub load : System → Task × ℕ → Load
load s a = record {
  time = time a.0.cycles (clock s a.1);
  cost = time a.0.cycles (clock s a.1) + s.switch;
  period = a.0.period;
  jitter = a.0.jitter;
}

abbrev pub loads : System → List ℕ → List Load
loads s set = map (load s) (zip s.tasks set)

-- ---- blocking, under the Priority Ceiling Protocol

abbrev pub on : ℕ → Section → Bool
on r c = c.resource == r

-- the smallest priority number among the owners of a resource's sections
abbrev pub ceiling : List Section → ℕ → ℕ
ceiling sections r = fold min no_ceiling (map (λ c. c.owner) (filter (on r) sections))

-- a section as the tasks that it may block see it; it runs at its owner's step
abbrev pub hold : System → List ℕ → Section → Hold
hold s set c = record {
  owner = c.owner;
  ceiling = ceiling s.sections c.resource;
  time = time c.cycles (clock s (slice_index set (rank c.owner s.tasks)));
}

abbrev pub holds : System → List ℕ → List Hold
holds s set = map (hold s set) s.sections

-- a less urgent owner, and a ceiling no greater than the task's priority
abbrev pub blocks : ℕ → Hold → Bool
blocks p h = nat_lt p h.owner && nat_le h.ceiling p

-- the longest time of a section that blocks a task of priority p
abbrev pub blocking : ℕ → List Hold → ℕ
blocking p held = fold max 0 (map (λ h. h.time) (filter (blocks p) held))
