-- The systems of the sample.
use Rattle.std.specs.Prelude.{ℕ, List, [], ◌∷◌}
use Rattle.model.specs.Calls.{loaded, EnterRule, entered, SectionRule, section_entered}
use Rattle.model.specs.Refusals.{AllKept}
use Rattle.model.specs.System.{System}
use Rattle.model.specs.declared.kinds.Step.{Step}
use Rattle.model.specs.declared.kinds.Task.{Task}
use Rattle.model.specs.declared.kinds.Section.{Section}

abbrev step : ℕ → ℕ → Step
step clock voltage = record { clock = clock; voltage = voltage }

abbrev pub steps : List Step
steps = step 40_000 180 ∷ step 20_000 130 ∷ step 10_000 100 ∷ []

abbrev section : ℕ → ℕ → ℕ → Section
section owner resource cycles = record { owner = owner; resource = resource; cycles = cycles }

-- two tasks, without sections
abbrev pub free_system : Task → Task → System
free_system strobe feed = entered (entered (loaded steps 0) strobe) feed

-- each has a section on resource 0
abbrev pub shared_system : Task → Task → System
shared_system strobe feed = section_entered (section_entered (free_system strobe feed) (section 1 0 8_000)) (section 2 0 10_000)

-- the tasks keep the rules of entry, in turn
abbrev pub FreeKeeps : Task → Task → Type 0
FreeKeeps strobe feed = AllKept (EnterRule (loaded steps 0) strobe) × AllKept (EnterRule (entered (loaded steps 0) strobe) feed)

-- and so do their sections
abbrev pub SharedKeeps : Task → Task → Type 0
SharedKeeps strobe feed =
    FreeKeeps strobe feed
    × AllKept (SectionRule (free_system strobe feed) (section 1 0 8_000))
    × AllKept (SectionRule (section_entered (free_system strobe feed) (section 1 0 8_000)) (section 2 0 10_000))
