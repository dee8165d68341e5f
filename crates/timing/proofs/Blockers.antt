-- The holds of the sections, one by one, and their bounds.
use Rattle.std.proofs.Common.{◌≡◌, ℕ, ◌<◌, true, List, length, get_or, is_some, Some, None, Option, refl, MatchOption}
use Rattle.std.proofs.ByRecursion.{All-get_or}
use Rattle.model.specs.declared.kinds.Section.{Section}
use Rattle.model.specs.Lookup.{rank}
use Rattle.model.specs.System.{System, Keeps, task_at, Owned}
use Rattle.timing.specs.declared.holds.Hold.{Hold}
use Rattle.timing.specs.Times.{clock, time, ceiling, hold}

-- what a read past the end of a list gives
abbrev pub blank_section : Section
blank_section = record { owner = 0; resource = 0; cycles = 0 }

some_owner : {X : Type 0} (o : Option X) (P : X → Type 0) → MatchOption o ⊥ P → is_some o ≡ true
some_owner None P h = absurd h
some_owner (Some x) P h = refl

-- a section's owner stands
pub owner_stands : (s : System) (sections : List Section) (i : ℕ) → Keeps s → sections ≡ s.sections → i < length sections → is_some (task_at (get_or sections i blank_section).owner s.tasks) ≡ true
owner_stands s sections i k are low =
    some_owner (task_at (get_or sections i blank_section).owner s.tasks) _ (All-get_or (Owned s.tasks) sections i blank_section low (rw are k.owned))

-- the hold as the program makes it
pub made_hold : (s : System) (set : List ℕ) (sections : List Section) (i roof step took : ℕ) → sections ≡ s.sections
    → roof ≡ ceiling s.sections (get_or sections i blank_section).resource
    → step ≡ get_or set (rank (get_or sections i blank_section).owner s.tasks) 0
    → took ≡ time (get_or sections i blank_section).cycles (clock s step)
    → ◌≡◌ {A = Hold} (record { owner = (get_or sections i blank_section).owner; ceiling = roof; time = took }) (hold s set (get_or s.sections i blank_section))
made_hold s set sections i roof step took are roof-is step_is took-is = rw (took-is, step_is, roof-is, are)
