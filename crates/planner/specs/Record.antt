-- What a list of calls leaves on record.
use Rattle.std.specs.Prelude.{◌≡◌, List, [], ◌∷◌, ◌++◌, map}
use Rattle.model.specs.System.{System}
use Rattle.schedulability.specs.declared.test.Test as tests
use Rattle.planner.specs.Rates.{Rates}
use Rattle.planner.specs.declared.events.Call.{Call}
use Rattle.planner.specs.declared.events.Event.{Event}
use Rattle.planner.specs.declared.replay.Entry.{Entry}
use Rattle.planner.specs.Calls.{call_of}
use Rattle.planner.specs.Claim.{Claim, Named, told_by}
use Rattle.planner.specs.Events.{standing}

module _ {Q C : Type 0} (q : tests.Ghosts Q) (t : Rates C) where
  -- the claim holds at each entry, for the events up to it
  abbrev pub Throughout : System → Q → List Event → List (Entry C) → Type 0
  Throughout opening test earlier [] = Unit {0}
  Throughout opening test earlier (e ∷ later) =
      Claim q t opening test (earlier ++ (e.event ∷ [])) (told_by e.findings)
      × Named (standing opening (earlier ++ (e.event ∷ []))) e.findings
      × Throughout opening test (earlier ++ (e.event ∷ [])) later

  -- an entry for each call in turn, and the claim at each of them
  pub record Recorded (opening : System) (test : Q) (calls : List Call) (entries : List (Entry C)) : Type 0 where
    pub in_turn : map (λ e. call_of e.event) entries ≡ calls
    pub claims : Throughout opening test [] entries
