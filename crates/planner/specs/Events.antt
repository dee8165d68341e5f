-- What a list of events, in the order in which they happened, says of a planner.
use Rattle.std.specs.Prelude.{ℕ, List, Ok, Err, fold}
use Rattle.model.specs.System.{System}
use Rattle.planner.specs.declared.events.Event.{Event}
use Rattle.planner.specs.declared.events.Event.TheVariants.{Changed, Planned}
use Rattle.planner.specs.Changes.{left_by}

-- an accepted change leaves what it leaves, and nothing else touches the tasks and sections
abbrev pub stands_after : System → Event → System
stands_after s (Changed c (Ok _)) = left_by s c
stands_after s (Changed c (Err _)) = s
stands_after s (Planned allowance _) = s

-- which tasks and sections stand: those of the opening, as the accepted changes in turn left them
abbrev pub standing : System → List Event → System
standing opening events = fold stands_after opening events

-- an accepted plan call settles what it answers, and an accepted change unsettles all
abbrev pub settled_after : ℕ → Event → ℕ
settled_after n (Changed c (Ok _)) = 0
settled_after n (Changed c (Err _)) = n
settled_after n (Planned allowance (Ok answer)) = answer.settled
settled_after n (Planned allowance (Err _)) = n

-- how many sets are settled: as many as the last accepted plan call since the last accepted change answered
abbrev pub settled_by : List Event → ℕ
settled_by events = fold settled_after 0 events
