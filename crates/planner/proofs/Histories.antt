-- Histories with one event more.
use Rattle.std.proofs.Common.{◌≡◌, ℕ, List, [], ◌∷◌, ◌++◌, fold}
use Rattle.std.proofs.lemmas.List.Sums.{fold_push}
use Rattle.model.specs.System.{System}
use Rattle.schedulability.specs.declared.test.Test as tests
use Rattle.planner.specs.Rates.{Rates}
use Rattle.planner.specs.Claim.{Answered, Answers}
use Rattle.planner.specs.Events.{standing, stands_after, settled_by, settled_after}
use Rattle.planner.specs.declared.events.Event.{Event}

-- the last event acts on what stood before it
pub standing_push : (s : System) (events : List Event) (e : Event) → standing s (events ++ (e ∷ [])) ≡ stands_after (standing s events) e
standing_push s events e = fold_push stands_after s events e

-- and on what was settled before it
pub settled_push : (events : List Event) (e : Event) → settled_by (events ++ (e ∷ [])) ≡ settled_after (settled_by events) e
settled_push events e = fold_push settled_after 0 events e

-- where all before it were answered by the rules, and so was the last, all were
pub answers_push : {Q C : Type 0} (q : tests.Ghosts Q) (t : Rates C) (s : System) (test : Q) (n : ℕ) (events : List Event) (e : Event) → Answers q t s test n events → Answered q t (fold stands_after s events) test (fold settled_after n events) e → Answers q t s test n (events ++ (e ∷ []))
answers_push q t s test n [] e all last = (last, tt)
answers_push q t s test n (first ∷ events) e all last = (all.0, answers_push q t (stands_after s first) test (settled_after n first) events e all.1 last)
