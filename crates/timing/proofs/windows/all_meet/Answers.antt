use Rattle.std.proofs.Common.{◌≡◌, ℕ, ◌∙◌, sym, Bool, false, List, Decides, MatchResult, Ok, Err, Result, rules}
use Rattle.std.proofs.lemmas.Bool.{false≢true}
use Rattle.model.specs.declared.refusals.CallRefusal.{CallRefusal}
use Rattle.model.specs.declared.roster.Roster.{Roster}
use Rattle.model.specs.Of.{of}
use Rattle.model.specs.Refusals.{call_number, First}
use Rattle.timing.specs.declared.analysis.Analysis.{Analysis}
use Rattle.timing.specs.Times.{IsSet, front}
use Rattle.timing.specs.Windows.{SetRule, AllMeet, Responds}
use Rattle.timing.proofs.Fronts.{refused}
use Rattle.timing.proofs.windows.all_meet.Goals as goal

decided : (r : Roster) (list : List ℕ) (b : Bool) (Says : Analysis → Type 0) → ((a : Analysis) → Says a → Decides b (AllMeet (of a.given.roster.now) a.given.set.now))
    → (made : Result Analysis CallRefusal) → MatchResult made Says (λ _. b ≡ false)
    → MatchResult made (λ a. (a.given.roster.now ≡ r) × (a.given.set.now ≡ front (of r) list)) (First call_number (SetRule (of r) list))
    → Decides b (Responds (of r) (front (of r) list))
decided r list b Says reads (Ok a) says (roster-is, set-is) =
    let isset : IsSet (of r) (front (of r) list) = rw (roster-is, set-is) at a.given.isset in
    let meets : Decides b (AllMeet (of r) (front (of r) list)) = rw (roster-is, set-is) at (reads a says) in
    (λ e. record { isset = isset; meets = meets.0 e }, λ responds. meets.1 responds.meets)
decided r list b Says reads (Err e) denies first = (λ yes. absurd (false≢true (sym denies ∙ yes)), λ responds. absurd (refused (of r) list e first responds.isset))

pub returns : goal.returns
returns c = decided c.args.roster.now c.args.list.now c.is_ok_and.result _ (λ a gave. search rules) c.new.result c.is_ok_and.ensures c.new.ensures
