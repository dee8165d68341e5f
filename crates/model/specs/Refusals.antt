-- The number of each refusal, and what a call that may refuse does.
use Rattle.std.specs.Prelude.{◌≡◌, ℕ, ◌≤◌, Result, MatchResult}
use Rattle.model.specs.declared.refusals.StepsRefusal.{StepsRefusal}
use Rattle.model.specs.declared.refusals.StepsRefusal.TheVariants.{Count, Range, Falling}
use Rattle.model.specs.declared.refusals.RosterRefusal.{RosterRefusal}
use Rattle.model.specs.declared.refusals.RosterRefusal.TheVariants.{Bound, Deadline, Floor, Taken, Absent, TasksFull, Overlong, SectionTaken, SectionAbsent, SectionsFull}
use Rattle.model.specs.declared.refusals.CallRefusal.{CallRefusal}
use Rattle.model.specs.declared.refusals.CallRefusal.TheVariants.{ShortList, NoSuchStep}

abbrev pub steps_number : StepsRefusal → ℕ
steps_number Count = 1
steps_number Range = 2
steps_number Falling = 3

abbrev pub roster_number : RosterRefusal → ℕ
roster_number Bound = 4
roster_number Deadline = 5
roster_number Floor = 6
roster_number Taken = 7
roster_number Absent = 8
roster_number TasksFull = 9
roster_number Overlong = 10
roster_number SectionTaken = 11
roster_number SectionAbsent = 12
roster_number SectionsFull = 13

abbrev pub call_number : CallRefusal → ℕ
call_number ShortList = 15
call_number NoSuchStep = 16

-- `Rule e` is the rule behind the refusal e: that of e is broken, and none with a smaller number is
pub record First {E : Type 0} (number : E → ℕ) (Rule : E → Type 0) (e : E) : Type 0 where
  pub broken : Rule e → ⊥
  pub least : (f : E) → (Rule f → ⊥) → number e ≤ number f

-- no rule is broken
abbrev pub AllKept : {E : Type 0} → (E → Type 0) → Type 0
AllKept {E} Rule = (f : E) → Rule f

-- what a judgement answers: Ok exactly when every rule is kept, and otherwise the first that is broken
abbrev pub Verdict : {E U : Type 0} → (E → ℕ) → (E → Type 0) → Result U E → Type 0
Verdict number Rule r = MatchResult r (λ _. AllKept Rule) (First number Rule)

-- what a call does to the state `before`: where every rule is kept it leaves `changed`, and otherwise
-- it answers the first that is broken and changes nothing
abbrev pub Outcome : {E U S : Type 0} → (E → ℕ) → (E → Type 0) → S → S → S → Result U E → Type 0
Outcome number Rule before changed after r =
    MatchResult r (λ _. AllKept Rule × (after ≡ changed)) (λ e. First number Rule e × (after ≡ before))
