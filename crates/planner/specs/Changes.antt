-- A change of what stands: the rule behind each refusal, and what an accepted change leaves.
use Rattle.model.specs.Calls.{EnterRule, entered, AlterRule, altered, StrikeRule, struck, SectionRule, section_entered, SectionStrikeRule, section_struck}
use Rattle.model.specs.System.{System}
use Rattle.model.specs.declared.refusals.RosterRefusal.{RosterRefusal}
use Rattle.planner.specs.declared.events.Change.{Change}
use Rattle.planner.specs.declared.events.Change.TheVariants.{Enter, Alter, Strike, EnterSection, StrikeSection}

abbrev pub ChangeRule : System → Change → RosterRefusal → Type 0
ChangeRule s (Enter t) = EnterRule s t
ChangeRule s (Alter t) = AlterRule s t
ChangeRule s (Strike priority) = StrikeRule s priority
ChangeRule s (EnterSection c) = SectionRule s c
ChangeRule s (StrikeSection owner resource) = SectionStrikeRule s owner resource

abbrev pub left_by : System → Change → System
left_by s (Enter t) = entered s t
left_by s (Alter t) = altered s t
left_by s (Strike priority) = struck s priority
left_by s (EnterSection c) = section_entered s c
left_by s (StrikeSection owner resource) = section_struck s owner resource
