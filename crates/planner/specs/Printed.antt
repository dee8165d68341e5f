-- The words that are printed for a mark and a change.
use Rattle.std.specs.Prelude.{ℕ, List, codes}
use Rattle.planner.specs.declared.events.Change.{Change}
use Rattle.planner.specs.declared.events.Change.TheVariants.{Enter, Alter, Strike, EnterSection, StrikeSection}
use Rattle.planner.specs.declared.mark.Mark.{Mark}
use Rattle.planner.specs.declared.mark.Mark.TheVariants.{Open, Best, Nothing}

abbrev pub mark_words : Mark → List ℕ
mark_words Open = codes "open"
mark_words Best = codes "best"
mark_words Nothing = codes "none"

abbrev pub change_words : Change → List ℕ
change_words (Enter _) = codes "enter a task"
change_words (Alter _) = codes "alter a task"
change_words (Strike _) = codes "strike a task"
change_words (EnterSection _) = codes "enter a section"
change_words (StrikeSection _ _) = codes "strike a section"
