-- The number of each refusal of a planner's own calls.
use Rattle.std.specs.Prelude.{ℕ}
use Rattle.planner.specs.declared.refusals.SearchRefusal.{SearchRefusal}
use Rattle.planner.specs.declared.refusals.SearchRefusal.TheVariants.{Allowance, ShortList, NothingShown}

abbrev pub search_number : SearchRefusal → ℕ
search_number Allowance = 14
search_number ShortList = 15
search_number NothingShown = 17
