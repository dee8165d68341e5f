-- Sets of a grown system are sets of the system.
use Rattle.std.specs.Prelude.{ℕ, List}
use Rattle.std.proofs.Common.{◌∙◌}
use Rattle.std.proofs.lemmas.List.{length-map}
use Rattle.model.specs.Growth.{grown, grown_task}
use Rattle.model.specs.System.{System}
use Rattle.timing.specs.Times.{IsSet}

pub isset_grown : (m : ℕ) (s : System) (set : List ℕ) → IsSet (grown m s) set → IsSet s set
isset_grown m s set isset = record { whole = isset.whole ∙ length-map s.tasks (grown_task m); named = isset.named }
