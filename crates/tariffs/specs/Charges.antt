-- The charge of a set: the prices of the tasks, joined from zero in priority order.
use Rattle.std.specs.Prelude.{ℕ, List, length, fold}
use Rattle.std.specs.List.{zip, range_with_len}
use Rattle.model.specs.System.{System}
use Rattle.tariffs.specs.declared.amount.Amount as amounts
use Rattle.tariffs.specs.declared.tariff.Tariff as tariffs

-- each place in priority order, with the step that the set names there
abbrev pub places : System → List ℕ → List (ℕ × ℕ)
places s set = zip (range_with_len 0 (length s.tasks)) set

abbrev pub charge_of : {C : Type 0} → amounts.Ghosts C → tariffs.Ghosts C → System → List ℕ → C
charge_of a t s set = fold (λ sum x. a.joined sum (t.priced s x.0 x.1)) a.none (places s set)
