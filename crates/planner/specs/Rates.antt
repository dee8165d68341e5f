-- What a tariff says: how its amounts join and compare, and its prices.
use Rattle.std.specs.Prelude.{ℕ, Bool}
use Rattle.model.specs.System.{System}
use Rattle.tariffs.specs.declared.amount.Amount as amounts
use Rattle.tariffs.specs.declared.tariff.Tariff as tariffs

-- the members of a bound `C: Tariff`, as a clause has them under `C.Tariff`
abbrev pub Rates : Type 0 → Type 1
Rates C = record { none : C; joined : C → C → C; leq : C → C → Bool; within : ℕ → C → Type 0; priced : System → ℕ → ℕ → C }

-- the members of its amounts
abbrev pub amount_of : {C : Type 0} → Rates C → amounts.Ghosts C
amount_of t = record { none = t.none; joined = t.joined; leq = t.leq; within = t.within }

-- and its own
abbrev pub tariff_of : {C : Type 0} → Rates C → tariffs.Ghosts C
tariff_of t = record { priced = t.priced }
