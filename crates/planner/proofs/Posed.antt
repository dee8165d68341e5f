-- What a planner searches is orderly, by the laws of its test and its tariff.
use Rattle.std.proofs.Common.{◌≡◌, ℕ, ◌+◌, ◌≤◌, List, [], ◌∷◌, length, fold, arith}
use Rattle.std.proofs.lemmas.List.FromFn.{length-range_with_len}
use Rattle.std.proofs.lemmas.Slice.Zip.{length-zip}
use Rattle.std.specs.List.{range_with_len}
use Rattle.model.specs.Bounds.{max_tasks}
use Rattle.model.specs.System.{System, Keeps}
use Rattle.schedulability.specs.Floorings.{floors_faster}
use Rattle.schedulability.specs.Laws.{TestLaws}
use Rattle.schedulability.specs.declared.test.Test as tests
use Rattle.tariffs.specs.Amounts.{AmountLaws, Counted, max_prices}
use Rattle.tariffs.specs.Charges.{charge_of, places}
use Rattle.tariffs.specs.declared.amount.Amount as amounts
use Rattle.tariffs.specs.declared.tariff.Tariff as tariffs
use Rattle.planner.proofs.Orderly.{Orderly}
use Rattle.planner.specs.Rates.{Rates, amount_of, tariff_of}
use Rattle.planner.specs.State.{problem, set_of}

-- the members of a tariff, put together
abbrev pub rates : {C : Type 0} → amounts.Ghosts C → tariffs.Ghosts C → Rates C
rates a t = record { none = a.none; joined = a.joined; leq = a.leq; within = a.within; priced = t.priced }

-- each place adds one price: a sum of m prices, and so many places more, comes within n prices
sum_within : {C : Type 0} (a : amounts.Ghosts C) (t : tariffs.Ghosts C) (s : System) → AmountLaws a.none a.joined a.leq a.within → ((s : System) (i g : ℕ) → Keeps s → a.within 1 (t.priced s i g)) → Keeps s → (xs : List (ℕ × ℕ)) (m n : ℕ) (sum : C) → n ≡ m + length xs → n ≤ max_prices → a.within m sum → a.within n (fold (λ sum x. a.joined sum (t.priced s x.0 x.1)) sum xs)
sum_within a t s laws one keeps [] m n sum e few h = let same : n ≡ m = omega arith in rw same h
sum_within a t s laws one keeps (x ∷ xs) m n sum e few h =
    let price = t.priced s x.0 x.1 in
    sum_within a t s laws one keeps xs (m + 1) n (a.joined sum price) (omega arith) few (laws.adds m 1 sum price (omega arith) h (one s x.0 x.1 keeps))

-- no more places are priced than there are tasks
places_few : (s : System) (set : List ℕ) → Keeps s → length (places s set) ≤ max_tasks
places_few s set keeps = omega (arith, length-zip (range_with_len 0 (length s.tasks)) set, length-range_with_len 0 (length s.tasks), keeps.few_tasks)

-- so few prices make up a charge that the laws of amounts hold for it
pub charge_counted : {C : Type 0} (a : amounts.Ghosts C) (t : tariffs.Ghosts C) (s : System) → AmountLaws a.none a.joined a.leq a.within → ((s : System) (i g : ℕ) → Keeps s → a.within 1 (t.priced s i g)) → Keeps s → (set : List ℕ) → Counted a.within (charge_of a t s set)
charge_counted a t s laws one keeps set =
    let few : length (places s set) ≤ max_prices = omega (arith, places_few s set keeps) in
    (length (places s set), few, sum_within a t s laws one keeps (places s set) 0 (length (places s set)) a.none (omega arith) few laws.nothing)

pub orderly : {Q C : Type 0} (q : tests.Ghosts Q) (t : Rates C) → TestLaws q.passes → AmountLaws t.none t.joined t.leq t.within → ((s : System) (i g : ℕ) → Keeps s → t.within 1 (t.priced s i g)) → (s : System) (test : Q) → Keeps s → Orderly (problem q t s test)
orderly q t rules laws one s test keeps =
    let charged = λ (n : ℕ). charge_of (amount_of t) (tariff_of t) s (set_of s n) in
    let counted = λ (n : ℕ). charge_counted (amount_of t) (tariff_of t) s laws one keeps (set_of s n) in
    record {
      some_step = keeps.some_step;
      total = λ m n. laws.total (charged m) (charged n) (counted m) (counted n);
      transitive = λ k m n. laws.transitive (charged k) (charged m) (charged n) (counted k) (counted m) (counted n);
      faster = λ m n fast pass. (floors_faster s.tasks (set_of s m) (set_of s n) fast pass.0, rules.faster test s (set_of s m) (set_of s n) keeps fast pass.1);
    }
