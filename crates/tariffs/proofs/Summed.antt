-- The charge of a set, summed place by place.
use Rattle.std.proofs.Common.{◌≡◌, ℕ, ◌+◌, ◌≤◌, ◌⊎◌, List, [], ◌∷◌, length, fold, ap, inl, inr, arith}
use Rattle.std.specs.List.{zip, range_with_len}
use Rattle.model.specs.Bounds.{max_tasks}
use Rattle.model.specs.System.{System, Keeps}
use Rattle.model.specs.declared.kinds.Task.{Task}
use Rattle.tariffs.specs.Amounts.{AmountLaws, max_prices}
use Rattle.tariffs.specs.Charges.{charge_of}
use Rattle.tariffs.specs.declared.amount.Amount as amounts
use Rattle.tariffs.specs.declared.tariff.Tariff as tariffs

module _ {C : Type 0} (a : amounts.Ghosts C) (t : tariffs.Ghosts C) (s : System) (all : List ℕ) where
  -- before place i `sum` is within i prices, and the tasks and steps that are left bring it to the charge of all
  pub record Summed (sum : C) (i : ℕ) (tasks : List Task) (set : List ℕ) : Type 0 where
    pub comes : fold (λ sum x. a.joined sum (t.priced s x.0 x.1)) sum (zip (range_with_len i (length tasks)) set) ≡ charge_of a t s all
    pub counted : a.within i sum
    pub few : i + length tasks ≤ max_tasks

  -- where no task or no step is left, the sum is the charge
  pub summed_all : {sum : C} {i : ℕ} (tasks : List Task) (set : List ℕ) → (tasks ≡ []) ⊎ (set ≡ []) → Summed sum i tasks set → sum ≡ charge_of a t s all
  summed_all tasks set (inl e) h = rw e at h.comes
  summed_all [] set (inr e) h = h.comes
  summed_all (x ∷ tasks) set (inr e) h = rw e at h.comes

  module _ (laws : AmountLaws a.none a.joined a.leq a.within) where
    -- before the first turn
    pub summed_none : {sum : C} {i : ℕ} {tasks : List Task} {set : List ℕ} → Keeps s → sum ≡ a.none → i ≡ 0 → tasks ≡ s.tasks → set ≡ all → Summed sum i tasks set
    summed_none k zero start first steps = record {
      comes = rw (zero, start, first, steps);
      counted = rw (zero, start) laws.nothing;
      few = omega (arith, k.few_tasks, ap length first);
    }

    -- one turn: the join keeps its promise, since few prices make up the sum
    pub summed_more : {sum price next : C} {i j at g : ℕ} {x : Task} {tasks left : List Task} {set rest : List ℕ} → (tasks ≡ x ∷ left) × (set ≡ g ∷ rest) → at ≡ i → j ≡ i + 1 → price ≡ t.priced s at g → a.within 1 price → ((m n : ℕ) → m + n ≤ max_prices → a.within m sum → a.within n price → next ≡ a.joined sum price) → Summed sum i tasks set → Summed next j left rest
    summed_more {sum} {price} {next} {i} (task, step) here on value one join h =
        let short : i + 1 ≤ max_prices = omega (arith, h.few, ap length task) in
        let joins : next ≡ a.joined sum price = join i 1 short h.counted one in
        record {
          comes = rw (joins, value, here, on) (rw (task, step) at h.comes);
          counted = rw (joins, on) (laws.adds i 1 sum price short h.counted one);
          few = omega (arith, h.few, ap length task);
        }
