-- What the rules of a roster bound: the energy of a task at a step.
use Rattle.std.specs.Prelude.{◌≡◌, ℕ, ◌*◌, ◌≤◌, length, nat_lt, Some, slice_get}
use Rattle.std.specs.Option.{option_zip}
use Rattle.std.proofs.Common.{mul-le-mul, arith}
use Rattle.std.proofs.lemmas.List.Elements.{All-from_recursion}
use Rattle.std.proofs.lemmas.Bool.{and_parts, cond_both, ltb-true}
use Rattle.std.proofs.lemmas.Option.{gets}
use Rattle.std.proofs.lemmas.Grind.{common_steps}
use Rattle.model.specs.Records.{InRange, TaskBounded}
use Rattle.model.specs.Rewrite.{blank_task}
use Rattle.model.specs.System.{System, Keeps}
use Rattle.model.specs.declared.kinds.Step.{Step}
use Rattle.model.specs.declared.kinds.Task.{Task}
use Rattle.tariffs.specs.Prices.{energy_price, in_roster, max_energy_price}

-- no task has more cycles than the bound, and no step a higher voltage
pub energy_bound : (s : System) (i g : ℕ) → Keeps s → energy_price s i g ≤ max_energy_price
energy_bound s i g k =
    cond_both (in_roster s i g) _ 0 (λ x. x ≤ max_energy_price)
    (λ e.
    let (task, step) = and_parts (nat_lt i (length s.tasks)) (nat_lt g (length s.steps)) e in
    let c = (All-from_recursion TaskBounded s.tasks k.bounded i blank_task (ltb-true _ _ task)).2 in
    let v = (All-from_recursion InRange s.steps k.in_range g (record { clock = 0; voltage = 0 }) (ltb-true _ _ step)).3 in
    mul-le-mul c (mul-le-mul v v))
    (λ _. omega arith)

-- the price is that of the task and the step which the lists have
pub energy_named : (s : System) (i g : ℕ) {t : Task} {p : Step} → Some (t, p) ≡ option_zip (slice_get s.tasks i) (slice_get s.steps g) → t.cycles * (p.voltage * p.voltage) ≡ energy_price s i g
energy_named s i g e = grind (arith, common_steps, gets)
