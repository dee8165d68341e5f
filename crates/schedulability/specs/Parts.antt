-- The part of the processor that a task needs is bounded.
use Rattle.std.specs.Prelude.{◌≡◌, ℕ, ◌+◌, ◌*◌, ◌<◌, ◌≤◌, ◌^◌, List, length, get_or, sum_by, slice_index_or}
use Rattle.std.proofs.Common.{ap, arith}
use Rattle.std.specs.List.{zip, All}
use Rattle.std.proofs.lemmas.List.Elements.{All-from_recursion, All-weaker}
use Rattle.std.proofs.lemmas.List.{take_all}
use Rattle.std.proofs.lemmas.Slice.Zip.{get_or-zip, length-zip}
use Rattle.std.proofs.lemmas.List.Sums.{sum_by-le}
use Rattle.model.specs.declared.kinds.Task.{Task}
use Rattle.model.specs.Records.{TaskBounded}
use Rattle.model.specs.Rewrite.{blank_task}
use Rattle.model.specs.System.{System, Keeps}
use Rattle.model.proofs.Quotients.{up_rises, up_within}
use Rattle.timing.specs.Bounds.{max_cost}
use Rattle.timing.specs.Times.{IsSet, Faster, clock, front, time}
use Rattle.timing.proofs.Systems.{clock_fast, time_fits}
use Rattle.timing.proofs.Faster.{isset_faster, sums_upto, time_falls}
use Rattle.timing.proofs.Fronts.{zip_front}
use Rattle.schedulability.specs.Density.{part, whole, Sparse}
use Rattle.schedulability.specs.Zipped.{zip_all}

-- what one release takes, at most
pub cost_fits : (s : System) (t : Task) (g : ℕ) → Keeps s → TaskBounded t → g < length s.steps → time t.cycles (clock s g) + s.switch ≤ max_cost
cost_fits s t g k bounded named = omega (arith, time_fits t.cycles (clock s g) bounded.2 (clock_fast s g k named), k.short_switch)

pub part_fits : (s : System) (t : Task) (g : ℕ) → Keeps s → TaskBounded t → g < length s.steps → part s (t, g) ≤ max_cost * whole
part_fits s t g k bounded named = omega (arith, up_within ((time t.cycles (clock s g) + s.switch) * whole) t.deadline bounded.5, cost_fits s t g k bounded named)

-- a task has its bounds, and its step is one of the table
abbrev pub Fits : System → Task × ℕ → Type 0
Fits s a = TaskBounded a.0 × (a.1 < length s.steps)

module _ (s : System) (list : List ℕ) (k : Keeps s) (set : IsSet s (front s list)) where
  -- of a set, every task and step
  pub pairs_fit : All (Fits s) (zip s.tasks list)
  pairs_fit = rw (zip_front s.tasks list) at (All-from_recursion (Fits s) _ (zip_all TaskBounded (λ g. g < length s.steps) s.tasks (front s list) k.bounded set.named))

  -- so their parts add up
  pub density_fits : sum_by (part s) (zip s.tasks list) < 2 ^ 64
  density_fits =
      let each = All-weaker (Fits s) (λ a. part s a ≤ max_cost * whole) (λ a fit. part_fits s a.0 a.1 k fit.0 fit.1) (zip s.tasks list) pairs_fit in
      omega (arith, sum_by-le (part s) (max_cost * whole) (zip s.tasks list) each, length-zip s.tasks list, k.few_tasks)

-- ---- a faster set is no denser

sums_le : {X : Type 0} (f : X → ℕ) (xs ys : List X) (d : X) → length xs ≡ length ys → ((i : ℕ) → i < length xs → f (slice_index_or xs i d) ≤ f (slice_index_or ys i d)) → sum_by f xs ≤ sum_by f ys
sums_le f xs ys d same each =
    let x = take_all (length xs) xs (omega arith) in
    let y = take_all (length xs) ys (omega arith) in
    rw (ap (sum_by f) x, ap (sum_by f) y) at (sums_upto f xs ys d (length xs) (omega arith) (omega arith) each)

pub sparse_faster : (s : System) (fast slow : List ℕ) → Keeps s → Faster fast slow → Sparse s slow → Sparse s fast
sparse_faster s fast slow k faster sparse =
    let isset = isset_faster s fast slow k sparse.isset faster in
    let long = length-zip s.tasks fast in
    let also = length-zip s.tasks slow in
    let lighter : (i : ℕ) → i < length (zip s.tasks fast) → part s (slice_index_or (zip s.tasks fast) i (blank_task, 0)) ≤ part s (slice_index_or (zip s.tasks slow) i (blank_task, 0)) =
    λ i low.
    let place : i < length s.tasks = omega (arith, long) in
    let due = (All-from_recursion TaskBounded s.tasks k.bounded i blank_task place).5 in
    let quick = time_falls s fast slow k sparse.isset faster (get_or s.tasks i blank_task).cycles i in
    rw (get_or-zip s.tasks fast i (blank_task, 0) place (omega (arith, isset.whole)), get_or-zip s.tasks slow i (blank_task, 0) place (omega (arith, sparse.isset.whole)))
    (up_rises _ _ _ due (omega (arith, quick))) in
    record {
      isset = isset;
      steady = sparse.steady;
      free = sparse.free;
      light = omega (arith, sparse.light, sums_le (part s) (zip s.tasks fast) (zip s.tasks slow) (blank_task, 0) (omega (arith, long, also, isset.whole, sparse.isset.whole)) lighter);
    }
