-- There is at most one proof that a list is an order, as the type of a ghost field needs.
use Rattle.std.specs.Prelude.{ℕ, ◌<◌, List, length, ◌≢◌}
use Rattle.std.specs.Coded.{le_prop}
use Rattle.std.specs.List.{AllByRecursion-prop}
use Rattle.std.proofs.Math.Nat.{ℕ_set}
use mathlib.Core.HLevel.{⊥_prop}
use Rattle.model.proofs.Kept.{pairwise_prop}
use Rattle.files.specs.Layout.{IsOrder}

differ_prop : (j k : ℕ) → IsProp (j ≢ k)
differ_prop j k p q = λ i e. ⊥_prop (p e) (q e) i

pub isorder_prop : (n : ℕ) (order : List ℕ) → IsProp (IsOrder n order)
isorder_prop n order p q = λ i. record {
  whole = ℕ_set (length order) n p.whole q.whole i;
  below = AllByRecursion-prop (λ k. k < n) (λ k. le_prop) order p.below q.below i;
  once = pairwise_prop (λ j k. j ≢ k) differ_prop order p.once q.once i;
}
