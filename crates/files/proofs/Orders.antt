-- An order of n columns has each of them.
use Rattle.std.proofs.Common.{◌≡◌, ℕ, zero, suc, ◌<◌, ◌≤◌, not, ltb, ◌⊎◌, List, [], ◌∷◌, length, filter, sym, refl, ◌∙◌, inl, inr, arith}
use Rattle.std.specs.List.{ContainsAt as Has, AllByRecursion}
use Rattle.std.proofs.lemmas.List.Filters.{length-filter_both}
use Rattle.std.proofs.lemmas.Bool.{cases_eq, ltb-true, ltb-false, not-true}
use Rattle.model.specs.Lists.{Pairwise}
use Rattle.model.proofs.Lists.{all_kept_with, pairwise_kept_by}
use Rattle.files.specs.Layout.{IsOrder}

abbrev pub Apart : ℕ → ℕ → Type 0
Apart j k = j ≡ k → ⊥

-- of numbers that are all the same and all different there is at most one
single : (m : ℕ) (xs : List ℕ) → AllByRecursion (λ x. x ≡ m) xs → Pairwise Apart xs → length xs ≤ 1
single m [] same once = omega arith
single m (x ∷ []) same once = omega arith
single m (x ∷ (y ∷ xs)) (e, (f, same)) ((apart, _), once) = absurd (apart (e ∙ sym f))

-- there are at most n different numbers below n
few_below : (n : ℕ) (xs : List ℕ) → AllByRecursion (λ x. x < n) xs → Pairwise Apart xs → length xs ≤ n
few_below zero [] below once = omega arith
few_below zero (x ∷ xs) (lt, below) once = absurd (omega arith)
few_below (suc m) xs below once =
    let less = few_below m (filter (λ x. ltb x m) xs)
    (all_kept_with (λ x. ltb x m) (λ x. x < suc m) (λ x. x < m) (λ x t _. ltb-true x m t) xs below)
    (pairwise_kept_by Apart (λ x. ltb x m) xs once) in
    let last = single m (filter (λ x. not (ltb x m)) xs)
    (all_kept_with (λ x. not (ltb x m)) (λ x. x < suc m) (λ x. x ≡ m) (λ x t lt. omega (arith, ltb-false x m (not-true (ltb x m) t))) xs below)
    (pairwise_kept_by Apart (λ x. not (ltb x m)) xs once) in
    omega (arith, length-filter_both (λ x. ltb x m) (λ x. not (ltb x m)) (λ _. refl) xs)

has_or_apart : (xs : List ℕ) (k : ℕ) → Has xs k ⊎ AllByRecursion (Apart k) xs
has_or_apart [] k = inr tt
has_or_apart (x ∷ xs) k =
    elim (cases_eq k x) [
      | inl e ↦ inl (0, omega arith, λ _. sym e)
      | inr apart ↦ elim (has_or_apart xs k) [
        | inl (j, lt, at) ↦ inl (suc j, omega arith, at)
        | inr rest ↦ inr (apart, rest)
      ]
    ]

pub has_each : (n : ℕ) (order : List ℕ) → IsOrder n order → (k : ℕ) → k < n → Has order k
has_each n order is k lt =
    elim (has_or_apart order k) [
      | inl has ↦ has
      | inr apart ↦ absurd (omega (arith, few_below n (k ∷ order) (lt, is.below) (apart, is.once), is.whole))
    ]
