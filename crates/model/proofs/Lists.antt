-- Laws of Pairwise and first_by, and more on kept-by.
use Rattle.std.proofs.Common.{◌≡◌, ℕ, zero, suc, ◌+◌, ◌<◌, ◌≤◌, Bool, true, false, cond, ◌||◌, Decides, List, [], ◌∷◌, ◌++◌, map, length, get_or, is_some, Some, None, filter, Option, sym, refl, ap, ◌∙◌, ⊎_elim, arith}
use native.Mathlib.Numerals.{unary_clauses}
use Rattle.std.specs.Option.{option_map}
use Rattle.std.specs.List.{AllAdjacentBelow, AllByRecursion, IsAllAdjacentAnswer, list_any}
use Rattle.std.proofs.ByRecursion.{All-append, All-get_or, All-weaker, all_kept_by}
use Rattle.std.proofs.lemmas.List.Sums.{length-filter, count_by-le-length}
use Rattle.std.proofs.lemmas.Bool.{cases_Bool, both_ways, false≢true}
use Rattle.model.specs.Lists.{Pairwise, first_by}

-- ---- what holds of each item

pub all_both : {X : Type 0} (P Q S : X → Type 0) → ((x : X) → P x → Q x → S x) → (xs : List X) → AllByRecursion P xs → AllByRecursion Q xs → AllByRecursion S xs
all_both P Q S f [] p q = tt
all_both P Q S f (x ∷ xs) p q = (f x p.0 q.0, all_both P Q S f xs p.1 q.1)

pub map_same : {X Y : Type 0} (P : X → Type 0) (f g : X → Y) → ((x : X) → P x → f x ≡ g x) → (xs : List X) → AllByRecursion P xs → map f xs ≡ map g xs
map_same P f g same [] h = refl
map_same P f g same (x ∷ xs) h = rw (same x h.0, map_same P f g same xs h.1)

module _ {X : Type 0} (keep : X → Bool) where
  pub all_kept_with : (P Q : X → Type 0) → ((x : X) → keep x ≡ true → P x → Q x) → (xs : List X) → AllByRecursion P xs → AllByRecursion Q (filter keep xs)
  all_kept_with P Q f [] h = tt
  all_kept_with P Q f (x ∷ xs) h =
      ⊎_elim
      (λ e. rw e (f x e h.0, all_kept_with P Q f xs h.1))
      (λ e. rw e (all_kept_with P Q f xs h.1))
      (cases_Bool (keep x))

  pub kept_by_all : (xs : List X) → AllByRecursion (λ x. keep x ≡ true) xs → filter keep xs ≡ xs
  kept_by_all [] h = refl
  kept_by_all (x ∷ xs) h = rw h.0 (ap (λ ys. x ∷ ys) (kept_by_all xs h.1))

  pub kept_by_none : (xs : List X) → AllByRecursion (λ x. keep x ≡ false) xs → filter keep xs ≡ []
  kept_by_none [] h = refl
  kept_by_none (x ∷ xs) h = rw h.0 (kept_by_none xs h.1)

  pub length_kept_by_le : (xs : List X) → length (filter keep xs) ≤ length xs
  length_kept_by_le xs = rw (length-filter keep xs) (count_by-le-length keep xs)

-- ---- Pairwise

module _ {X : Type 0} (R : X → X → Type 0) where
  pub pairwise_append : (xs ys : List X) → Pairwise R xs → Pairwise R ys → AllByRecursion (λ x. AllByRecursion (R x) ys) xs → Pairwise R (xs ++ ys)
  pairwise_append [] ys p q h = q
  pairwise_append (x ∷ xs) ys p q h = (All-append (R x) xs ys p.0 h.0, pairwise_append xs ys p.1 q h.1)

  pub pairwise_push : (xs : List X) (y : X) → Pairwise R xs → AllByRecursion (λ x. R x y) xs → Pairwise R (xs ++ (y ∷ []))
  pairwise_push [] y p h = (tt, tt)
  pairwise_push (x ∷ xs) y p h = (All-append (R x) xs (y ∷ []) p.0 (h.0, tt), pairwise_push xs y p.1 h.1)

  pub pairwise_kept_by : (keep : X → Bool) (xs : List X) → Pairwise R xs → Pairwise R (filter keep xs)
  pairwise_kept_by keep [] p = tt
  pairwise_kept_by keep (x ∷ xs) p =
      ⊎_elim
      (λ e. rw e (all_kept_by keep (R x) xs p.0, pairwise_kept_by keep xs p.1))
      (λ e. rw e (pairwise_kept_by keep xs p.1))
      (cases_Bool (keep x))

  pub all_mapped : (f : X → X) (x : X) → ((y : X) → R x y → R (f x) (f y)) → (ys : List X) → AllByRecursion (R x) ys → AllByRecursion (R (f x)) (map f ys)
  all_mapped f x keeps [] h = tt
  all_mapped f x keeps (y ∷ ys) h = (keeps y h.0, all_mapped f x keeps ys h.1)

  pub pairwise_map : (f : X → X) → ((x y : X) → R x y → R (f x) (f y)) → (xs : List X) → Pairwise R xs → Pairwise R (map f xs)
  pairwise_map f keeps [] p = tt
  pairwise_map f keeps (x ∷ xs) p = (all_mapped f x (keeps x) xs p.0, pairwise_map f keeps xs p.1)

  pub pairwise_getD : (xs : List X) (i j : ℕ) (d : X) → i < j → j < length xs → Pairwise R xs → R (get_or xs i d) (get_or xs j d)
  pairwise_getD [] i j d low high p = absurd (omega arith)
  pairwise_getD (x ∷ xs) i zero d low high p = absurd (omega arith)
  pairwise_getD (x ∷ xs) zero (suc j) d low high p = All-get_or (R x) xs j d (omega arith) p.0
  pairwise_getD (x ∷ xs) (suc i) (suc j) d low high p = pairwise_getD xs i j d (omega arith) (omega arith) p.1

  -- where R goes on from item to item, it holds of all pairs if it holds of neighbours
  pub pairwise_from_neighbours : ((x y z : X) → R x y → R y z → R x z) → (xs : List X) → AllAdjacentBelow R xs (length xs) → Pairwise R xs
  pairwise_from_neighbours through [] next = tt
  pairwise_from_neighbours through (x ∷ []) next = (tt, tt)
  pairwise_from_neighbours through (x ∷ (y ∷ zs)) next =
      let first : R x y = next 0 x (omega arith) in
      let rest = pairwise_from_neighbours through (y ∷ zs) (λ k d lt. simp unary_clauses (simp unary_clauses at (next (suc k) d (omega arith)))) in
      ((first, All-weaker (R y) (R x) (λ z h. through x y z first h) zs rest.0), rest)

  -- what `is_sorted_by` answers where it asks a test of R
  pub pairwise_from_sorted : (test : X → X → Bool) → ((x y : X) → Decides (test x y) (R x y)) → ((x y z : X) → R x y → R y z → R x z) → (xs : List X) (d : X) (r : Bool) → IsAllAdjacentAnswer (λ x y b. b ≡ test x y) xs r → Decides r (Pairwise R xs)
  pairwise_from_sorted test asks through xs d true h =
      (λ _. pairwise_from_neighbours through xs (λ k e lt. (asks _ _).0 (sym (h k e lt))), λ _. refl)
  pairwise_from_sorted test asks through xs d false h =
      (λ e. absurd (false≢true e), λ all. absurd (both_ways _ (sym (h.2 d)) ((asks _ _).1 (pairwise_getD xs h.0 (h.0 + 1) d (omega arith) h.1 all))))

-- ---- first_by

module _ {X : Type 0} (test : X → Bool) where
  pub first_by_skip : (xs ys : List X) (x : X) → test x ≡ false → first_by test (xs ++ (x ∷ ys)) ≡ first_by test (xs ++ ys)
  first_by_skip [] ys x e = rw e
  first_by_skip (y ∷ xs) ys x e = ap (cond (test y) (Some y)) (first_by_skip xs ys x e)

  pub first_by_none : (xs : List X) → AllByRecursion (λ x. test x ≡ false) xs → first_by test xs ≡ None
  first_by_none [] h = refl
  first_by_none (x ∷ xs) h = rw h.0 (first_by_none xs h.1)

  pub all_from_none : (xs : List X) → is_some (first_by test xs) ≡ false → AllByRecursion (λ x. test x ≡ false) xs
  all_from_none [] e = tt
  all_from_none (x ∷ xs) e =
      ⊎_elim
      (λ t. absurd (both_ways true (rw t at e) refl))
      (λ f. (f, all_from_none xs (rw f at e)))
      (cases_Bool (test x))

  pub first_by_passes : (xs : List X) (x : X) → first_by test xs ≡ Some x → test x ≡ true
  first_by_passes [] x e = let z : ◌≡◌ {A = ℕ} 0 1 = cc in absurd (omega arith)
  first_by_passes (y ∷ ys) x e =
      ⊎_elim
      (λ t. let found = rw t at e in let same : y ≡ x = cc in rw (← same) t)
      (λ f. first_by_passes ys x (rw f at e))
      (cases_Bool (test y))

  some_or : (b : Bool) (x : X) (o : Option X) → is_some (cond b (Some x) o) ≡ (b || is_some o)
  some_or true x o = refl
  some_or false x o = refl

  pub first_by_any : (xs : List X) → is_some (first_by test xs) ≡ list_any test xs
  first_by_any [] = refl
  first_by_any (x ∷ xs) = some_or (test x) x (first_by test xs) ∙ ap (λ b. test x || b) (first_by_any xs)

  mapped_cond : (f : X → X) (b : Bool) (x : X) (o : Option X) → cond b (Some (f x)) (option_map f o) ≡ option_map f (cond b (Some x) o)
  mapped_cond f true x o = refl
  mapped_cond f false x o = refl

  pub first_by_map : (f : X → X) → ((x : X) → test (f x) ≡ test x) → (xs : List X) → first_by test (map f xs) ≡ option_map f (first_by test xs)
  first_by_map f same [] = refl
  first_by_map f same (x ∷ xs) = rw (same x, first_by_map f same xs) (mapped_cond f (test x) x (first_by test xs))

  pub first_by_kept : (keep : X → Bool) → ((x : X) → test x ≡ true → keep x ≡ true) → (xs : List X) → first_by test (filter keep xs) ≡ first_by test xs
  first_by_kept keep sure [] = refl
  first_by_kept keep sure (x ∷ xs) =
      ⊎_elim
      (λ k. rw k (ap (cond (test x) (Some x)) (first_by_kept keep sure xs)))
      (λ k. ⊎_elim (λ t. absurd (both_ways (keep x) k (sure x t))) (λ f. rw k (first_by_kept keep sure xs ∙ sym (first_by_skip [] xs x f))) (cases_Bool (test x)))
      (cases_Bool (keep x))
