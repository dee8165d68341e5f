-- Pairs of amounts, first parts compared first, keep the laws that their parts keep.
use Rattle.std.specs.Prelude.{◌≡◌, ℕ, Bool, true, false, cond, ◌⊎◌}
use Rattle.std.proofs.Common.{arith}
use Rattle.tariffs.specs.Amounts.{AmountLaws, Counted}
use Rattle.tariffs.specs.declared.paired.Paired.{Paired}

-- whether a pair is at most another, by how their firsts compare and, where these tie, their seconds
abbrev by_first : Bool → Bool → Bool → Bool
by_first ahead back seconds = cond ahead (cond back seconds true) false

-- where the firsts of p and r tie, that of q ties with them
by_first_transitive : (pq qp qr rq pr rp s t u : Bool) → (pq ≡ true → qr ≡ true → pr ≡ true) → (qr ≡ true → rp ≡ true → qp ≡ true) → (rp ≡ true → pq ≡ true → rq ≡ true) → (s ≡ true → t ≡ true → u ≡ true) → by_first pq qp s ≡ true → by_first qr rq t ≡ true → by_first pr rp u ≡ true
by_first_transitive pq qp qr rq pr rp s t u there back on seconds h k = grind arith

module _ {A B : Type 0} {a : A} {join_a : A → A → A} {leq_a : A → A → Bool} {in_a : ℕ → A → Type 0} {b : B} {join_b : B → B → B} {leq_b : B → B → Bool} {in_b : ℕ → B → Type 0} (x : AmountLaws a join_a leq_a in_a) (y : AmountLaws b join_b leq_b in_b) where
  abbrev within : ℕ → Paired A B → Type 0
  within n p = in_a n p.first × in_b n p.second

  abbrev leq : Paired A B → Paired A B → Bool
  leq p q = by_first (leq_a p.first q.first) (leq_a q.first p.first) (leq_b p.second q.second)

  -- a counted pair has counted parts
  first : (p : Paired A B) → Counted within p → Counted in_a p.first
  first p (n, le, h) = (n, le, h.0)

  second : (p : Paired A B) → Counted within p → Counted in_b p.second
  second p (n, le, h) = (n, le, h.1)

  total : (p q : Paired A B) → Counted within p → Counted within q → (leq p q ≡ true) ⊎ (leq q p ≡ true)
  total p q m n =
      let f = x.total p.first q.first (first p m) (first q n) in
      let s = y.total p.second q.second (second p m) (second q n) in
      grind arith

  transitive : (p q r : Paired A B) → Counted within p → Counted within q → Counted within r → leq p q ≡ true → leq q r ≡ true → leq p r ≡ true
  transitive p q r l m n =
      by_first_transitive _ _ _ _ _ _ _ _ _
      (x.transitive p.first q.first r.first (first p l) (first q m) (first r n))
      (x.transitive q.first r.first p.first (first q m) (first r n) (first p l))
      (x.transitive r.first p.first q.first (first r n) (first p l) (first q m))
      (y.transitive p.second q.second r.second (second p l) (second q m) (second r n))

  antisymmetric : (p q : Paired A B) → Counted within p → Counted within q → leq p q ≡ true → leq q p ≡ true → p ≡ q
  antisymmetric p q m n h k =
      let f : p.first ≡ q.first = x.antisymmetric p.first q.first (first p m) (first q n) (grind arith) (grind arith) in
      let s : p.second ≡ q.second = y.antisymmetric p.second q.second (second p m) (second q n) (grind arith) (grind arith) in
      λ i. record { first = f i; second = s i }

  pub lexical : AmountLaws {A = Paired A B} (record { first = a; second = b }) (λ p q. record { first = join_a p.first q.first; second = join_b p.second q.second }) leq within
  lexical = record {
    total = total;
    transitive = transitive;
    antisymmetric = antisymmetric;
    left = λ p n i. record { first = x.left p.first (first p n) i; second = y.left p.second (second p n) i };
    right = λ p n i. record { first = x.right p.first (first p n) i; second = y.right p.second (second p n) i };
    nothing = (x.nothing, y.nothing);
    adds = λ m n p q few h k. (x.adds m n p.first q.first few h.0 k.0, y.adds m n p.second q.second few h.1 k.1);
  }
