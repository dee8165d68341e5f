-- What an amount owes: an order, a zero, a join, and how many prices it is made of.
use Rattle.std.specs.Prelude.{◌≡◌, ℕ, ◌+◌, ◌≤◌, Bool, true, ◌⊎◌}

-- joins and laws are owed for amounts of at most so many prices
abbrev pub max_prices : ℕ
max_prices = 32

-- `within n a` says that a is within n prices; a counted amount is within few enough
abbrev pub Counted : {A : Type 0} → (ℕ → A → Type 0) → A → Type 0
Counted within a = (n : ℕ) × (n ≤ max_prices) × within n a

pub record AmountLaws {A : Type 0} (none : A) (joined : A → A → A) (leq : A → A → Bool) (within : ℕ → A → Type 0) : Type 0 where
  -- any two compare
  pub total : (a b : A) → Counted within a → Counted within b → (leq a b ≡ true) ⊎ (leq b a ≡ true)
  pub transitive : (a b c : A) → Counted within a → Counted within b → Counted within c → leq a b ≡ true → leq b c ≡ true → leq a c ≡ true
  pub antisymmetric : (a b : A) → Counted within a → Counted within b → leq a b ≡ true → leq b a ≡ true → a ≡ b
  -- zero joined on either side alters nothing
  pub left : (a : A) → Counted within a → joined none a ≡ a
  pub right : (a : A) → Counted within a → joined a none ≡ a
  -- zero is within no price, and joining adds the counts
  pub nothing : within 0 none
  pub adds : (m n : ℕ) (a b : A) → m + n ≤ max_prices → within m a → within n b → within (m + n) (joined a b)
