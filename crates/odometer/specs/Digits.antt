-- Sets of steps by number: the digits of a number in base g, the first place most significant.
use Rattle.std.specs.Prelude.{◌≡◌, ℕ, zero, suc, ◌+◌, ◌*◌, ◌/◌, ◌%◌, ◌^◌, ◌<◌, ◌≤◌, List, [], ◌∷◌, ◌++◌, ◌≢◌}

-- the t digits of n
abbrev pub digits : ℕ → ℕ → ℕ → List ℕ
digits g zero n = []
digits g (suc t) n = digits g t (n / g) ++ (n % g ∷ [])

-- how many numbers of t digits there are
abbrev pub total : ℕ → ℕ → ℕ
total g t = g ^ t

-- z is the count of zero digits at the end of the t digits of n
pub record Zeros (g t n z : ℕ) : Type 0 where
  pub few : z ≤ t
  pub clear : n % g ^ z ≡ 0
  pub ends : z < t → n % g ^ (z + 1) ≢ 0

-- the least multiple of g ^ k above n
abbrev pub next_multiple : ℕ → ℕ → ℕ → ℕ
next_multiple g k n = (n / g ^ k + 1) * g ^ k
