-- Laws of `up`: it is the least number of divisors that covers the dividend.
use Rattle.std.proofs.Common.{ℕ, ◌+◌, ◌*◌, ◌/◌, ◌<◌, ◌≤◌, mod-lt, add-mul, lt_of_mul-lt-mul_right, div-add-mod', le-mul_of_pos_right, arith}
use Rattle.model.specs.Quotient.{up}

pub up_covers : (a b : ℕ) → 0 < b → a ≤ up a b * b
up_covers a b pos = grind (arith, div-add-mod' a b, mod-lt a pos, add-mul (a / b) 1 b)

-- the rounding adds less than one divisor
pub up_close : (a b : ℕ) → 0 < b → up a b * b < a + b
up_close a b pos = grind (arith, div-add-mod' a b, add-mul (a / b) 1 b)

pub up_least : (a b n : ℕ) → 0 < b → a ≤ n * b → up a b ≤ n
up_least a b n pos h =
    let lt : up a b * b < (n + 1) * b = omega (arith, up_close a b pos, add-mul n 1 b) in
    omega (arith, lt_of_mul-lt-mul_right b lt)

pub up_rises : (a c b : ℕ) → 0 < b → a ≤ c → up a b ≤ up c b
up_rises a c b pos h = up_least a b (up c b) pos (omega (arith, up_covers c b pos))

pub up_within : (a b : ℕ) → 0 < b → up a b ≤ a
up_within a b pos = up_least a b a pos (le-mul_of_pos_right a pos)
