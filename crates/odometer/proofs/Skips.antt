-- A number that ends in z zeros has in every digit the least of all numbers from it up to the next multiple of g ^ (z + 1).
use Rattle.std.proofs.Common.{◌≡◌, ℕ, zero, suc, ◌+◌, ◌-◌, ◌*◌, ◌/◌, ◌%◌, ◌^◌, ◌<◌, ◌≤◌, min, sym, ap, ◌∙◌, inl, inr, mul-le-mul_right, mul-le-mul_left, pow-suc, div-add-mod', mul-one, div-mul-le_self, div-one, add-one, arith, pow-add, add-zero, add-mul, one-mul, mod-lt, mod-eq_of_lt}
use native.Mathlib.Nat.{div-div-eq-div-mul, div-eq_of_lt-le, dvd-mul_left, dvd_of_mod-eq-zero, dvd_trans, mod-eq-zero_of_dvd, mod-one, mod_self, mul-mod_left, one-le-pow, pow-le-pow_right, pow-succ', pow-zero, sub-zero}
use lib.Arith.{mod-mul}
use Rattle.std.specs.Int.{next_multiple_of}
use Rattle.std.specs.List.{AllZip}
use Rattle.std.proofs.lemmas.Nat.{div_below, le-div}
use Rattle.std.proofs.lemmas.List.Elements.{AllZip-push}
use Rattle.std.proofs.lemmas.Bool.{cases_lt, cases_order}
use Rattle.odometer.specs.Digits.{digits, next_multiple, Zeros}
use Rattle.odometer.proofs.Numbers.{full, multiple_above, room}

-- The next multiple of g ^ k above n is a multiple, and the least above n.
pub next_clear : (g k n : ℕ) → next_multiple g k n % g ^ k ≡ 0
next_clear g k n = mul-mod_left (n / g ^ k + 1) (g ^ k)

pub next_least : (g k n : ℕ) → 1 ≤ g → (m : ℕ) → n < m → m % g ^ k ≡ 0 → next_multiple g k n ≤ m
next_least g k n pos m above clear =
    let whole : m / g ^ k * g ^ k ≡ m = omega (arith, div-add-mod' m (g ^ k)) in
    let less : n / g ^ k + 1 ≤ m / g ^ k = omega (arith, div_below n (g ^ k) (m / g ^ k) (one-le-pow k g pos) (omega arith)) in
    omega (arith, mul-le-mul_right (g ^ k) less)

-- The least multiple of g ^ k above n is the library's least from n + 1 on.
pub next_from : (g k n : ℕ) → 1 ≤ g → next_multiple_of (n + 1) (g ^ k) ≡ next_multiple g k n
next_from g k n pos =
    let p = g ^ k in
    let some : 0 < p = one-le-pow k g pos in
    let rest : n % p < p = mod-lt n some in
    let whole : n / p * p + n % p ≡ n = div-add-mod' n p in
    elim (cases_lt (n % p + 1) p) [
      | inl l ↦
          let last = (room p n l).1 in
          let small : (p - (n % p + 1)) % p ≡ p - (n % p + 1) = mod-eq_of_lt (omega arith) in
          rw (last, small, add-mul, one-mul) (omega arith)
      | inr l ↦
          let e : (n / p + 1) * p ≡ n + 1 = full p n (omega arith) in
          let last : (n + 1) % p ≡ 0 = rw (← e) (mul-mod_left (n / p + 1) p) in
          let none : (p - 0) % p ≡ 0 = rw (sub-zero, mod_self) in
          rw (last, none, e, add-zero)
    ]

-- What a power of g divides, its lower powers divide.
clear_lower : (g k t n : ℕ) → k ≤ t → n % g ^ t ≡ 0 → n % g ^ k ≡ 0
clear_lower g k t n le clear =
    let e : t - k + k ≡ t = omega arith in
    mod-eq-zero_of_dvd (g ^ k) (dvd_trans (g ^ k) (dvd-mul_left (g ^ k) (g ^ (t - k))) (dvd_of_mod-eq-zero (g ^ (t - k) * g ^ k) (rw (← pow-add, e) clear)))

-- Numbers of t digits are followed by no multiple beyond their total.
pub next_within : (g k t n : ℕ) → 1 ≤ g → n < g ^ t → k ≤ t → next_multiple g k n ≤ g ^ t
next_within g k t n pos small le = next_least g k n pos (g ^ t) small (clear_lower g k t (g ^ t) le (mod_self (g ^ t)))

-- A power beyond the digits goes on to the total, and so does one of all digits.
pub next_capped : (g k t n : ℕ) → 1 ≤ g → n < g ^ t → next_multiple g (min k t) n ≡ min (next_multiple g k n) (g ^ t)
next_capped g k t n pos small =
    elim (cases_lt k t) [
      | inl l ↦
          let same : min k t ≡ k = omega arith in
          rw same (omega (arith, next_within g k t n pos small (omega arith)))
      | inr l ↦
          let same : min k t ≡ t = omega arith in
          let far : g ^ t ≤ g ^ k = pow-le-pow_right pos l in
          let high = multiple_above g k n pos in
          let here = multiple_above g t n pos in
          rw same (omega (arith, far, high, here, next_within g t t n pos small (omega arith)))
    ]

pub next_one : (g n : ℕ) → next_multiple g 0 n ≡ n + 1
next_one g n = simp (pow-zero, div-one, mul-one)

-- A number ends in one count of zeros only, whatever the base.
fewer : (g t n y z : ℕ) → Zeros g t n y → Zeros g t n z → y < z → ⊥
fewer g t n y z p q less = p.ends (omega (arith, q.few)) (clear_lower g (y + 1) z n (omega arith) q.clear)

pub zeros_unique : (g t n y z : ℕ) → Zeros g t n y → Zeros g t n z → y ≡ z
zeros_unique g t n y z p q = elim (cases_order y z) [ inl e ↦ e | inr (inl l) ↦ absurd (fewer g t n y z p q l) | inr (inr l) ↦ absurd (fewer g t n z y q p l) ]

div_pow : (g z n : ℕ) → n / g ^ suc z ≡ n / g / g ^ z
div_pow g z n = rw (pow-succ', div-div-eq-div-mul)

-- The skip, where the numbers agree above their last z + 1 digits.
faster : (g t z s n : ℕ) → 1 ≤ g → s % g ^ z ≡ 0 → s ≤ n → s / g / g ^ z ≡ n / g / g ^ z → AllZip ◌≤◌ (digits g t s) (digits g t n)
faster g zero z s n pos clear le same = tt
faster g (suc t) zero s n pos clear le same =
    let front : s / g ≡ n / g = simp (pow-zero, div-one) at same in
    let last : s % g ≤ n % g = omega (arith, div-add-mod' s g, div-add-mod' n g, ap (λ x. x * g) front) in
    AllZip-push ◌≤◌ (digits g t (s / g)) (digits g t (n / g)) _ _ (faster g t zero (s / g) (n / g) pos (simp (pow-zero, mod-one)) (omega arith) (ap (λ x. x / g / g ^ 0) front)) last
faster g (suc t) (suc z) s n pos clear le same =
    let parts : (s / g % g ^ z) * g + s % g ≡ 0 = sym (mod-mul s (one-le-pow z g pos) pos) ∙ rw (← pow-suc) clear in
    let front : s / g % g ^ z ≡ 0 = omega (arith, mul-le-mul_left (s / g % g ^ z) pos) in
    let less : s / g ≤ n / g = le-div (s / g) n g pos (omega (arith, div-mul-le_self s g)) in
    let last : s % g ≤ n % g = omega arith in
    AllZip-push ◌≤◌ (digits g t (s / g)) (digits g t (n / g)) _ _ (faster g t z (s / g) (n / g) pos front less (simp div_pow at same)) last

-- What lies between s and the next multiple of g ^ (z + 1) is no less than s in any digit.
pub skip : (g t z s n : ℕ) → 1 ≤ g → s % g ^ z ≡ 0 → s ≤ n → n < next_multiple g (z + 1) s → AllZip ◌≤◌ (digits g t s) (digits g t n)
skip g t z s n pos clear le small = faster g t z s n pos clear le (simp (← div_pow, ← add-one) (sym (div-eq_of_lt-le (g ^ (z + 1)) (omega (arith, div-mul-le_self s (g ^ (z + 1)))) small)))
