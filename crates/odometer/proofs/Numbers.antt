-- The digits of a number: how many there are, the first of them, those of a multiple and of the next number, and the
-- zeros at the end; then how far a multiple of a power goes.
use Rattle.std.proofs.Common.{◌≡◌, ℕ, zero, suc, ◌+◌, ◌*◌, ◌/◌, ◌%◌, ◌^◌, ◌<◌, ◌≤◌, ◌≢◌, ◌==◌, List, ◌++◌, length, get_or, take, replicate, reverse, inl, inr, sym, refl, ap, ◌∙◌, le_trans, add-zero, add-suc, mul_assoc, add-mul, one-mul, pow-suc, div-add-mod', zero-add, zero-mul, mul-one, le-mul_of_pos_right, div-mul-le_self, div-one, mul-div_cancel, add-one, one-add, arith}
use native.Mathlib.Nat.{div-div-eq-div-mul, lt-div-mul-add, mul-mod_left, mod-one, pow-zero, pow-succ', pow-le-pow_left, pow-le-pow_right, one-le-pow}
use lib.Arith.{mod-mul}
use Rattle.std.proofs.lemmas.Nat.{div-mul-add, mod-mul-add}
use Rattle.std.specs.List.{prefix_len}
use Rattle.std.proofs.lemmas.Bool.{cases_eq, eq-eqb, ne_eqb}
use Rattle.std.proofs.lemmas.List.{length_push, reverse-append, take-append-le, take_all, get_or_push, get_or-take, append_assoc, append-nil, replicate_more}
use Rattle.odometer.specs.Digits.{digits, Zeros, next_multiple}

pub length_digits : (g t n : ℕ) → length (digits g t n) ≡ t
length_digits g zero n = refl
length_digits g (suc t) n = length_push (digits g t (n / g)) (n % g) ∙ rw (length_digits g t (n / g), add-one)

-- without the last b digits
pub front : (g a b n : ℕ) → take a (digits g (a + b) n) ≡ digits g a (n / g ^ b)
front g a zero n = let l : length (digits g a n) ≤ a = omega (arith, length_digits g a n) in rw (add-zero, pow-zero, div-one, take_all)
front g a (suc b) n =
    let l : a ≤ length (digits g (a + b) (n / g)) = omega (arith, length_digits g (a + b) (n / g)) in
    rw (add-suc, take-append-le, front g a b (n / g), div-div-eq-div-mul, pow-succ')

-- the digit with b others after it
pub digit_at : (g i b n : ℕ) → get_or (digits g (suc i + b) n) i 0 ≡ n / g ^ b % g
digit_at g i b n =
    sym (get_or-take (suc i) (digits g (suc i + b) n) i 0 (omega arith))
    ∙ ap (λ (ds : List ℕ). get_or ds i 0) (front g (suc i) b n)
    ∙ get_or_push (digits g i (n / g ^ b / g)) (n / g ^ b % g) 0 i (length_digits g i (n / g ^ b / g))

-- a multiple of a power ends in zeros
pub shifted : (g a b q : ℕ) → 0 < g → digits g (a + b) (q * g ^ b) ≡ digits g a q ++ replicate b 0
shifted g a zero q h = rw (add-zero, pow-zero, mul-one, append-nil)
shifted g a (suc b) q h =
    rw (add-suc, pow-suc, ← mul_assoc, mul-div_cancel, mul-mod_left, shifted g a b q h, append_assoc, replicate_more, add-one)

pub digits_zero : (g t : ℕ) → 0 < g → digits g t 0 ≡ replicate t 0
digits_zero g t h = rw (zero-add, zero-mul) at (shifted g 0 t 0 h)

-- the next number where the last digit has room, and where it has none
pub room : (g n : ℕ) → n % g + 1 < g → ((n + 1) / g ≡ n / g) × ((n + 1) % g ≡ n % g + 1)
room g n h =
    let e : n + 1 ≡ n / g * g + (n % g + 1) = omega (arith, div-add-mod' n g) in
    (rw e (div-mul-add (n / g) g (n % g + 1) h), rw e (mod-mul-add (n / g) g (n % g + 1) h))

pub full : (g n : ℕ) → n % g + 1 ≡ g → (n / g + 1) * g ≡ n + 1
full g n h = rw (add-mul, one-mul) (omega (arith, div-add-mod' n g))

-- the zeros that a number's digits end in, read from the last digit on: one more than before it, or none
zeros_none : (g t n : ℕ) → n % g ≢ 0 → Zeros g (suc t) n 0
zeros_none g t n some =
    let one : g ^ (0 + 1) ≡ g = rw (pow-succ', pow-zero, mul-one) in
    record { few = omega arith; clear = rw (pow-zero, mod-one); ends = λ _ e. some (rw one at e) }

zeros_one_more : (g t n z : ℕ) → 0 < g → n % g ≡ 0 → Zeros g t (n / g) z → Zeros g (suc t) n (suc z)
zeros_one_more g t n z pos last zs =
    let split : (k : ℕ) → n % g ^ suc k ≡ (n / g % g ^ k) * g + n % g = λ k. rw pow-suc (mod-mul n (one-le-pow k g pos) pos) in
    let at_more : suc z + 1 ≡ suc (z + 1) = omega arith in
    record {
      few = omega (arith, zs.few);
      clear = split z ∙ rw (zs.clear, last, zero-mul);
      ends = λ less e. zs.ends (omega arith) (omega (arith, rw at_more at e, split (z + 1), le-mul_of_pos_right (n / g % g ^ (z + 1)) pos));
    }

pub zeros_counted : (g t n : ℕ) → 0 < g → Zeros g t n (prefix_len (λ d. d == 0) (reverse (digits g t n)))
zeros_counted g zero n pos = record { few = omega arith; clear = rw (pow-zero, mod-one); ends = λ less _. omega arith }
zeros_counted g (suc t) n pos =
    rw reverse-append (elim (cases_eq (n % g) 0) [
      | inl e ↦ rw (eq-eqb (n % g) 0 e, one-add) (zeros_one_more g t n _ pos e (zeros_counted g t (n / g) pos))
      | inr ne ↦ rw (ne_eqb (n % g) 0 ne) (zeros_none g t n ne)
    ])

-- the last z + 1 digits are zeros where the last z are and the one before them is, and only there
last_split : (g n z : ℕ) → 0 < g → n % g ^ (z + 1) ≡ (n / g ^ z % g) * g ^ z + n % g ^ z
last_split g n z h = rw (add-one, pow-succ') (mod-mul n h (one-le-pow z g h))

pub zeros_more : (g n z : ℕ) → 0 < g → n % g ^ z ≡ 0 → n / g ^ z % g ≡ 0 → n % g ^ (z + 1) ≡ 0
zeros_more g n z h clear d = last_split g n z h ∙ rw (d, clear, zero-mul)

pub zeros_only : (g n z : ℕ) → 0 < g → n % g ^ (z + 1) ≡ 0 → n / g ^ z % g ≡ 0
zeros_only g n z h e = omega (arith, last_split g n z h, le-mul_of_pos_right (n / g ^ z % g) (one-le-pow z g h))

-- every power of an odometer's base fits its type by far
pub power_small : (g k : ℕ) → g ≤ 8 → k ≤ 16 → g ^ k ≤ 2 ^ 48
power_small g k e s = le_trans (pow-le-pow_left e k) (pow-le-pow_right (omega arith) s)

-- the next multiple lies above the number, by no more than the power, and not below the power
pub multiple_above : (g k n : ℕ) → 0 < g → (n < next_multiple g k n) × (next_multiple g k n ≤ n + g ^ k) × (g ^ k ≤ next_multiple g k n)
multiple_above g k n h =
    let a : n < n / g ^ k * g ^ k + g ^ k = lt-div-mul-add (one-le-pow k g h) in
    let b : n / g ^ k * g ^ k ≤ n = div-mul-le_self n (g ^ k) in
    rw (add-mul, one-mul) (a, omega arith, omega arith)
