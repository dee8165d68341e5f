-- Numbers below g ^ t and lists of t digits below g are the same thing.
use Rattle.std.proofs.Common.{◌≡◌, ℕ, zero, suc, ◌+◌, ◌*◌, ◌/◌, ◌%◌, ◌^◌, ◌<◌, ◌≤◌, List, [], ◌∷◌, ◌++◌, length, sym, ap, ◌∙◌, pow-suc, div-add-mod', arith}
use native.Mathlib.Nat.{pow-zero, zero-div, zero-mod}
use Rattle.std.specs.Int.Digits.{number_from_digits, number_from_digits_after}
use Rattle.std.specs.List.{AllZip, AllByRecursion}
use Rattle.std.proofs.ByRecursion.{All-push}
use Rattle.std.proofs.lemmas.Nat.{div_below, div-mul-add, mod_below, mod-mul-add}
use Rattle.std.proofs.lemmas.Int.Digits.{number_push}
use Rattle.std.proofs.lemmas.List.Elements.{AllZip-push}
use Rattle.std.proofs.lemmas.List.{append_assoc, append-nil}
use Rattle.odometer.specs.Digits.{digits}

-- The digits of a number lie below the base.
pub digits_under : (g t n : ℕ) → 1 ≤ g → AllByRecursion (λ d. d < g) (digits g t n)
digits_under g zero n pos = tt
digits_under g (suc t) n pos = All-push (λ d. d < g) (digits g t (n / g)) (n % g) (digits_under g t (n / g) pos) (mod_below n g pos)

-- Digits read on after n stand after the digits of n.
digits_after : (g k m n : ℕ) (ds : List ℕ) → m ≡ k + length ds → AllByRecursion (λ d. d < g) ds → digits g m (number_from_digits_after g n ds) ≡ digits g k n ++ ds
digits_after g k m n [] e under = let same : m ≡ k = omega arith in rw (append-nil, same)
digits_after g k m n (d ∷ ds) e under =
    digits_after g (suc k) m (n * g + d) ds (omega arith) under.1 ∙ rw (div-mul-add n g d under.0, mod-mul-add n g d under.0, append_assoc)

pub digits_number : (g : ℕ) (ds : List ℕ) → AllByRecursion (λ d. d < g) ds → digits g (length ds) (number_from_digits g ds) ≡ ds
digits_number g ds under = digits_after g 0 (length ds) 0 ds (omega arith) under

-- The digits of a number read as that number.
pub number_digits : (g t n : ℕ) → 1 ≤ g → n < g ^ t → number_from_digits g (digits g t n) ≡ n
number_digits g zero n pos small = omega (arith, pow-zero g)
number_digits g (suc t) n pos small =
    let below : n / g < g ^ t = div_below n g (g ^ t) pos (omega (arith, pow-suc g t)) in
    rw (number_push, number_digits g t (n / g) pos below, div-add-mod')

-- Two numbers have the same digits only where they are the same.
pub digits_apart : (g t m n : ℕ) → 1 ≤ g → m < g ^ t → n < g ^ t → digits g t m ≡ digits g t n → m ≡ n
digits_apart g t m n pos p q e = sym (number_digits g t m pos p) ∙ ap (number_from_digits g) e ∙ number_digits g t n pos q

-- Number 0 is the least in every digit.
pub fastest : (g t n : ℕ) → AllZip ◌≤◌ (digits g t 0) (digits g t n)
fastest g zero n = tt
fastest g (suc t) n = rw (zero-div, zero-mod) (AllZip-push ◌≤◌ (digits g t 0) (digits g t (n / g)) 0 (n % g) (fastest g t (n / g)) (omega arith))
