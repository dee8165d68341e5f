-- An item that writes a value, and only such an item, has the shape of one and nothing but digits.
use Rattle.std.proofs.Common.{◌≡◌, ℕ, zero, suc, ◌^◌, ◌<◌, ◌≤◌, List, [], ◌∷◌, length, get_or, take, Some, None, decimal, Option, sym, refl, ap, ◌∙◌, inl, inr, lt_of_lt_of_le, arith, MatchOption}
use native.Mathlib.Nat.{pow-le-pow_right}
use Rattle.std.specs.Str.Parse.{AllDigits, digits_value}
use Rattle.std.specs.Char.{digit_value}
use Rattle.std.proofs.lemmas.Fmt.{decimal_digit, decimal_nonempty, decimal-digits_value, digits_decimal, first_decimal, length-decimal-le}
use Rattle.std.proofs.lemmas.Int.Digits.{digits_value-lt}
use Rattle.std.proofs.lemmas.List.{length-take}
use Rattle.std.proofs.lemmas.Str.Parse.{IsNumeralModel, numerals_by_value, tells_digits, digits_value_short}
use Rattle.std.proofs.lemmas.Bool.{cases_lt}
use Rattle.text.specs.Values.{values, Shaped}

own : IsNumeralModel (AllDigits 10) (digits_value 10)
own = numerals_by_value (AllDigits 10) tells_digits

-- up to eight digits leave room for one more
pub few_small : (ds : List ℕ) (i : ℕ) → i ≤ 8 → AllDigits 10 (take i ds) → digits_value 10 (take i ds) < 10 ^ 8
few_small ds i le h =
    let short : length (take i ds) ≤ 8 = simp length-take (omega arith) in
    lt_of_lt_of_le (digits_value-lt 10 (take i ds) h) (pow-le-pow_right (omega arith) short)

pub digit_under : (ds : List ℕ) (i : ℕ) → i < length ds → AllDigits 10 ds → digit_value (get_or ds i 0) < 10
digit_under [] i lt h = omega arith
digit_under (d ∷ ds) zero lt (here, h) = here
digit_under (d ∷ ds) (suc i) lt (here, h) = digit_under ds i (omega arith) h

shaped_decimal : (n : ℕ) → n < values → Shaped (decimal n)
shaped_decimal n small =
    elim (cases_lt 0 n) [
      | inl pos ↦
          let first = first_decimal n pos (omega arith) in
          record {
            some = decimal_nonempty n (omega arith);
            few = length-decimal-le 9 n (omega arith) (omega arith) (omega arith);
            led = λ e. let never : ⊥ = omega arith in absurd never;
          }
      | inr none ↦ rw (decimal_digit n (omega arith)) (record { some = omega arith; few = omega arith; led = λ _. refl })
    ]

pub unshaped : (item : List ℕ) → (Shaped item → ⊥) → (n : ℕ) → n < values → item ≡ decimal n → ⊥
unshaped item bad n small e = bad (rw e (shaped_decimal n small))

pub shaped : (item : List ℕ) (r : Option ℕ) → Shaped item
    → MatchOption r (AllDigits 10 item → ⊥) (λ n. AllDigits 10 item × (n ≡ digits_value 10 item))
    → MatchOption r ((n : ℕ) → n < values → item ≡ decimal n → ⊥) (λ n. (n < values) × (item ≡ decimal n))
shaped item None s bad = λ n small e. bad (rw e (digits_decimal own n (omega arith)))
shaped item (Some n) s (ds, e) =
    let low : digits_value 10 item < 10 ^ 9 = digits_value_short own item 9 ds s.few in
    (omega arith, sym (ap decimal e ∙ decimal-digits_value own item ds s.some s.led (omega arith)))
