-- What an odometer's wheels tell of its number.
use Rattle.std.proofs.Common.{◌≡◌, ℕ, ◌-◌, List, ◌++◌, take, drop, replicate, ap}
use Rattle.std.proofs.lemmas.List.{take_at, drop_at}
use Rattle.odometer.specs.Digits.{digits}
use Rattle.odometer.specs.Wheels.{Kept}
use Rattle.odometer.specs.declared.wheels.Odometer.TheInside.{Inside}
use Rattle.odometer.proofs.Numbers.{length_digits}

module _ (o : Inside) (kept : Kept o) where
  pub places_show : take o.places o.wheels ≡ digits o.base o.places o.number
  places_show = rw kept.shown (take_at (digits o.base o.places o.number) _ o.places (length_digits o.base o.places o.number))

  -- those of the places have gone on to a number
  pub wheels_on : (ahead : List ℕ) (next : ℕ) → ahead ≡ digits o.base o.places next
      → ahead ++ drop o.places o.wheels ≡ digits o.base o.places next ++ replicate (16 - o.places) 0
  wheels_on ahead next is =
      rw (is, kept.shown) (ap (λ rest. digits o.base o.places next ++ rest) (drop_at (digits o.base o.places o.number) _ o.places (length_digits o.base o.places o.number)))
