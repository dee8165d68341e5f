-- A quotient that is rounded up.
use Rattle.std.specs.Prelude.{ℕ, ◌+◌, ◌/◌, ◌%◌, min}

abbrev pub up : ℕ → ℕ → ℕ
up a b = a / b + min 1 (a % b)
