use Rattle.std.proofs.Common.{◌≡◌, take}
use Rattle.std.specs.Str.Parse.{AllDigits, digits_value}
use Rattle.text.proofs.numbers.read.Given as goal

-- the digits so far
abbrev pub invariant-loop-b : goal.invariant-loop-b
invariant-loop-b l = (l.read ≡ digits_value 10 (take l.b-index l.digits)) × AllDigits 10 (take l.b-index l.digits)
