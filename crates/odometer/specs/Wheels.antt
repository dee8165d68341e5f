-- What the fields of an odometer mean.
use Rattle.std.specs.Prelude.{◌≡◌, ℕ, ◌-◌, List, ◌++◌, replicate}
use Rattle.odometer.specs.Counter.{Counter}
use Rattle.odometer.specs.Digits.{digits, total}
use Rattle.odometer.specs.declared.wheels.Odometer.TheInside.{Inside}

abbrev pub counter : Inside → Counter
counter o = record { base = o.base; places = o.places; number = o.number; some = o.some; eight = o.eight; few = o.few; within = o.within }

-- the sixteen wheels: those of the places show the number, and the others stay at 0
abbrev pub wheels_at : Counter → List ℕ
wheels_at c = digits c.base c.places c.number ++ replicate (16 - c.places) 0

pub record Kept (o : Inside) : Type 0 where
  pub all : o.count ≡ total o.base o.places
  pub shown : o.wheels ≡ wheels_at (counter o)

-- the fields of the odometer that is seen so
abbrev pub fields : Counter → Inside
fields c = record { base = c.base; places = c.places; number = c.number; count = total c.base c.places; wheels = wheels_at c; some = c.some; eight = c.eight; few = c.few; within = c.within }
