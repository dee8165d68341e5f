use Rattle.std.proofs.Common.{◌∙◌, arith}
use native.Mathlib.Nat.{one-le-pow}
use Rattle.odometer.specs.Wheels.{counter}
use Rattle.odometer.proofs.Numbers.{power_small}
use Rattle.odometer.proofs.Skips.{next_from, next_within}
use Rattle.odometer.proofs.wheels.Odometer.next_multiple.Goals as goal

pub overflow_add-self-inside : goal.overflow_add-self-inside
overflow_add-self-inside c =
    let range = c.self.inside in
    let left = rw (← c.self.view_is) at c.requires.left in
    omega (arith, left, power_small c.self.inside.base c.self.inside.places range.eight range.few)

pub next_multiple_of-requires : goal.next_multiple_of-requires
next_multiple_of-requires c =
    let o = counter c.self.inside in
    let range = c.self.inside in
    let power = c.power.ensures in
    let few = rw (← c.self.view_is) at c.requires.few in
    let left = rw (← c.self.view_is) at c.requires.left in
    let within = next_within o.base c.args.k o.places o.number range.some left few in
    let small = power_small o.base o.places range.eight range.few in
    rw power (record {
      nonzero = one-le-pow c.args.k o.base range.some;
      fits = rw (next_from o.base c.args.k o.number range.some) (omega (arith, within, small));
    })

pub returns : goal.returns
returns c =
    let o = counter c.self.inside in
    let power = c.power.ensures in
    c.next_multiple_of.ensures.value ∙ rw (← c.self.view_is, power) (next_from o.base c.args.k o.number c.self.inside.some)
