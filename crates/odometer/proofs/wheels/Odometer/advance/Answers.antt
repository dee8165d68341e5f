use Rattle.std.proofs.Common.{◌≡◌, length, take, ap, ◌∙◌, arith}
use Rattle.odometer.specs.Digits.{next_multiple}
use Rattle.odometer.proofs.Numbers.{length_digits, multiple_above}
use Rattle.odometer.proofs.Reading.{places_show, wheels_on}
use Rattle.odometer.proofs.Skips.{next_capped, next_within}
use Rattle.odometer.proofs.wheels.Odometer.advance.Goals as goal

pub returns-then-self-clause-number : goal.returns-then-self-clause-number
returns-then-self-clause-number c =
    let o = c.self.inside in
    rw (← c.self.view_is) (omega (arith, c.self.invariant.all, multiple_above o.base c.args.k o.number o.some))

pub invariant_of-self : goal.invariant_of-self
invariant_of-self c =
    let o = c.self.inside in
    let next : c.next_multiple-self-inside.result ≡ next_multiple o.base c.min-cleared.result o.number = rw (← c.self.view_is) at c.next_multiple-self-inside.ensures in
    let shown = places_show o c.self.invariant in
    let long : length (take o.places o.wheels) ≡ o.places = rw shown (length_digits o.base o.places o.number) in
    let ahead = rw long at (c.forward.ensures o.number (rw long shown)) in
    record {
      all = c.self.invariant.all;
      shown = rw next (wheels_on o c.self.invariant c.forward.new.wheels _ ahead);
    }

pub returns-clause-number : goal.returns-clause-number
returns-clause-number c =
    let o = c.self.inside in
    rw (← c.self.view_is) (rw (← c.self.view_is) at c.next_multiple-self-inside.ensures
    ∙ ap (λ z. next_multiple o.base z o.number) c.min-cleared.ensures
    ∙ next_capped o.base c.args.k o.places o.number o.some (omega (arith, c.self.invariant.all)))

pub invariant_of-self-inside : goal.invariant_of-self-inside
invariant_of-self-inside c =
    let o = c.self.inside in
    let next : c.next_multiple-self-inside.result ≡ next_multiple o.base c.min-cleared.result o.number = rw (← c.self.view_is) at c.next_multiple-self-inside.ensures in
    let within = next_within o.base c.min-cleared.result o.places o.number o.some (omega (arith, c.self.invariant.all)) (omega arith) in
    (o.some, (o.eight, (o.few, (rw next within, tt))))
