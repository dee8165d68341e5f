use Rattle.std.proofs.Common.{◌+◌, ◌<◌, min, ap, ◌∙◌, arith}
use Rattle.odometer.specs.Digits.{next_multiple, total}
use Rattle.odometer.proofs.Skips.{skip, zeros_unique}
use Rattle.odometer.proofs.wheels.Odometer.skip.Goals as goal

pub returns-clause-number : goal.returns-clause-number
returns-clause-number c z is =
    let o = c.args.self.now in
    c.advance.ensures.number
    ∙ ap (λ k. min (next_multiple o.base (k + 1) o.number) (total o.base o.places)) (zeros_unique o.base o.places o.number _ z c.zeros.ensures is)

pub returns-clause-passed : goal.returns-clause-passed
returns-clause-passed c n from below =
    let o = c.args.self.now in
    let short : n < next_multiple o.base (c.zeros.result + 1) o.number = omega (arith, below, c.advance.ensures.number) in
    skip o.base o.places c.zeros.result o.number n o.some c.zeros.ensures.clear from short
