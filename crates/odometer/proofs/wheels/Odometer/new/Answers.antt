use Rattle.std.proofs.Common.{◌≡◌, ◌+◌, ◌-◌, ◌++◌, replicate, sym, arith}
use Rattle.std.proofs.lemmas.List.{replicate-append-replicate}
use Rattle.odometer.specs.Digits.{digits}
use Rattle.odometer.proofs.Numbers.{digits_zero}
use Rattle.odometer.proofs.wheels.Odometer.new.Goals as goal

pub invariant_of-result-2 : goal.invariant_of-result-2
invariant_of-result-2 c =
    let t = c.min-places.result in
    let all : t + (16 - t) ≡ 16 = omega arith in
    let zeros : digits c.clamp-base.result t 0 ++ replicate (16 - t) 0 ≡ replicate 16 0 =
    rw (digits_zero c.clamp-base.result t (omega arith), replicate-append-replicate, all) in
    record { all = c.power.ensures; shown = sym zeros }
