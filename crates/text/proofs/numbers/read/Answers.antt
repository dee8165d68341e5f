use Rattle.std.proofs.Common.{◌≡◌, ◌<◌, length, get_or, arith}
use Rattle.std.specs.Char.{digit_value}
use Rattle.std.proofs.lemmas.Int.Digits.{digits_value_more, digits_more}
use Rattle.text.proofs.Writing.{few_small, digit_under}
use Rattle.text.proofs.numbers.read.Goals as goal

pub overflow_mul-read : goal.overflow_mul-read
overflow_mul-read c = omega (arith, few_small c.args.digits.now c.loop-b.b-index (omega arith) c.loop-b.invariant.1)

pub returns-in_err-read : goal.returns-in_err-read
returns-in_err-read c =
    let none : digit_value (get_or c.args.digits.now c.loop-b.b-index 0) < 10 → ⊥ = rw c.from.ensures at c.in_err-read.ensures.value in
    rw c.from_residual.ensures (λ all. none (digit_under c.args.digits.now c.loop-b.b-index (omega arith) all))

pub overflow_add-read : goal.overflow_add-read
overflow_add-read c =
    omega (arith, few_small c.args.digits.now c.loop-b.b-index (omega arith) c.loop-b.invariant.1, c.in_ok-read.ensures.value)

pub loop-b-preserved : goal.loop-b-preserved
loop-b-preserved c =
    let ds = c.args.digits.now in
    let i = c.loop-b.b-index in
    let lt : i < length ds = omega arith in
    let (low, is) : (digit_value (get_or ds i 0) < 10) × (c.in_ok-read.field-0 ≡ digit_value (get_or ds i 0)) = rw c.from.ensures at c.in_ok-read.ensures.value in
    (omega (arith, is, digits_value_more 10 ds i lt), digits_more 10 ds i lt c.loop-b.invariant.1 low)
