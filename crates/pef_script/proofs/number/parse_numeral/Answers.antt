use Rattle.std.proofs.Common.{◌∙◌, sym, ap, arith}
use Rattle.std.specs.Char.{digit_value}
use Rattle.std.proofs.lemmas.Bool.Decides.{nat_tests}
use Rattle.pef_script.proofs.Numerals.{overflows, all_read}
use Rattle.pef_script.proofs.number.parse_numeral.Goals as goal

pub returns-in_err-checked_mul : goal.returns-in_err-checked_mul
returns-in_err-checked_mul c =
    let too_large = c.in_err-checked_mul.ensures in
    c.from_residual-in_err-checked_mul.ensures
    ∙ sym (overflows c.args.radix _ c.args.most c.loop-digit.number c.loop-digit.digit-index c.args.digits.now
    c.from-in-loop-digit.ensures (omega arith) c.loop-digit-test.true c.loop-digit.invariant.value (omega (arith, too_large)))

pub returns-in_err-number : goal.returns-in_err-number
returns-in_err-number c =
    let digit = ap digit_value c.from.ensures in
    let widened = c.from-in-loop-digit-2.ensures in
    let product = c.in_ok-checked_mul.ensures in
    let too_large = c.in_err-number.ensures in
    c.from_residual-in_err-number.ensures
    ∙ sym (overflows c.args.radix _ c.args.most c.loop-digit.number c.loop-digit.digit-index c.args.digits.now
    c.from-in-loop-digit.ensures (omega arith) c.loop-digit-test.true c.loop-digit.invariant.value (omega (arith, digit, product, widened, c.in_ok-value.ensures.value, too_large)))

pub returns : goal.returns
returns c =
    all_read c.args.radix c.args.most c.loop-digit.number c.loop-digit.digit-index c.args.digits.now
    (grind (arith, nat_tests, c.if-is_empty.ensures)) (omega arith) c.loop-digit-test.false (omega arith) c.loop-digit.invariant.valid c.loop-digit.invariant.value
