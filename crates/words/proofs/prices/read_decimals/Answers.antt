use Rattle.std.proofs.Common.{sym, ◌∙◌, arith}
use Rattle.words.proofs.PriceParts.{two_digits, one_digit}
use Rattle.words.proofs.prices.read_decimals.Goals as goal

pub returns-in_err-number : goal.returns-in_err-number
returns-in_err-number c = c.from_residual.ensures ∙ sym (two_digits c.args.digits.now (sym c.in_err-number.ensures))

pub overflow_mul-result : goal.overflow_mul-result
overflow_mul-result c = omega (arith, one_digit c.args.digits.now c.in_ok-number.number (sym c.in_ok-number.ensures) c.in-1.is)
