-- A product of two factors has the limits of a piece. Assumes nothing.
use Rattle.std.proofs.Common.{◌^◌, le_of_lt, arith}
use borrow.Author.Differences.{ints}
use Rattle.std.proofs.lemmas.Nat.{mul-lt}
use Rattle.numbers.proofs.factor.Factor.product.Goals as goal

pub invariant_of-result-2 : goal.invariant_of-result-2
invariant_of-result-2 c = record {
  short = le_of_lt (mul-lt _ _ (2 ^ 26) (2 ^ 26) (omega arith) (omega arith));
  low = omega (arith, ints);
  high = omega (arith, ints);
  plus = λ h. absurd (c.if-significand-eq0.false h);
  plain = λ h. absurd (c.if-significand-eq0.false h);
}
