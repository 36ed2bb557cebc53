-- The digits of `left` are still to be written, before those that stand at the end already.
use Rattle.std.proofs.Common.{◌≡◌, ◌++◌, length, drop}
use Rattle.sheets.specs.Digits.{last_digits}
use Rattle.sheets.proofs.text.Text.put_pattern.Given as goal

abbrev pub invariant-loop-at : goal.invariant-loop-at
invariant-loop-at l = (length l.digits ≡ 16) × (last_digits 16 16 l.pattern ≡ last_digits 16 l.at l.left ++ drop l.at l.digits)
