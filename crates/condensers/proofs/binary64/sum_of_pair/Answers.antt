-- The addition is exact, since the two numbers are of one place and their sum is in range. Assumes nothing.
use Rattle.std.proofs.Common.{◌≡◌, ◌+ℤ◌, Some, refl, rules}
use lib.Ieee.{binary64, add}
use lib.Ieee.Fits.{add-fits}
use Rattle.numbers.specs.Units.{float_value}
use Rattle.condensers.specs.Pairing.{float_units}
use Rattle.condensers.specs.Laws.Pairs.{pair_exact}
use Rattle.condensers.specs.Laws.Patterns.{finite_field}
use Rattle.condensers.proofs.binary64.sum_of_pair.Goals.{Start}
use Rattle.condensers.proofs.binary64.sum_of_pair.Goals as goal

exact : (c : Start) → float_value (add binary64 c.args.a.number c.args.b.number) ≡ Some (float_units c.args.a.number +ℤ float_units c.args.b.number)
exact c = pair_exact c.args.a.number c.args.b.number (search rules) (search rules) c.args.a.finite c.requires.paired c.requires.within

pub invariant_of-result : goal.invariant_of-result
invariant_of-result c =
    let a = c.args.a.number in
    let b = c.args.b.number in
    record { finite = finite_field (add binary64 a b) _ (add-fits binary64 a b) (exact (goal.at.invariant_of-result c).Start) }

pub returns : goal.returns
returns c = record { answer = refl; value = exact (goal.at.returns c).Start }
