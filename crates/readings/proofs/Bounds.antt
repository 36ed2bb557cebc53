-- The limits of summands and sums fit the limbs. Assumes nothing.
use Rattle.std.proofs.Common.{◌≡◌, ℕ, ◌+◌, ◌*◌, ◌^◌, ◌<◌, ◌≤◌, pos, ◌+ℤ◌, ◌-ℤ◌, neg_ℤ, sym, ap, ◌∙◌, le_trans, le_of_eq, lt_of_le_of_lt, add-le-add, mul-le-mul_right, suc-mul, arith, lit<}
use borrow.Author.Differences.{ints}
use Rattle.numbers.specs.Units.{rank}
use Rattle.readings.specs.Limbs.{summand_limit}

limit_fits : 65536 * summand_limit < 2 ^ 2112
unfolding rank
limit_fits = lit< tt

-- one summand more, in size
pub more : (n t v : ℕ) → n ≤ t * summand_limit → v ≤ summand_limit → n + v ≤ (t + 1) * summand_limit
more n t v h k = le_trans (add-le-add h k) (le_of_eq (sym (suc-mul t summand_limit) ∙ ap (λ (a : ℕ). a * summand_limit) (omega arith)))

pub same : (n t : ℕ) → n ≤ t * summand_limit → n ≤ (t + 1) * summand_limit
same n t h = le_trans h (mul-le-mul_right summand_limit (omega arith))

pub room : (n t v : ℕ) → t < 65536 → n ≤ t * summand_limit → v ≤ summand_limit → n + v < 2 ^ 2112
room n t v T h k = lt_of_le_of_lt (le_trans (more n t v h k) (mul-le-mul_right summand_limit (omega arith))) limit_fits

-- the largest size of 65,536 summands
unfoldable pub sum_limit : ℕ
sum_limit = 65536 * summand_limit

pub in_sum : (n t : ℕ) → t ≤ 65536 → n ≤ t * summand_limit → n ≤ sum_limit
unfolding sum_limit
in_sum n t T h = le_trans h (mul-le-mul_right summand_limit T)

-- a summand on either side moves the difference by its value
pub above_more : (a a' b v : ℕ) → a' ≡ a + v → pos a' -ℤ pos b ≡ (pos a -ℤ pos b) +ℤ pos v
above_more a a' b v h = omega (arith, ints)

pub below_more : (a b b' v : ℕ) → b' ≡ b + v → pos a -ℤ pos b' ≡ (pos a -ℤ pos b) +ℤ neg_ℤ (pos v)
below_more a b b' v h = omega (arith, ints)
