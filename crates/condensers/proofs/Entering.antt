-- One turn of a number on its way through a table: it is stored at an empty place, or paired with what stands there. Assumes nothing.
use Rattle.std.proofs.Common.{◌≡◌, ℕ, ◌+◌, ◌*◌, ◌^◌, ◌<◌, ◌≤◌, Bool, true, false, not, T, ◌≢◌, List, length, get_or, set, ℤ, pos, ◌+ℤ◌, nat_abs, Some, sym, ap, ◌∙◌, subst, le_trans, lt_of_le_of_lt, add-zero, mul-le-mul_right, zero-add, arith, lit<, length-set}
use lib.IntN.{+ℤ_idr}
use lib.Ieee.{Float, nan, binary64, add, fits, eq, ne, of_bits, to_bits}
use borrow.Author.Differences.{ints}
use borrow.Author.Tests.{not-true, not-false}
use Rattle.numbers.specs.Units.{float_value}
use Rattle.numbers.specs.Patterns.{field_of}
use Rattle.condensers.specs.Fields.{place}
use Rattle.condensers.specs.Pairing.{float_units, size, empty, place_of, stands, stand_from, total_of, sum_of, piece_limit, range_limit, Enters, stored, paired}
use Rattle.condensers.specs.Laws.Patterns.{number_is}
use Rattle.condensers.specs.Laws.Standing.{zero_test, nonzero_test, standing_fits, standing_field, standing_empty, standing_place, stands_there, empty_stands, empty-value}
use Rattle.condensers.specs.Laws.Tables.{stands_at, stands_set, total_set, sum-set, size_none, taken, taken_none, taken-one}

place_lt : (b : ℕ) → place b < 4096
place_lt b = omega arith

differs : (x y : Float) (b : Bool) → ne x y ≡ not b → eq x y ≡ b
unfolding ne
differs x y true e = not-false (eq x y) e
differs x y false e = not-true (eq x y) e

-- what a table of full capacity can hold is in range
in_range : (n z : ℕ) → n ≤ 67108864 → z ≤ n * piece_limit → z < range_limit
unfolding piece_limit range_limit
in_range n z h l = lt_of_le_of_lt (le_trans l (mul-le-mul_right (2 ^ 2042) h)) (lit< tt)

triangle : (a b : ℤ) → nat_abs (a +ℤ b) ≤ nat_abs a + nat_abs b
triangle a b = omega (arith, ints)

carried : (a b r x y z : ℤ) → r ≡ x +ℤ y → z ≡ pos 0 → a +ℤ y ≡ b +ℤ z → a +ℤ r ≡ b +ℤ x
carried a b r x y z e f g = omega (arith, ints)

-- a number x other than zero on its way through the table t of count n, at its place k
pub record Turn (t : List Float) (n : ℕ) (x : Float) (k : ℕ) : Type 0 where
  pub long : length t ≡ 4096
  pub standing : T (stand_from 0 t)
  pub few : n ≤ 67108864
  pub fitting : T (fits binary64 x)
  pub finite : field_of (to_bits binary64 x) < 2047
  pub within : size x + sum_of size t ≤ n * piece_limit
  pub moves : ne x (of_bits binary64 0) ≡ true
  pub there : k ≡ place_of x

module _ {t : List Float} {n : ℕ} {x : Float} {k : ℕ} (w : Turn t n x k) where
  held : Float
  held = get_or t k nan

  inside : k < length t
  inside = subst (λ (m : ℕ). k < m) (sym w.long) (subst (λ (m : ℕ). m < 4096) (sym w.there) (place_lt (to_bits binary64 x)))

  nonzero : float_units x ≢ pos 0
  nonzero = nonzero_test x w.fitting w.finite (differs x (of_bits binary64 0) false w.moves)

  held-stands : T (stands k held)
  unfolding held
  held-stands = subst (λ (m : ℕ). T (stands m (get_or t k nan))) (zero-add k) (stands_at 0 t k w.standing inside)

  -- what stands at the place is finite
  pub held-finite : field_of (to_bits binary64 (get_or t k nan)) < 2047
  unfolding held
  held-finite = standing_field k (get_or t k nan) held-stands

  -- ---- the place is empty, and then holds x

  module _ (v : List Float) (is : v ≡ set t k x) where
    pub stored-long : length v ≡ 4096
    stored-long = ap length is ∙ length-set t k x ∙ w.long

    pub stored_standing : T (stand_from 0 v)
    stored_standing =
        subst (λ (a : List Float). T (stand_from 0 a)) (sym is)
        (stands_set 0 t k x w.standing (subst (λ (m : ℕ). T (stands m x)) (sym w.there ∙ sym (zero-add k)) (stands_there x w.fitting w.finite nonzero)))

    pub stored_bounded : sum_of size v ≤ n * piece_limit
    stored_bounded = subst (λ (a : List Float). sum_of size a ≤ n * piece_limit) (sym is) (omega (arith, sum-set size t k x inside))

    module _ (free : eq (get_or t k nan) (of_bits binary64 0) ≡ true) where
      pub stored_total : total_of v ≡ total_of t +ℤ float_units x
      stored_total =
          ap total_of is
          ∙ sym (+ℤ_idr (total_of (set t k x)))
          ∙ ap (λ (a : ℤ). total_of (set t k x) +ℤ a) (sym (zero_test (get_or t k nan) free))
          ∙ total_set t k x inside

      pub stored-enters : Enters x t v
      unfolding held
      stored-enters =
          let e : get_or t k nan ≡ empty = standing_empty k (get_or t k nan) held-stands (zero_test (get_or t k nan) free) in
          subst (λ (a : List Float). Enters x t a) (sym is) (subst (λ (m : ℕ). Enters x t (set t m x)) (sym w.there) (stored nonzero (subst (λ (m : ℕ). get_or t m nan ≡ empty) w.there e)))

  -- ---- the place is occupied, and then empty

  module _ (occupied : eq (get_or t k nan) (of_bits binary64 0) ≡ false) where
    occupies : float_units (get_or t k nan) ≢ pos 0
    unfolding held
    occupies = nonzero_test (get_or t k nan) (standing_fits k (get_or t k nan) held-stands) held-finite occupied

    pub one_place : place_of x ≡ place_of (get_or t k nan)
    unfolding held
    one_place = sym w.there ∙ sym (standing_place k (get_or t k nan) held-stands occupies)

    pub sum_fine : size x + size (get_or t k nan) < range_limit
    sum_fine = in_range n (size x + size (get_or t k nan)) w.few (omega (arith, sum-set size t k (of_bits binary64 0) inside, size_none))

  module _ (v : List Float) (is : v ≡ set t k (of_bits binary64 0)) where
    pub paired_long : length v ≡ 4096
    paired_long = ap length is ∙ length-set t k (of_bits binary64 0) ∙ w.long

    pub paired_standing : T (stand_from 0 v)
    unfolding empty
    paired_standing = subst (λ (a : List Float). T (stand_from 0 a)) (sym is) (stands_set 0 t k (of_bits binary64 0) w.standing (empty_stands (0 + k)))

    less_size : sum_of size v + size (get_or t k nan) ≡ sum_of size t
    less_size = ap (λ (a : List Float). sum_of size a + size (get_or t k nan)) is ∙ sum-set size t k (of_bits binary64 0) inside ∙ ap (λ (m : ℕ). sum_of size t + m) size_none ∙ add-zero (sum_of size t)

    pub paired_bounded : sum_of size v ≤ n * piece_limit
    paired_bounded = omega (arith, less_size)

    module _ (occupied : eq (get_or t k nan) (of_bits binary64 0) ≡ false) where
      pub fewer : sum_of taken v < sum_of taken t
      fewer = subst (λ (a : List Float). sum_of taken a < sum_of taken t) (sym is) (omega (arith, sum-set taken t k (of_bits binary64 0) inside, taken_none, taken-one (get_or t k nan) occupied))

      module _ (r : Float) (sum : r ≡ add binary64 x (get_or t k nan)) (exact : float_value r ≡ Some (float_units x +ℤ float_units (get_or t k nan))) where
        value : float_units r ≡ float_units x +ℤ float_units (get_or t k nan)
        value = number_is r (float_units x +ℤ float_units (get_or t k nan)) exact

        pub sum_bounded : size r + sum_of size v ≤ n * piece_limit
        sum_bounded =
            let s : size r ≤ size x + size (get_or t k nan) = subst (λ (a : ℤ). nat_abs a ≤ size x + size (get_or t k nan)) (sym value) (triangle (float_units x) (float_units (get_or t k nan))) in
            omega (arith, less_size)

        pub sum_total : total_of v +ℤ float_units r ≡ total_of t +ℤ float_units x
        unfolding empty
        sum_total =
            carried (total_of v) (total_of t) (float_units r) (float_units x) (float_units (get_or t k nan)) (float_units (of_bits binary64 0)) value empty-value
            (ap (λ (a : List Float). total_of a +ℤ float_units (get_or t k nan)) is ∙ total_set t k (of_bits binary64 0) inside)

        pub sum-enters : (u : List Float) → Enters r v u → Enters x t u
        unfolding empty
        sum-enters u e =
            paired nonzero (subst (λ (m : ℕ). get_or t m nan ≢ empty) w.there (λ q. occupies occupied (ap float_units q ∙ empty-value)))
            (subst (λ (m : ℕ). Enters (add binary64 x (get_or t m nan)) (set t m empty) u) w.there
            (subst (λ (a : List Float). Enters (add binary64 x (get_or t k nan)) a u) is (subst (λ (y : Float). Enters y v u) sum e)))

-- ---- the whole way

-- what lasts from turn to turn, since the number x₀ entered the table t₀ of count n₀
pub record OnWay (t₀ : List Float) (n₀ : ℕ) (x₀ : Float) (t : List Float) (n : ℕ) (x : Float) : Type 0 where
  pub fitting : T (fits binary64 x)
  pub within : size x + sum_of size t ≤ n * piece_limit
  pub counted : n ≡ n₀
  pub total : total_of t +ℤ float_units x ≡ total_of t₀ +ℤ float_units x₀
  pub enters : (u : List Float) → Enters x t u → Enters x₀ t₀ u

-- ---- the number is zero

pub ended-value : (x : Float) → ne x (of_bits binary64 0) ≡ false → float_units x ≡ pos 0
ended-value x e = zero_test x (differs x (of_bits binary64 0) true e)
