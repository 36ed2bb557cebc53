-- A rounding that can be computed: the leading digits of the total's size, and a carry.
use Rattle.std.specs.Prelude.{ℕ, zero, suc, ◌+◌, ◌-◌, ◌*◌, ◌/◌, ◌%◌, ◌^◌, Bool, cond, ℤ, unsigned_abs}
use Prim.Native.Nat.{compare, Ordering}
use Rattle.std.specs.Float.{Format}
use Rattle.std.specs.Float.Ieee.{prec, hid, top, size}
use Rattle.readings.specs.declared.forms.Direction.{Direction}
use Rattle.readings.specs.declared.forms.Direction.TheVariants.{Nearest, TowardZero, Up, Down}
use Rattle.readings.specs.declared.rounding.Mode.{Mode}
use Rattle.readings.specs.declared.rounding.Mode.TheVariants.{Cut, Raise, Near}
use Rattle.readings.specs.declared.rounding.Remainder.{Remainder}
use Rattle.readings.specs.declared.rounding.Remainder.TheVariants.{Nothing, BelowHalf, Half, AboveHalf}
use Rattle.readings.specs.Formats.{lowest}
use Rattle.readings.specs.Rounding.{negative}

-- what a direction does to the size of a total, by its sign
abbrev pub mode_of : Direction → Bool → Mode
mode_of Nearest s = Near
mode_of TowardZero s = Cut
mode_of Up s = cond s Cut Raise
mode_of Down s = cond s Raise Cut

-- how many digits of a size of n units lie below the last one that the format keeps
unfoldable pub dropped : Format → ℕ → ℕ
dropped f n = size (n / 2 ^ lowest f) - prec f

-- what r of u is left over says: nothing, or how it compares with one half of u
abbrev pub by_half : Ordering → Remainder
by_half Ordering.lt = BelowHalf
by_half Ordering.eq = Half
by_half Ordering.gt = AboveHalf

abbrev pub remainder_of : ℕ → ℕ → Remainder
remainder_of zero u = Nothing
remainder_of (suc r) u = by_half (compare (2 * suc r) u)

-- the carry of a tie into the kept number q. Away from zero: always
unfoldable pub tie_carry : ℕ → ℕ
tie_carry q = 1

-- the carry into the kept number q
abbrev pub carry : Mode → ℕ → Remainder → ℕ
carry Cut q r = 0
carry Raise q Nothing = 0
carry Raise q BelowHalf = 1
carry Raise q Half = 1
carry Raise q AboveHalf = 1
carry Near q Nothing = 0
carry Near q BelowHalf = 0
carry Near q Half = tie_carry q
carry Near q AboveHalf = 1

-- The pattern of a size. The field of the exponent counts the dropped digits; the leading digit adds one to it, and a carry out of the digits another
unfoldable pub size_pattern : Format → Mode → ℕ → ℕ
unfolding dropped
size_pattern f m n =
    let k = dropped f n in
    let u = 2 ^ (lowest f + k) in
    k * hid f + (n / u + carry m (n / u) (remainder_of (n % u) u))

unfoldable pub rounded : Format → Direction → ℤ → ℕ
unfolding size_pattern
rounded f d x = cond (negative x) (top f) 0 + size_pattern f (mode_of d (negative x)) (unsigned_abs x)
