-- The finite numbers of IEEE 754's binary32 and binary64, as whole numbers of the unit, 2 ^ -1074.
use Rattle.std.specs.Prelude.{◌≡◌, ℕ, ◌-◌, ◌*◌, ◌^◌, ◌<◌, ℤ, Some, Option, from_bits}
use Rattle.std.specs.Float.{Format, binary32, binary64}
use Rattle.std.specs.Float.Ieee.{prec, low, top, ones}
use Rattle.numbers.specs.Units.{float_value}
use Rattle.readings.specs.declared.forms.Width.{Width}
use Rattle.readings.specs.declared.forms.Width.TheVariants.{Long, Short}

abbrev pub format_of : Width → Format
format_of Long = binary64
format_of Short = binary32

-- the value of a pattern, or none where it is an infinity's or a NaN's
abbrev pub encoded_value : Format → ℕ → Option ℤ
encoded_value f b = float_value (from_bits f b)

-- b is a pattern of the format, and v is its value
pub record Encodes (f : Format) (b : ℕ) (v : ℤ) : Type 0 where
  pub width : b < 2 * top f
  pub value : encoded_value f b ≡ Some v

-- the smallest positive number is 2 ^ lowest f units: one unit in binary64, 2 ^ 925 in binary32
abbrev pub lowest : Format → ℕ
lowest f = 1074 - low f

-- the largest number: all digits set, under the highest exponent. In binary32 it is (2 ^ 24 - 1) * 2 ^ 104 * 2 ^ 1074 units
unfoldable pub largest : Format → ℕ
largest f = (2 ^ prec f - 1) * 2 ^ (ones f - 2) * 2 ^ lowest f
