-- Values as whole numbers of units. The unit is 2^-1074, the smallest positive binary64 number.
use Rattle.std.specs.Prelude.{ℕ, ◌+◌, ◌-◌, ◌*◌, ◌^◌, Bool, true, false, ℤ, pos, negsuc, neg_ℤ, Some, None, Option, Float}
use Rattle.std.specs.Float.{nan, inf, fin}

-- the power of two of 2^e in units, for an e of -1074 or more
unfoldable pub rank : ℤ → ℕ
rank (pos n) = n + 1074
rank (negsuc n) = 1073 - n

-- m with a sign, negative where it is true
abbrev pub signed : Bool → ℕ → ℤ
signed false m = pos m
signed true m = neg_ℤ (pos m)

-- the value ±m × 2^e in units
unfoldable pub units : Bool → ℕ → ℤ → ℤ
units s m e = signed s (m * 2 ^ rank e)

-- the value of one of the toolchain's IEEE 754 numbers in units, where it is finite
unfoldable pub float_value : Float → Option ℤ
float_value nan = None
float_value (inf s) = None
float_value (fin s m e) = Some (units s m e)
