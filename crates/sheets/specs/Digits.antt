-- Digits of a radix of at most 16: what a byte is worth, the number that digits write, and the digits that write a number.
use Rattle.std.specs.Prelude.{◌≡◌, ℕ, zero, suc, ◌+◌, ◌-◌, ◌*◌, ◌/◌, ◌%◌, Bool, true, false, cond, List, [], ◌∷◌, ◌++◌, ◌==◌, nat_lt}

-- what a byte is worth as a digit, 0 to 9 and then a to f; 16 where it is no digit
abbrev pub worth : ℕ → ℕ
worth b = cond (nat_lt b 48) 16 (cond (nat_lt b 58) (b - 48) (cond (nat_lt b 97) 16 (cond (nat_lt b 103) (b - 87) 16)))

-- the byte that writes a digit
abbrev pub digit_byte : ℕ → ℕ
digit_byte d = cond (nat_lt d 10) (48 + d) (87 + d)

abbrev pub is_digit : ℕ → ℕ → Bool
is_digit radix b = nat_lt (worth b) radix

abbrev pub AllDigits : ℕ → List ℕ → Type 0
AllDigits radix [] = Unit {0}
AllDigits radix (b ∷ bs) = (is_digit radix b ≡ true) × AllDigits radix bs

-- how many digits stand at the front of a text, at most `most`
abbrev pub run : ℕ → ℕ → List ℕ → ℕ
run radix zero text = 0
run radix (suc most) [] = 0
run radix (suc most) (b ∷ bs) = cond (is_digit radix b) (suc (run radix most bs)) 0

-- the text begins with that byte
abbrev pub begins : ℕ → List ℕ → Bool
begins byte [] = false
begins byte (b ∷ bs) = b == byte

-- how many digits of a number other than zero stand at the front of a text, at most ten, the first of them not `0`
abbrev pub size_run : List ℕ → ℕ
size_run text = cond (begins 48 text) 0 (run 10 10 text)

-- the number that digits write, behind digits that write n
abbrev pub number_on : ℕ → ℕ → List ℕ → ℕ
number_on radix n [] = n
number_on radix n (b ∷ bs) = number_on radix (n * radix + worth b) bs

abbrev pub number_of : ℕ → List ℕ → ℕ
number_of radix text = number_on radix 0 text

-- the last `count` digits of n, the highest first
unfoldable pub last_digits : ℕ → ℕ → ℕ → List ℕ
last_digits radix zero n = []
last_digits radix (suc count) n = last_digits radix count (n / radix) ++ (digit_byte (n % radix) ∷ [])
