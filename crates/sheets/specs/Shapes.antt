-- The shape of a sheet line: `add` or `sub`, a tab, a field, a tab, a field.
use Rattle.std.specs.Prelude.{◌≡◌, ℕ, zero, suc, ◌/◌, true, not, ◌&&◌, List, [], ◌∷◌, codes, ◌==◌, refl}
use Rattle.std.proofs.lemmas.Bool.{eq-eqb}
use Rattle.sheets.specs.Digits.{is_digit}
use Rattle.sheets.specs.Forms.{Class, Form, end, one, either}

abbrev pub byte : ℕ → Class
byte n = record { holds = λ b. (b == n); sample = n; inside = eq-eqb n n refl }

-- the digits of a radix, of which `0` is one
abbrev pub digit_of : (radix : ℕ) → is_digit radix 48 ≡ true → Class
digit_of radix zero_is = record { holds = is_digit radix; sample = 48; inside = zero_is }

abbrev pub hex_digit : Class
hex_digit = digit_of 16 refl

abbrev pub decimal_digit : Class
decimal_digit = digit_of 10 refl

-- a decimal digit other than `0`
abbrev pub leading_digit : Class
leading_digit = record { holds = λ b. is_digit 10 b && not (b == 48); sample = 49; inside = refl }

-- these bytes, and then the rest
abbrev pub literal : List ℕ → Form → Form
literal [] rest = rest
literal (b ∷ bs) rest = one (byte b) (literal bs rest)

-- n bytes of a class
abbrev pub repeat : ℕ → Class → Form → Form
repeat zero c rest = rest
repeat (suc n) c rest = one c (repeat n c rest)

-- at most n bytes of a class
abbrev pub up_to : ℕ → Class → Form → Form
up_to zero c rest = rest
up_to (suc n) c rest = either rest (one c (up_to n c rest))

-- a pattern has a hexadecimal digit for every four of its bits
unfoldable pub pattern_shape : Form → Form
pattern_shape rest = repeat (64 / 4) hex_digit rest

-- a count is `0`, or an optional `-` and at most ten digits, the first of them not `0`
unfoldable pub size_shape : Form → Form
size_shape rest = one leading_digit (up_to 9 decimal_digit rest)

unfoldable pub count_shape : Form → Form
count_shape rest = either (literal (codes "0") rest) (either (size_shape rest) (literal (codes "-") (size_shape rest)))

-- the letter of a kind, and the text of one of its elements
unfoldable pub field_shape : Form → Form
field_shape rest = either (literal (codes "p") (pattern_shape rest)) (literal (codes "c") (count_shape rest))

unfoldable pub pair_shape : Form
pair_shape = field_shape (literal (codes "\t") (field_shape end))

unfoldable pub line_shape : Form
line_shape = either (literal (codes "add\t") pair_shape) (literal (codes "sub\t") pair_shape)
