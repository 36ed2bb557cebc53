-- Each digit makes the run one longer and carries the number on; another byte, `most` or the text's end stops it.
use Rattle.std.proofs.Common.{◌≡◌, ◌+◌, ◌*◌, ◌^◌, ◌<◌, ◌≤◌, length, get_or, take, sym, refl, ap, ◌∙◌, zero-add, arith, rules}
use native.Mathlib.Nat.{pow-zero, pow-le-pow_right, sub-zero}
use Rattle.std.proofs.lemmas.List.{get_or-take, length-take-le}
use Rattle.std.proofs.lemmas.Bool.{ltb-true}
use Rattle.sheets.specs.Digits.{run, number_of, worth, is_digit}
use Rattle.sheets.proofs.Numerals.{run_more, run_stop, run_over, number_more, power_more}
use Rattle.sheets.proofs.digits.read_digits.Goals as goal

pub loop-count-init : goal.loop-count-init
loop-count-init c = (omega arith, rw sub-zero (sym (zero-add (run c.args.radix c.args.most c.args.text.now))), refl, omega (arith, pow-zero c.args.radix))

pub returns-in_default : goal.returns-in_default
returns-in_default c =
    let len : length (take c.min.result c.args.text.now) ≡ c.min.result = length-take-le c.min.result c.args.text.now (omega arith) in
    let here = get_or-take c.min.result c.args.text.now c.loop-count.count 0 (omega arith) in
    let none = run_stop c.args.radix c.args.most c.args.text.now c.loop-count.count (omega arith) (ap (is_digit c.args.radix) (sym here) ∙ c.in_default.ensures.answer) in
    record { count = omega arith; value = c.loop-count.invariant.2 }

digit-lt : (c : goal.In-Some) → c.in-Some.digit < c.args.radix
digit-lt c =
    let digit = c.in-Some.ensures.answer in
    omega (arith, digit.1, ltb-true (worth (get_or (take c.min.result c.args.text.now) c.loop-count.count 0)) c.args.radix digit.0)

-- with one digit more the number still fits
below : (c : goal.In-Some) → c.loop-count.number * c.args.radix + c.in-Some.digit < 2 ^ 64
below c =
    let len : length (take c.min.result c.args.text.now) ≡ c.min.result = length-take-le c.min.result c.args.text.now (omega arith) in
    let more = power_more c.args.radix c.loop-count.count c.loop-count.number c.in-Some.digit c.loop-count.invariant.3 (digit-lt c) in
    let step : c.loop-count.count + 1 ≤ c.args.most = omega arith in
    let most = pow-le-pow_right c.requires.1.0 step in
    omega arith

pub overflow_mul-number : goal.overflow_mul-number
overflow_mul-number c = let h = below c in search rules

pub overflow_add-number : goal.overflow_add-number
overflow_add-number c = let h = below c in search rules

pub loop-count-preserved : goal.loop-count-preserved
loop-count-preserved c =
    let text = c.args.text.now in
    let i = c.loop-count.count in
    let len : length (take c.min.result text) ≡ c.min.result = length-take-le c.min.result text (omega arith) in
    let here = get_or-take c.min.result text i 0 (omega arith) in
    let digit = c.in-Some.ensures.answer in
    let more = run_more c.args.radix c.args.most text i (omega arith) (omega arith) (ap (is_digit c.args.radix) (sym here) ∙ digit.0) in
    let next = number_more c.args.radix text i (omega arith) in
    let was = c.loop-count.invariant.2 in
    let worth-is = digit.1 ∙ ap worth here in
    (omega arith, omega arith, cc, power_more c.args.radix i c.loop-count.number c.in-Some.digit c.loop-count.invariant.3 (digit-lt c))

pub returns : goal.returns
returns c =
    let len : length (take c.min.result c.args.text.now) ≡ c.min.result = length-take-le c.min.result c.args.text.now (omega arith) in
    let all : c.loop-count.count ≡ length (take c.min.result c.args.text.now) = omega arith in
    let none = run_over c.args.radix c.args.most c.args.text.now c.loop-count.count (omega arith) in
    record { count = omega arith; value = c.loop-count.invariant.2 ∙ ap (λ k. number_of c.args.radix (take k c.args.text.now)) all }
