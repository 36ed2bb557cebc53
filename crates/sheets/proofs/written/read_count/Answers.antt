-- `0`, or an optional sign and a size.
use Rattle.std.proofs.Common.{◌≡◌, ◌≤◌, false, cond, take, drop, sym, ap, ◌∙◌, subst, arith, rules}
use Rattle.std.proofs.lemmas.List.{take_rest}
use Rattle.numbers.specs.Units.{signed as with_sign}
use Rattle.sheets.specs.Digits.{begins, size_run, number_of}
use Rattle.sheets.specs.Elements.{Within}
use Rattle.sheets.proofs.Leading.{count-leads}
use Rattle.sheets.proofs.Counted.{size-most, count-zero, count-some, count_stop, sign_byte, sign_most}
use Rattle.sheets.proofs.written.read_count.Goals as goal

pub returns-then-begins_with : goal.returns-then-begins_with
returns-then-begins_with c = record { answer = count-zero c.args.bytes.now (sym c.begins_with.ensures.answer ∙ c.if-begins_with.true); law = count-leads }

pub returns-then-size-eq0 : goal.returns-then-size-eq0
returns-then-size-eq0 c =
    let bytes = c.args.bytes.now in
    let negative = c.begins_with-negative.result in
    let sign = c.from-sign.result in
    let sign_is : sign ≡ cond negative 1 0 = c.from-sign.ensures ∙ sign_byte negative in
    let no_zero : begins 48 bytes ≡ false = sym c.begins_with.ensures.answer ∙ c.if-begins_with.false in
    let size_is : c.read_size-size.result.count ≡ size_run (drop sign bytes) = c.read_size-size.ensures.count ∙ ap size_run (take_rest bytes sign) in
    record { answer = count_stop bytes negative sign no_zero (sym c.begins_with-negative.ensures.answer) sign_is (sym size_is ∙ c.if-size-eq0.true); law = count-leads }

pub overflow_add-result : goal.overflow_add-result
overflow_add-result c =
    let bytes = c.args.bytes.now in
    let sign = c.from-sign.result in
    let sign-most : sign ≤ 1 = omega (arith, c.from-sign.ensures, sign_most c.begins_with-negative.result) in
    let size_is : c.read_size-size.result.count ≡ size_run (drop sign bytes) = c.read_size-size.ensures.count ∙ ap size_run (take_rest bytes sign) in
    let most = size-most (drop sign bytes) in
    search rules

pub returns : goal.returns
returns c =
    let bytes = c.args.bytes.now in
    let negative = c.begins_with-negative.result in
    let sign = c.from-sign.result in
    let count = c.read_size-size.result.count in
    let sign_is : sign ≡ cond negative 1 0 = c.from-sign.ensures ∙ sign_byte negative in
    let no_zero : begins 48 bytes ≡ false = sym c.begins_with.ensures.answer ∙ c.if-begins_with.false in
    let cut = take_rest bytes sign in
    let size_is : count ≡ size_run (drop sign bytes) = c.read_size-size.ensures.count ∙ ap size_run cut in
    let number_is : c.read_size-size.result.number ≡ number_of 10 (take count (drop sign bytes)) = c.read_size-size.ensures.value ∙ ap (λ t. number_of 10 (take count t)) cut in
    record { answer = count-some bytes negative sign count no_zero (sym c.begins_with-negative.ensures.answer) sign_is size_is (omega arith) c.count_of.result (subst (λ n. Within 32 (with_sign negative n) c.count_of.result) number_is c.count_of.ensures.answer); law = count-leads }
