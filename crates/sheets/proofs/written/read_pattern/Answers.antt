-- A pattern's text is a run of 16 digits.
use Rattle.std.proofs.Common.{◌≡◌, ◌<◌, take, sym, ◌∙◌, arith}
use Rattle.sheets.specs.Digits.{run, number_of}
use Rattle.sheets.proofs.Leading.{pattern-leads}
use Rattle.sheets.proofs.Fields.{pattern_read, pattern_stop}
use Rattle.sheets.proofs.Numerals.{run-within}
use Rattle.sheets.proofs.written.read_pattern.Goals as goal

pub returns-then-numeral-eq-PATTERN_DIGITS : goal.returns-then-numeral-eq-PATTERN_DIGITS
returns-then-numeral-eq-PATTERN_DIGITS c =
    let bytes = c.args.bytes.now in
    let number = c.read_digits-numeral.result.number in
    let count_is = c.read_digits-numeral.ensures.count in
    let value_is = c.read_digits-numeral.ensures.value in
    let all-is = c.if-numeral-eq-PATTERN_DIGITS.true in
    let all : run 16 16 bytes ≡ 16 = cc in
    let is : number ≡ number_of 16 (take 16 bytes) = cc in
    record { answer = pattern_read bytes number all is; law = pattern-leads }

pub returns-else-numeral-eq-PATTERN_DIGITS : goal.returns-else-numeral-eq-PATTERN_DIGITS
returns-else-numeral-eq-PATTERN_DIGITS c =
    let bytes = c.args.bytes.now in
    let same : c.read_digits-numeral.result.count ≡ run 16 16 bytes = c.read_digits-numeral.ensures.count in
    let within = run-within 16 16 bytes in
    let few : run 16 16 bytes < 16 = omega arith in
    record { answer = (omega arith, λ rest. pattern_stop bytes few rest ∙ sym same); law = pattern-leads }
