-- Each part goes behind the others, and all of them have room.
use Rattle.std.proofs.Common.{◌≡◌, [], ◌++◌, length, codes, decimal, arith, length-append}
use Rattle.sheets.specs.Digits.{last_digits}
use Rattle.sheets.specs.Outputs.{text_of}
use Rattle.sheets.specs.Elements.{pattern_text}
use Rattle.sheets.specs.Reports.{sum_report}
use Rattle.sheets.proofs.Outputs.{put_on, length_decimal, length_last}
use Rattle.sheets.proofs.reports.sum_text.Goals as goal

pub returns : goal.returns
unfolding sum_report pattern_text
returns c =
    let pattern = last_digits 16 16 c.args.pattern in
    let products = decimal c.args.products in
    let pattern-len : length (last_digits 16 16 c.args.pattern) ≡ 16 = length_last 16 16 c.args.pattern in
    let products-len = length_decimal c.args.products c.ranges.products.fits in
    let t1 = put_on (text_of c.new-text.result) (text_of c.put_bytes.new.self) [] (codes "sum\t") c.put_bytes.ensures.bytes c.new-text.ensures.bytes (omega arith) in
    let t2 = put_on (text_of c.put_bytes.new.self) (text_of c.put_pattern.new.self) (codes "sum\t") pattern c.put_pattern.ensures.bytes t1 (omega arith) in
    let t3 = put_on (text_of c.put_pattern.new.self) (text_of c.put_bytes-2.new.self) (codes "sum\t" ++ pattern) (codes "\t") c.put_bytes-2.ensures.bytes t2 (simp length-append (omega arith)) in
    let t4 = put_on (text_of c.put_bytes-2.new.self) (text_of c.put_decimal.new.self) (codes "sum\t" ++ pattern ++ codes "\t") products c.put_decimal.ensures.bytes t3 (simp length-append (omega arith)) in
    record { bytes = put_on (text_of c.put_decimal.new.self) (text_of c.put_bytes-3.new.self) (codes "sum\t" ++ pattern ++ codes "\t" ++ products) (codes "\n") c.put_bytes-3.ensures.bytes t4 (simp length-append (omega arith)) }
