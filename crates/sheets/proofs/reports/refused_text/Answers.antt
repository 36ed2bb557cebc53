-- Each part goes behind the others, and all of them have room.
use Rattle.std.proofs.Common.{[], ◌++◌, codes, decimal, arith, length-append}
use Rattle.sheets.specs.Outputs.{text_of}
use Rattle.sheets.specs.Reports.{refused_report}
use Rattle.sheets.proofs.Outputs.{put_on, length_decimal}
use Rattle.sheets.proofs.reports.refused_text.Goals as goal

pub returns : goal.returns
unfolding refused_report
returns c =
    let line = decimal c.args.line in
    let code = decimal c.args.code in
    let place = decimal c.args.place in
    let line-len = length_decimal c.args.line c.ranges.line.fits in
    let code-len = length_decimal c.args.code c.ranges.code.fits in
    let place-len = length_decimal c.args.place c.ranges.place.fits in
    let t1 = put_on (text_of c.new-text.result) (text_of c.put_bytes.new.self) [] (codes "no\t") c.put_bytes.ensures.bytes c.new-text.ensures.bytes (omega arith) in
    let t2 = put_on (text_of c.put_bytes.new.self) (text_of c.put_decimal.new.self) (codes "no\t") line c.put_decimal.ensures.bytes t1 (omega arith) in
    let t3 = put_on (text_of c.put_decimal.new.self) (text_of c.put_bytes-2.new.self) (codes "no\t" ++ line) (codes "\t") c.put_bytes-2.ensures.bytes t2 (simp length-append (omega arith)) in
    let t4 = put_on (text_of c.put_bytes-2.new.self) (text_of c.put_decimal-2.new.self) (codes "no\t" ++ line ++ codes "\t") code c.put_decimal-2.ensures.bytes t3 (simp length-append (omega arith)) in
    let t5 = put_on (text_of c.put_decimal-2.new.self) (text_of c.put_bytes-3.new.self) (codes "no\t" ++ line ++ codes "\t" ++ code) (codes "\t") c.put_bytes-3.ensures.bytes t4 (simp length-append (omega arith)) in
    let t6 = put_on (text_of c.put_bytes-3.new.self) (text_of c.put_decimal-3.new.self) (codes "no\t" ++ line ++ codes "\t" ++ code ++ codes "\t") place c.put_decimal-3.ensures.bytes t5 (simp length-append (omega arith)) in
    record { bytes = put_on (text_of c.put_decimal-3.new.self) (text_of c.put_bytes-4.new.self) (codes "no\t" ++ line ++ codes "\t" ++ code ++ codes "\t" ++ place) (codes "\n") c.put_bytes-4.ensures.bytes t6 (simp length-append (omega arith)) }
