-- The line that was read is written as it stood.
use Rattle.sheets.proofs.writer.rewrite.Goals as goal

pub returns : goal.returns
returns c =
    let line = c.args.line.now in
    let is = c.in_ok-read.ensures.answer in
    record { answer = c.write_again.ensures.answer line is; bytes = c.write_again.ensures.bytes line is }
