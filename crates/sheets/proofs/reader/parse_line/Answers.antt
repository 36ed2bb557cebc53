-- The parts of the line decide the answer.
use Rattle.sheets.proofs.reader.parse_line.Goals as goal

pub returns : goal.returns
returns c = record { answer = c.in_range.ensures.answer c.args.line.now c.in_ok-scanned.ensures.answer }
