-- A line counts if it has bytes.
use Rattle.sheets.specs.Splitting.{held}
use Rattle.sheets.proofs.Chunks.{last_cases}
use Rattle.sheets.proofs.splitter.Splitter.has_bytes.Goals as goal

pub returns : goal.returns
returns c = record { answer = last_cases (held c.args.self.now) c.is_empty.result c.is_empty.ensures }
