-- Nothing has come in, and nothing was entered. Assumes nothing.
use Rattle.runs.specs.Bags.{entry_sum}
use Rattle.runs.specs.Queues.{bag_from}
use Rattle.reports.proofs.sheet.Sheet.begin.Goals as goal

pub returns : goal.returns
unfolding entry_sum bag_from
returns g c = record { law = record { lines_are = c.new-2.ensures.after; holds = record { total_is = c.new.ensures.total; count_is = c.new.ensures.count } } }
