-- The law is proved in `Rules`.
use Rattle.readings.proofs.Rules.{one_answer}
use Rattle.readings.proofs.laws.one_answer.Goals as goal

pub returns : goal.returns
returns c = record { law = one_answer }
