-- The laws are proved in `Rules`.
use Rattle.readings.proofs.Rules.{rounding_laws_lem}
use Rattle.readings.proofs.laws.rounding_laws.Goals as goal

pub returns : goal.returns
returns c = record { law = rounding_laws_lem }
