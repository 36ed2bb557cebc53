-- The theorem is the lemma. Assumes nothing.
use Rattle.runs.proofs.Agreements.{agreement_by_values_lem}
use Rattle.runs.proofs.agreement.agreement_by_values.Goals as goal

pub returns : goal.returns
returns c = record { law = agreement_by_values_lem }
