-- The theorem is the lemma. Assumes nothing.
use Rattle.numbers.proofs.Tested.{acceptance_tested}
use Rattle.numbers.proofs.acceptance.acceptance_is_tested.Goals as goal

pub returns : goal.returns
returns c = record { law = acceptance_tested }
