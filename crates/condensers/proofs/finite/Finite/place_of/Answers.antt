-- A finite number is no NaN. Assumes nothing.
use Rattle.std.proofs.Common.{rules}
use Rattle.condensers.specs.Laws.Patterns.{not_nan}
use Rattle.condensers.proofs.finite.Finite.place_of.Goals as goal

pub float_to_bits-bits : goal.float_to_bits-bits
float_to_bits-bits c = not_nan c.args.self.number (search rules) c.args.self.finite
