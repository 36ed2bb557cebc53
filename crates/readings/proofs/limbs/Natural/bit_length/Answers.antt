-- The highest limb that is not zero has the highest bit.
use Rattle.std.proofs.Common.{rules, ◌≡◌, ◌<◌, ◌≢◌, get_or}
use Rattle.std.specs.Prelude.{EachIndex}
use Rattle.readings.proofs.Naturals.{top_bits, no_bits}
use Rattle.readings.proofs.limbs.Natural.bit_length.Goals as goal

pub returns-in-Some-clause-answer : goal.returns-in-Some-clause-answer
returns-in-Some-clause-answer c =
    let xs = c.args.self.now.limbs in
    let t = c.in-Some.top in
    let found : get_or xs t 0 ≢ 0 = search rules in
    let zeros : EachIndex xs (λ j. t < j → get_or xs j 0 ≡ 0) = search rules in
    top_bits xs t c.args.self.now.fit.1 (search rules) found zeros

pub returns-in-None-clause-answer : goal.returns-in-None-clause-answer
returns-in-None-clause-answer c =
    let xs = c.args.self.now.limbs in
    let zeros : EachIndex xs (λ j. get_or xs j 0 ≡ 0) = search rules in
    no_bits xs zeros
