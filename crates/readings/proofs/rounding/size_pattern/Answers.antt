-- The bits that were counted and read make up the pattern.
use Rattle.std.proofs.Common.{◌∙◌, le_of_eq}
use Rattle.readings.specs.Formats.{format_of}
use Rattle.readings.specs.Limbs.{natural}
use Rattle.readings.proofs.Kept.{Counted, counted, few_bits}
use Rattle.readings.proofs.rounding.size_pattern.Goals as goal

all : (c : goal.After-carry_into-carry) → Counted (format_of c.args.width) c.args.mode (natural c.args.size.now.limbs) c.saturating_sub-dropped.result c.bits_from-kept.result c.carry_into-carry.result
all c =
    counted (format_of c.args.width) c.args.mode (natural c.args.size.now.limbs) c.bit_length.result c.precision-precision.result c.lowest-lowest.result c.saturating_sub-dropped.result c.bits_from-kept.result
    c.carry_into-carry.result c.left_below.result (few_bits c.args.size.now.limbs c.args.size.now.fit.1 (le_of_eq c.args.size.now.fit.0)) c.bit_length.ensures.answer c.precision-precision.ensures.answer c.lowest-lowest.ensures.answer
    c.saturating_sub-dropped.ensures c.bits_from-kept.ensures.answer c.left_below.ensures.answer c.carry_into-carry.ensures.answer c.carry_into-carry.ensures.limits

pub overflow_add-kept : goal.overflow_add-kept
overflow_add-kept c = record { fits = (all c).fits }

pub joined-requires : goal.joined-requires
joined-requires c = (all c).room

pub returns : goal.returns
returns c =
    let z =
    counted (format_of c.args.width) c.args.mode (natural c.args.size.now.limbs) c.bit_length.result c.precision-precision.result c.lowest-lowest.result c.saturating_sub-dropped.result c.bits_from-kept.result
    c.carry_into-carry.result c.left_below.result (few_bits c.args.size.now.limbs c.args.size.now.fit.1 (le_of_eq c.args.size.now.fit.0)) c.bit_length.ensures.answer c.precision-precision.ensures.answer c.lowest-lowest.ensures.answer
    c.saturating_sub-dropped.ensures c.bits_from-kept.ensures.answer c.left_below.ensures.answer c.carry_into-carry.ensures.answer c.carry_into-carry.ensures.limits in
    record { answer = c.joined.ensures.answer ∙ z.pattern }
