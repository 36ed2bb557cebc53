-- Two limbs hold the 64 bits.
use Rattle.std.proofs.Common.{ℕ, ◌+◌, ◌*◌, ◌/◌, ◌%◌, ◌^◌, get_or, ap, ◌∙◌}
use Rattle.readings.proofs.Naturals.{read_bits}
use Rattle.readings.proofs.limbs.Natural.bits_from.Goals as goal

pub returns : goal.returns
returns c =
    let o = c.args.cut % 64 in
    let xs = c.args.self.now.limbs in
    record {
      answer =
          ap (λ (a : ℕ). (a * 2 ^ 64 + c.limb-2.result) / 2 ^ o % 2 ^ 64) c.limb.ensures.answer
          ∙ ap (λ (a : ℕ). (get_or xs (c.args.cut / 64 + 1) 0 * 2 ^ 64 + a) / 2 ^ o % 2 ^ 64) c.limb-2.ensures.answer
          ∙ read_bits xs c.args.cut c.args.self.now.fit.1;
    }
