-- The shifted number is added from its lowest limb up, and nothing is carried out of the last one.
use Rattle.std.proofs.Common.{refl, ℕ, ◌+◌, ◌-◌, ◌*◌, ◌/◌, ◌^◌, ◌<◌, sym, subst, arith}
use Rattle.readings.specs.Limbs.{natural}
use Rattle.readings.proofs.Naturals.{placed}
use Rattle.readings.proofs.limbs.Natural.add_shifted.Goals as goal

pub returns : goal.returns
returns c =
    let xs = c.args.self.now.limbs in
    let v = c.args.significand * 2 ^ c.args.shift in
    let i = c.args.shift / 64 in
    let room = subst (λ (n : ℕ). natural xs + v < 2 ^ (64 * n)) (sym c.args.self.now.fit.0) c.requires.room in
    record { value = placed xs c.add.new.limbs i (33 - i) c.add.result c.args.significand c.args.shift refl (omega arith) c.ranges.significand.fits c.add.ensures.value room }
