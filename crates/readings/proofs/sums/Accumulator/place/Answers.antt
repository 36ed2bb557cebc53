-- The summand has room on its side, and moves the sum by its value.
use Rattle.std.proofs.Common.{◌≡◌, ℕ, ◌+◌, ◌*◌, ◌^◌, ◌<◌, ◌≤◌, Bool, true, false, ℤ, pos, ◌+ℤ◌, ◌-ℤ◌, sym, refl, ap, ◌∙◌, subst, arith}
use Rattle.numbers.specs.declared.piece.Summand.{Summand}
use Rattle.numbers.specs.Products.{summand_units}
use Rattle.numbers.specs.Units.{rank, signed, units}
use Rattle.readings.specs.Limbs.{natural, summand_limit}
use Rattle.readings.proofs.Bounds.{room, above_more, below_more}
use Rattle.readings.proofs.sums.Accumulator.place.Goals as goal

fits : (n t k : ℕ) (s : Summand) → k ≡ rank s.exponent → t < 65536 → n ≤ t * summand_limit → n + s.significand * 2 ^ k < 2 ^ 2112
fits n t k s e T h = room n t (s.significand * 2 ^ k) T h (subst (λ (a : ℕ). s.significand * 2 ^ a ≤ summand_limit) (sym e) s.bounded)

pub add_shifted-requires : goal.add_shifted-requires
add_shifted-requires c =
    let a = c.args.self.now in
    record { reach = omega arith; room = fits (natural a.below.limbs) a.taken c.rank-shift.result c.args.summand c.rank-shift.ensures.answer c.requires a.below_bounded }

pub add_shifted-requires-else-summand : goal.add_shifted-requires-else-summand
add_shifted-requires-else-summand c =
    let a = c.args.self.now in
    record { reach = omega arith; room = fits (natural a.above.limbs) a.taken c.rank-shift.result c.args.summand c.rank-shift.ensures.answer c.requires a.above_bounded }

-- the value of a summand by its sign and size
value : (k : ℕ) (s : Summand) (b : Bool) → k ≡ rank s.exponent → s.negative ≡ b → signed b (s.significand * 2 ^ k) ≡ summand_units s
unfolding units
value k s b e h = ap (λ (a : ℕ). signed b (s.significand * 2 ^ a)) e ∙ ap (λ (a : Bool). signed a (s.significand * 2 ^ rank s.exponent)) (sym h)

pub returns-then-summand : goal.returns-then-summand
returns-then-summand c =
    let a = c.args.self.now in
    let s = c.args.summand in
    let k = c.rank-shift.result in
    record {
      count = refl;
      value =
          below_more (natural a.above.limbs) (natural a.below.limbs) (natural c.add_shifted.new.self.limbs) (s.significand * 2 ^ k) c.add_shifted.ensures.value
          ∙ ap (λ (x : ℤ). (pos (natural a.above.limbs) -ℤ pos (natural a.below.limbs)) +ℤ x) (value k s true c.rank-shift.ensures.answer c.if-summand.true);
    }

pub returns-else-summand : goal.returns-else-summand
returns-else-summand c =
    let a = c.args.self.now in
    let s = c.args.summand in
    let k = c.rank-shift.result in
    record {
      count = refl;
      value =
          above_more (natural a.above.limbs) (natural c.add_shifted-else-summand.new.self.limbs) (natural a.below.limbs) (s.significand * 2 ^ k) c.add_shifted-else-summand.ensures.value
          ∙ ap (λ (x : ℤ). (pos (natural a.above.limbs) -ℤ pos (natural a.below.limbs)) +ℤ x) (value k s false c.rank-shift.ensures.answer c.if-summand.false);
    }
