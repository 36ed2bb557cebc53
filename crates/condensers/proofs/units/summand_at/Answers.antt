-- A summand with the parts asked for is the one. Assumes nothing.
use Rattle.std.proofs.Common.{◌≡◌, ℕ, ◌*◌, ◌^◌, ◌≤◌, ℤ, pos, ◌-ℤ◌, sym, refl, subst, arith, w32, to_z, of_z}
use borrow.Author.Differences.{ints}
use Rattle.numbers.specs.Units.{rank}
use Rattle.condensers.specs.Handed.{exponent_of}
use Rattle.condensers.specs.Laws.Handed.{summand_at_is, limited-short, limited-high, limited-size}
use Rattle.condensers.proofs.units.summand_at.Goals as goal

pub returns-then-significand-eq0 : goal.returns-then-significand-eq0
returns-then-significand-eq0 c = record {
  answer = summand_at_is _ c.args.negative c.args.significand c.args.rank c.requires (sym c.if-significand-eq0.true) (λ n. absurd (n c.if-significand-eq0.true)) (λ n. absurd (n c.if-significand-eq0.true));
}

-- the exponent as the code has it
code-exponent : (h : ℕ) → h ≤ 2080 → to_z w32 (of_z w32 (to_z w32 h -ℤ pos 1074)) ≡ exponent_of h
code-exponent h l = omega (arith, ints)

pub invariant_of-result-2 : goal.invariant_of-result-2
invariant_of-result-2 c =
    let m = c.args.significand in
    let h = c.args.rank in
    let l : h ≤ 2080 = limited-high m h c.requires in
    let e = code-exponent h l in
    record {
      short = limited-short m h c.requires;
      low = omega (arith, ints);
      high = omega (arith, ints);
      bounded = subst (λ (x : ℤ). m * 2 ^ rank x ≤ 2 ^ rank (pos 1006)) (sym e) (limited-size m h c.requires);
      plus = λ z. absurd (c.if-significand-eq0.false z);
      plain = λ z. absurd (c.if-significand-eq0.false z);
    }

pub returns : goal.returns
returns c =
    let m = c.args.significand in
    let h = c.args.rank in
    record { answer = summand_at_is _ c.args.negative m h c.requires refl (λ _. refl) (λ _. code-exponent h (limited-high m h c.requires)) }
