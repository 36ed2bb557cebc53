-- A piece enters as its number, whose size is at most 2^968. Assumes nothing.
use Rattle.std.proofs.Common.{ℕ, ◌^◌, ◌≤◌, ℤ, ◌+ℤ◌, nat_abs, sym, ap, ◌∙◌, subst, mul-le-mul, arith, pow_mono, rules}
use Rattle.numbers.specs.declared.piece.Piece.{Piece}
use Rattle.numbers.specs.Products.{piece_units}
use Rattle.numbers.proofs.Window.{size-units}
use Rattle.condensers.specs.Pairing.{size, piece_limit, total_of}
use Rattle.condensers.specs.Laws.Patterns.{number_is}
use Rattle.condensers.proofs.Building.{rank_limit}
use Rattle.condensers.proofs.pairing_table.PairingTable.insert.Goals as goal

-- 2^52 × 2^916 is 2^968
piece_size : (p : Piece) → nat_abs (piece_units p) ≤ piece_limit
unfolding piece_limit
piece_size p =
    subst (λ (n : ℕ). n ≤ 2 ^ 2042) (sym (size-units p.negative p.significand p.exponent)) (mul-le-mul p.short (pow_mono (rank_limit p)))

pub enter-requires : goal.enter-requires
enter-requires c =
    let x = c.from.result.number in
    let l : size x ≤ piece_limit = subst (λ (v : ℤ). nat_abs v ≤ piece_limit) (sym (number_is x _ c.from.ensures)) (piece_size c.args.piece) in
    omega (arith, c.args.self.now.bounded)

pub returns : goal.returns
returns c =
    let t = c.args.self.now in
    record {
      total = c.enter.ensures.total ∙ ap (λ (v : ℤ). total_of t.entries +ℤ v) (number_is c.from.result.number _ c.from.ensures);
      count = c.enter.ensures.count;
      kept = (c.from.result.number, search rules, c.from.ensures, c.enter.ensures.kept);
    }
