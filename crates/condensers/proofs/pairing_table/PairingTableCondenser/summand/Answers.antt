-- What stands at a place is within a summand's limits. Assumes nothing.
use Rattle.std.proofs.Common.{◌≡◌, ℕ, ◌*◌, ◌<◌, ◌≤◌, T, length, get_or, sym, ap, ◌∙◌, subst, le_trans, mul-le-mul_right, arith, zero-add}
use lib.Ieee.{Float, nan}
use Rattle.condensers.specs.declared.pairing_table.PairingTable.{PairingTable}
use Rattle.condensers.specs.Pairing.{stands, size, piece_limit}
use Rattle.condensers.specs.Laws.Standing.{standing_field}
use Rattle.condensers.specs.Laws.Tables.{stands_at, sum-at, standing_limited}
use Rattle.condensers.proofs.pairing_table.PairingTableCondenser.summand.Goals as goal

at_place : (t : PairingTable) (k : ℕ) → k < 4096 → T (stands k (get_or t.entries k nan))
at_place t k l = subst (λ (m : ℕ). T (stands m (get_or t.entries k nan))) (zero-add k) (stands_at 0 t.entries k t.standing (subst (λ (n : ℕ). k < n) (sym t.long) l))

at_most : (t : PairingTable) (k : ℕ) → k < 4096 → size (get_or t.entries k nan) ≤ 67108864 * piece_limit
at_most t k l = le_trans (sum-at size t.entries k (subst (λ (n : ℕ). k < n) (sym t.long) l)) (le_trans t.bounded (mul-le-mul_right piece_limit t.few))

-- the number x, taken out of place i, which is k, stands there
there : (t : PairingTable) (k : ℕ) (x : Float) {i : ℕ} → i < length t.entries → x ≡ get_or t.entries i nan → i ≡ k → T (stands k x) × (size x ≤ 67108864 * piece_limit)
there t k x l e s =
    let f : x ≡ get_or t.entries k nan = e ∙ ap (λ (j : ℕ). get_or t.entries j nan) s in
    let m : k < 4096 = omega (arith, l, s, t.long) in
    (subst (λ (y : Float). T (stands k y)) (sym f) (at_place t k m), subst (λ (y : Float). size y ≤ 67108864 * piece_limit) (sym f) (at_most t k m))

pub invariant_of-summand_of : goal.invariant_of-summand_of
invariant_of-summand_of c =
    let seen = c.in-Some.ensures.lookup.3 in
    record { finite = standing_field c.args.k c.in-Some.entry.now (there c.args.self.now c.args.k c.in-Some.entry.now seen.0 (seen.1 nan) (omega arith)).0 }

pub summand_of-requires : goal.summand_of-requires
summand_of-requires c =
    let k = c.args.k in
    let seen = c.in-Some.ensures.lookup.3 in
    let h = there c.args.self.now k c.in-Some.entry.now seen.0 (seen.1 nan) (omega arith) in
    standing_limited k c.in-Some.entry.now h.0 h.1
