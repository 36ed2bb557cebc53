-- Each summand goes from what is still to come to what was added; a zero one changes nothing, and no condenser hands out too many.
use Rattle.std.proofs.Common.{◌≡◌, ℕ, ◌+◌, ◌*◌, ◌^◌, ◌<◌, ◌≤◌, Bool, true, false, Result, Ok, Err, List, length, drop, ℤ, pos, ◌+ℤ◌, sym, refl, ap, ◌∙◌, subst, zero-mul, arith}
use Rattle.std.specs.Prelude.{⊤}
use lib.IntN.{+ℤ_assoc, +ℤ_idl, +ℤ_idr}
use Rattle.std.proofs.lemmas.List.{drop_more, drop_all}
use Rattle.numbers.specs.declared.piece.Summand.{Summand}
use Rattle.numbers.specs.declared.refusal.Refusal.{Refusal}
use Rattle.numbers.specs.Products.{summand_units}
use Rattle.numbers.specs.Units.{units, signed, rank}
use Rattle.condensers.specs.Meaning.{sum_units, StandsAt}
use Rattle.readings.specs.declared.sums.Accumulator.{Accumulator}
use Rattle.readings.specs.Sums.{accumulated, Adds}
use Rattle.readings.proofs.accumulate.gathered.Goals as goal
use Rattle.readings.proofs.accumulate.gathered.Goals.{then-summand-ne0, else-summand-ne0}

-- the next summand, and those behind it
next : (ss : List Summand) (k : ℕ) (s : Summand) → k < length ss → StandsAt ss k s → sum_units (drop k ss) ≡ summand_units s +ℤ sum_units (drop (k + 1) ss)
next ss k s h at = ap sum_units (drop_more ss k s h) ∙ ap (λ (x : Summand). summand_units x +ℤ sum_units (drop (k + 1) ss)) (sym (at.within h))

zero-units : (s : Summand) → s.significand ≡ 0 → summand_units s ≡ pos 0
unfolding units
zero-units s z = ap (λ (a : ℕ). signed s.negative (a * 2 ^ rank s.exponent)) z ∙ ap (λ (a : ℕ). signed s.negative a) (zero-mul (2 ^ rank s.exponent)) ∙ none s.negative
  where
    none : (b : Bool) → signed b 0 ≡ pos 0
    none true = refl
    none false = refl

-- one summand, taken
taken : (r : Result ⊤ Refusal) (a b : Accumulator) (s : Summand) (k : ℕ) (rest rest' t : ℤ) → Adds a s b r → a.taken ≤ k → k < 4096 → rest ≡ summand_units s +ℤ rest' → accumulated a +ℤ rest ≡ t
    → (accumulated b +ℤ rest' ≡ t) × (b.taken ≤ k + 1)
taken (Ok done) a b s k rest rest' t h few l e inv =
    let u = h.2 in
    let v = h.1 in
    (ap (λ (x : ℤ). x +ℤ rest') u ∙ +ℤ_assoc (accumulated a) (summand_units s) rest' ∙ ap (λ (x : ℤ). accumulated a +ℤ x) (sym e) ∙ inv, omega arith)
taken (Err x) a b s k rest rest' t h few l e inv = let u = h.0 in absurd (omega arith)

pub loop-k-init : goal.loop-k-init
loop-k-init g c =
    let x = c.args.condenser.now in (
      ap (λ (a : ℤ). a +ℤ sum_units (g.C.Condenser.summands x)) c.new-sum.ensures.value ∙ +ℤ_idl (sum_units (g.C.Condenser.summands x)) ∙ g.met.C.Condenser.summands_exact x,
      omega (arith, c.new-sum.ensures.count),
    )

-- a zero one, passed over
passed : (a b : Accumulator) (s : Summand) (k : ℕ) (rest rest' t : ℤ) → b ≡ a → s.significand ≡ 0 → a.taken ≤ k → rest ≡ summand_units s +ℤ rest' → accumulated a +ℤ rest ≡ t
    → (accumulated b +ℤ rest' ≡ t) × (b.taken ≤ k + 1)
passed a b s k rest rest' t same z few e inv =
    let r : rest ≡ rest' = e ∙ ap (λ (x : ℤ). x +ℤ rest') (zero-units s z) ∙ +ℤ_idl rest' in
    (ap (λ (x : Accumulator). accumulated x +ℤ rest') same ∙ ap (λ (x : ℤ). accumulated a +ℤ x) (sym r) ∙ inv, subst (λ (x : Accumulator). x.taken ≤ k + 1) (sym same) (omega arith))

pub loop-k-preserved : goal.loop-k-preserved
loop-k-preserved g c =
    let x = c.args.condenser.now in
    let ss = g.C.Condenser.summands x in
    let k = c.loop-k.k in
    let s = c.summand-summand.result in
    let h : k < length ss = omega arith in
    let few : length ss ≤ 4096 = g.met.C.Condenser.summands_few x in
    let n = next ss k s h c.summand-summand.ensures.answer in
    let t = g.C.Condenser.total x in
    elim c.if-summand-ne0.branch [
      | then-summand-ne0 w ↦ subst (λ (a : Accumulator). (accumulated a +ℤ sum_units (drop (k + 1) ss) ≡ t) × (a.taken ≤ k + 1)) (sym w.sum-is)
          (taken w.add.result c.loop-k.sum w.add.new.self s k (sum_units (drop k ss)) (sum_units (drop (k + 1) ss)) t w.add.ensures.after c.loop-k.invariant.1 (omega arith) n c.loop-k.invariant.0)
      | else-summand-ne0 w ↦ passed c.loop-k.sum c.if-summand-ne0.sum s k (sum_units (drop k ss)) (sum_units (drop (k + 1) ss)) t w.sum-is w.if-summand-ne0.false c.loop-k.invariant.1 n c.loop-k.invariant.0
    ]

pub returns : goal.returns
returns g c =
    let x = c.args.condenser.now in
    let ss = g.C.Condenser.summands x in
    let a = accumulated c.loop-k.sum in
    record { value = sym (+ℤ_idr a) ∙ ap (λ (l : List Summand). a +ℤ sum_units l) (sym (drop_all c.loop-k.k ss (omega arith))) ∙ c.loop-k.invariant.0 }
