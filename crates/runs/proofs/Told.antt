-- The numbers of a call's result settle it. Assumes nothing.
use Rattle.std.proofs.Common.{◌≡◌, ℕ, cond, eqb, Ok, Err, sym, refl, ap, ◌∙◌, arith}
use Rattle.numbers.specs.declared.refusal.Reason.{Reason}
use Rattle.numbers.specs.declared.refusal.Reason.TheVariants.{NotFinite, NotFactor, LengthsDiffer, Full, Shape, CountRange, OutputShort, ShortRange}
use Rattle.numbers.specs.declared.refusal.Side.{Side}
use Rattle.numbers.specs.declared.refusal.Side.TheVariants.{Neither, First, Second}
use Rattle.numbers.specs.declared.refusal.Refusal.{Refusal}
use Rattle.numbers.specs.Refusals.{code_of, side_of}
use Rattle.numbers.proofs.Tested.{code-above}
use Rattle.runs.specs.declared.queue.Answer.{Answer}
use Rattle.runs.specs.Queues.{ToldOnce}

-- the reason with that code, and the side with that number
reason_of : ℕ → Reason
reason_of n =
    cond (eqb n 1) NotFinite (cond (eqb n 2) NotFactor (cond (eqb n 3) LengthsDiffer (cond (eqb n 4) Full (cond (eqb n 5) Shape (cond (eqb n 6) CountRange (cond (eqb n 7) OutputShort ShortRange))))))

coded : (r : Reason) → reason_of (code_of r) ≡ r
unfolding reason_of
coded NotFinite = refl
coded NotFactor = refl
coded LengthsDiffer = refl
coded Full = refl
coded Shape = refl
coded CountRange = refl
coded OutputShort = refl
coded ShortRange = refl

side_at : ℕ → Side
side_at n = cond (eqb n 0) Neither (cond (eqb n 1) First Second)

numbered : (s : Side) → side_at (side_of s) ≡ s
unfolding side_at
numbered Neither = refl
numbered First = refl
numbered Second = refl

same_reason : (r s : Reason) → code_of r ≡ code_of s → r ≡ s
same_reason r s e = sym (coded r) ∙ ap reason_of e ∙ coded s

same_side : (r s : Side) → side_of r ≡ side_of s → r ≡ s
same_side r s e = sym (numbered r) ∙ ap side_at e ∙ numbered s

pub told_once : ToldOnce
told_once (Ok u) (Ok v) h = refl
told_once (Ok u) (Err e) h = let c = code-above e.reason in absurd (omega (arith, ap (λ (a : Answer). a.code) h))
told_once (Err e) (Ok v) h = let c = code-above e.reason in absurd (omega (arith, ap (λ (a : Answer). a.code) h))
told_once (Err e) (Err f) h =
    let reason = same_reason e.reason f.reason (ap (λ (a : Answer). a.code) h) in
    let place = ap (λ (a : Answer). a.place) h in
    let side = same_side e.side f.side (ap (λ (a : Answer). a.side) h) in
    ap (λ (x : Refusal). Err x) (λ i. record { reason = reason i; place = place i; side = side i })
