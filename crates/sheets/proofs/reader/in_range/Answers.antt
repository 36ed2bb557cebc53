-- The first field out of range is refused before the second.
use Rattle.std.proofs.Common.{◌≡◌, ◌+◌, Some, None, Ok, Err, Option, sym, refl, ◌∙◌, subst, inl, inr}
use Rattle.std.specs.Option.{ok_or}
use Rattle.std.proofs.lemmas.Result.{err_from_is_err_and}
use Rattle.numbers.specs.Refusals.{Refused}
use Rattle.sheets.proofs.reader.in_range.Goals as goal

-- where none is refused, there was none
refused_where : {E T : Type 0} (o : Option T) (e x : E) → ok_or o e ≡ Err x → (o ≡ None) × (e ≡ x)
refused_where None e x h = (refl, cc)
refused_where (Some y) e x h = cc

there_where : {E T : Type 0} (o : Option T) (e : E) (x : T) → ok_or o e ≡ Ok x → o ≡ Some x
there_where None e x h = cc
there_where (Some y) e x h = cc

pub returns-in_err-first : goal.returns-in_err-first
returns-in_err-first c =
    let p = err_from_is_err_and c.from_residual.result c.from_residual.ensures.1 in
    let e = c.in_err-first.field-0.0 in
    let none = refused_where c.args.scanned.first c.out_of_range.result e (sym c.ok_or.ensures.value ∙ c.in_err-first.was) in
    let refused = subst (λ r. Refused r 6 4 1) none.1 c.out_of_range.ensures.answer in
    record { answer = λ line parts. rw (p.1, p.2) (inr (inl (parts.first_out none.0 e refused))) }

pub returns-in_err-second : goal.returns-in_err-second
returns-in_err-second c =
    let p = err_from_is_err_and c.from_residual-in_err-second.result c.from_residual-in_err-second.ensures.1 in
    let e = c.in_err-second.field-0.0 in
    let first = there_where c.args.scanned.first c.out_of_range.result c.in_ok-first.first (sym c.ok_or.ensures.value ∙ c.in_ok-first.was) in
    let none = refused_where c.args.scanned.second c.out_of_range-2.result e (sym c.ok_or-2.ensures.value ∙ c.in_err-second.was) in
    let refused = subst (λ r. Refused r 6 (c.args.scanned.tab + 1) 2) none.1 c.out_of_range-2.ensures.answer in
    record { answer = λ line parts. rw (p.1, p.2) (inr (inr (parts.second_out c.in_ok-first.first first none.0 e refused))) }

pub returns : goal.returns
returns c =
    let first = there_where c.args.scanned.first c.out_of_range.result c.in_ok-first.first (sym c.ok_or.ensures.value ∙ c.in_ok-first.was) in
    let second = there_where c.args.scanned.second c.out_of_range-2.result c.in_ok-second.second (sym c.ok_or-2.ensures.value ∙ c.in_ok-second.was) in
    record { answer = λ line parts. parts.both c.in_ok-first.first c.in_ok-second.second first second }
