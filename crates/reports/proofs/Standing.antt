-- A sheet's run holds the bag of its lines, and each refused line is found under its number. Assumes nothing.
use Rattle.std.proofs.Common.{◌≡◌, ℕ, zero, suc, ◌+◌, ◌-◌, ◌^◌, ◌<◌, Bool, true, false, cond, eqb, List, [], ◌∷◌, ◌++◌, map, length, take, drop, Some, None, Ok, Err, Option, sym, refl, ap, ◌∙◌, subst, append_assoc, append-nil, take-append-drop, add_comm, arith, length-append, length-drop, take_all}
use mathlib.Core.List.{map-append}
use Rattle.std.proofs.lemmas.Bool.{cond-true, cond-false, eqb-true}
use Rattle.condensers.specs.declared.condenser.Condenser.{Ghosts as Condenser}
use Rattle.numbers.specs.declared.refusal.Refusal.{Refusal}
use Rattle.numbers.specs.Refusals.{code_of, side_of}
use Rattle.sheets.specs.declared.splitter.Splitter.{Splitter}
use Rattle.sheets.specs.Splitting.{ended, held, current, last, sheet_lines, yielded, Took, After}
use Rattle.sheets.proofs.Chunks.{ended_join}
use Rattle.runs.specs.Bags.{Entry}
use Rattle.runs.specs.Calls.{Outcome, accepted, refused, Says, ValueCall, call_outcome, Made}
use Rattle.runs.specs.Queues.{bag_after, bag_from, Holds}
use Rattle.runs.proofs.Playing.{made_holds}
use Rattle.reports.specs.declared.sheet.RefusedLine.{RefusedLine}
use Rattle.reports.specs.Sheets.{line_call, refused_as, refusals_from, refusals, lines_bag, listed, Enters}

-- one call more in a bag

pub bag_push : (capacity : ℕ) (bag : List Entry) (xs : List ValueCall) (c : ValueCall) → bag_from capacity bag (xs ++ (c ∷ [])) ≡ bag_after capacity (bag_from capacity bag xs) c
unfolding bag_from
bag_push capacity bag [] c = refl
bag_push capacity bag (x ∷ xs) c = bag_push capacity (bag_after capacity bag x) xs c

pub lines_push : (capacity : ℕ) (ls : List (List ℕ)) (l : List ℕ) → lines_bag capacity (ls ++ (l ∷ [])) ≡ bag_after capacity (lines_bag capacity ls) (line_call l)
lines_push capacity ls l = ap (bag_from capacity []) (map-append line_call ls (l ∷ [])) ∙ bag_push capacity [] (map line_call ls) (line_call l)

refusals_from_push : (capacity : ℕ) (bag : List Entry) (n : ℕ) (ls : List (List ℕ)) (l : List ℕ)
    → refusals_from capacity bag n (ls ++ (l ∷ [])) ≡ refusals_from capacity bag n ls ++ refused_as (n + length ls) (call_outcome capacity (length (bag_from capacity bag (map line_call ls))) (line_call l))
unfolding refusals_from bag_from
refusals_from_push capacity bag n [] l = append-nil _ ∙ ap (λ (k : ℕ). refused_as k (call_outcome capacity (length bag) (line_call l))) (omega arith)
refusals_from_push capacity bag n (x ∷ ls) l =
    ap (λ rs. refused_as n (call_outcome capacity (length bag) (line_call x)) ++ rs)
    (refusals_from_push capacity (bag_after capacity bag (line_call x)) (n + 1) ls l ∙ ap (λ (k : ℕ). refusals_from capacity (bag_after capacity bag (line_call x)) (n + 1) ls ++ refused_as k (call_outcome capacity (length (bag_from capacity (bag_after capacity bag (line_call x)) (map line_call ls))) (line_call l))) (turned n (length ls)))
    ∙ sym (append_assoc (refused_as n (call_outcome capacity (length bag) (line_call x))) _ _)
  where
    turned : (a b : ℕ) → a + 1 + b ≡ a + suc b
    turned a b = omega arith

pub refusals_push : (capacity : ℕ) (ls : List (List ℕ)) (l : List ℕ) (n : ℕ) → n ≡ length ls + 1
    → refusals capacity (ls ++ (l ∷ [])) ≡ refusals capacity ls ++ refused_as n (call_outcome capacity (length (lines_bag capacity ls)) (line_call l))
refusals_push capacity ls l n h =
    refusals_from_push capacity [] 1 ls l ∙ ap (λ (k : ℕ). refusals capacity ls ++ refused_as k (call_outcome capacity (length (lines_bag capacity ls)) (line_call l))) (add_comm 1 (length ls) ∙ sym h)

-- a line that is entered

module _ {C : Type 0} (m : Condenser C) (before after : C) (line : List ℕ) (n : ℕ) (bag : List Entry) (h : Holds m before bag) where
  pub enters_ok : Made m before after (line_call line) (Ok tt) → Enters m bag line n after None
  enters_ok made =
      record {
        holds = made_holds m before after (line_call line) (Ok tt) bag made h;
        refused_is = subst (λ (k : ℕ). [] ≡ refused_as n (call_outcome m.capacity k (line_call line))) h.count_is (go (call_outcome m.capacity (m.count before) (line_call line)) made.answer);
      }
    where
      go : (o : Outcome) → Says o (Ok tt) → [] ≡ refused_as n o
      go accepted s = refl
      go (refused code place side) s = absurd s

  pub enters_err : (e : Refusal) → Made m before after (line_call line) (Err e) → (r : RefusedLine) → r.line ≡ n → r.code ≡ code_of e.reason → r.place ≡ e.place → r.side ≡ side_of e.side → Enters m bag line n after (Some r)
  enters_err e made r number code place side =
      record {
        holds = made_holds m before after (line_call line) (Err e) bag made h;
        refused_is = (λ i. record { line = number i; code = code i; place = place i; side = side i } ∷ []) ∙ subst (λ (k : ℕ). (record { line = n; code = code_of e.reason; place = e.place; side = side_of e.side } ∷ []) ≡ refused_as n (call_outcome m.capacity k (line_call line))) h.count_is (go (call_outcome m.capacity (m.count before) (line_call line)) made.answer);
      }
    where
      go : (o : Outcome) → Says o (Err e) → (record { line = n; code = code_of e.reason; place = e.place; side = side_of e.side } ∷ []) ≡ refused_as n o
      go accepted s = absurd s
      go (refused code place side) s = λ i. record { line = n; code = s.0 i; place = s.1 i; side = s.2 i } ∷ []

-- the lines of a sheet after a part of a chunk

module _ (past chunk : List ℕ) (r : ℕ) (s s' : Splitter) (a : After past s) (t : Took s chunk r s') where
  pub lines_after : ended [] (past ++ take r chunk) ≡ ended [] past ++ yielded s'
  lines_after = ended_join [] past (take r chunk) ∙ ap (λ (l : List ℕ). ended [] past ++ ended l (take r chunk)) (sym a.line) ∙ ap (λ ls. ended [] past ++ ls) t.lines

  pub none-ended : s'.complete ≡ false → ended [] (past ++ take r chunk) ≡ ended [] past
  none-ended h = lines_after ∙ ap (λ ls. ended [] past ++ ls) (cond-false s'.complete (held s' ∷ []) [] h) ∙ append-nil (ended [] past)

  pub one_ended : s'.complete ≡ true → ended [] (past ++ take r chunk) ≡ ended [] past ++ (held s' ∷ [])
  one_ended h = lines_after ∙ ap (λ ls. ended [] past ++ ls) (cond-true s'.complete (held s' ∷ []) [] h)

  -- the number of a line that was ended
  pub number_is : s'.complete ≡ true → After (past ++ take r chunk) s' → length (ended [] past) + 1 < 2 ^ 64 → s'.number ≡ length (ended [] past) + 1
  number_is h b few = b.number (subst (λ (k : ℕ). k + 1 < 2 ^ 64) (sym same) few) ∙ ap (λ (k : ℕ). k + 1) same
    where
      same : length b.earlier ≡ length (ended [] past)
      same =
          let one = ap length (sym b.lines ∙ one_ended h) in
          let first = length-append b.earlier (yielded s') in
          let second = length-append (ended [] past) (held s' ∷ []) in
          let single : length (yielded s') ≡ 1 = ap length (cond-true s'.complete (held s' ∷ []) [] h) in
          omega arith

-- one line more

module _ {C : Type 0} (m : Condenser C) (lines : List (List ℕ)) (l : List ℕ) (n : ℕ) (after : C) (r : Option RefusedLine)
    (en : Enters m (lines_bag m.capacity lines) l n after r) where
  pub holds_more : Holds m after (lines_bag m.capacity (lines ++ (l ∷ [])))
  holds_more = subst (Holds m after) (sym (lines_push m.capacity lines l)) en.holds

  pub refusals_more : n ≡ length lines + 1 → refusals m.capacity (lines ++ (l ∷ [])) ≡ refusals m.capacity lines ++ listed r
  refusals_more h = refusals_push m.capacity lines l n h ∙ ap (λ rs. refusals m.capacity lines ++ rs) (sym en.refused_is)

-- the end of a sheet

module _ (past : List ℕ) (s : Splitter) (a : After past s) where
  pub all_lines : sheet_lines past ≡ ended [] past ++ last (current s)
  all_lines = ap (λ (l : List ℕ). ended [] past ++ last l) (sym a.line)

  pub no_rest : last (current s) ≡ [] → sheet_lines past ≡ ended [] past
  no_rest h = all_lines ∙ ap (λ ls. ended [] past ++ ls) h ∙ append-nil (ended [] past)

  pub some-rest : last (current s) ≡ held s ∷ [] → sheet_lines past ≡ ended [] past ++ (held s ∷ [])
  some-rest h = all_lines ∙ ap (λ ls. ended [] past ++ ls) h

  rest_open : (b : Bool) → s.complete ≡ b → last (current s) ≡ held s ∷ [] → s.complete ≡ false
  rest_open true e h =
      let none : last (current s) ≡ [] = ap (λ (x : Bool). last (cond x [] (held s))) e in
      absurd (omega (arith, ap length (sym none ∙ h)))
  rest_open false e h = e

  pub rest-number : last (current s) ≡ held s ∷ [] → length (ended [] past) + 1 < 2 ^ 64 → s.number ≡ length (ended [] past) + 1
  rest-number h few = a.number (subst (λ (k : ℕ). k + 1 < 2 ^ 64) (sym same) few) ∙ ap (λ (k : ℕ). k + 1) same
    where
      same : length a.earlier ≡ length (ended [] past)
      same =
          let all = ap length a.lines in
          let parts = length-append a.earlier (yielded s) in
          let none : length (yielded s) ≡ 0 = ap length (cond-false s.complete (held s ∷ []) [] (rest_open s.complete refl h)) in
          omega arith

take_none : (l : List ℕ) → take 0 l ≡ []
take_none [] = refl
take_none (x ∷ l) = refl

-- something of a chunk is taken where there is something
pub took_some : (s s' : Splitter) (chunk : List ℕ) (r : ℕ) → Took s chunk r s' → 0 < length chunk → 0 < r
took_some s s' chunk r t some = go r s'.complete refl t
  where
    go : (k : ℕ) (b : Bool) → s'.complete ≡ b → Took s chunk k s' → 0 < k
    go (suc k) b e u = omega arith
    go zero false e u = absurd (omega (arith, u.all e))
    go zero true e u =
        let one : length (yielded s') ≡ 1 = ap length (cond-true s'.complete (held s' ∷ []) [] e) in
        let none : length (yielded s') ≡ 0 = ap length (sym u.lines) ∙ ap (λ (bs : List ℕ). length (ended (current s) bs)) (take_none chunk) in
        absurd (omega arith)

-- what is left of some bytes behind the place i
pub left_is : (l : List ℕ) (i : ℕ) → take (length l - i) (drop i l) ≡ drop i l
left_is l i = take_all (length l - i) (drop i l) (omega (arith, length-drop i l))

-- some of what is left joins what came before it
pub next_part : (fed rest whole : List ℕ) (n : ℕ) → (fed ++ rest) ≡ whole → ((fed ++ take n rest) ++ drop n rest) ≡ whole
next_part fed rest whole n h = append_assoc fed (take n rest) (drop n rest) ∙ ap (λ (k : List ℕ). fed ++ k) (take-append-drop n rest) ∙ h

-- where nothing is left, all was fed
pub none_left : (fed rest whole : List ℕ) → (fed ++ rest) ≡ whole → true ≡ eqb (length rest) 0 → fed ≡ whole
none_left fed [] whole h e = sym (append-nil fed) ∙ h
none_left fed (x ∷ rest) whole h e = absurd (omega (arith, eqb-true (length (x ∷ rest)) 0 (sym e)))

-- each turn takes some of what is left
pub fewer_left : (rest : List ℕ) (n : ℕ) → false ≡ eqb (length rest) 0 → (0 < length rest → 0 < n) → length (take (length rest - n) (drop n rest)) < length rest
fewer_left [] n e some = (cc)
fewer_left (x ∷ rest) n e some =
    let taken : 0 < n = some (omega arith) in
    omega (arith, ap length (left_is (x ∷ rest) n), length-drop n (x ∷ rest))
