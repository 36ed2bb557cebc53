-- Entering a line: how its tests and its put settle the call. Assumes nothing.
use Rattle.std.proofs.Common.{◌≡◌, ℕ, ◌+◌, ◌≤◌, Bool, cond, [], ◌∷◌, length, ℤ, ◌+ℤ◌, neg_ℤ, Ok, Err, Option, Result, sym, refl, ap, ◌∙◌, subst, arith}
use lib.IntN.{+ℤ_idr}
use Rattle.condensers.specs.declared.condenser.Condenser.{Ghosts as Condenser}
use Rattle.numbers.specs.declared.piece.Piece.{Piece}
use Rattle.numbers.specs.declared.refusal.Refusal.{Refusal}
use Rattle.numbers.specs.Products.{piece_units}
use Rattle.numbers.specs.Refusals.{Refused}
use Rattle.condensers.specs.Meaning.{PutAnswer, PutAfter}
use Rattle.runs.specs.Bags.{entry_sum}
use Rattle.runs.specs.Calls.{Outcome, accepted, Says, room_outcome, pair_outcome, product_value, product_entries, LineReading, misread, product, ValueCall, sheet_line, call_outcome, Made}
use Rattle.runs.proofs.Elements.{says_first, says_second, passed, refused_after, accepted_after, room_left}

module _ {C : Type 0} (m : Condenser C) (before : C) where
  refused-made : (call : ValueCall) (e : Refusal) → Says (call_outcome m.capacity (m.count before) call) (Err e) → Made m before before call (Err e)
  refused-made call e s = record { answer = s; after_is = refused_after m before _ _ e s }

  pub made-misread : (reading : LineReading) (e : Refusal) (code place side : ℕ) → reading ≡ misread code place side → Refused e code place side
      → Made m before before (sheet_line reading) (Err e)
  made-misread reading e code place side h r =
      subst (λ (x : LineReading). Made m before before (sheet_line x) (Err e)) (sym h) (refused-made (sheet_line (misread code place side)) e r)

  module _ (reading : LineReading) (w : Bool) (x : Option ℤ) (p : ℕ) (y : Option ℤ) (q : ℕ) (is : reading ≡ product w x p y q) where
    pub made-full : (e : Refusal) → Says (room_outcome m.capacity (m.count before) 1) (Err e) → Made m before before (sheet_line reading) (Err e)
    made-full e r =
        subst (λ (l : LineReading). Made m before before (sheet_line l) (Err e)) (sym is) (refused-made (sheet_line (product w x p y q)) e (says_first _ _ e r))

    pub made_unfit : (e : Refusal) → room_outcome m.capacity (m.count before) 1 ≡ accepted → Says (pair_outcome x p y q) (Err e) → Made m before before (sheet_line reading) (Err e)
    made_unfit e room s =
        subst (λ (l : LineReading). Made m before before (sheet_line l) (Err e)) (sym is) (refused-made (sheet_line (product w x p y q)) e (says_second _ _ (Err e) room s))

    -- a put that has room is accepted
    module _ (after : C) (piece : Piece) (r : Result (Unit {0}) Refusal) (within : m.count before ≤ m.capacity) (room : room_outcome m.capacity (m.count before) 1 ≡ accepted) (pair : pair_outcome x p y q ≡ accepted)
        (value : piece_units piece ≡ cond w (neg_ℤ (product_value x y)) (product_value x y)) where
      one-sum : entry_sum (product_entries w (x ∷ []) (y ∷ [])) ≡ cond w (neg_ℤ (product_value x y)) (product_value x y)
      unfolding entry_sum product_entries
      one-sum = +ℤ_idr (cond w (neg_ℤ (product_value x y)) (product_value x y))

      one-long : length (product_entries w (x ∷ []) (y ∷ [])) ≡ 1
      unfolding product_entries
      one-long = refl

      put-made : (s : Result (Unit {0}) Refusal) → PutAnswer m.capacity (m.count before) s → PutAfter m.total m.count piece before after s → Made m before after (sheet_line (product w x p y q)) s
      put-made (Ok u) a f =
          let outcome : call_outcome m.capacity (m.count before) (sheet_line (product w x p y q)) ≡ accepted = passed (room_outcome m.capacity (m.count before) 1) (pair_outcome x p y q) room ∙ pair in
          record {
            answer = subst (λ (o : Outcome). Says o (Ok u)) (sym outcome) tt;
            after_is = accepted_after m before _ _ after outcome
                (f.0 ∙ ap (λ (v : ℤ). m.total before +ℤ v) (value ∙ sym one-sum), f.1 ∙ ap (λ (n : ℕ). m.count before + n) (sym one-long));
          }
      put-made (Err e) a f = let left = room_left m.capacity (m.count before) 1 within room in absurd (omega (arith, a.0))

      pub made-entered : PutAnswer m.capacity (m.count before) r → PutAfter m.total m.count piece before after r → Made m before after (sheet_line reading) r
      made-entered a f = subst (λ (l : LineReading). Made m before after (sheet_line l) r) (sym is) (put-made r a f)
