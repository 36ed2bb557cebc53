-- A column table's summands by their index. Assumes nothing.
use Rattle.std.proofs.Common.{◌≡◌, ℕ, ◌+◌, ◌*◌, ◌/◌, ◌%◌, ◌<◌, ◌≤◌, length, get_or, ℤ, pos, nat_abs, sym, ap, ◌∙◌, subst, le_trans, mul-le-mul_right, zero-add, arith, w64, to_z, of_z, SFits}
use borrow.Author.Differences.{ints}
use Rattle.numbers.specs.declared.piece.Summand.{Summand}
use Rattle.condensers.specs.declared.column_table.ColumnTable.{ColumnTable}
use Rattle.condensers.specs.Meaning.{StandsAt}
use Rattle.condensers.specs.Columns.{summands_from, low_summand, high_summand}
use Rattle.condensers.specs.Laws.Handed.{stands-within}
use Rattle.condensers.specs.Laws.ColumnSummands.{summands_length, low-at, high-at}

pub as_many : (t : ColumnTable) → length (summands_from 0 t.columns) ≡ 128
as_many t = summands_length 0 t.columns ∙ ap (λ (n : ℕ). 2 * n) t.long

pub at_most : (t : ColumnTable) (j : ℕ) → nat_abs (get_or t.columns j (pos 0)) ≤ 67108864 * 4294967295
at_most t j = le_trans (t.bounded j) (mul-le-mul_right 4294967295 t.few)

-- a column as the code reads it
pub read : (z : ℤ) → SFits w64 z → to_z w64 (of_z w64 z) ≡ z
read z h = omega (arith, ints)

pub read_at : (t : ColumnTable) (j : ℕ) (z : ℤ) → z ≡ get_or t.columns j (pos 0) → to_z w64 (of_z w64 z) ≡ get_or t.columns j (pos 0)
read_at t j z e = ap (λ (x : ℤ). to_z w64 (of_z w64 x)) e ∙ short (get_or t.columns j (pos 0)) (at_most t j)
  where
    short : (x : ℤ) → nat_abs x ≤ 67108864 * 4294967295 → to_z w64 (of_z w64 x) ≡ x
    short x h = omega (arith, ints)

pub low_stands : (t : ColumnTable) (k : ℕ) (r : Summand) → k < 128 → k % 2 ≡ 0 → r ≡ low_summand (k / 2) (get_or t.columns (k / 2) (pos 0)) → StandsAt (summands_from 0 t.columns) k r
low_stands t k r l even h =
    stands-within (summands_from 0 t.columns) k r (subst (λ (m : ℕ). k < m) (sym (as_many t)) l)
    (h
    ∙ ap (λ (m : ℕ). low_summand m (get_or t.columns (k / 2) (pos 0))) (sym (zero-add (k / 2)))
    ∙ sym (low-at 0 t.columns (k / 2) r (subst (λ (m : ℕ). k / 2 < m) (sym t.long) (omega arith)))
    ∙ ap (λ (m : ℕ). get_or (summands_from 0 t.columns) m r) {x = 2 * (k / 2)} {y = k} (omega arith))

pub high-stands : (t : ColumnTable) (k : ℕ) (r : Summand) → k < 128 → (k % 2 ≡ 0 → ⊥) → r ≡ high_summand (k / 2) (get_or t.columns (k / 2) (pos 0)) → StandsAt (summands_from 0 t.columns) k r
high-stands t k r l odd h =
    stands-within (summands_from 0 t.columns) k r (subst (λ (m : ℕ). k < m) (sym (as_many t)) l)
    (h
    ∙ ap (λ (m : ℕ). high_summand m (get_or t.columns (k / 2) (pos 0))) (sym (zero-add (k / 2)))
    ∙ sym (high-at 0 t.columns (k / 2) r (subst (λ (m : ℕ). k / 2 < m) (sym t.long) (omega arith)))
    ∙ ap (λ (m : ℕ). get_or (summands_from 0 t.columns) m r) {x = 2 * (k / 2) + 1} {y = k} (omega arith))
