-- Ways to split on the order of two numbers. Assumes nothing.
use Rattle.std.proofs.Common.{ℕ, ◌<◌, ◌≤◌, Bool, true, false, not, T, ltb, ◌⊎◌, inl, inr, ltb→lt, nltb→le}

pub lt_or_ge : (m n : ℕ) → (m < n) ⊎ (n ≤ m)
lt_or_ge m n = go (ltb m n) (ltb→lt m n) (nltb→le m n)
  where
    go : (b : Bool) → (T b → m < n) → (T (not b) → n ≤ m) → (m < n) ⊎ (n ≤ m)
    go true y n = inl (y tt)
    go false y n = inr (n tt)
