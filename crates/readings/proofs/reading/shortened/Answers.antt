-- The long reading is refused or rounded once more.
use Rattle.std.proofs.Common.{ℕ, ◌%◌, ◌^◌, ◌≤◌, T, nat_abs, sym, ap, subst, le_trans, le_of_eq, ltb→lt}
use lib.Ieee.{binary32}
use Rattle.numbers.specs.declared.refusal.Refusal.{Refusal}
use Rattle.numbers.specs.Refusals.{code_of, side_of}
use Rattle.numbers.proofs.Window.{size-signed}
use Rattle.readings.specs.Formats.{largest}
use Rattle.readings.specs.Limbs.{natural}
use Rattle.readings.specs.Sums.{sum_value}
use Rattle.readings.proofs.Widths.{too_large, short_limit_lem}
use Rattle.readings.proofs.reading.shortened.Goals as goal

pub returns-then-passes_short : goal.returns-then-passes_short
returns-then-passes_short c =
    let b = c.args.long in
    record {
      answer = λ x l. (
        record {
          pattern = b;
          number = l.number;
          long = record { rounds = l; encodes = l.encodes };
          large = too_large b l.number l.encodes (ltb→lt 0x47ef_ffff_e000_0000 (b % 2 ^ 63) (subst T c.if-passes_short.ensures.answer tt));
        },
        let e = c.at.ensures.answer in (ap (λ (r : Refusal). code_of r.reason) e, ap (λ (r : Refusal). r.place) e, ap (λ (r : Refusal). side_of r.side) e),
      );
    }

pub returns : goal.returns
returns c =
    let s = c.pattern_sum.result in
    let small : nat_abs (sum_value s) ≤ largest binary32 = le_trans (le_of_eq (size-signed s.negative (natural s.size.limbs))) c.pattern_sum.ensures.limits in
    record {
      answer = λ x l. record {
        pattern = c.args.long;
        number = sum_value s;
        long = record { rounds = l; encodes = c.pattern_sum.ensures.value };
        small = subst (λ (a : ℕ). nat_abs (sum_value s) ≤ a) (sym short_limit_lem) small;
        rounds = c.pattern.ensures.answer;
      };
    }
