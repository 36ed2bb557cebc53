-- The run's answer settles the line. Assumes nothing.
use Rattle.std.proofs.Common.{ℕ, List, Ok, Err, refl, subst, arith}
use Rattle.runs.specs.Calls.{Made}
use Rattle.reports.specs.Sheets.{line_call}
use Rattle.reports.proofs.Standing.{enters_ok, enters_err}
use Rattle.reports.proofs.feeding.enter_held.Goals as goal

pub returns-in-Ok : goal.returns-in-Ok
returns-in-Ok g c =
    let m = subst (λ (l : List ℕ). Made g.C.Condenser c.args.run.now.condenser c.enter.new.self.condenser (line_call l) (Ok tt)) c.line.ensures.bytes c.in-Ok.ensures.call in
    record {
      after = λ bag h.
          enters_ok g.C.Condenser c.args.run.now.condenser c.enter.new.self.condenser _ c.args.lines.now.number bag h m;
    }

pub returns-in-Err : goal.returns-in-Err
returns-in-Err g c =
    let e = c.in-Err.refusal in
    let m = subst (λ (l : List ℕ). Made g.C.Condenser c.args.run.now.condenser c.enter.new.self.condenser (line_call l) (Err e)) c.line.ensures.bytes c.in-Err.ensures.call in
    record {
      after = λ bag h.
          enters_err g.C.Condenser c.args.run.now.condenser c.enter.new.self.condenser _ c.args.lines.now.number bag h e m _
          c.number.ensures.answer c.code.ensures.answer refl (omega arith);
    }
