-- Past the end of the buffer nothing is written. Assumes nothing.
use Rattle.std.proofs.Common.{sym}
use Rattle.std.proofs.lemmas.Bool.{le-ltb, cond-false}
use Rattle.runs.proofs.Playing.{set_past}
use Rattle.runs.proofs.play.note.Goals as goal

pub returns : goal.returns
returns c =
    record {
      after = sym (set_past c.args.answers.now c.args.next c.args.answer c.if-next-answers.false);
      answer = sym (cond-false _ _ _ (le-ltb _ _ c.if-next-answers.false));
    }
