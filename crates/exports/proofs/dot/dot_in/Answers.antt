-- The run is empty before it takes the slices. Assumes nothing.
use Rattle.std.proofs.Common.{map, refl}
use Rattle.std.proofs.lemmas.Result.{err_from_is_err_and}
use Rattle.exports.proofs.Dots.{dot_refused, dot_read}
use Rattle.exports.proofs.dot.dot_in.Goals as goal

pub returns-in_err-take : goal.returns-in_err-take
returns-in_err-take g c =
    let p = err_from_is_err_and c.from_residual.result c.from_residual.ensures.1 in
    let e = c.in_err-take.field-0.0 in
    rw (p.1, p.2)
    (record {
      answer = dot_refused _ refl c.new-run.result.condenser c.take.new.self.condenser c.args.form (map g.K.Kind.value c.args.firsts.now) (map g.L.Kind.value c.args.seconds.now)
          c.new-run.ensures.count e c.in_err-take.ensures.call;
    })

pub returns : goal.returns
returns g c =
    record {
      answer = dot_read _ refl c.new-run.result.condenser c.take.new.self.condenser c.args.form (map g.K.Kind.value c.args.firsts.now) (map g.L.Kind.value c.args.seconds.now)
          c.new-run.ensures.count c.read.result c.seal.result.condenser c.seal.ensures.unchanged c.new-run.ensures.total c.in_ok-take.ensures.call c.read.ensures.answer;
    }
