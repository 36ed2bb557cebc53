-- Up to the line feed, or the whole chunk.
use Rattle.std.proofs.Common.{◌≡◌, ◌+◌, ◌-◌, ◌≤◌, false, [], ◌∷◌, ◌++◌, length, take, sym, refl, ap, ◌∙◌, arith}
use native.Mathlib.Nat.{sub-zero}
use Rattle.std.proofs.lemmas.Bool.{cond-false}
use Rattle.sheets.specs.Splitting.{feed_at, held, current, ended, begun, Took}
use Rattle.sheets.proofs.Chunks.{before_feed, feed_within, feed_lines, fed_line, took_after, parting}
use Rattle.sheets.proofs.splitter.Splitter.advance.Goals as goal

pub slice_bounds-keep-end : goal.slice_bounds-keep-end
slice_bounds-keep-end c = let h = feed_within c.args.chunk.now in omega arith

pub returns-then-at-chunk : goal.returns-then-at-chunk
returns-then-at-chunk c =
    let before = c.args.self.now in
    let chunk = c.args.chunk.now in
    let at = c.line_feed_at-at.result in
    let kept = c.keep.new.self in
    let at-is : at ≡ feed_at chunk = c.line_feed_at-at.ensures.answer in
    let kept-is : held kept ≡ take 40 (current before ++ take (feed_at chunk) chunk) = c.keep.ensures.bytes ∙ ap (λ l. take 40 (l ++ take (at - 0) chunk)) c.begin.ensures.bytes ∙ ap (λ n. take 40 (current before ++ take n chunk)) (sub-zero at ∙ at-is) in
    let short : length (current before) ≤ 40 = omega (arith, ap length c.begin.ensures.bytes, c.keep.ensures.limits) in
    let fed = feed_lines (current before) chunk (held kept) short (omega arith) kept-is in
    let number_is = c.keep.ensures.unchanged.0 ∙ c.begin.ensures.count in
    record {
      answer = fed_line before _ chunk at (held kept) (omega arith) at-is fed refl refl number_is;
      after = took_after before _ chunk (at + 1) (fed_line before _ chunk at (held kept) (omega arith) at-is fed refl refl number_is);
      law = parting;
    }

pub returns : goal.returns
returns c =
    let before = c.args.self.now in
    let chunk = c.args.chunk.now in
    let at = c.line_feed_at-at.result in
    let kept = c.keep.new.self in
    let at-is : at ≡ feed_at chunk = c.line_feed_at-at.ensures.answer in
    let kept-is : held kept ≡ take 40 (current before ++ take (feed_at chunk) chunk) = c.keep.ensures.bytes ∙ ap (λ l. take 40 (l ++ take (at - 0) chunk)) c.begin.ensures.bytes ∙ ap (λ n. take 40 (current before ++ take n chunk)) (sub-zero at ∙ at-is) in
    let short : length (current before) ≤ 40 = omega (arith, ap length c.begin.ensures.bytes, c.keep.ensures.limits) in
    let fed = before_feed (current before) chunk short in
    let open-still : kept.complete ≡ false = c.keep.ensures.unchanged.1 ∙ c.begin.ensures.after in
    let within = feed_within chunk in
    let took : Took before chunk at kept =
    record {
      within = omega arith;
      lines = ap (λ n. ended (current before) (take n chunk)) at-is ∙ fed.0 ∙ sym (cond-false kept.complete (held kept ∷ []) [] open-still);
      line = ap (λ n. begun (current before) (take n chunk)) at-is ∙ fed.1 ∙ sym kept-is ∙ sym (cond-false kept.complete [] (held kept) open-still);
      all = λ e. omega arith;
      number = c.keep.ensures.unchanged.0 ∙ c.begin.ensures.count;
    } in
    record { answer = took; after = took_after before kept chunk at took; law = parting }
