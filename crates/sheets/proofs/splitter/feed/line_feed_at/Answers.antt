-- The first byte that is a line feed.
use Rattle.std.proofs.Common.{◌≡◌, refl, sym, ◌∙◌, rules}
use borrow.Author.Tests.{tests}
use Rattle.std.proofs.lemmas.Iterator.{IsFirst-from_position, YieldsList-from_slice, index_from_first}
use Rattle.sheets.specs.Splitting.{feed_at}
use Rattle.sheets.proofs.Chunks.{feed_hit, feed_miss}
use Rattle.sheets.proofs.splitter.feed.line_feed_at.Goals as goal

pub returns : goal.returns
returns c =
    let first = IsFirst-from_position _ _ c.position.result (λ b. b ≡ 10) (λ b. b ≡ 10 → ⊥) c.position.ensures.ran (YieldsList-from_slice c.args.chunk.now cc) (λ x q k. search (rules, tests)) (λ x q k. search (rules, tests)) in
    record { answer = c.unwrap_or.ensures ∙ sym (index_from_first feed_at (λ b. b ≡ 10) (λ b. b ≡ 10 → ⊥) refl feed_hit feed_miss c.args.chunk.now c.position.result first) }
