-- The bytes for which there is room go behind the line.
use Rattle.std.proofs.Common.{◌≡◌, ◌-◌, ◌≤◌, min, ◌++◌, length, take, sym, refl, ap, ◌∙◌, arith}
use native.Mathlib.Nat.{sub-zero}
use Rattle.std.proofs.lemmas.List.{length-take}
use Rattle.sheets.specs.Splitting.{held}
use Rattle.sheets.proofs.Chunks.{take_clip, kept}
use Rattle.sheets.proofs.splitter.Splitter.keep.Goals as goal

pub returns : goal.returns
returns c =
    let s = c.args.self.now in
    let more = c.args.more.now in
    let n = c.min-n.result in
    let room : length (held s) ≤ 40 = omega (arith, c.remaining_capacity.ensures) in
    let left : c.remaining_capacity.result ≡ 40 - length (held s) = omega (arith, c.remaining_capacity.ensures) in
    let n-clips : n ≡ min (length more) (40 - length (held s)) = c.min-n.ensures ∙ ap (λ r. min (length more) r) left in
    let part : take (n - 0) more ≡ take (min (length more) (40 - length (held s))) more = ap (λ k. take k more) (sub-zero n ∙ n-clips) in
    let tried = c.try_extend_from_slice.ensures in
    let all = kept s.bytes c.try_extend_from_slice.new.self (take (n - 0) more) c.try_extend_from_slice.result tried.variant tried.ok (omega (arith, length-take (n - 0) more, n-clips)) in
    record { bytes = all ∙ ap (λ t. held s ++ t) part ∙ sym (take_clip 40 (held s) more room); limits = room; unchanged = (refl, refl) }
