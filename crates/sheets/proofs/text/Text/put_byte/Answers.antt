-- The byte behind the others, or none where the text is full.
use Rattle.std.proofs.Common.{[], ◌∷◌, arith}
use Rattle.sheets.proofs.Outputs.{put_tried}
use Rattle.sheets.proofs.text.Text.put_byte.Goals as goal

pub returns : goal.returns
returns c =
    let tried = c.try_push.ensures in
    record { bytes = put_tried c.args.self.now.bytes c.try_push.new.self (c.args.byte ∷ []) c.try_push.result (λ is_ok. omega (arith, tried.variant.0 is_ok), λ room. tried.variant.1 (omega (arith, room))) tried.ok tried.err }
