-- All of them behind the others, or none.
use Rattle.sheets.proofs.Outputs.{put_tried}
use Rattle.sheets.proofs.text.Text.put_bytes.Goals as goal

pub returns : goal.returns
returns c =
    let tried = c.try_extend_from_slice.ensures in
    record { bytes = put_tried c.args.self.now.bytes c.try_extend_from_slice.new.self c.args.bytes.now c.try_extend_from_slice.result tried.variant tried.ok tried.err }
