-- Each byte read leaves a shorter text.
use Rattle.std.proofs.Common.{length}
use Rattle.player.proofs.text.read_bytes.Given as goal

abbrev pub decreases-loop-rest : goal.decreases-loop-rest
decreases-loop-rest l = length l.rest
