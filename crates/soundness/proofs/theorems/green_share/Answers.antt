-- `green_share`: the theorem.
use Rattle.soundness.proofs.GreenLaws.{green_share}
use Rattle.soundness.proofs.theorems.green_share.Goals as goal

pub returns : goal.returns
returns c = green_share
