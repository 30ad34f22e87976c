-- `seldom_green`: the theorem.
use Rattle.soundness.proofs.FigureLaws.{up_to_207, up_to_204}
use Rattle.soundness.proofs.OursLaws.{verdict_same}
use Rattle.soundness.proofs.theorems.seldom_green.Goals as goal

pub returns : goal.returns
returns c = record { up_to_207 = up_to_207; up_to_204 = up_to_204; ours = verdict_same }
