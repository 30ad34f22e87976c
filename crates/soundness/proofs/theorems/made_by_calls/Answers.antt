-- `made_by_calls`: the theorem.
use Rattle.soundness.proofs.FigureLaws.{made_by_calls}
use Rattle.soundness.proofs.theorems.made_by_calls.Goals as goal

pub returns : goal.returns
returns c = made_by_calls
