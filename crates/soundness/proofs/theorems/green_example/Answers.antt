-- `green_example`: the theorem.
use Rattle.soundness.proofs.FigureLaws.{green_example}
use Rattle.soundness.proofs.theorems.green_example.Goals as goal

pub returns : goal.returns
returns c = green_example
