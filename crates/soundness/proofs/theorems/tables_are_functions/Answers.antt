-- `tables_are_functions`: the theorem.
use Rattle.soundness.specs.laws.FunctionLaws.{tables_are_functions}
use Rattle.soundness.proofs.theorems.tables_are_functions.Goals as goal

pub returns : goal.returns
returns c = tables_are_functions
