-- `lengths_of`: the settings are lawful, so that there are 1,025 lengths at most.
use Rattle.std.proofs.Common.{arith, refl}
use Rattle.centralized_telescope.specs.laws.ParamsLaws.{lawful}
use Rattle.centralized_telescope.proofs.shape.lengths_of.Goals as goal

pub overflow_add-result : goal.overflow_add-result
overflow_add-result c = omega (arith, (lawful c.args.p.params c.args.p.lawful).limits.proof_size)

pub returns : goal.returns
returns c = (refl, omega (arith, (lawful c.args.p.params c.args.p.lawful).limits.proof_size))
