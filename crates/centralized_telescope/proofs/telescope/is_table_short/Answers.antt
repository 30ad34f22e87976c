-- `is_table_short`: lawful settings have 32,768 bins at most.
use Rattle.std.proofs.Common.{arith}
use Rattle.centralized_telescope.specs.laws.ParamsLaws.{lawful}
use Rattle.centralized_telescope.proofs.telescope.is_table_short.Goals as goal

pub overflow_mul-result : goal.overflow_mul-result
overflow_mul-result c = omega (arith, (lawful c.args.p.params c.args.p.lawful).set_size.1)

pub overflow_add-result : goal.overflow_add-result
overflow_add-result c = omega (arith, (lawful c.args.p.params c.args.p.lawful).set_size.1)
