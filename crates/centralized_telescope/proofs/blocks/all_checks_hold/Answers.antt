-- `all_checks_hold`: each block's check is asked for, from the first to the last.
use Rattle.std.proofs.Common.{◌*◌, ◌/◌, length, drop, refl, ◌∙◌, rules, tests}
use Rattle.std.proofs.lemmas.Iterator.{YieldsList-from_range}
use Rattle.std.proofs.lemmas.Iterator.Search.{all_from_yields_List}
use Rattle.centralized_telescope.specs.later.Blocks.{block_bytes}
use Rattle.centralized_telescope.proofs.BlockReading.{check_holds, checks_from}
use Rattle.centralized_telescope.proofs.blocks.all_checks_hold.Goals as goal

pub returns : goal.returns
returns c =
    let t = c.args.ticket.now in
    let n = length t / block_bytes in
    all_from_yields_List (λ i. check_holds (drop (block_bytes * i) t)) _ _ _ c.all.ensures.ran
    (YieldsList-from_range 0 n n refl (search rules)) (λ x b q k. search (rules, tests))
    ∙ checks_from n 0 t
