-- `next_word`: the schedule's rule, its sum in another order.
use Rattle.sampling.proofs.Schedule.{next_w_made}
use Rattle.sampling.proofs.sha256.next_word.Goals as goal

pub returns : goal.returns
returns c = λ M.
    let a = c in
    cc (next_w_made M a.args.w.now a.args.t a.requires.0)
