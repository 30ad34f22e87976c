-- `sample_bernoulli`: the order of the 16 bytes and x, by their halves.
use Rattle.std.proofs.Common.{ℕ, ltb, ap, ◌∙◌, arith}
use Rattle.sampling.specs.core.Sample.{bernoulli, value_of}
use Rattle.sampling.proofs.TwoHalves.{by_halves}
use Rattle.sampling.proofs.sample.sample_bernoulli.Goals as goal

pub returns : goal.returns
unfolding bernoulli
returns c =
    let i = c.u128_of.result in
    let x = c.args.x in
    c.lt.ensures
    ∙ by_halves i.hi x.hi i.lo x.lo (omega arith) (omega arith)
    ∙ ap (λ (k : ℕ). ltb k (value_of x)) c.u128_of.ensures.1
