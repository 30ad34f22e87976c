-- `one_round`: one round, from what each function of words ensures. The sum T₁ is taken in another order.
use Rattle.sampling.specs.core.Fips180.{Ch, Σ₁, one_round}
use Rattle.sampling.specs.laws.WordLaws.{sum_of_five}
use Rattle.sampling.proofs.sha256.one_round.Goals as goal

pub returns : goal.returns
unfolding one_round
returns c =
    let a = c.args in
    let v = a.v in
    cc (sum_of_five v.h a.w a.k (Ch v.e v.f v.g) (Σ₁ v.e))
