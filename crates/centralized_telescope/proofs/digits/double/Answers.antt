-- `double`: after so many times.
use Rattle.std.proofs.Common.{ℕ, ◌*◌, ◌^◌, ◌<◌, length, sym, subst, arith}
use Rattle.centralized_telescope.specs.inner.Digits.{number_in}
use Rattle.centralized_telescope.specs.laws.DigitsLaws.{base, room_for_more}
use Rattle.centralized_telescope.proofs.digits.double.Goals as goal

pub times-requires : goal.times-requires
times-requires c =
    let l = c.loop in
    let d = c.args.digits.now in
    subst (λ (n : ℕ). n * 2 < base ^ length l.digits) (sym l.invariant.1)
    (subst (λ (n : ℕ). number_in d * 2 ^ l.counter * 2 < base ^ n) (sym l.invariant.0)
    (room_for_more (number_in d) 2 c.args.times_doubled l.counter (base ^ length d) (omega arith) c.loop-test.true c.requires))
