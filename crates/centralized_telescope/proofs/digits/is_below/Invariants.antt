-- `is_below`: the digits so far of both are compared.
use Rattle.std.proofs.Common.{◌≡◌, ◌^◌, ◌<◌, ltb, length}
use Rattle.centralized_telescope.specs.inner.Digits.{stands_for}
use Rattle.centralized_telescope.specs.laws.DigitsLaws.{base}
use Rattle.centralized_telescope.proofs.digits.is_below.Given as goal

abbrev pub invariant-loop-x : goal.invariant-loop-x
invariant-loop-x l =
    let i = length l.yielded in
    (stands_for i l.a < base ^ i) × (stands_for i l.b < base ^ i) × (l.below ≡ ltb (stands_for i l.a) (stands_for i l.b))
