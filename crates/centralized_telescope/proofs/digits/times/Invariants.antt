-- `times`: of the digits so far the product is made, but for what is carried.
use Rattle.std.proofs.Common.{◌≡◌, ℕ, ◌+◌, ◌*◌, ◌^◌, ◌<◌, ◌≤◌, get_or}
use Rattle.centralized_telescope.specs.inner.Digits.{stands_for}
use Rattle.centralized_telescope.specs.laws.DigitsLaws.{base}
use Rattle.centralized_telescope.proofs.digits.times.Given as goal

abbrev pub invariant-loop-digit : goal.invariant-loop-digit
invariant-loop-digit l =
    (l.carry < base)
    × (stands_for l.digit-index l.digits + base ^ l.digit-index * l.carry ≡ stands_for l.digit-index l.initial.digits * l.k)
    × ((j : ℕ) → l.digit-index ≤ j → get_or l.digits j 0 ≡ get_or l.initial.digits j 0)
