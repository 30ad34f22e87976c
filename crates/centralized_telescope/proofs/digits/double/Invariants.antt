-- `double`: after so many times.
use Rattle.std.proofs.Common.{◌≡◌, ◌*◌, ◌^◌, length}
use Rattle.centralized_telescope.specs.inner.Digits.{number_in}
use Rattle.centralized_telescope.proofs.digits.double.Given as goal

abbrev pub invariant-loop : goal.invariant-loop
invariant-loop l =
    (length l.digits ≡ length l.initial.digits) × (number_in l.digits ≡ number_in l.initial.digits * 2 ^ l.counter)
