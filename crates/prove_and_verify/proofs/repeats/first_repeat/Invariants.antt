use Rattle.std.proofs.Common.{◌-◌, ◌≤◌}
use Rattle.prove_and_verify.proofs.repeats.first_repeat.Given as goal

abbrev pub invariant-loop-with : goal.invariant-loop-with
invariant-loop-with l = l.without ≤ l.with

abbrev pub decreases-loop-with : goal.decreases-loop-with
decreases-loop-with l = l.with - l.without
