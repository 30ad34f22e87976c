-- The function whose digests are all zeros: each id and each bin is 0, and the last hash is told yes.
use Rattle.std.specs.Prelude.{◌≡◌, refl, Bool, true, not, [], ◌∷◌, take}
use Rattle.std.proofs.Common.{ap}
use Rattle.std.specs.Float.Ieee.{is_nan, lt, of_int, round, add, mul, div}
use Rattle.sampling.specs.core.BigEndian.{big_endian, bytes_of}
use Rattle.sampling.specs.core.Sample.{is_power, uniform, value_of, bernoulli}
use Rattle.sampling.specs.later.Threshold.{outside, threshold, converted}
use Rattle.centralized_telescope.specs.core.Lists.{some_of}
use Rattle.sampling.specs.core.FirstNumber.{line, first_number}
use Rattle.centralized_telescope.specs.core.Params.{not_one_to, limit_broken, checked}
use Rattle.centralized_telescope.specs.later.SmallCase.{as_double, L, probability}
use Rattle.centralized_telescope.specs.core.Elements.{lent_of, elements_from, elements, end_wrong, malformed, data_long, too_large, list_check}
use Rattle.centralized_telescope.specs.core.Rounds.{drawn_below}
use Rattle.centralized_telescope.specs.core.Verifier.{if_some}
use Rattle.soundness.specs.AnyHash.{follow_with, judged_with, verdict_with}
use Rattle.soundness.specs.Functions.{hash_of}
use Rattle.soundness.specs.Green.{accepts, example_settings, example_sent}

checked_example : checked example_settings ≡ 0
unfolding first_number not_one_to limit_broken checked
checked_example = refl

list_example : list_check (lent_of [] (0 ∷ []) (0 ∷ []) (0 ∷ [])) ≡ 0
unfolding first_number some_of end_wrong malformed data_long too_large list_check
list_example = refl

-- X is above 0
yes_example : bernoulli (take 16 (bytes_of 32 0)) (value_of example_settings.x) ≡ true
unfolding is_nan lt of_int round add mul div big_endian bytes_of outside threshold converted bernoulli as_double L probability
yes_example = refl

judged_example : judged_with (hash_of []) example_settings 0 0 (elements (lent_of [] (0 ∷ []) (0 ∷ []) (0 ∷ []))) ≡ 0
unfolding first_number big_endian bytes_of is_power uniform elements_from drawn_below if_some follow_with judged_with
judged_example = ap (λ (t : Bool). first_number (line 22 (not t) ∷ [])) yes_example

pub zeros_accepted : accepts (hash_of []) example_settings example_sent ≡ true
unfolding first_number verdict_with
zeros_accepted = rw (checked_example, list_example, judged_example)
