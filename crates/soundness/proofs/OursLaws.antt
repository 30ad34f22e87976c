-- With SHA-256 in the function's place, the verifier is that of `centralized_telescope`.
use Rattle.std.specs.Prelude.{◌≡◌, refl, cond, List, [], ◌∷◌, ℕ}
use Rattle.std.proofs.Common.{ap}
use Rattle.std.proofs.Math.Option.{Option, none, some}
use Rattle.sampling.specs.core.Fips180.{sha256}
use Rattle.centralized_telescope.specs.declared.params.Params.{Params}
use Rattle.centralized_telescope.specs.core.Elements.{Element, Lent, elements}
use Rattle.centralized_telescope.specs.core.Rounds.{start_hash, next_hash, round_id, bin_of, says_yes}
use Rattle.centralized_telescope.specs.core.Verifier.{if_some, is_bin, follow, last_hash, yes_on, judged, verdict}
use Rattle.soundness.specs.AnyHash.{follow_with, last_with, yes_with, judged_with, verdict_with}

if_same : {A : Type 0} (o : Option ℕ) (f g : ℕ → Option A) → ((i : ℕ) → f i ≡ g i) → if_some o f ≡ if_some o g
unfolding if_some
if_same none f g e = refl
if_same (some i) f g e = e i

follow_same : (p : Params) (R : ℕ) (h : List ℕ) (i : ℕ) (es : List Element) → follow_with sha256 p R h i es ≡ follow p R h i es
unfolding follow_with follow next_hash bin_of
follow_same p R h i [] = refl
follow_same p R h i (e ∷ es) =
    ap (λ (o : Option (List ℕ)). cond (is_bin (bin_of p.set_size R e) i) o none)
    (if_same (round_id p.set_size (next_hash h e)) (λ j. follow_with sha256 p R (next_hash h e) j es) (λ j. follow p R (next_hash h e) j es)
    (λ j. follow_same p R (next_hash h e) j es))

last_same : (p : Params) (R S : ℕ) (es : List Element) → last_with sha256 p R S es ≡ last_hash p R S es
unfolding last_hash start_hash
last_same p R S es =
    if_same (round_id p.set_size (start_hash R S))
    (λ i. follow_with sha256 p R (start_hash R S) i es) (λ i. follow p R (start_hash R S) i es)
    (λ i. follow_same p R (start_hash R S) i es)

yes_same : (p : Params) (o : Option (List ℕ)) → yes_with sha256 p.x o ≡ yes_on p.x o
unfolding says_yes
yes_same p none = refl
yes_same p (some h) = refl

pub verdict_same : (p : Params) (R S : ℕ) (lent : Lent) → verdict_with sha256 p R S lent ≡ verdict p R S lent
unfolding judged_with verdict_with judged verdict
verdict_same p R S lent =
    let es = elements lent in
    rw (last_same p R S es, yes_same p (last_hash p R S es))
