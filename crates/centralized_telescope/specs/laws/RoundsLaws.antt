-- Laws of rounds and bins. A caller that cites these opens none of the definitions.
use Rattle.std.specs.Prelude.{◌≡◌, ℕ, ◌<◌, Bool, true, false, cond, List, take, ◌==◌, refl}
use Rattle.std.proofs.Common.{ap, ◌∙◌, arith, eqb-true}
use Rattle.std.proofs.Math.Option.{none, some}
use Rattle.sampling.specs.core.Sample.{uniform}
use Rattle.sampling.specs.laws.SampleLaws.{drawn_below_lem, drawn_of_one}
use Rattle.centralized_telescope.specs.core.Elements.{Element}
use Rattle.centralized_telescope.specs.core.Rounds.{drawn, drawn_below, bin_of}

-- ---- what is drawn is below n, and with n = 1 it is 0

drawn_some : (a : ℕ × ℕ) (i : ℕ) → drawn a ≡ some i → a ≡ (0, i)
drawn_some a i e = go (a.0 == 0) refl e
  where
    go : (t : Bool) → (a.0 == 0) ≡ t → cond t (some a.1) none ≡ some i → a ≡ (0, i)
    go true k e =
        let v : a.1 ≡ i = cc in
        ap (λ (f : ℕ). (f, a.1)) (eqb-true a.0 0 k) ∙ ap (λ (g : ℕ). (0, g)) v
    go false k e = let z : ◌≡◌ {A = ℕ} 0 1 = cc in absurd (omega arith)

pub drawn_below_below : (n i : ℕ) (h : List ℕ) → drawn_below n h ≡ some i → i < n
unfolding drawn_below
drawn_below_below n i h e = drawn_below_lem (take 16 h) n i (drawn_some (uniform (take 16 h) n) i e)

pub drawn_below_one : (h : List ℕ) → drawn_below 1 h ≡ some 0
unfolding drawn_below
drawn_below_one h = ap drawn (drawn_of_one (take 16 h))

pub bin_of_below : (n R i : ℕ) (e : Element) → bin_of n R e ≡ some i → i < n
unfolding bin_of
bin_of_below n R i e b = drawn_below_below n i _ b

pub bin_of_one : (R : ℕ) (e : Element) → bin_of 1 R e ≡ some 0
unfolding bin_of
bin_of_one R e = drawn_below_one _
