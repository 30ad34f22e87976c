-- The share of all tables under which some chain passes.
use Rattle.std.specs.Prelude.{◌≡◌, refl, Bool, true, false, not, ◌&&◌, ltb, eqb, length, take}
use Rattle.std.proofs.Common.{◌∙◌, ap, subst, mul-le-mul_right, mul-le-mul, le_trans, le_refl, le_of_eq, mul_comm, le_of_mul-le-mul_right, ltb-true}
use Rattle.std.proofs.lemmas.Bool.{false≢true}
use mathlib.Core.List.{List, [], ◌∷◌}
use Prim.Native.Nat.{ℕ, zero, suc, ◌+◌, ◌*◌, ◌%◌, ◌^◌, ◌≤◌, ◌<◌}
use Rattle.std.proofs.Math.Nat.{one-le-pow, pow-le-pow_left}
use native.Mathlib.Omega.{arith}
use Rattle.std.proofs.Math.ListN.{get_or}
use Rattle.centralized_telescope.specs.laws.TestLaws.{both}
use Rattle.soundness.specs.Functions.{sum_below, sum_tables, one_if, how_many_tables}
use Rattle.soundness.specs.laws.SumLaws.{sum_same, sum_most, sum_bounded, sum_times, sum_first, sum_has}
use Rattle.soundness.specs.laws.TableLaws.{are_below, tables_most, tables_const, tables_plus, tables_has, sums_within}
use Rattle.soundness.specs.laws.TableLaws.{tables_within, Blind, resample}
use Rattle.soundness.specs.laws.CountLaws.{how_many, one_most}
use Rattle.soundness.specs.laws.ChainLaws.{is_in, count_in_lem, along, along_blind, along_sum}

-- what is asked of a table. r, d: the limits of R and S; f elements, u of them in a chain; fits R e v: the digest v has the bin of e as its
-- id; says v: v is told yes; then the entries of the three hashes
pub record Game : Type 0 where
  pub r : ℕ
  pub d : ℕ
  pub f : ℕ
  pub u : ℕ
  pub fits : ℕ → ℕ → ℕ → Bool
  pub says : ℕ → Bool
  pub start_at : ℕ → ℕ → ℕ
  pub next_at : ℕ → ℕ → ℕ
  pub last_at : ℕ → ℕ

-- in a table of k numbers below m no entry serves two hashes, save that of the same digest and another element
pub record Apart (G : Game) (m k : ℕ) : Type 0 where
  pub start_within : (R S : ℕ) → G.start_at R S < k
  pub next_within : (h e : ℕ) → e < G.f → G.next_at h e < k
  pub last_within : (h : ℕ) → G.last_at h < k
  pub next_next : (h e g c : ℕ) → e < G.f → c < G.f → G.next_at h e ≡ G.next_at g c → h % m ≡ g % m
  pub next_start : (h e R S : ℕ) → e < G.f → G.next_at h e ≡ G.start_at R S → ⊥
  pub last_next : (g h e : ℕ) → e < G.f → G.last_at g ≡ G.next_at h e → ⊥
  pub last_start : (g R S : ℕ) → G.last_at g ≡ G.start_at R S → ⊥

-- R, S and places of the elements
pub record Choice : Type 0 where
  pub retry : ℕ
  pub search : ℕ
  pub places : List ℕ

unfoldable pub passes_on : Game → ℕ → List ℕ → ℕ → List ℕ → Bool
passes_on G R t h [] = G.says (get_or t (G.last_at h) 0)
passes_on G R t h (e ∷ es) = G.fits R e h && passes_on G R t (get_or t (G.next_at h e) 0) es

abbrev pub green_on : Game → List ℕ → Choice → Bool
green_on G t c =
    ltb c.retry G.r
    && (ltb c.search G.d
    && (are_below G.f G.u c.places
    && passes_on G c.retry t (get_or t (G.start_at c.retry c.search) 0) c.places))

pick : (b c q : Bool) (j x z : ℕ) (g : ℕ → ℕ) → one_if q ≤ x + sum_below j g
    → z ≡ one_if b + sum_below j (λ (i : ℕ). one_if (not b && c) * g i)
    → one_if (c && q) ≤ one_if (not b && c) * x + z
pick true c q j x z g i e = let o = one_most (c && q) in omega arith
pick false true q j x z g i e = let s = sum_same j (λ v. 1 * g v) g (λ v _. omega arith) in omega arith
pick false false q j x z g i e = omega arith

-- places of a beginning
take_below : (f u i : ℕ) (es : List ℕ) → i < u → are_below f u es ≡ true → are_below f i (take i es) ≡ true
unfolding are_below
take_below f zero i es l w = absurd (omega arith)
take_below f (suc u) zero es l w = refl
take_below f (suc u) (suc i) [] l w = absurd (false≢true w)
take_below f (suc u) (suc i) (e ∷ es) l w = let b = both (ltb e f) w in rw b.0 (take_below f u i es (omega arith) b.1)

-- at most one in n of m digests fits an element, and x of them are told yes
module _ (G : Game) (m n x k : ℕ) (M : 0 < m) (N : 0 < n) (few : G.f ≤ n)
    (bins : (R e : ℕ) → how_many m (G.fits R e) * n ≤ m) (passing : how_many m G.says ≤ x) (A : Apart G m k) where
  abbrev pass : List ℕ → ℕ → List ℕ → ℕ
  pass seen h t = one_if (G.says (get_or t (G.last_at h) 0))

  abbrev again : List ℕ → ℕ → List ℕ → ℕ
  again seen h t = one_if (is_in m h seen)

  -- ---- a chain that passes has fresh digests, or one of them comes again

  abbrev chain : ℕ → (List ℕ → ℕ → List ℕ → ℕ) → List ℕ → ℕ → List ℕ → List ℕ → ℕ
  chain R final = along m G.f G.next_at (G.fits R) final

  passes_or_again : (R : ℕ) (t : List ℕ) (j : ℕ) (seen : List ℕ) (h : ℕ) (es : List ℕ) → are_below G.f j es ≡ true
      → one_if (passes_on G R t h es) ≤ chain R pass seen h es t + sum_below j (λ (i : ℕ). chain R again seen h (take i es) t)
  unfolding passes_on along are_below
  passes_or_again R t zero seen h [] w = omega arith
  passes_or_again R t zero seen h (e ∷ es) w = absurd (false≢true w)
  passes_or_again R t (suc j) seen h [] w = absurd (false≢true w)
  passes_or_again R t (suc j) seen h (e ∷ es) w =
      let g = get_or t (G.next_at h e) 0 in
      pick (is_in m h seen) (G.fits R e h) (passes_on G R t g es) j
      (chain R pass (h ∷ seen) g es t) _
      (λ i. chain R again (h ∷ seen) g (take i es) t)
      (passes_or_again R t j (h ∷ seen) g es (both (ltb e G.f) w).1)
      (sum_first j (λ i. chain R again seen h (take i (e ∷ es)) t))

  -- ---- one chain

  module _ (R S : ℕ) where
    abbrev from : (List ℕ → ℕ → List ℕ → ℕ) → List ℕ → List ℕ → ℕ
    from final es t = chain R final [] (get_or t (G.start_at R S) 0) es t

    -- of any final test that looks at neither a start nor a next entry
    from_start : (final : List ℕ → ℕ → List ℕ → ℕ) → ((seen : List ℕ) (v : ℕ) → Blind (G.start_at R S) (final seen v))
        → ((h e : ℕ) → e < G.f → (seen : List ℕ) (v : ℕ) → Blind (G.next_at h e) (final seen v)) → (a b j : ℕ)
        → ((seen : List ℕ) → length seen ≡ j → sum_below m (λ (v : ℕ). sum_tables m k (final seen v)) * a ≤ b)
        → (es : List ℕ) → are_below G.f j es ≡ true → sum_tables m k (from final es) * (m * (n ^ j * a)) ≤ b
    from_start final start_blind next_blind a b j end es w =
        turned _ _ (n ^ j * a)
        (resample m k (G.start_at R S) (λ v. chain R final [] v es) (A.start_within R S)
        (λ v. along_blind m G.f G.next_at (G.fits R) final (G.start_at R S) start_blind j [] v es w
        (λ h e _ l. A.next_start h e R S l)))
        (along_sum m G.f G.next_at (G.fits R) final n k M (bins R) A.next_within A.next_next next_blind j a b end j [] es w
        (omega arith))
      where
        turned : (x y c : ℕ) → m * x ≡ y → y * c ≤ b → x * (m * c) ≤ b
        turned x y c e h = let z : m * x * c ≤ b = rw e h in omega arith

    looks_elsewhere : (i : ℕ) → ((g : ℕ) → G.last_at g ≡ i → ⊥) → (seen : List ℕ) (v : ℕ) → Blind i (pass seen v)
    looks_elsewhere i not_last seen v t t' a = ap (λ (z : ℕ). one_if (G.says z)) (a (G.last_at v) (not_last v))

    pass_at : (v : ℕ) (seen : List ℕ) → sum_tables m k (pass seen v) * m ≤ x * m ^ k
    pass_at v seen =
        let r = resample m k (G.last_at v) (λ z t. one_if (G.says z)) (A.last_within v) (λ z t t' a. refl) in
        let s = sum_same m (λ z. sum_tables m k (λ t. one_if (G.says z))) (λ z. one_if (G.says z) * m ^ k)
        (λ z _. tables_const m k (one_if (G.says z)) ∙ mul_comm (m ^ k) (one_if (G.says z))) in
        let q = sum_times m (m ^ k) (λ z. one_if (G.says z)) in
        let c = mul-le-mul_right (m ^ k) passing in
        omega arith

    pub pass_share : (es : List ℕ) → are_below G.f G.u es ≡ true → sum_tables m k (from pass es) * (n ^ G.u * m) ≤ x * m ^ k
    pass_share es w =
        cancelled _ (n ^ G.u * m) (x * m ^ k)
        (from_start pass (looks_elsewhere (G.start_at R S) (λ g. A.last_start g R S))
        (λ h e l. looks_elsewhere (G.next_at h e) (λ g. A.last_next g h e l)) m (m * (x * m ^ k)) G.u
        (λ seen _. sum_bounded m m (x * m ^ k) (λ v. sum_tables m k (pass seen v)) (λ v _. pass_at v seen)) es w)
      where
        cancelled : (y c b : ℕ) → y * (m * c) ≤ m * b → y * c ≤ b
        cancelled y c b h = let z : y * c * m ≤ b * m = omega arith in le_of_mul-le-mul_right z M

    again_end : (j : ℕ) (seen : List ℕ) → length seen ≡ j → sum_below m (λ (v : ℕ). sum_tables m k (again seen v)) * 1 ≤ j * m ^ k
    again_end j seen l =
        let s = sum_same m (λ v. sum_tables m k (again seen v)) (λ v. one_if (is_in m v seen) * m ^ k)
        (λ v _. tables_const m k (one_if (is_in m v seen)) ∙ mul_comm (m ^ k) (one_if (is_in m v seen))) in
        let q = sum_times m (m ^ k) (λ v. one_if (is_in m v seen)) in
        let c = mul-le-mul_right (m ^ k) (count_in_lem m seen) in
        subst (λ (z : ℕ). sum_below m (λ (v : ℕ). sum_tables m k (again seen v)) * 1 ≤ z * m ^ k) l (omega arith)

    pub again_share : (j : ℕ) (es : List ℕ) → are_below G.f j es ≡ true
        → sum_tables m k (from again es) * (m * (n ^ j * 1)) ≤ j * m ^ k
    again_share j es w =
        from_start again (λ seen v t t' a. refl) (λ h e l seen v t t' a. refl) 1 (j * m ^ k) j (again_end j) es w

  -- ---- all of them

  abbrev good : List ℕ → ℕ
  good t = sum_below G.r (λ (R : ℕ). sum_below G.d (λ (S : ℕ). sum_tables G.f G.u (λ (es : List ℕ). from R S pass es t)))

  abbrev bad : List ℕ → ℕ
  bad t =
      sum_below G.r
      (λ (R : ℕ). sum_below G.d (λ (S : ℕ). sum_below G.u (λ (i : ℕ). sum_tables G.f i (λ (es : List ℕ). from R S again es t))))

  good_or_bad : (t : List ℕ) (b : Bool) → (b ≡ true → (c : Choice) × (green_on G t c ≡ true)) → one_if b ≤ good t + bad t
  good_or_bad t false has = omega arith
  good_or_bad t true has =
      let c = (has refl).0 in
      let e = (has refl).1 in
      let R = c.retry in
      let S = c.search in
      let es = c.places in
      let a = both (ltb R G.r) e in
      let b = both (ltb S G.d) a.1 in
      let w = both (are_below G.f G.u es) b.1 in
      let g : 1 ≤ one_if (passes_on G R t (get_or t (G.start_at R S) 0) es) = rw w.1 (le_refl 1) in
      let o = passes_or_again R t G.u [] (get_or t (G.start_at R S) 0) es w.0 in
      let Rb = ltb-true R G.r a.0 in
      let Sb = ltb-true S G.d b.0 in
      let p1 = tables_has G.f G.u es (λ s. from R S pass s t) w.0 in
      let p2 = sum_has G.d S (λ S. sum_tables G.f G.u (λ s. from R S pass s t)) Sb in
      let p3 = sum_has G.r R (λ R. sum_below G.d (λ S. sum_tables G.f G.u (λ s. from R S pass s t))) Rb in
      let q1 = sum_most G.u (λ i. from R S again (take i es) t) (λ i. sum_tables G.f i (λ s. from R S again s t))
      (λ i l. tables_has G.f i (take i es) (λ s. from R S again s t) (take_below G.f G.u i es l w.0)) in
      let q2 = sum_has G.d S (λ S. sum_below G.u (λ i. sum_tables G.f i (λ s. from R S again s t))) Sb in
      let q3 = sum_has G.r R (λ R. sum_below G.d (λ S. sum_below G.u (λ i. sum_tables G.f i (λ s. from R S again s t)))) Rb in
      climb _ _ _ _ _ _ _ _ _ g o p1 p2 p3 q1 q2 q3
    where
      climb : (z a a1 a2 a3 b b1 b2 b3 : ℕ) → 1 ≤ z → z ≤ a + b → a ≤ a1 → a1 ≤ a2 → a2 ≤ a3 → b ≤ b1 → b1 ≤ b2 → b2 ≤ b3 → 1 ≤ a3 + b3
      climb z a a1 a2 a3 b b1 b2 b3 w o p1 p2 p3 q1 q2 q3 = omega arith

  good_share : sum_tables m k good * (n ^ G.u * m) ≤ G.r * (G.d * (G.f ^ G.u * (x * m ^ k)))
  good_share =
      sums_within m k (n ^ G.u * m) (G.d * (G.f ^ G.u * (x * m ^ k))) G.r
      (λ R t. sum_below G.d (λ S. sum_tables G.f G.u (λ es. from R S pass es t)))
      (λ R _. sums_within m k (n ^ G.u * m) (G.f ^ G.u * (x * m ^ k)) G.d
      (λ S t. sum_tables G.f G.u (λ es. from R S pass es t))
      (λ S _. tables_within m k (n ^ G.u * m) (x * m ^ k) G.f G.u (λ es t. from R S pass es t) (λ es w. pass_share R S es w)))

  bad_share : sum_tables m k bad * m ≤ G.r * (G.d * (G.u * (G.u * m ^ k)))
  bad_share =
      sums_within m k m (G.d * (G.u * (G.u * m ^ k))) G.r
      (λ R t. sum_below G.d (λ S. sum_below G.u (λ i. sum_tables G.f i (λ es. from R S again es t))))
      (λ R _. sums_within m k m (G.u * (G.u * m ^ k)) G.d
      (λ S t. sum_below G.u (λ i. sum_tables G.f i (λ es. from R S again es t)))
      (λ S _. sums_within m k m (G.u * m ^ k) G.u (λ i t. sum_tables G.f i (λ es. from R S again es t))
      (λ i l. shorter _ (n ^ i) (G.f ^ i) i (m ^ k) (one-le-pow i n N) (pow-le-pow_left few i) l
      (tables_within m k (m * (n ^ i * 1)) (i * m ^ k) G.f i (λ es t. from R S again es t) (λ es w. again_share R S i es w)))))
    where
      below : (i u : ℕ) → i < u → i ≤ u
      below i u l = omega arith

      shorter : (y p q i K : ℕ) → 1 ≤ p → q ≤ p → i < G.u → y * (m * (p * 1)) ≤ q * (i * K) → y * m ≤ G.u * K
      shorter y p q i K P qp l h =
          let a = mul-le-mul qp (mul-le-mul_right K (below i G.u l)) in
          let z : y * m * p ≤ G.u * K * p = omega arith in
          le_of_mul-le-mul_right z P

  -- of how many tables a test is true, if each of them has a choice that is green
  pub green_tables : (test : List ℕ → Bool) → ((t : List ℕ) → test t ≡ true → (c : Choice) × (green_on G t c ≡ true))
      → how_many_tables m k test * (n ^ G.u * m) ≤ (G.r * G.d * G.f ^ G.u * x + G.r * G.d * (G.u * G.u) * n ^ G.u) * m ^ k
  green_tables test has =
      together _ _ _ (n ^ G.u) G.r G.d (G.f ^ G.u) G.u (m ^ k)
      (le_trans (tables_most m k (λ t. one_if (test t)) (λ t. good t + bad t) (λ t. good_or_bad t (test t) (has t)))
      (le_of_eq (tables_plus m k good bad)))
      good_share bad_share
    where
      together : (C g b a r d F u K : ℕ) → C ≤ g + b → g * (a * m) ≤ r * (d * (F * (x * K))) → b * m ≤ r * (d * (u * (u * K)))
          → C * (a * m) ≤ (r * d * F * x + r * d * (u * u) * a) * K
      together C g b a r d F u K c p q =
          let y = mul-le-mul_right (a * m) c in
          let z = mul-le-mul_right a q in
          omega arith

-- ---- an example in which the first term is no bound: of 32 tables 4 are green, r d f^u x / (n^u m) of them are 2

abbrev thrice : Game
thrice = record {
  r = 1;
  d = 1;
  f = 1;
  u = 3;
  fits = λ (R e v : ℕ). eqb v 0;
  says = λ (v : ℕ). eqb v 0;
  start_at = λ (R S : ℕ). 0;
  next_at = λ (h e : ℕ). 1 + h;
  last_at = λ (h : ℕ). 3 + h;
}

pub first_term_exceeded :
    how_many_tables 2 5 (λ (t : List ℕ). green_on thrice t (record { retry = 0; search = 0; places = 0 ∷ 0 ∷ 0 ∷ [] })) ≡ 4
unfolding sum_below sum_tables are_below passes_on
first_term_exceeded = refl
