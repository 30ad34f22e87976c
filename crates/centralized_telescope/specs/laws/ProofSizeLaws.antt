-- Laws of the proof size: the ranges, the numbers compared, and how the inequality goes with each figure.
use Rattle.std.specs.Prelude.{◌≡◌, ℕ, zero, suc, ◌+◌, ◌*◌, ◌^◌, ◌<◌, ◌≤◌, true, false, nat_lt, refl, Option, Some, None, ok_or}
use Rattle.std.proofs.Common.{sym, ap, ◌∙◌, inl, inr, mul_comm, mul-le-mul, mul-le-mul_left, mul-le-mul_right, le_trans, lt_of_le_of_lt, eq-or-lt_of_le, pow-suc, arith, ltb-true, ltb-false, leb-false, lit<}
use Rattle.std.proofs.Math.Path.{subst}
use Rattle.std.proofs.Math.Nat.{pow-le-pow_left, pow-le-pow_right}
use Rattle.centralized_telescope.specs.declared.errors.Refusal.TheVariants as refusal
use Rattle.centralized_telescope.specs.core.Params.{not_one_to, max_set_size, max_proof_size}
use Rattle.centralized_telescope.specs.laws.TestLaws.{neither, lt_or_le, not_both}
use Rattle.centralized_telescope.specs.laws.ParamsLaws.{one_to}
use Rattle.centralized_telescope.specs.later.ProofSize.{Meets, figures_out, Smallest, NoSize, SizeIs, size_by, InRange, NoLess, SizeNeverFalls}
use Rattle.centralized_telescope.specs.later.ProofSize.{SizeNeverRises, SizeOneAnswer, max_soundness, max_figure}
use Rattle.centralized_telescope.specs.laws.DigitsLaws.{base}
use Rattle.centralized_telescope.specs.inner.Digits.{NotAbove, SmallestOrNone}

-- all that figures in range keep
pub record Ranges (s c n f : ℕ) : Type 0 where
  pub soundness : s ≤ max_soundness
  pub completeness : (1 ≤ c) × (c ≤ max_figure)
  pub set_size : (2 ≤ n) × (n ≤ max_set_size)
  pub bound : (1 ≤ f) × (f < n)

pub ranges : (s c n f : ℕ) → figures_out s c n f ≡ false → Ranges s c n f
unfolding figures_out
ranges s c n f e =
    let a = neither (nat_lt max_soundness s) e in
    let b = neither (not_one_to max_figure c) a.1 in
    let d = neither (nat_lt n 2) b.1 in
    let g = neither (nat_lt max_set_size n) d.1 in
    let h = neither (nat_lt f 1) g.1 in
    record {
      soundness = ltb-false max_soundness s a.0;
      completeness = one_to b.0;
      set_size = (ltb-false n 2 d.0, ltb-false max_set_size n g.0);
      bound = (ltb-false f 1 h.0, leb-false n f h.1);
    }

-- ---- the two numbers compared: 1,442,695 and 1,000,000 * (32 * c) * 2 ^ s, each times a power

five_more : (s : ℕ) → 2 ^ (s + 5) ≡ 2 ^ s * 32
five_more zero = refl
five_more (suc s) =
    let e : suc s + 5 ≡ suc (s + 5) = omega arith in
    rw (e, pow-suc 2 (s + 5), pow-suc 2 s, five_more s) (omega arith)

in_other_order : (F P c : ℕ) → F * (P * 32) * c * 1000000 ≡ 1000000 * (32 * c) * P * F
in_other_order F P c =
    let m : F * P * c ≡ c * (P * F) = mul_comm (F * P) c ∙ ap (λ (x : ℕ). c * x) (mul_comm F P) in
    omega (arith, m)

same_product : (s c f u : ℕ) → f ^ u * 2 ^ (s + 5) * c * 1000000 ≡ 1000000 * (32 * c) * 2 ^ s * f ^ u
same_product s c f u = ap (λ (x : ℕ). f ^ u * x * c * 1000000) (five_more s) ∙ in_other_order (f ^ u) (2 ^ s) c

module _ (s c n f u : ℕ) where
  meets_so : NotAbove 1442695 n (1000000 * (32 * c) * 2 ^ s) f u → Meets s c n f u
  meets_so h = rw (same_product s c f u, mul_comm (n ^ u) 1442695) h

  so_meets : Meets s c n f u → NotAbove 1442695 n (1000000 * (32 * c) * 2 ^ s) f u
  so_meets h = rw (← same_product s c f u, ← mul_comm (n ^ u) 1442695) h

-- ---- the search for the smallest: L and R are the two numbers at u + 1

module _ (A n B f u : ℕ) where
  module _ (L R : ℕ) (l : L ≡ A * n ^ u) (r : R ≡ B * f ^ u) (none : (v : ℕ) → 1 ≤ v → v < u → NotAbove A n B f v → ⊥) where
    pub found_here : 1 ≤ u → u ≤ max_proof_size → nat_lt L R ≡ false → SmallestOrNone A n B f (Some u)
    unfolding SmallestOrNone
    found_here a b t = (a, b, (let h = ltb-false L R t in rw (← l, ← r) h), none)

    pub none_here : nat_lt L R ≡ true → (v : ℕ) → 1 ≤ v → v < u + 1 → NotAbove A n B f v → ⊥
    none_here t v a b m = elim (let h : v ≤ u = omega arith in eq-or-lt_of_le h) [
      | inl e ↦
          let below = ltb-true L R t in
          let least : NotAbove A n B f u = subst (NotAbove A n B f) e m in
          let same : R ≤ L = rw (l, r) least in
          omega arith
      | inr g ↦ none v a g m
    ]

  pub none_at_all : max_proof_size < u → ((v : ℕ) → 1 ≤ v → v < u → NotAbove A n B f v → ⊥) → SmallestOrNone A n B f None
  unfolding SmallestOrNone
  none_at_all h none v a b = none v a (omega arith)

-- ---- that both stay within 512 digits

pub left_room : (n : ℕ) → n ≤ max_set_size → 1442695 * n ^ max_proof_size < base ^ 512
left_room n h = lt_of_le_of_lt (mul-le-mul_left 1442695 (pow-le-pow_left h max_proof_size)) (lit< tt)

pub first_room : (c : ℕ) → c ≤ max_figure → 1000000 * (32 * c) < base ^ 512
first_room c h = let m : 1000000 * (32 * c) ≤ 32768000000 = omega arith in lt_of_le_of_lt m (lit< tt)

module _ (s c : ℕ) (hs : s ≤ max_soundness) (hc : c ≤ max_figure) where
  doubled_most : 1000000 * (32 * c) * 2 ^ s ≤ 32768000000 * 2 ^ 256
  doubled_most =
      let m : 1000000 * (32 * c) ≤ 32768000000 = omega arith in
      mul-le-mul m (pow-le-pow_right {n = 2} (omega arith) {i = s} {j = 256} hs)

  pub doubled_room : 1000000 * (32 * c) * 2 ^ s < base ^ 512
  doubled_room = lt_of_le_of_lt doubled_most (lit< tt)

  pub right_room : (f : ℕ) → f ≤ max_set_size → 1000000 * (32 * c) * 2 ^ s * f ^ max_proof_size < base ^ 512
  right_room f h = lt_of_le_of_lt (mul-le-mul doubled_most (pow-le-pow_left h max_proof_size)) (lit< tt)

-- ---- the search's answer is the size's

module _ (s c n f : ℕ) where
  no_size : SmallestOrNone 1442695 n (1000000 * (32 * c) * 2 ^ s) f None → NoSize s c n f
  unfolding SmallestOrNone
  no_size h v a b m = h v a b (so_meets s c n f v m)

  size_found : (u : ℕ) → SmallestOrNone 1442695 n (1000000 * (32 * c) * 2 ^ s) f (Some u) → Smallest s c n f u
  unfolding SmallestOrNone
  size_found u h = record {
    from = h.0;
    upto = h.1;
    meets = meets_so s c n f u h.2;
    none_below = λ v a b m. h.3 v a b (so_meets s c n f v m);
  }

  -- A and B being the two numbers, what it found is answered, or that there is no size
  pub size_told : figures_out s c n f ≡ false → (A B : ℕ) → A ≡ 1442695 → B ≡ 1000000 * (32 * c) * 2 ^ s → (r : Option ℕ)
      → SmallestOrNone A n B f r
      → (let a = size_by (ok_or r refusal.NoSize) in SizeIs s c n f a.0 a.1)
  size_told o A B p q r h =
      go r (subst (λ (m : ℕ). SmallestOrNone m n (1000000 * (32 * c) * 2 ^ s) f r) p (subst (λ (m : ℕ). SmallestOrNone A n m f r) q h))
    where
      go : (r : Option ℕ) → SmallestOrNone 1442695 n (1000000 * (32 * c) * 2 ^ s) f r
          → (let a = size_by (ok_or r refusal.NoSize) in SizeIs s c n f a.0 a.1)
      go None m = inr (inl (refl, refl, o, no_size m))
      go (Some u) m = inr (inr (refl, o, size_found u m))

-- ---- how the inequality goes with each figure

meets_less : (s c n f s' c' f' u : ℕ) → s ≤ s' → c ≤ c' → f ≤ f' → Meets s' c' n f' u → Meets s c n f u
meets_less s c n f s' c' f' u hs hc hf m =
    le_trans
    (mul-le-mul_right 1000000
    (mul-le-mul (mul-le-mul (pow-le-pow_left hf u) (pow-le-pow_right {n = 2} (omega arith) {i = s + 5} {j = s' + 5} (omega arith))) hc))
    m

meets_more : (s c n f n' u : ℕ) → n ≤ n' → Meets s c n f u → Meets s c n' f u
meets_more s c n f n' u h m = le_trans m (mul-le-mul_right 1442695 (pow-le-pow_left h u))

-- ---- two answers

-- where each size that meets the second meets the first, the second asks for no less
no_less : (s c n f s' c' n' f' : ℕ) → InRange s c n f → ((u : ℕ) → Meets s' c' n' f' u → Meets s c n f u)
    → (number u number' u' : ℕ) → SizeIs s c n f number u → SizeIs s' c' n' f' number' u' → NoLess number u number' u'
no_less s c n f s' c' n' f' I down number u number' u' a b z = elim b [
  | inl b ↦ absurd (omega (arith, b.0))
  | inr b ↦ elim b [
    | inl b ↦ absurd (omega (arith, b.0))
    | inr b ↦ elim a [
      | inl a ↦ absurd (not_both a.2 I)
      | inr a ↦ elim a [
        | inl a ↦ absurd (a.3 u' b.2.from b.2.upto (down u' b.2.meets))
        | inr a ↦ elim (lt_or_le u' u) [
          | inl l ↦ absurd (a.2.none_below u' b.2.from l (down u' b.2.meets))
          | inr l ↦ (a.0, l)
        ]
      ]
    ]
  ]
]

pub never_falls : SizeNeverFalls
never_falls s c n f s' c' f' I hs hc hf = no_less s c n f s' c' n f' I (λ u m. meets_less s c n f s' c' f' u hs hc hf m)

pub never_rises : SizeNeverRises
never_rises s c n f n' I h number u number' u' a b = no_less s c n' f s c n f I (λ v m. meets_more s c n f n' v h m) number' u' number u b a

-- ---- one answer

smallest_same : (s c n f u u' : ℕ) → Smallest s c n f u → Smallest s c n f u' → u ≡ u'
smallest_same s c n f u u' a b = elim (lt_or_le u u') [
  | inl l ↦ absurd (b.none_below u a.from l a.meets)
  | inr l ↦ elim (lt_or_le u' u) [
    | inl m ↦ absurd (a.none_below u' b.from m b.meets)
    | inr m ↦ omega arith
  ]
]

pub one_answer : SizeOneAnswer
one_answer s c n f number u number' u' a b = elim a [
  | inl a ↦ elim b [
    | inl b ↦ (a.0 ∙ sym b.0, a.1 ∙ sym b.1)
    | inr b ↦ elim b [
      | inl b ↦ absurd (not_both a.2 b.2)
      | inr b ↦ absurd (not_both a.2 b.1)
    ]
  ]
  | inr a ↦ elim a [
    | inl a ↦ elim b [
      | inl b ↦ absurd (not_both b.2 a.2)
      | inr b ↦ elim b [
        | inl b ↦ (a.0 ∙ sym b.0, a.1 ∙ sym b.1)
        | inr b ↦ absurd (a.3 u' b.2.from b.2.upto b.2.meets)
      ]
    ]
    | inr a ↦ elim b [
      | inl b ↦ absurd (not_both b.2 a.1)
      | inr b ↦ elim b [
        | inl b ↦ absurd (b.3 u a.2.from a.2.upto a.2.meets)
        | inr b ↦ (a.0 ∙ sym b.0, smallest_same s c n f u u' a.2 b.2)
      ]
    ]
  ]
]
