-- Laws of sums over tables: an entry at which nobody looks, an entry by which the rest is chosen, and tables of two parts.
use Rattle.std.specs.Prelude.{◌≡◌, Bool, true, false, cond, ◌&&◌, ltb, get_or}
use Rattle.std.proofs.Math.Path.{refl, sym}
use Rattle.std.proofs.Common.{◌∙◌, ap, mul_comm, le_trans, le_refl, le_of_suc-le-suc, ltb-true, lt-ltb}
use Rattle.std.proofs.lemmas.Bool.{false≢true}
use mathlib.Core.List.{List, [], ◌∷◌}
use Prim.Native.Nat.{ℕ, zero, suc, ◌+◌, ◌*◌, ◌^◌, ◌≤◌, ◌<◌}
use Rattle.std.proofs.Math.Nat.{pow-suc, pow-zero, one-mul}
use native.Mathlib.Omega.{arith}
use Rattle.centralized_telescope.specs.laws.TestLaws.{both}
use Rattle.soundness.specs.Functions.{sum_below, sum_tables}
use Rattle.soundness.specs.laws.SumLaws.{sum_same, sum_most, sum_const, sum_bounded, sum_times, sum_plus, sum_swap, sum_has}

-- u numbers, each below f
unfoldable pub are_below : ℕ → ℕ → List ℕ → Bool
are_below f zero [] = true
are_below f zero (e ∷ es) = false
are_below f (suc u) [] = false
are_below f (suc u) (e ∷ es) = ltb e f && are_below f u es

module _ (m : ℕ) where
  pub tables_same : (k : ℕ) (g h : List ℕ → ℕ) → ((t : List ℕ) → g t ≡ h t) → sum_tables m k g ≡ sum_tables m k h
  unfolding sum_tables
  tables_same zero g h e = e []
  tables_same (suc k) g h e =
      sum_same m (λ v. sum_tables m k (λ t. g (v ∷ t))) (λ v. sum_tables m k (λ t. h (v ∷ t)))
      (λ v _. tables_same k (λ t. g (v ∷ t)) (λ t. h (v ∷ t)) (λ t. e (v ∷ t)))

  pub tables_most : (k : ℕ) (g h : List ℕ → ℕ) → ((t : List ℕ) → g t ≤ h t) → sum_tables m k g ≤ sum_tables m k h
  unfolding sum_tables
  tables_most zero g h e = e []
  tables_most (suc k) g h e =
      sum_most m (λ v. sum_tables m k (λ t. g (v ∷ t))) (λ v. sum_tables m k (λ t. h (v ∷ t)))
      (λ v _. tables_most k (λ t. g (v ∷ t)) (λ t. h (v ∷ t)) (λ t. e (v ∷ t)))

  pub tables_const : (k c : ℕ) → sum_tables m k (λ (t : List ℕ). c) ≡ m ^ k * c
  unfolding sum_tables
  tables_const zero c = sym (ap (λ (z : ℕ). z * c) (pow-zero m) ∙ one-mul c)
  tables_const (suc k) c =
      let s = sum_same m (λ v. sum_tables m k (λ (t : List ℕ). c)) (λ v. m ^ k * c) (λ v _. tables_const k c) in
      let z = sum_const m (m ^ k * c) in
      rw pow-suc (omega arith)

  pub tables_times : (k c : ℕ) (g : List ℕ → ℕ) → sum_tables m k (λ (t : List ℕ). c * g t) ≡ c * sum_tables m k g
  unfolding sum_tables
  tables_times zero c g = refl
  tables_times (suc k) c g =
      let s = sum_same m (λ v. sum_tables m k (λ t. c * g (v ∷ t))) (λ v. sum_tables m k (λ t. g (v ∷ t)) * c)
      (λ v _. let i = tables_times k c (λ t. g (v ∷ t)) in omega arith) in
      let z = sum_times m c (λ v. sum_tables m k (λ t. g (v ∷ t))) in
      omega arith

  pub tables_plus : (k : ℕ) (g h : List ℕ → ℕ) → sum_tables m k (λ (t : List ℕ). g t + h t) ≡ sum_tables m k g + sum_tables m k h
  unfolding sum_tables
  tables_plus zero g h = refl
  tables_plus (suc k) g h =
      sum_same m (λ v. sum_tables m k (λ t. g (v ∷ t) + h (v ∷ t)))
      (λ v. sum_tables m k (λ t. g (v ∷ t)) + sum_tables m k (λ t. h (v ∷ t)))
      (λ v _. tables_plus k (λ t. g (v ∷ t)) (λ t. h (v ∷ t)))
      ∙ sum_plus m (λ v. sum_tables m k (λ t. g (v ∷ t))) (λ v. sum_tables m k (λ t. h (v ∷ t)))

  pub tables_swap : (k l : ℕ) (g : ℕ → List ℕ → ℕ)
      → sum_tables m k (λ (t : List ℕ). sum_below l (λ (w : ℕ). g w t)) ≡ sum_below l (λ (w : ℕ). sum_tables m k (g w))
  unfolding sum_tables
  tables_swap zero l g = refl
  tables_swap (suc k) l g =
      sum_same m (λ v. sum_tables m k (λ t. sum_below l (λ w. g w (v ∷ t)))) (λ v. sum_below l (λ w. sum_tables m k (λ t. g w (v ∷ t))))
      (λ v _. tables_swap k l (λ w t. g w (v ∷ t)))
      ∙ sum_swap m l (λ v w. sum_tables m k (λ t. g w (v ∷ t)))

  -- over tables of numbers below m, of a sum over tables of numbers below f
  pub tables_swap_tables : (k f l : ℕ) (g : List ℕ → List ℕ → ℕ)
      → sum_tables m k (λ (t : List ℕ). sum_tables f l (λ (s : List ℕ). g s t)) ≡ sum_tables f l (λ (s : List ℕ). sum_tables m k (g s))
  unfolding sum_tables
  tables_swap_tables k f zero g = refl
  tables_swap_tables k f (suc l) g =
      tables_swap k f (λ e t. sum_tables f l (λ s. g (e ∷ s) t))
      ∙ sum_same f (λ e. sum_tables m k (λ t. sum_tables f l (λ s. g (e ∷ s) t))) (λ e. sum_tables f l (λ s. sum_tables m k (g (e ∷ s))))
      (λ e _. tables_swap_tables k f l (λ s t. g (e ∷ s) t))

-- ---- bounds

pub tables_bounded : (f u a c : ℕ) (g : List ℕ → ℕ) → ((es : List ℕ) → are_below f u es ≡ true → g es * a ≤ c)
    → sum_tables f u g * a ≤ f ^ u * c
unfolding sum_tables are_below
tables_bounded f zero a c g h = rw (pow-zero f, one-mul c) (h [] refl)
tables_bounded f (suc u) a c g h =
    let s = sum_bounded f a (f ^ u * c) (λ e. sum_tables f u (λ es. g (e ∷ es)))
    (λ e l. tables_bounded f u a c (λ es. g (e ∷ es)) (λ es w. h (e ∷ es) (rw (lt-ltb e f l) w))) in
    rw pow-suc (omega arith)

pub tables_has : (f u : ℕ) (es : List ℕ) (g : List ℕ → ℕ) → are_below f u es ≡ true → g es ≤ sum_tables f u g
unfolding sum_tables are_below
tables_has f zero [] g w = le_refl _
tables_has f zero (e ∷ es) g w = absurd (false≢true w)
tables_has f (suc u) [] g w = absurd (false≢true w)
tables_has f (suc u) (e ∷ es) g w =
    let b = both (ltb e f) w in
    le_trans (tables_has f u es (λ s. g (e ∷ s)) b.1) (sum_has f e (λ v. sum_tables f u (λ s. g (v ∷ s))) (ltb-true e f b.0))

module _ (m k a c : ℕ) where
  pub sums_within : (l : ℕ) (g : ℕ → List ℕ → ℕ) → ((v : ℕ) → v < l → sum_tables m k (g v) * a ≤ c)
      → sum_tables m k (λ (t : List ℕ). sum_below l (λ (v : ℕ). g v t)) * a ≤ l * c
  sums_within l g h = rw (tables_swap m k l g) (sum_bounded l a c (λ v. sum_tables m k (g v)) h)

  pub tables_within : (f u : ℕ) (g : List ℕ → List ℕ → ℕ) → ((es : List ℕ) → are_below f u es ≡ true → sum_tables m k (g es) * a ≤ c)
      → sum_tables m k (λ (t : List ℕ). sum_tables f u (λ (es : List ℕ). g es t)) * a ≤ f ^ u * c
  tables_within f u g h = rw (tables_swap_tables m k f u g) (tables_bounded f u a c (λ es. sum_tables m k (g es)) h)

-- ---- one entry

-- two tables agree but at the entry i
abbrev pub AlikeOff : ℕ → List ℕ → List ℕ → Type 0
AlikeOff i t t' = (j : ℕ) → (j ≡ i → ⊥) → get_or t j 0 ≡ get_or t' j 0

-- g doesn't look at the entry i
abbrev pub Blind : ℕ → (List ℕ → ℕ) → Type 0
Blind i g = (t t' : List ℕ) → AlikeOff i t t' → g t ≡ g t'

off_zero : (v w : ℕ) (t : List ℕ) → AlikeOff 0 (v ∷ t) (w ∷ t)
off_zero v w t zero n = absurd (n refl)
off_zero v w t (suc j) n = refl

off_suc : (i v : ℕ) (t t' : List ℕ) → AlikeOff i t t' → AlikeOff (suc i) (v ∷ t) (v ∷ t')
off_suc i v t t' h zero n = refl
off_suc i v t t' h (suc j) n = h j (λ e. n (ap suc e))

-- where g v doesn't look at the entry i, the entry is as good as any other number
pub resample : (m k i : ℕ) (g : ℕ → List ℕ → ℕ) → i < k → ((v : ℕ) → Blind i (g v))
    → m * sum_tables m k (λ (t : List ℕ). g (get_or t i 0) t) ≡ sum_below m (λ (v : ℕ). sum_tables m k (g v))
unfolding sum_tables
resample m zero i g l B = absurd (omega arith)
resample m (suc k) zero g l B =
    let s : ℕ → ℕ = λ (v : ℕ). sum_tables m k (λ (t : List ℕ). g v (v ∷ t)) in
    mul_comm m (sum_below m s)
    ∙ (sym (sum_times m m s)
    ∙ sum_same m (λ v. s v * m) (λ v. sum_below m (λ w. sum_tables m k (λ t. g v (w ∷ t))))
    (λ v _. mul_comm (s v) m
    ∙ (sym (sum_const m (s v))
    ∙ sum_same m (λ w. s v) (λ w. sum_tables m k (λ t. g v (w ∷ t)))
    (λ w _. tables_same m k (λ t. g v (v ∷ t)) (λ t. g v (w ∷ t)) (λ t. B v (v ∷ t) (w ∷ t) (off_zero v w t))))))
resample m (suc k) (suc i) g l B =
    let s : ℕ → ℕ = λ (w : ℕ). sum_tables m k (λ (t : List ℕ). g (get_or t i 0) (w ∷ t)) in
    mul_comm m (sum_below m s)
    ∙ (sym (sum_times m m s)
    ∙ (sum_same m (λ w. s w * m) (λ w. sum_below m (λ v. sum_tables m k (λ t. g v (w ∷ t))))
    (λ w _. mul_comm (s w) m
    ∙ resample m k i (λ v t. g v (w ∷ t)) (le_of_suc-le-suc l) (λ v t t' h. B v (w ∷ t) (w ∷ t') (off_suc i w t t' h)))
    ∙ sum_swap m m (λ w v. sum_tables m k (λ t. g v (w ∷ t)))))

-- ---- tables of two parts

-- where the test says yes the entry is of the first table, elsewhere of the second
unfoldable pub joined : (ℕ → Bool) → List ℕ → List ℕ → List ℕ
joined test [] [] = []
joined test [] (y ∷ t) = cond (test 0) 0 y ∷ joined (λ (i : ℕ). test (suc i)) [] t
joined test (x ∷ s) [] = cond (test 0) x 0 ∷ joined (λ (i : ℕ). test (suc i)) s []
joined test (x ∷ s) (y ∷ t) = cond (test 0) x y ∷ joined (λ (i : ℕ). test (suc i)) s t

pub joined_at : (test : ℕ → Bool) (s t : List ℕ) (i : ℕ) → get_or (joined test s t) i 0 ≡ cond (test i) (get_or s i 0) (get_or t i 0)
unfolding joined
joined_at test [] [] i = same (test i)
  where
    same : (b : Bool) → ◌≡◌ {A = ℕ} 0 (cond b 0 0)
    same true = refl
    same false = refl
joined_at test [] (y ∷ t) zero = refl
joined_at test [] (y ∷ t) (suc i) = joined_at (λ j. test (suc j)) [] t i
joined_at test (x ∷ s) [] zero = refl
joined_at test (x ∷ s) [] (suc i) = joined_at (λ j. test (suc j)) s [] i
joined_at test (x ∷ s) (y ∷ t) zero = refl
joined_at test (x ∷ s) (y ∷ t) (suc i) = joined_at (λ j. test (suc j)) s t i

-- each table comes as often as any other
pub tables_joined : (m k : ℕ) (test : ℕ → Bool) (g : List ℕ → ℕ)
    → sum_tables m k (λ (s : List ℕ). sum_tables m k (λ (t : List ℕ). g (joined test s t))) ≡ m ^ k * sum_tables m k g
unfolding sum_tables joined
tables_joined m zero test g = sym (ap (λ (z : ℕ). z * g []) (pow-zero m) ∙ one-mul (g []))
tables_joined m (suc k) test g =
    sum_same m (λ x. sum_tables m k (λ s. sum_below m (λ y. sum_tables m k (λ t. g (cond (test 0) x y ∷ joined rest s t)))))
    (λ x. sum_below m (λ y. m ^ k * first (cond (test 0) x y)))
    (λ x _. tables_swap m k m (λ y s. sum_tables m k (λ t. g (cond (test 0) x y ∷ joined rest s t)))
    ∙ sum_same m (λ y. sum_tables m k (λ s. sum_tables m k (λ t. g (cond (test 0) x y ∷ joined rest s t))))
    (λ y. m ^ k * first (cond (test 0) x y))
    (λ y _. tables_joined m k rest (λ t. g (cond (test 0) x y ∷ t))))
    ∙ by_first (test 0)
  where
    rest : ℕ → Bool
    rest i = test (suc i)

    first : ℕ → ℕ
    first v = sum_tables m k (λ (t : List ℕ). g (v ∷ t))

    factor : sum_below m (λ (v : ℕ). m ^ k * first v) ≡ sum_below m first * m ^ k
    factor = sum_same m (λ v. m ^ k * first v) (λ v. first v * m ^ k) (λ v _. mul_comm (m ^ k) (first v)) ∙ sum_times m (m ^ k) first

    by_first : (b : Bool) → sum_below m (λ (x : ℕ). sum_below m (λ (y : ℕ). m ^ k * first (cond b x y))) ≡ m ^ suc k * sum_below m first
    by_first true =
        sum_same m (λ x. sum_below m (λ y. m ^ k * first x)) (λ x. m ^ k * first x * m)
        (λ x _. sum_const m (m ^ k * first x) ∙ mul_comm m (m ^ k * first x))
        ∙ (sum_times m m (λ x. m ^ k * first x) ∙ (ap (λ (z : ℕ). z * m) factor ∙ rw pow-suc (omega arith)))
    by_first false = sum_const m (sum_below m (λ y. m ^ k * first y)) ∙ (ap (λ (z : ℕ). m * z) factor ∙ rw pow-suc (omega arith))
