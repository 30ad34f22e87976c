-- Laws of sums over numbers.
use Rattle.std.specs.Prelude.{◌≡◌, refl, ℕ, zero, suc, ◌+◌, ◌*◌, ◌≤◌, ◌<◌}
use Rattle.std.proofs.Common.{sym, ◌∙◌, inl, inr, zero-mul, mul-zero, add-zero, add-suc, eq-or-lt_of_le, le_of_suc-le-suc, arith}
use Rattle.soundness.specs.Functions.{sum_below}

pub sum_none : (g : ℕ → ℕ) → sum_below 0 g ≡ 0
unfolding sum_below
sum_none g = refl

pub sum_more : (k : ℕ) (g : ℕ → ℕ) → sum_below (suc k) g ≡ sum_below k g + g k
unfolding sum_below
sum_more k g = refl

pub sum_same : (k : ℕ) (g h : ℕ → ℕ) → ((v : ℕ) → v < k → g v ≡ h v) → sum_below k g ≡ sum_below k h
unfolding sum_below
sum_same zero g h e = refl
sum_same (suc k) g h e = let i = sum_same k g h (λ v l. e v (omega arith)) in let j = e k (omega arith) in omega arith

-- g v * a ≤ b * h v for each v: so the sums
pub sum_scaled : (k a b : ℕ) (g h : ℕ → ℕ) → ((v : ℕ) → v < k → g v * a ≤ b * h v) → sum_below k g * a ≤ b * sum_below k h
unfolding sum_below
sum_scaled zero a b g h e = omega arith
sum_scaled (suc k) a b g h e =
    let i = sum_scaled k a b g h (λ v l. e v (omega arith)) in
    let j = e k (omega arith) in
    omega arith

pub sum_most : (k : ℕ) (g h : ℕ → ℕ) → ((v : ℕ) → v < k → g v ≤ h v) → sum_below k g ≤ sum_below k h
sum_most k g h e = let s = sum_scaled k 1 1 g h (λ v l. let i = e v l in omega arith) in omega arith

pub sum_const : (k c : ℕ) → sum_below k (λ (v : ℕ). c) ≡ k * c
unfolding sum_below
sum_const zero c = sym (zero-mul c)
sum_const (suc k) c = let i = sum_const k c in omega arith

pub sum_zero : (k : ℕ) → sum_below k (λ (v : ℕ). 0) ≡ 0
sum_zero k = sum_const k 0 ∙ mul-zero k

pub sum_bounded : (k a c : ℕ) (g : ℕ → ℕ) → ((v : ℕ) → v < k → g v * a ≤ c) → sum_below k g * a ≤ k * c
sum_bounded k a c g h =
    let s = sum_scaled k a 1 g (λ v. c) (λ v l. let i = h v l in omega arith) in
    let z = sum_const k c in
    omega arith

pub sum_times : (k c : ℕ) (g : ℕ → ℕ) → sum_below k (λ (v : ℕ). g v * c) ≡ sum_below k g * c
unfolding sum_below
sum_times zero c g = sym (zero-mul c)
sum_times (suc k) c g = let i = sum_times k c g in omega arith

pub sum_plus : (k : ℕ) (g h : ℕ → ℕ) → sum_below k (λ (v : ℕ). g v + h v) ≡ sum_below k g + sum_below k h
unfolding sum_below
sum_plus zero g h = refl
sum_plus (suc k) g h = let i = sum_plus k g h in omega arith

pub sum_swap : (k l : ℕ) (g : ℕ → ℕ → ℕ)
    → sum_below k (λ (v : ℕ). sum_below l (λ (w : ℕ). g v w)) ≡ sum_below l (λ (w : ℕ). sum_below k (λ (v : ℕ). g v w))
unfolding sum_below
sum_swap zero l g = sym (sum_zero l)
sum_swap (suc k) l g =
    let i = sum_swap k l g in
    let j = sum_plus l (λ (w : ℕ). sum_below k (λ (v : ℕ). g v w)) (λ (w : ℕ). g k w) in
    omega arith

pub sum_split : (a b : ℕ) (g : ℕ → ℕ) → sum_below (a + b) g ≡ sum_below a g + sum_below b (λ (w : ℕ). g (a + w))
unfolding sum_below
sum_split a zero g = rw (add-zero a) (omega arith)
sum_split a (suc b) g = rw add-suc (let i = sum_split a b g in omega arith)

pub sum_first : (k : ℕ) (g : ℕ → ℕ) → sum_below (suc k) g ≡ g 0 + sum_below k (λ (i : ℕ). g (suc i))
unfolding sum_below
sum_first zero g = omega arith
sum_first (suc k) g = let i = sum_first k g in omega arith

-- one of them is no more than the sum
pub sum_has : (k v : ℕ) (g : ℕ → ℕ) → v < k → g v ≤ sum_below k g
unfolding sum_below
sum_has zero v g l = absurd (omega arith)
sum_has (suc k) v g l = elim (eq-or-lt_of_le l) [
  | inl e ↦ (let s : v ≡ k = omega arith in rw s (omega arith))
  | inr m ↦ (let i = sum_has k v g (le_of_suc-le-suc m) in omega arith)
]
