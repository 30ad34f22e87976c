-- The words of the message schedule: the block's, and those that are made of the sixteen before them.
use Rattle.std.proofs.Common.{◌≡◌, ℕ, zero, suc, ◌+◌, ◌-◌, ◌*◌, ◌<◌, ◌≤◌, List, [], ◌∷◌, ◌++◌, length, get_or, sym, refl, ◌∙◌, arith, length-append, le-ltb, lt-ltb}
use native.Mathlib.Decide.{dec_lt}
use lib.ListN.{get_or-append}
use lib.Seq.{get_or_at}
use Rattle.sampling.specs.core.Fips180.{◌⊞◌, σ₀, σ₁, word, words, block, W, next_w}
use Rattle.sampling.specs.laws.WordLaws.{sum_of_four}

-- ---- a list that grows at its end: the nth step adds x n

module _ (list : ℕ → List ℕ) (x : ℕ → ℕ) (none : list 0 ≡ []) (more : (n : ℕ) → list (suc n) ≡ list n ++ (x n ∷ [])) where
  grown_length : (n : ℕ) → length (list n) ≡ n
  grown_length zero = rw none
  grown_length (suc n) = rw (more n) (simp (length-append, grown_length n) (omega arith))

  grown_at : (n k : ℕ) → k < n → get_or (list n) k 0 ≡ x k
  grown_at zero k h = absurd (omega arith)
  grown_at (suc n) k h = rw (more n) (go (dec_lt k n) (grown_at n k))
    where
      go : Dec (k < n) → (k < n → get_or (list n) k 0 ≡ x k) → get_or (list n ++ (x n ∷ [])) k 0 ≡ x k
      go (yes l) before = get_or-append (list n) (x n ∷ []) 0 k (omega (arith, grown_length n)) ∙ before l
      go (no l) before = let e : k ≡ n = omega arith in rw e (get_or_at (list n) (x n) [] 0 n (grown_length n))

W_at : (M : List ℕ) (n t : ℕ) → t < n → get_or (W M n) t 0 ≡ next_w M (W M t) t
unfolding W
W_at M = grown_at (W M) (λ t. next_w M (W M t) t) refl (λ n. refl)

words_at : (m : List ℕ) (o n t : ℕ) → t < n → get_or (words m o n) t 0 ≡ word m (o + 4 * t)
unfolding words
words_at m o = grown_at (words m o) (λ t. word m (o + 4 * t)) refl (λ n. refl)

-- ---- before 16: the block's own words

pub block_word : (m : List ℕ) (o t : ℕ) {x : ℕ} → t < 16 → x ≡ word m (o + 4 * t) → x ≡ get_or (W (block m o) 64) t 0
unfolding next_w
block_word m o t h e = e ∙ sym (W_at (block m o) 64 t (omega arith) ∙ rw (lt-ltb t 16 h) (words_at m o 16 t h))

-- ---- from 16 on

-- the rule's second case, its sum in another order
abbrev made : List ℕ → ℕ → ℕ
made w t = get_or w (t - 16) 0 ⊞ get_or w (t - 7) 0 ⊞ σ₀ (get_or w (t - 15) 0) ⊞ σ₁ (get_or w (t - 2) 0)

pub next_w_made : (M w : List ℕ) (t : ℕ) → 16 ≤ t → next_w M w t ≡ made w t
unfolding next_w
next_w_made M w t g =
    rw (le-ltb t 16 g) (sum_of_four (σ₁ (get_or w (t - 2) 0)) (get_or w (t - 7) 0) (σ₀ (get_or w (t - 15) 0)) (get_or w (t - 16) 0))

-- it asks for the words before t alone
pub made_word : (M w : List ℕ) (t : ℕ) {x : ℕ} → 16 ≤ t → t < 64 → ((n : ℕ) → n < t → get_or w n 0 ≡ get_or (W M 64) n 0) → x ≡ next_w M w t
    → x ≡ get_or (W M 64) t 0
made_word M w t g h same e = e ∙ next_w_made M w t g ∙ alike ∙ sym (W_at M 64 t h ∙ next_w_made M (W M t) t g)
  where
    read : (n : ℕ) → n < t → get_or w n 0 ≡ get_or (W M t) n 0
    read n l = same n l ∙ W_at M 64 n (omega arith) ∙ sym (W_at M t n l)

    alike : made w t ≡ made (W M t) t
    alike = rw (read (t - 16) (omega arith), read (t - 7) (omega arith), read (t - 15) (omega arith), read (t - 2) (omega arith))
