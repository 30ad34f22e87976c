-- Laws of words, by their binary digits: what is equal at each digit is equal.
use Rattle.std.specs.Prelude.{◌≡◌, ℕ, zero, suc, ◌+◌, ◌-◌, ◌*◌, ◌/◌, ◌%◌, ◌^◌, ◌<◌, ◌≤◌, min, max, List, [], ◌∷◌, slice_index, refl}
use Rattle.std.proofs.Common.{sym, ap, ◌∙◌, pow-suc, lt_of_lt_of_le, arith, pow_mono, shr-shr}
use Rattle.std.proofs.Math.Decide.{dec_lt}
use Rattle.std.proofs.Math.Nat.{div-eq_of_lt}
use Rattle.std.specs.Int.Bits.{bit_and, bit_or, bit_xor, differ, shifted_half, shifted_even, and_step, or_step, xor_step, and_lt}
use Rattle.std.proofs.lemmas.Nat.{xor_comm, and_shr, or_shr, xor_shr, or_lt, xor_lt, shr_le, shl-shr}
use Rattle.std.proofs.Math.Pow.{ones_sub-lt, field, mod-mod-pow}
use Rattle.sampling.specs.core.Fips180.{◌⊞◌, ROTR, Ch, Maj}

-- the binary digit i of x
digit : ℕ → ℕ → ℕ
digit x i = x / 2 ^ i % 2

digit_lt : (x i : ℕ) → digit x i < 2
unfolding digit
digit_lt x i = omega arith

-- what lies above the lowest digit
digit_suc : (x i : ℕ) → digit x (suc i) ≡ digit (x / 2) i
unfolding digit
digit_suc x i = ap (λ (n : ℕ). x / 2 ^ n % 2) (omega arith) ∙ ap (λ (y : ℕ). y % 2) (sym (shr-shr x 1 i))

-- numbers below 2^k are equal where their k digits are
same_digits : (k : ℕ) {a b : ℕ} → a < 2 ^ k → b < 2 ^ k → ((i : ℕ) → i < k → digit a i ≡ digit b i) → a ≡ b
unfolding digit
same_digits zero p q e = omega arith
same_digits (suc k) {a} {b} p q e =
    let above : (i : ℕ) → i < k → digit (a / 2) i ≡ digit (b / 2) i = λ i l. sym (digit_suc a i) ∙ e (suc i) (omega arith)
    ∙ digit_suc b i in
    omega (arith, same_digits k {a = a / 2} {b = b / 2} (omega (arith, pow-suc 2 k)) (omega (arith, pow-suc 2 k)) above, e 0 (omega arith))

-- ---- the digits of what an operation makes

differ_lt : (x y : ℕ) → x < 2 → y < 2 → differ x y < 2
differ_lt zero y p q = q
differ_lt (suc x) zero p q = p
differ_lt (suc x) (suc y) p q = differ_lt x y (omega arith) (omega arith)

module _ (a b i : ℕ) where
  digit_and : digit (bit_and a b) i ≡ min (digit a i) (digit b i)
  unfolding digit
  digit_and = rw (and_shr a b i, and_step (a / 2 ^ i) (b / 2 ^ i)) (omega arith)

  digit_or : digit (bit_or a b) i ≡ max (digit a i) (digit b i)
  unfolding digit
  digit_or = rw (or_shr a b i, or_step (a / 2 ^ i) (b / 2 ^ i)) (omega arith)

  digit_xor : digit (bit_xor a b) i ≡ differ (digit a i) (digit b i)
  unfolding digit
  digit_xor =
      let l : differ (a / 2 ^ i % 2) (b / 2 ^ i % 2) < 2 = differ_lt (a / 2 ^ i % 2) (b / 2 ^ i % 2) (omega arith) (omega arith) in
      rw (xor_shr a b i, xor_step (a / 2 ^ i) (b / 2 ^ i)) (omega arith)

digit_not : (k x i : ℕ) → x < 2 ^ k → i < k → digit (2 ^ k - 1 - x) i ≡ 1 - digit x i
unfolding digit
digit_not zero x i p l = absurd (omega arith)
digit_not (suc k) x zero p l = omega (arith, pow-suc 2 k)
digit_not (suc k) x (suc i) p l =
    let h : (2 ^ suc k - 1 - x) / 2 ≡ 2 ^ k - 1 - x / 2 = omega (arith, pow-suc 2 k) in
    digit_suc (2 ^ suc k - 1 - x) i ∙ ap (λ (y : ℕ). digit y i) h ∙ digit_not k (x / 2) i (omega (arith, pow-suc 2 k)) (omega arith)
    ∙ ap (λ (d : ℕ). 1 - d) (sym (digit_suc x i))

-- a number below 2^k has no digit from k on
digit_past : (k x i : ℕ) → x < 2 ^ k → k ≤ i → digit x i ≡ 0
unfolding digit
digit_past k x i p l = ap (λ (y : ℕ). y % 2) (div-eq_of_lt (lt_of_lt_of_le p (pow_mono l)))

digit_shr : (x n i : ℕ) → digit (x / 2 ^ n) i ≡ digit x (n + i)
unfolding digit
digit_shr x n i = ap (λ (y : ℕ). y % 2) (shr-shr x n i)

digit_shl : (x n i : ℕ) → digit (x * 2 ^ n) (n + i) ≡ digit x i
unfolding digit
digit_shl x n i = ap (λ (y : ℕ). y % 2) (sym (shr-shr (x * 2 ^ n) n i) ∙ ap (λ (y : ℕ). y / 2 ^ i) (shl-shr x n))

-- zeros are shifted in
digit_below : (x n i : ℕ) → i < n → digit (x * 2 ^ n) i ≡ 0
unfolding digit
digit_below x zero i l = absurd (omega arith)
digit_below x (suc n) zero l = omega (arith, shifted_even x n)
digit_below x (suc n) (suc i) l =
    digit_suc (x * 2 ^ suc n) i ∙ ap (λ (y : ℕ). digit y i) (shifted_half x n) ∙ digit_below x n i (omega arith)

-- what is cut off lies above
digit_mod : (x j i : ℕ) → digit (x % 2 ^ (j + 1 + i)) i ≡ digit x i
unfolding digit
digit_mod x j i = ap (λ (y : ℕ). y % 2) (field x (j + 1) i) ∙ mod-mod-pow (x / 2 ^ i) j 1

-- ---- rotations

-- the digit i of a word rotated by n is the word's digit i + n, modulo 32
digit_rotr : (x n i : ℕ) → x < 2 ^ 32 → n ≤ 32 → i < 32 → digit (ROTR n x) i ≡ digit x ((i + n) % 32)
digit_rotr x n i p m l = digit_or (x / 2 ^ n) ((x * 2 ^ (32 - n)) % 2 ^ 32) i ∙ rw (digit_shr x n i, kept) (go (dec_lt (i + n) 32))
  where
    kept : digit ((x * 2 ^ (32 - n)) % 2 ^ 32) i ≡ digit (x * 2 ^ (32 - n)) i
    kept = let e : 31 - i + 1 + i ≡ 32 = omega arith in rw e at (digit_mod (x * 2 ^ (32 - n)) (31 - i) i)

    go : Dec (i + n < 32) → max (digit x (n + i)) (digit (x * 2 ^ (32 - n)) i) ≡ digit x ((i + n) % 32)
    go (yes q) =
        let e : (i + n) % 32 ≡ n + i = omega arith in
        rw (digit_below x (32 - n) i (omega arith), e) (omega arith)
    go (no q) =
        let e : 32 - n + (i + n) % 32 ≡ i = omega arith in
        rw (digit_past 32 x (n + i) p (omega arith), rw e at (digit_shl x (32 - n) ((i + n) % 32))) (omega arith)

rotr_lt : (n x : ℕ) → x < 2 ^ 32 → ROTR n x < 2 ^ 32
rotr_lt n x p = or_lt 32 (x / 2 ^ n) ((x * 2 ^ (32 - n)) % 2 ^ 32) (omega (arith, shr_le x n)) (omega arith)

ruleset bounds = (xor_lt, and_lt, rotr_lt, ones_sub-lt)

module _ (n : ℕ) (h : n ≤ 32) where
  rotr_xor : (x y : ℕ) → x < 2 ^ 32 → y < 2 ^ 32 → ROTR n (bit_xor x y) ≡ bit_xor (ROTR n x) (ROTR n y)
  rotr_xor x y p q = same_digits 32 (search bounds) (search bounds) same
    where
      same : (i : ℕ) → i < 32 → digit (ROTR n (bit_xor x y)) i ≡ digit (bit_xor (ROTR n x) (ROTR n y)) i
      same i l =
          digit_rotr (bit_xor x y) n i (xor_lt 32 x y p q) h l
          ∙ digit_xor x y ((i + n) % 32)
          ∙ sym (digit_xor (ROTR n x) (ROTR n y) i ∙ rw (digit_rotr x n i p h l, digit_rotr y n i q h l))

  rotr_rotr : (m x : ℕ) → m + n ≤ 32 → x < 2 ^ 32 → ROTR n (ROTR m x) ≡ ROTR (m + n) x
  rotr_rotr m x g p = same_digits 32 (search bounds) (search bounds) same
    where
      same : (i : ℕ) → i < 32 → digit (ROTR n (ROTR m x)) i ≡ digit (ROTR (m + n) x) i
      same i l =
          let e : ((i + n) % 32 + m) % 32 ≡ (i + (m + n)) % 32 = omega arith in
          digit_rotr (ROTR m x) n i (rotr_lt m x p) h l
          ∙ digit_rotr x m ((i + n) % 32) p (omega arith) (omega arith)
          ∙ rw e (sym (digit_rotr x (m + n) i p g l))

-- ---- operations on three words: two that agree on digits, all eight ways, agree

abbrev table : (ℕ → ℕ → ℕ → ℕ) → List ℕ
table f = f 0 0 0 ∷ f 0 0 1 ∷ f 0 1 0 ∷ f 0 1 1 ∷ f 1 0 0 ∷ f 1 0 1 ∷ f 1 1 0 ∷ f 1 1 1 ∷ []

either : (P : ℕ → Type 0) → P 0 → P 1 → (d : ℕ) → d < 2 → P d
either P a b zero l = a
either P a b (suc zero) l = b
either P a b (suc (suc d)) l = absurd (omega arith)

by_table : (f g : ℕ → ℕ → ℕ → ℕ) → table f ≡ table g → (x y z : ℕ) → x < 2 → y < 2 → z < 2 → f x y z ≡ g x y z
by_table f g e x y z p q r =
    either (λ (x : ℕ). f x y z ≡ g x y z)
    (either (λ (y : ℕ). f 0 y z ≡ g 0 y z) (last 0 0 (at 0) (at 1)) (last 0 1 (at 2) (at 3)) y q)
    (either (λ (y : ℕ). f 1 y z ≡ g 1 y z) (last 1 0 (at 4) (at 5)) (last 1 1 (at 6) (at 7)) y q) x p
  where
    at : (n : ℕ) → slice_index (table f) n ≡ slice_index (table g) n
    at n = ap (λ (l : List ℕ). slice_index l n) e

    last : (a b : ℕ) → f a b 0 ≡ g a b 0 → f a b 1 ≡ g a b 1 → f a b z ≡ g a b z
    last a b h k = either (λ (c : ℕ). f a b c ≡ g a b c) h k z r

module _ (x y z : ℕ) (p : x < 2 ^ 32) (q : y < 2 ^ 32) (r : z < 2 ^ 32) where
  by_digits : (i : ℕ) (f g : ℕ → ℕ → ℕ → ℕ) → table f ≡ table g
      → f (digit x i) (digit y i) (digit z i) ≡ g (digit x i) (digit y i) (digit z i)
  by_digits i f g e = by_table f g e (digit x i) (digit y i) (digit z i) (digit_lt x i) (digit_lt y i) (digit_lt z i)

  -- x says of each digit whether it is y's or z's
  pub ch_shorter : bit_xor (bit_and (bit_xor y z) x) z ≡ Ch x y z
  ch_shorter =
      same_digits 32 (search bounds) (search bounds)
      (λ i l.
      simp (digit_xor, digit_and, digit_not 32 x i p l)
      (by_digits i (λ a b c. differ (min (differ b c) a) c) (λ a b c. differ (min a b) (min (1 - a) c)) refl))

  -- y's digit, but where x's and z's both differ from it
  pub maj_shorter : bit_xor (bit_and (bit_xor x y) (bit_xor y z)) y ≡ Maj x y z
  maj_shorter =
      same_digits 32 (search bounds) (search bounds)
      (λ i l.
      simp (digit_xor, digit_and)
      (by_digits i (λ a b c. differ (min (differ a b) (differ b c)) b) (λ a b c. differ (differ (min a b) (min a c)) (min b c)) refl))

  xor_turned : bit_xor (bit_xor x y) z ≡ bit_xor (bit_xor z x) y
  xor_turned =
      same_digits 32 (search bounds) (search bounds)
      (λ i l. simp digit_xor (by_digits i (λ a b c. differ (differ a b) c) (λ a b c. differ (differ c a) b) refl))

-- ---- rotations within rotations

module _ (x : ℕ) (p : x < 2 ^ 32) where
  pub rotr_nested : (m n : ℕ) → m + n ≤ 32 → ROTR n (bit_xor (ROTR m x) x) ≡ bit_xor (ROTR n x) (ROTR (m + n) x)
  rotr_nested m n h =
      rotr_xor n (omega arith) (ROTR m x) x (rotr_lt m x p) p
      ∙ rw (rotr_rotr n (omega arith) m x h p) (xor_comm (ROTR (m + n) x) (ROTR n x))

  pub rotr_nested_twice : (l m n : ℕ) → l + (m + n) ≤ 32
      → ROTR n (bit_xor (ROTR m (bit_xor (ROTR l x) x)) x) ≡ bit_xor (bit_xor (ROTR n x) (ROTR (m + n) x)) (ROTR (l + (m + n)) x)
  rotr_nested_twice l m n h =
      let y : ℕ = bit_xor (ROTR l x) x in
      let q : y < 2 ^ 32 = search bounds in
      rotr_xor n (omega arith) (ROTR m y) x (rotr_lt m y q) p
      ∙ rw (rotr_rotr n (omega arith) m y (omega arith) q, rotr_nested l (m + n) h)
      (xor_turned (ROTR (m + n) x) (ROTR (l + (m + n)) x) (ROTR n x) (rotr_lt (m + n) x p) (rotr_lt (l + (m + n)) x p) (rotr_lt n x p))

-- ---- sums in another order

-- what is added is taken modulo 2^32 once
once : (x y : ℕ) → x % 2 ^ 32 ⊞ y ≡ x ⊞ y
once x y = omega arith

pub sum_of_four : (a b c d : ℕ) → a ⊞ b ⊞ c ⊞ d ≡ d ⊞ b ⊞ c ⊞ a
sum_of_four a b c d = simp once (ap (λ (s : ℕ). s % 2 ^ 32) (omega arith))

pub sum_of_five : (a b c d e : ℕ) → a ⊞ b ⊞ c ⊞ d ⊞ e ≡ a ⊞ e ⊞ d ⊞ c ⊞ b
sum_of_five a b c d e = simp once (ap (λ (s : ℕ). s % 2 ^ 32) (omega arith))
