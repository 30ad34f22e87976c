-- Remainders of sums and products: what the two ways to divide a number of two halves rest on.
use Rattle.std.proofs.Common.{◌≡◌, ℕ, ◌+◌, ◌-◌, ◌*◌, ◌/◌, ◌%◌, ◌^◌, ◌<◌, ◌≤◌, sym, ap, ◌∙◌, add_assoc, mod-eq_of_lt, mul_assoc, add-mul, arith, pow-add}
use native.Mathlib.Nat.{div-add-mod, mul-add-mod_self_left, add-mod, mod-eq-sub-mod}

-- ---- the sum of two remainders, by whether it reaches n

pub sum_under : (a b n : ℕ) → b < n - a → a + b ≡ (a + b) % n
sum_under a b n h = sym (mod-eq_of_lt (omega arith))

pub sum_over : (a b n : ℕ) → a < n → b < n → n - a ≤ b → b - (n - a) ≡ (a + b) % n
sum_over a b n A B h =
    let less : b - (n - a) ≡ a + b - n = omega arith in
    let small : a + b - n < n = omega arith in
    let over : n ≤ a + b = omega arith in
    less ∙ sym (mod-eq_of_lt small) ∙ sym (mod-eq-sub-mod over)

-- ---- by doubling: one more factor of two

pub doubled : (a k n : ℕ) → (a * 2 ^ k % n + a * 2 ^ k % n) % n ≡ a * 2 ^ (k + 1) % n
doubled a k n = sym (add-mod (a * 2 ^ k) (a * 2 ^ k) n) ∙ ap (λ (x : ℕ). x % n) twice
  where
    plus : (x : ℕ) → x + x ≡ x * 2
    plus x = omega arith

    twice : a * 2 ^ k + a * 2 ^ k ≡ a * 2 ^ (k + 1)
    twice = plus (a * 2 ^ k) ∙ mul_assoc a (2 ^ k) 2 ∙ ap (λ (x : ℕ). a * x) (sym (pow-add 2 k 1))

-- ---- by long division: a digit d to the base b is added to what is left of x

next_digit : (x b d n : ℕ) → (x % n * b + d) % n ≡ (x * b + d) % n
next_digit x b d n =
    sym (ap (λ (k : ℕ). (k * b + d) % n) (sym (div-add-mod x n)) ∙ ap (λ (k : ℕ). k % n) whole_first
    ∙ mul-add-mod_self_left n (x / n * b) (x % n * b + d))
  where
    whole_first : (n * (x / n) + x % n) * b + d ≡ n * (x / n * b) + (x % n * b + d)
    whole_first =
        ap (λ (k : ℕ). k + d) (add-mul (n * (x / n)) (x % n) b ∙ ap (λ (k : ℕ). k + x % n * b) (mul_assoc n (x / n) b))
        ∙ add_assoc (n * (x / n * b)) (x % n * b) d

-- two digits of 32 bits make the low half
pub two_digits : (hi lo n : ℕ) → ((hi % n * 2 ^ 32 + lo / 2 ^ 32) % n * 2 ^ 32 + lo % 2 ^ 32) % n ≡ (hi * 2 ^ 64 + lo) % n
two_digits hi lo n =
    next_digit (hi % n * 2 ^ 32 + lo / 2 ^ 32) (2 ^ 32) (lo % 2 ^ 32) n ∙ ap (λ (k : ℕ). k % n) (one_half (hi % n))
    ∙ next_digit hi (2 ^ 64) lo n
  where
    one_half : (a : ℕ) → (a * 2 ^ 32 + lo / 2 ^ 32) * 2 ^ 32 + lo % 2 ^ 32 ≡ a * 2 ^ 64 + lo
    one_half a = omega arith
