-- Laws of whole numbers in digits of 32 bits.
use Rattle.std.specs.Prelude.{◌≡◌, ℕ, zero, suc, ◌+◌, ◌-◌, ◌*◌, ◌/◌, ◌%◌, ◌^◌, ◌<◌, ◌≤◌, Bool, true, false, List, length, replicate, ◌≢◌, nat_lt, slice_index, slice_set, refl}
use Rattle.std.proofs.Common.{sym, ap, ◌∙◌, subst, mul_assoc, mul-le-mul_left, pow-suc, lt_of_le_of_lt, add-one, arith, lt-ltb, le-ltb, ltb-true, ltb-false, length-set, get_or-set_same, get_or-set_other}
use Rattle.std.proofs.Math.Nat.{pow-le-pow_right}
use Rattle.std.proofs.lemmas.List.{length-replicate, get_or-replicate}
use Rattle.centralized_telescope.specs.inner.Digits.{stands_for, number_in}

abbrev pub base : ℕ
base = 2 ^ 32

-- one digit more
stands_more : (i : ℕ) (ds : List ℕ) → stands_for (i + 1) ds ≡ stands_for i ds + base ^ i * slice_index ds i
unfolding stands_for
stands_more i ds = rw (add-one i)

-- the first k digits alone count
stands_same : (k : ℕ) (ds es : List ℕ) → ((j : ℕ) → j < k → slice_index ds j ≡ slice_index es j) → stands_for k ds ≡ stands_for k es
unfolding stands_for
stands_same zero ds es h = refl
stands_same (suc k) ds es h = rw (stands_same k ds es (λ j l. h j (omega arith)), h k (omega arith))

stands_behind : (k : ℕ) (ds : List ℕ) (i a : ℕ) → k ≤ i → stands_for k (slice_set ds i a) ≡ stands_for k ds
stands_behind k ds i a h = stands_same k (slice_set ds i a) ds (λ j l. get_or-set_other ds i j a 0 (λ e. omega arith))

-- ---- times k: what is made of the first i digits, with the carry

pub product_none : (k : ℕ) (ds : List ℕ) → stands_for 0 ds + base ^ 0 * 0 ≡ stands_for 0 ds * k
unfolding stands_for
product_none k ds = omega arith

-- S and what is carried are T times k; r and q are the next digit's product, cut in two
next_product : (S B T k d carry q r : ℕ) → S + B * carry ≡ T * k → r + base * q ≡ d * k + carry → S + B * r + B * base * q ≡ (T + B * d) * k
next_product S B T k d carry q r e f =
    let g : B * (r + base * q) ≡ B * (d * k + carry) = ap (λ (x : ℕ). B * x) f in
    omega arith

module _ (k : ℕ) (before now : List ℕ) (i carry : ℕ) where
  abbrev sum : ℕ
  sum = slice_index now i * k + carry

  pub product_more : i < length now → slice_index now i ≡ slice_index before i → stands_for i now + base ^ i * carry ≡ stands_for i before * k
      → stands_for (i + 1) (slice_set now i (sum % base)) + base ^ (i + 1) * (sum / base) ≡ stands_for (i + 1) before * k
  product_more l d e =
      rw (
        stands_more i (slice_set now i (sum % base)),
        stands_behind i now i (sum % base) (omega arith),
        get_or-set_same now i (sum % base) 0 l,
        stands_more i before,
        add-one i,
        pow-suc base i,
        ← d,
      )
      (next_product (stands_for i now) (base ^ i) (stands_for i before) k (slice_index now i) carry (sum / base) (sum % base) e (omega arith))

-- the digits behind are as they were
pub behind_same : (before now : List ℕ) (i : ℕ) → ((j : ℕ) → i ≤ j → slice_index now j ≡ slice_index before j) → (a j : ℕ) → i + 1 ≤ j
    → slice_index (slice_set now i a) j ≡ slice_index before j
behind_same before now i h a j l = get_or-set_other now i j a 0 (λ e. omega arith) ∙ h j (omega arith)

-- where there was room nothing is carried in the end
pub product_whole : (k : ℕ) (before now : List ℕ) (i carry : ℕ) → length now ≡ length before → i ≡ length before
    → number_in before * k < base ^ length before
    → stands_for i now + base ^ i * carry ≡ stands_for i before * k
    → number_in now ≡ number_in before * k
product_whole k before now i carry m e room p = rw (m, ← e) (go carry p)
  where
    go : (q : ℕ) → stands_for i now + base ^ i * q ≡ stands_for i before * k → stands_for i now ≡ stands_for i before * k
    go zero f = omega arith
    go (suc q) f = absurd (let r : stands_for i before * k < base ^ i = rw e room in omega arith)

-- ---- times k, again and again: N times k ^ i

pub power_more : (N k i : ℕ) → N * k ^ i * k ≡ N * k ^ (i + 1)
power_more N k i = rw (add-one i, pow-suc k i) (mul_assoc N (k ^ i) k)

pub power_up : (N k u : ℕ) → 1 ≤ u → N * k ^ (u - 1) * k ≡ N * k ^ u
power_up N k u h = let e : u - 1 + 1 ≡ u = omega arith in power_more N k (u - 1) ∙ ap (λ (i : ℕ). N * k ^ i) e

-- where there is room for the last there is room for each
pub room_for_more : (N k e i room : ℕ) → 1 ≤ k → i < e → N * k ^ e < room → N * k ^ i * k < room
room_for_more N k e i room h l r =
    let p : k ^ (i + 1) ≤ k ^ e = pow-le-pow_right h {i = i + 1} {j = e} (omega arith) in
    rw (power_more N k i) (lt_of_le_of_lt (mul-le-mul_left N p) r)

-- ---- which is below

pub none_below : (a b : List ℕ) → (stands_for 0 a < base ^ 0) × (stands_for 0 b < base ^ 0) × (false ≡ nat_lt (stands_for 0 a) (stands_for 0 b))
unfolding stands_for
none_below a b = (omega arith, omega arith, refl)

-- the digits so far stay below the next one's weight
pub fits_more : (i : ℕ) (a : List ℕ) → stands_for i a < base ^ i → slice_index a i < base → stands_for (i + 1) a < base ^ (i + 1)
fits_more i a f d =
    let w : base ^ i * (slice_index a i + 1) ≤ base ^ i * base = mul-le-mul_left (base ^ i) (omega arith) in
    rw (stands_more i a, add-one i, pow-suc base i) (omega arith)

-- the next digits decide, unless they are equal
module _ (i : ℕ) (a b : List ℕ) where
  abbrev A : ℕ
  A = stands_for i a

  abbrev B : ℕ
  B = stands_for i b

  abbrev x : ℕ
  x = slice_index a i

  abbrev y : ℕ
  y = slice_index b i

  pub below_same : x ≡ y → nat_lt (stands_for (i + 1) a) (stands_for (i + 1) b) ≡ nat_lt A B
  below_same e = rw (stands_more i a, stands_more i b, e) (go (nat_lt A B) refl)
    where
      go : (t : Bool) → nat_lt A B ≡ t → nat_lt (A + base ^ i * y) (B + base ^ i * y) ≡ t
      go true f = lt-ltb (A + base ^ i * y) (B + base ^ i * y) (let l = ltb-true A B f in omega arith)
      go false f = le-ltb (A + base ^ i * y) (B + base ^ i * y) (let l = ltb-false A B f in omega arith)

  pub below_differ : A < base ^ i → B < base ^ i → (x ≢ y) → nat_lt (stands_for (i + 1) a) (stands_for (i + 1) b) ≡ nat_lt x y
  below_differ f g n = rw (stands_more i a, stands_more i b) (go (nat_lt x y) refl)
    where
      go : (t : Bool) → nat_lt x y ≡ t → nat_lt (A + base ^ i * x) (B + base ^ i * y) ≡ t
      go true e =
          let l : x + 1 ≤ y = omega (arith, ltb-true x y e) in
          let w : base ^ i * (x + 1) ≤ base ^ i * y = mul-le-mul_left (base ^ i) l in
          lt-ltb (A + base ^ i * x) (B + base ^ i * y) (omega arith)
      go false e =
          let h : y ≤ x = ltb-false x y e in
          let l : y + 1 ≤ x = omega arith in
          let w : base ^ i * (y + 1) ≤ base ^ i * x = mul-le-mul_left (base ^ i) l in
          le-ltb (A + base ^ i * x) (B + base ^ i * y) (omega arith)

-- ---- one digit alone

pub one_digit : (k a : ℕ) → number_in (slice_set (replicate (suc k) 0) 0 a) ≡ a
unfolding stands_for
one_digit k a =
    subst (λ (n : ℕ). stands_for n (slice_set (replicate (suc k) 0) 0 a) ≡ a)
    (sym (length-set (replicate (suc k) 0) 0 a ∙ length-replicate {A = ℕ} (suc k) 0)) (go k (omega arith))
  where
    go : (j : ℕ) → j ≤ k → stands_for (suc j) (slice_set (replicate (suc k) 0) 0 a) ≡ a
    go zero h = rw (get_or-set_same (replicate (suc k) 0) 0 a 0 (omega (arith, length-replicate {A = ℕ} (suc k) 0))) (omega arith)
    go (suc j) h =
        rw (
          go j (omega arith),
          get_or-set_other (replicate (suc k) 0) 0 (suc j) a 0 (λ e. omega arith),
          get_or-replicate {A = ℕ} (suc k) (suc j) 0 0 (omega arith),
        )
        (omega arith)
