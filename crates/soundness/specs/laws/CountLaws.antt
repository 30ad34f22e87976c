-- How many numbers below m are below x, are equal to one, have a remainder, or have a quotient that a test is true of.
use Rattle.std.specs.Prelude.{◌≡◌, refl, Bool, true, false, ℕ, zero, suc, ◌+◌, ◌*◌, ◌/◌, ◌%◌, ◌≤◌, ltb, eqb}
use Rattle.std.proofs.Common.{sym, ◌∙◌, ap, zero-mul, suc-mul, arith, ltb-true, eqb-true, ne_eqb}
use Rattle.std.proofs.Math.Arith.{digits_div, digits_mod}
use Rattle.soundness.specs.Functions.{sum_below, one_if}
use Rattle.soundness.specs.laws.SumLaws.{sum_none, sum_more, sum_same, sum_const, sum_zero, sum_split}

abbrev pub how_many : ℕ → (ℕ → Bool) → ℕ
how_many m test = sum_below m (λ (v : ℕ). one_if (test v))

pub one_most : (b : Bool) → one_if b ≤ 1
one_most true = omega arith
one_most false = omega arith

pub count_below : (k x : ℕ) → how_many k (λ (v : ℕ). ltb v x) ≤ x
count_below k x = (least k).0
  where
    least : (k : ℕ) → (how_many k (λ (v : ℕ). ltb v x) ≤ x) × (how_many k (λ (v : ℕ). ltb v x) ≤ k)
    least zero = let z = sum_none (λ v. one_if (ltb v x)) in (omega arith, omega arith)
    least (suc k) = rw (sum_more k (λ v. one_if (ltb v x))) (go (ltb k x) refl (least k))
      where
        go : (b : Bool) → ltb k x ≡ b → (how_many k (λ (v : ℕ). ltb v x) ≤ x) × (how_many k (λ (v : ℕ). ltb v x) ≤ k)
            → (how_many k (λ (v : ℕ). ltb v x) + one_if b ≤ x) × (how_many k (λ (v : ℕ). ltb v x) + one_if b ≤ suc k)
        go true e i = let l = ltb-true k x e in (omega arith, omega arith)
        go false e i = (omega arith, omega arith)

-- b comes once at most
pub count_equal : (k b : ℕ) → how_many k (λ (v : ℕ). eqb b v) ≤ 1
unfolding sum_below
count_equal zero b = omega arith
count_equal (suc k) b = go (eqb b k) refl (count_equal k b)
  where
    none_equal_lem : k ≤ b → how_many k (λ (v : ℕ). eqb b v) ≡ 0
    none_equal_lem l = sum_same k (λ v. one_if (eqb b v)) (λ v. 0) (λ v m. ap one_if (ne_eqb b v (λ e. omega arith))) ∙ sum_zero k

    go : (t : Bool) → eqb b k ≡ t → how_many k (λ (v : ℕ). eqb b v) ≤ 1 → how_many k (λ (v : ℕ). eqb b v) + one_if t ≤ 1
    go true e i = let z = none_equal_lem (let y = eqb-true b k e in omega arith) in omega arith
    go false e i = omega arith

-- the remainder b comes once in each n
pub count_mod : (q n b : ℕ) → how_many (q * n) (λ (v : ℕ). eqb b (v % n)) ≤ q
count_mod zero n b = rw zero-mul (let z = sum_none (λ v. one_if (eqb b (v % n))) in omega arith)
count_mod (suc q) n b =
    rw (suc-mul, sum_split (q * n) n (λ v. one_if (eqb b (v % n))))
    (let i = count_mod q n b in
    let s = sum_same n (λ w. one_if (eqb b ((q * n + w) % n))) (λ w. one_if (eqb b w))
    (λ w l. ap (λ (z : ℕ). one_if (eqb b z)) (digits_mod q l)) in
    let c = count_equal n b in
    omega arith)

pub count_div : (a c : ℕ) (test : ℕ → Bool) → how_many (a * c) (λ (v : ℕ). test (v / c)) ≡ how_many a test * c
count_div zero c test = rw (zero-mul c, sum_none (λ v. one_if (test (v / c))), sum_none (λ v. one_if (test v))) (sym (zero-mul c))
count_div (suc a) c test =
    rw (suc-mul, sum_split (a * c) c (λ v. one_if (test (v / c))))
    (let i = count_div a c test in
    let s = sum_same c (λ w. one_if (test ((a * c + w) / c))) (λ w. one_if (test a))
    (λ w l. ap (λ (z : ℕ). one_if (test z)) (digits_div a l)) in
    let z = sum_const c (one_if (test a)) in
    rw (sum_more a (λ v. one_if (test v))) (omega arith))
