-- Digests as numbers: of all of them, how many have a given id, and how many are told yes.
use Rattle.std.specs.Prelude.{◌≡◌, refl, Bool, true, false, cond, List, [], ◌∷◌, ℕ, zero, suc, ◌+◌, ◌-◌, ◌*◌, ◌/◌, ◌%◌, ◌^◌, ◌≤◌, ◌<◌, ltb, eqb, leb, take}
use Rattle.std.proofs.Common.{sym, ◌∙◌, ap, subst, mul-le-mul_right, le_trans, le_of_eq, add-zero, add-suc, div-one, div-mul-le_self, div-lt_iff_lt-mul, arith, le-leb, pow-add, pow_pos, take_all}
use Rattle.std.proofs.Math.Option.{Option, none, some}
use Rattle.std.proofs.Math.Nat.{pow-zero, pow-succ', div-div-eq-div-mul}
use Rattle.std.proofs.lemmas.Bool.{lt-leb}
use Rattle.std.proofs.lemmas.List.{take-append-le}
use Rattle.sampling.specs.core.BigEndian.{big_endian, bytes_of}
use Rattle.sampling.specs.laws.BigEndianLaws.{length_bytes_of, big_endian_append, read_back}
use Rattle.sampling.specs.core.Sample.{is_power, D, mod_not_power, bernoulli}
use Rattle.sampling.specs.laws.SampleLaws.{power_of, at_a_power, not_at_a_power}
use Rattle.centralized_telescope.specs.core.Rounds.{drawn_below, round_id}
use Rattle.centralized_telescope.specs.core.Verifier.{is_bin}
use Rattle.soundness.specs.Functions.{one_if, how_many_digests}
use Rattle.soundness.specs.laws.SumLaws.{sum_same, sum_zero, sum_split}
use Rattle.soundness.specs.laws.CountLaws.{how_many, count_below, count_mod, count_div}

-- there is an id, and it is the bin
abbrev pub bin_is : Option ℕ → Option ℕ → Bool
bin_is bin none = false
bin_is bin (some i) = is_bin bin i

-- ---- the first bytes of a number

-- the first j of j + i bytes are those of the quotient
first_bytes : (j i v : ℕ) → take j (bytes_of (j + i) v) ≡ bytes_of j (v / 256 ^ i)
unfolding bytes_of
first_bytes j zero v = rw (add-zero, pow-zero, div-one) (take_all j (bytes_of j v) (le_of_eq (length_bytes_of j v)))
first_bytes j (suc i) v =
    rw add-suc
    (take-append-le j (bytes_of (j + i) (v / 256)) (v % 256 ∷ []) (let z = length_bytes_of (j + i) (v / 256) in omega arith)
    ∙ (first_bytes j i (v / 256)
    ∙ ap (λ (z : ℕ). bytes_of j z) (div-div-eq-div-mul v 256 (256 ^ i) ∙ ap (λ (z : ℕ). v / z) (sym (pow-succ' 256 i)))))

first_number_lem : (j i v : ℕ) → big_endian j (bytes_of (j + i) v) ≡ big_endian j (bytes_of j (v / 256 ^ i))
unfolding bytes_of
first_number_lem j zero v = rw (add-zero, pow-zero, div-one)
first_number_lem j (suc i) v =
    rw add-suc
    (big_endian_append j (bytes_of (j + i) (v / 256)) (v % 256 ∷ []) (let z = length_bytes_of (j + i) (v / 256) in omega arith)
    ∙ (first_number_lem j i (v / 256)
    ∙ ap (λ (z : ℕ). big_endian j (bytes_of j z)) (div-div-eq-div-mul v 256 (256 ^ i) ∙ ap (λ (z : ℕ). v / z) (sym (pow-succ' 256 i)))))

first_half : (v : ℕ) → take 16 (bytes_of 32 v) ≡ bytes_of 16 (v / 2 ^ 128)
first_half v = first_bytes 16 16 v

-- ---- of halves of digests, those that have the id b

half_whole : (v : ℕ) → take 16 (bytes_of 16 v) ≡ bytes_of 16 v
half_whole v = take_all 16 (bytes_of 16 v) (le_of_eq (length_bytes_of 16 v))

-- where n isn't a power: below D n * n, by the remainder
share_mod : (q n b rest : ℕ) (test : ℕ → Bool) → ((v : ℕ) → v < q * n → test v ≡ eqb b (v % n))
    → ((v : ℕ) → v < q * n + rest → q * n ≤ v → test v ≡ false) → how_many (q * n + rest) test * n ≤ q * n + rest
share_mod q n b rest test low high =
    let s = sum_split (q * n) rest (λ v. one_if (test v)) in
    let a = sum_same (q * n) (λ v. one_if (test v)) (λ v. one_if (eqb b (v % n))) (λ v l. ap one_if (low v l)) in
    let z = sum_same rest (λ w. one_if (test (q * n + w))) (λ w. 0) (λ w l. ap one_if (high (q * n + w) (omega arith) (omega arith)))
    ∙ sum_zero rest in
    let c = count_mod q n b in
    let t : how_many (q * n + rest) test ≤ q = omega arith in
    let y = mul-le-mul_right n t in
    omega arith

-- where it is one: by the remainder of the first eight bytes
share_div : (q n b c : ℕ) (test : ℕ → Bool) → ((v : ℕ) → v < q * n * c → test v ≡ eqb b (v / c % n))
    → how_many (q * n * c) test * n ≤ q * n * c
share_div q n b c test alike =
    let a = sum_same (q * n * c) (λ v. one_if (test v)) (λ v. one_if (eqb b (v / c % n))) (λ v l. ap one_if (alike v l)) in
    let e = count_div (q * n) c (λ v. eqb b (v % n)) in
    let s = mul-le-mul_right c (count_mod q n b) in
    let t : how_many (q * n * c) test ≤ q * c = omega arith in
    let y = mul-le-mul_right n t in
    omega arith

by_power : (n b : ℕ) → 0 < n → is_power 64 n ≡ true → (v : ℕ) → v < 2 ^ 128
    → bin_is (some b) (round_id n (bytes_of 16 v)) ≡ eqb b (v / 2 ^ 64 % n)
unfolding drawn_below
by_power n b nz e v l =
    rw (half_whole v, at_a_power (bytes_of 16 v) n nz e)
    (ap (λ (z : ℕ). eqb b (z % n))
    (first_number_lem 8 8 v ∙ read_back 8 (v / 256 ^ 8) ((div-lt_iff_lt-mul {k = 2 ^ 64} {x = v} {y = 2 ^ 64} (pow_pos 64)).1 l)))

by_mod : (n b : ℕ) → 0 < n → is_power 64 n ≡ false → (v : ℕ) → v < 2 ^ 128 → (t : Bool) → leb (D n * n) v ≡ t
    → bin_is (some b) (round_id n (bytes_of 16 v)) ≡ cond t false (eqb b (v % n))
unfolding drawn_below mod_not_power
by_mod n b nz e v l true t = rw (half_whole v, not_at_a_power (bytes_of 16 v) n nz e, read_back 16 v l, t)
by_mod n b nz e v l false t = rw (half_whole v, not_at_a_power (bytes_of 16 v) n nz e, read_back 16 v l, t)

share_of : (m a : ℕ) (test : ℕ → Bool) (n : ℕ) → m ≡ a → how_many a test * n ≤ a → how_many m test * n ≤ m
share_of m a test n e h = subst (λ (z : ℕ). how_many z test * n ≤ z) (sym e) h

fills : (j : ℕ) → j < 64 → 2 ^ 64 ≡ 2 ^ (64 - j) * 2 ^ j
fills j l = let e : 64 ≡ 64 - j + j = omega arith in ap (λ (z : ℕ). 2 ^ z) e ∙ pow-add 2 (64 - j) j

rest_of : (m a : ℕ) → a ≤ m → m ≡ a + (m - a)
rest_of m a l = omega arith

ones_below : (k : ℕ) → 2 ^ k - 1 ≤ 2 ^ k
ones_below k = omega arith

none_share : (k n : ℕ) (f : ℕ → Option ℕ) → how_many k (λ (v : ℕ). bin_is none (f v)) * n ≤ k
none_share k n f =
    let z = sum_same k (λ v. one_if (bin_is none (f v))) (λ v. 0) (λ v _. ap one_if (never (f v))) ∙ sum_zero k in
    subst (λ (y : ℕ). y * n ≤ k) (sym z) (omega arith)
  where
    never : (o : Option ℕ) → bin_is none o ≡ false
    never none = refl
    never (some i) = refl

half_share : (n : ℕ) → 0 < n → (bin : Option ℕ) → how_many (2 ^ 128) (λ (v : ℕ). bin_is bin (round_id n (bytes_of 16 v))) * n ≤ 2 ^ 128
half_share n N none = none_share (2 ^ 128) n (λ v. round_id n (bytes_of 16 v))
half_share n N (some b) = go (is_power 64 n) refl
  where
    test : ℕ → Bool
    test v = bin_is (some b) (round_id n (bytes_of 16 v))

    go : (t : Bool) → is_power 64 n ≡ t → how_many (2 ^ 128) (λ (v : ℕ). bin_is (some b) (round_id n (bytes_of 16 v))) * n ≤ 2 ^ 128
    go true e =
        let w = power_of 64 n e in
        let q : ℕ = 2 ^ (64 - w.0) in
        let whole : 2 ^ 128 ≡ q * n * 2 ^ 64
        = ap (λ (z : ℕ). z * 2 ^ 64) (fills w.0 w.1 ∙ ap (λ (z : ℕ). q * z) (sym w.2)) in
        share_of (2 ^ 128) (q * n * 2 ^ 64) test n whole
        (share_div q n b (2 ^ 64) test (λ v l. by_power n b N e v (subst (λ (z : ℕ). v < z) (sym whole) l)))
    go false e =
        let most : D n * n ≤ 2 ^ 128 = le_trans (div-mul-le_self (2 ^ 128 - 1) n) (ones_below 128) in
        let rest : ℕ = 2 ^ 128 - D n * n in
        let whole : 2 ^ 128 ≡ D n * n + rest = rest_of (2 ^ 128) (D n * n) most in
        share_of (2 ^ 128) (D n * n + rest) test n whole
        (share_mod (D n) n b rest test
        (λ v l. by_mod n b N e v (le_trans l most) false (lt-leb (D n * n) v l))
        (λ v m l. by_mod n b N e v (subst (λ (z : ℕ). v < z) (sym whole) m) true (le-leb (D n * n) v l)))

-- ---- of whole digests

same_count : (m : ℕ) (g h : ℕ → Bool) → ((v : ℕ) → g v ≡ h v) → how_many m g ≡ how_many m h
same_count m g h e = sum_same m (λ v. one_if (g v)) (λ v. one_if (h v)) (λ v _. ap one_if (e v))

whole_share : (test : ℕ → Bool) (m n : ℕ) → how_many m test * n ≤ m → how_many (m * m) (λ (v : ℕ). test (v / m)) * n ≤ m * m
whole_share test m n h = let z = mul-le-mul_right m h in rw (count_div m m test) (omega arith)

first_id : (n v : ℕ) → round_id n (bytes_of 32 v) ≡ round_id n (bytes_of 16 (v / 2 ^ 128))
unfolding drawn_below
first_id n v = rw (first_half v, half_whole (v / 2 ^ 128))

-- at most one in n has a given bin as its id
pub id_share : (n : ℕ) → 0 < n → (bin : Option ℕ)
    → how_many how_many_digests (λ (v : ℕ). bin_is bin (round_id n (bytes_of 32 v))) * n ≤ how_many_digests
id_share n N bin =
    rw (same_count how_many_digests (λ v. bin_is bin (round_id n (bytes_of 32 v))) (λ v. bin_is bin (round_id n (bytes_of 16 (v / 2 ^ 128))))
    (λ v. ap (bin_is bin) (first_id n v)))
    (whole_share (λ w. bin_is bin (round_id n (bytes_of 16 w))) (2 ^ 128) n (half_share n N bin))

half_yes : (X : ℕ) → how_many (2 ^ 128) (λ (v : ℕ). bernoulli (bytes_of 16 v) X) ≤ X
unfolding bernoulli
half_yes X =
    le_trans
    (le_of_eq (sum_same (2 ^ 128) (λ v. one_if (ltb (big_endian 16 (bytes_of 16 v)) X)) (λ v. one_if (ltb v X))
    (λ v l. ap (λ (z : ℕ). one_if (ltb z X)) (read_back 16 v l))))
    (count_below (2 ^ 128) X)

-- at most X in 2^128 are told yes
pub yes_share : (X : ℕ) → how_many how_many_digests (λ (v : ℕ). bernoulli (take 16 (bytes_of 32 v)) X) ≤ X * 2 ^ 128
yes_share X =
    rw (
      same_count how_many_digests (λ v. bernoulli (take 16 (bytes_of 32 v)) X) (λ v. bernoulli (bytes_of 16 (v / 2 ^ 128)) X)
          (λ v. ap (λ (l : List ℕ). bernoulli l X) (first_half v)),
      count_div (2 ^ 128) (2 ^ 128) (λ w. bernoulli (bytes_of 16 w) X),
    )
    (mul-le-mul_right (2 ^ 128) (half_yes X))
