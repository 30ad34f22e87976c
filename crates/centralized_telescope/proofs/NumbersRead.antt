-- Numbers in bytes: how many there are, and each of them.
use Rattle.std.proofs.Common.{◌≡◌, ℕ, zero, suc, ◌+◌, ◌*◌, ◌^◌, ◌<◌, ◌≤◌, min, List, length, get_or, take, drop, sym, refl, ap, ◌∙◌, add_comm, mul-zero, mul-suc, arith, drop-drop}
use Rattle.sampling.specs.core.BigEndian.{big_endian}
use Rattle.sampling.specs.laws.BigEndianLaws.{part_size, part_read}
use Rattle.centralized_telescope.specs.core.Exports.{numbers_in}

-- ---- one number: v is read from the n bytes at `at`

pub part_number : (bytes : List ℕ) (at k n v : ℕ) → at + k ≤ length bytes → k ≤ 8 → n ≡ k
    → (v ≡ big_endian (min (length (take n (drop at bytes))) 8) (take n (drop at bytes)))
    × (v < 256 ^ min (length (take n (drop at bytes))) 8)
    → (v ≡ big_endian k (drop at bytes)) × (v < 256 ^ k)
part_number bytes at k n v h e N r =
    let q = rw N at r in
    (q.0 ∙ part_read bytes at k h e, rw (part_size bytes at k h e) at q.1)

-- ---- all of them

pub length_numbers_in : (n k : ℕ) (bytes : List ℕ) → length (numbers_in n k bytes) ≡ n
unfolding numbers_in
length_numbers_in zero k bytes = refl
length_numbers_in (suc n) k bytes = ap suc (length_numbers_in n k (drop k bytes))

pub number_at : (n k : ℕ) (bytes : List ℕ) (i : ℕ) → i < n → get_or (numbers_in n k bytes) i 0 ≡ big_endian k (drop (k * i) bytes)
unfolding numbers_in
number_at zero k bytes i h = absurd (omega arith)
number_at (suc n) k bytes zero h = ap (λ (j : ℕ). big_endian k (drop j bytes)) (sym (mul-zero k))
number_at (suc n) k bytes (suc i) h =
    number_at n k (drop k bytes) i (omega arith)
    ∙ ap (big_endian k) (drop-drop (k * i) k bytes ∙ ap (λ (j : ℕ). drop j bytes) (add_comm k (k * i) ∙ sym (mul-suc k i)))

-- how many there are, and each
pub ruleset numbers_told = (length_numbers_in, number_at)
