-- Laws of bytes: parts of bytes are bytes, and the number that some make is written in the same bytes again.
use Rattle.std.specs.Prelude.{◌≡◌, ℕ, zero, suc, ◌+◌, ◌*◌, ◌/◌, ◌%◌, ◌^◌, ◌<◌, ◌≤◌, List, [], ◌∷◌, ◌++◌, length, take, drop, slice_index, slice_index_or, refl}
use Rattle.std.proofs.Common.{sym, ap, ◌∙◌, ⊎_elim, pow-suc, arith, length-take, take-append-drop, take-suc, get_or-take, get_or-drop}
use Rattle.std.proofs.Math.ListN.{get_or-eq_default}
use Rattle.sampling.specs.core.BigEndian.{big_endian, bytes_of}
use Rattle.sampling.specs.laws.BigEndianLaws.{length_bytes_of, big_endian_append, read_back}
use Rattle.centralized_telescope.specs.laws.TestLaws.{lt_or_le}
use Rattle.centralized_telescope.specs.core.Lists.{Each}

-- each is a byte; behind the last a 0 is read
abbrev pub Bytes : List ℕ → Type 0
Bytes s = (i : ℕ) → slice_index s i < 256

pub bytes_drop : (n : ℕ) (s : List ℕ) → Bytes s → Bytes (drop n s)
bytes_drop n s B i = rw (get_or-drop n s i 0) (B (n + i))

pub bytes_take : (n : ℕ) (s : List ℕ) → Bytes s → Bytes (take n s)
bytes_take n s B i =
    ⊎_elim
    (λ h. rw (get_or-take n s i 0 h) (B i))
    (λ h. rw (get_or-eq_default (take n s) 0 {n = i} (omega (arith, length-take n s))) (omega arith))
    (lt_or_le i n)

pub bytes_append : (s r : List ℕ) → Bytes s → Bytes r → Bytes (s ++ r)
bytes_append [] r B C i = C i
bytes_append (x ∷ s) r B C zero = B 0
bytes_append (x ∷ s) r B C (suc i) = bytes_append s r (λ j. B (suc j)) C i

pub each_bytes : (s : List ℕ) → Each (λ (b : ℕ). b < 256) s → Bytes s
unfolding Each
each_bytes [] e i = omega arith
each_bytes (x ∷ s) e zero = e.0
each_bytes (x ∷ s) e (suc i) = each_bytes s e.1 i

-- ---- the number that the first k bytes make

pub big_endian_below : (k : ℕ) (s : List ℕ) → Bytes s → big_endian k s < 256 ^ k
unfolding big_endian
big_endian_below zero s B = omega arith
big_endian_below (suc k) s B = omega (arith, pow-suc 256 k, big_endian_below k s B, B k)

pub bytes_again : (k : ℕ) (s : List ℕ) → Bytes s → k ≤ length s → bytes_of k (big_endian k s) ≡ take k s
unfolding big_endian bytes_of
bytes_again zero s B h = refl
bytes_again (suc k) s B h =
    let b = B k in
    let q : (big_endian k s * 256 + slice_index s k) / 256 ≡ big_endian k s = omega arith in
    let m : (big_endian k s * 256 + slice_index s k) % 256 ≡ slice_index_or s k 0 = omega arith in
    rw (q, m, bytes_again k s B (omega arith), take-suc s k 0 h)

-- read from a front
pub front_number : (k n : ℕ) (s : List ℕ) → k ≤ n → k ≤ length s → big_endian k (take n s) ≡ big_endian k s
front_number k n s h l =
    sym (big_endian_append k (take n s) (drop n s) (omega (arith, length-take n s))) ∙ ap (big_endian k) (take-append-drop n s)

-- read from a copy of a front
pub number_front : (k n : ℕ) (s rest : List ℕ) → k ≤ n → k ≤ length s → big_endian k (take n s ++ rest) ≡ big_endian k s
number_front k n s rest h l = big_endian_append k (take n s) rest (omega (arith, length-take n s)) ∙ front_number k n s h l

-- read from bytes that begin with it
pub number_found : (k v : ℕ) (r : List ℕ) → v < 256 ^ k → big_endian k (bytes_of k v ++ r) ≡ v
number_found k v r h = big_endian_append k (bytes_of k v) r (omega (arith, length_bytes_of k v)) ∙ read_back k v h
