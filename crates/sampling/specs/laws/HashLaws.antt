-- Laws of the hash's definitions. A caller that cites these opens none of them.
use Rattle.std.specs.Prelude.{◌≡◌, ℕ, zero, suc, ◌+◌, ◌*◌, ◌/◌, ◌%◌, ◌^◌, ◌<◌, ◌≤◌, List, [], ◌∷◌, ◌++◌, length, replicate, slice_index, Result, Ok, Err, refl}
use Rattle.std.proofs.Common.{ap, ◌∙◌, arith, le-leb, length-append}
use Rattle.std.proofs.lemmas.Bool.{lt-leb}
use Rattle.std.proofs.lemmas.List.{length-replicate}
use Rattle.std.proofs.Math.ListN.{get_or-append}
use Rattle.sampling.specs.core.BigEndian.{bytes_of}
use Rattle.sampling.specs.laws.BigEndianLaws.{length_bytes_of, All256, all256_at, all256_bytes_of, all256_append}
use Rattle.sampling.specs.core.Fips180.{zero_bytes, padding, padded, words, block, H₀, compressed, hash_value, word_bytes, digest_of}
use Rattle.sampling.specs.core.Fips180.{sha256}
use Rattle.sampling.specs.core.Hash.{hashed, hashed_by}
use Rattle.sampling.specs.inner.LastBlocksInner.{hash_value_from}
use Rattle.sampling.specs.declared.sha256.State.{State}
use Rattle.sampling.specs.declared.sha256.TooLong.{TooLong}

-- ---- 5.1.1: k, the number of zero bits, solves l + 1 + k ≡ 448 modulo 512, and no smaller k does

pub zeros_solve : (n : ℕ) → (8 * n + 1 + (7 + 8 * zero_bytes n)) % 512 ≡ 448
unfolding zero_bytes
zeros_solve n = omega arith

pub zeros_smallest : (n k : ℕ) → (8 * n + 1 + k) % 512 ≡ 448 → 7 + 8 * zero_bytes n ≤ k
unfolding zero_bytes
zeros_smallest n k e = omega arith

-- with its padding a message is whole blocks of 64 bytes (512 bits), counted here behind the last block that it fills itself
pub padding_size : (n : ℕ) → n % 64 + length (padding n) ≡ (n % 64 + 72) / 64 * 64
unfolding padding zero_bytes
padding_size n = simp (length-append, length-replicate, length_bytes_of) (omega arith)

pub length_padded : (m : List ℕ) → length (padded m) ≡ (length m + 72) / 64 * 64
unfolding padded
length_padded m = length-append m (padding (length m)) ∙ omega (arith, padding_size (length m))

pub padded_whole : (m : List ℕ) → length (padded m) % 64 ≡ 0
padded_whole m = omega (arith, length_padded m)

-- ---- 6.2.2: the hash value after some blocks

-- from the initial hash value on
pub from_first : (m : List ℕ) (k : ℕ) → hash_value m k ≡ hash_value_from H₀ m k
unfolding hash_value hash_value_from
from_first m zero = refl
from_first m (suc k) = rw (from_first m k)

pub one_block_from : (h : State) (m : List ℕ) → hash_value_from h m 1 ≡ compressed h (block m 0)
unfolding hash_value_from
one_block_from h m = refl

pub two_blocks_from : (h : State) (m : List ℕ) → hash_value_from h m 2 ≡ compressed (compressed h (block m 0)) (block m 64)
unfolding hash_value_from
two_blocks_from h m = refl

-- bytes behind the blocks are not read
words_append : (m z : List ℕ) (o n : ℕ) → o + 4 * n ≤ length m → words (m ++ z) o n ≡ words m o n
unfolding words
words_append m z o zero le = refl
words_append m z o (suc n) le =
    rw (
      words_append m z o n (omega arith),
      get_or-append m z 0 (o + 4 * n) (omega arith),
      get_or-append m z 0 (o + 4 * n + 1) (omega arith),
      get_or-append m z 0 (o + 4 * n + 2) (omega arith),
      get_or-append m z 0 (o + 4 * n + 3) (omega arith),
    )

pub blocks_append : (h : State) (m z : List ℕ) (k : ℕ) → 64 * k ≤ length m → hash_value_from h (m ++ z) k ≡ hash_value_from h m k
unfolding hash_value_from
blocks_append h m z zero le = refl
blocks_append h m z (suc k) le = rw (blocks_append h m z k (omega arith), words_append m z (64 * k) 16 (omega arith))

-- ---- 6.2: a digest is 32 bytes, each below 256

length_joined : (ws : List ℕ) → length (word_bytes ws) ≡ 4 * length ws
unfolding word_bytes
length_joined [] = refl
length_joined (w ∷ ws) = length-append (bytes_of 4 w) (word_bytes ws) ∙ rw (length_bytes_of 4 w, length_joined ws) (omega arith)

joined_bytes : (ws : List ℕ) → All256 (word_bytes ws)
unfolding word_bytes All256
joined_bytes [] = tt
joined_bytes (w ∷ ws) = all256_append (bytes_of 4 w) (word_bytes ws) (all256_bytes_of 4 w) (joined_bytes ws)

pub length_sha256 : (m : List ℕ) → length (sha256 m) ≡ 32
unfolding sha256 digest_of
length_sha256 m = length_joined _

pub sha256_bytes : (m : List ℕ) (i : ℕ) → slice_index (sha256 m) i < 256
unfolding sha256 digest_of
sha256_bytes m i = all256_at _ (joined_bytes _) i

-- by its blocks
pub sha256_in_blocks : (m : List ℕ) → sha256 m ≡ digest_of (hash_value_from H₀ (padded m) ((length m + 72) / 64))
unfolding sha256
sha256_in_blocks m =
    let k : length (padded m) / 64 ≡ (length m + 72) / 64 = omega (arith, length_padded m) in
    rw (k, from_first (padded m) ((length m + 72) / 64))

-- ---- document 01's limit

pub hashed_within : (m : List ℕ) → length m ≤ 2 ^ 29 → hashed m ≡ (0, sha256 m)
unfolding hashed
hashed_within m h = rw (le-leb (length m) (2 ^ 29) h)

pub hashed_in_blocks : (m : List ℕ) → length m ≤ 2 ^ 29 → hashed m ≡ (0, digest_of (hash_value_from H₀ (padded m) ((length m + 72) / 64)))
hashed_in_blocks m h = hashed_within m h ∙ rw (sha256_in_blocks m)

pub hashed_over : (m : List ℕ) → 2 ^ 29 < length m → hashed m ≡ (9, replicate 32 0)
unfolding hashed
hashed_over m h = rw (lt-leb (length m) (2 ^ 29) h)

-- an answer of the hash, where what it was asked for is within the limit
pub digest_within : (r : Result (List ℕ) TooLong) (m : List ℕ) → length m ≤ 2 ^ 29 → hashed_by r ≡ hashed m → r ≡ Ok (sha256 m)
digest_within (Ok digest) m h e =
    let answer : List ℕ → Result (List ℕ) TooLong = λ d. Ok d in
    ap (λ (a : ℕ × List ℕ). answer a.1) (e ∙ hashed_within m h)
digest_within (Err x) m h e = absurd (let n = ap (λ (a : ℕ × List ℕ). a.0) (e ∙ hashed_within m h) in omega arith)
