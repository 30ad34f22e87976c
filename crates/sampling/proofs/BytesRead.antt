-- Numbers read from bytes.
use Rattle.std.proofs.Common.{◌≡◌, ℕ, suc, ◌+◌, ◌*◌, ◌^◌, ◌<◌, ◌≤◌, min, List, length, get_or, take, drop, refl, ap, ◌∙◌, pow-suc, add-one, arith, get_or-drop}
use native.Mathlib.Nat.{pow-le-pow_right}
use Rattle.sampling.specs.core.BigEndian.{big_endian}
use Rattle.sampling.specs.laws.BigEndianLaws.{part_size, part_read}
use Rattle.sampling.specs.core.Fips180.{word}

-- ---- one byte more: v is what the first i of them make, b the byte behind

module _ (v i : ℕ) (below : v < 256 ^ i) where
  -- of at most 8 bytes, so that it stays within 64 bits
  pub room_for_byte : i < 8 → v * 256 + 255 < 18446744073709551616
  room_for_byte l = omega (arith, pow-suc 256 i, pow-le-pow_right {n = 256} (omega arith) {i = suc i} {j = 8} (omega arith))

  pub byte_added : (b : ℕ) → b < 256 → v * 256 + b < 256 ^ (i + 1)
  byte_added b l = rw (add-one i, pow-suc 256 i) (omega arith)

pub none_read : (bytes : List ℕ) → 0 ≡ big_endian 0 bytes
unfolding big_endian
none_read bytes = refl

pub byte_read : (bytes : List ℕ) (i v : ℕ) → v ≡ big_endian i bytes → v * 256 + get_or bytes i 0 ≡ big_endian (i + 1) bytes
unfolding big_endian
byte_read bytes i v e = rw (add-one i, e)

-- ---- a word of the hash: r is read from the k bytes at i

module _ (s : List ℕ) (i k r : ℕ) (h : i + 4 ≤ length s) (four : k ≡ 4) where
  pub word_fits : r < 256 ^ min (length (take k (drop i s))) 8 → r < 2 ^ 32
  word_fits b = let e : min (length (take k (drop i s))) 8 ≡ 4 = part_size s i k (omega arith) (omega arith) ∙ four in rw e at b

  byte_at_lem : (j : ℕ) → get_or (drop i s) j 0 ≡ get_or s (i + j) 0
  byte_at_lem j = get_or-drop i s j 0

  four_bytes : big_endian 4 (drop i s) ≡ word s i
  unfolding big_endian
  four_bytes =
      let first : get_or (drop i s) 0 0 ≡ get_or s i 0 = byte_at_lem 0 ∙ ap (λ (j : ℕ). get_or s j 0) (omega arith) in
      omega (arith, byte_at_lem 1, byte_at_lem 2, byte_at_lem 3)

  pub word_read : r ≡ big_endian (min (length (take k (drop i s))) 8) (take k (drop i s)) → r ≡ word s i
  word_read e = e ∙ part_read s i k (omega arith) (omega arith) ∙ rw four four_bytes
