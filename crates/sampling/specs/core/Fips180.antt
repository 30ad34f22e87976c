-- FIPS 180-4: SHA-256 of a message of whole bytes. A byte and a 32-bit word stand as their numbers, a message as the list of its bytes.
use Rattle.std.specs.Prelude.{ℕ, zero, suc, ◌+◌, ◌-◌, ◌*◌, ◌/◌, ◌%◌, ◌^◌, cond, List, [], ◌∷◌, ◌++◌, length, replicate, bit_and, bit_or, bit_xor, nat_lt, slice_index, slice_index_or}
use Rattle.sampling.specs.core.BigEndian.{bytes_of}
use Rattle.sampling.specs.declared.sha256.State.{State}

-- ---- 2.2.2 and 3.2: operations on 32-bit words

-- 3.2, 2: x + y is addition modulo 2^32
abbrev pub ◌⊞◌ : ℕ → ℕ → ℕ
x ⊞ y = (x + y) % 2 ^ 32

infixl 65 ◌⊞◌
-- 3.2, 1 and 2.2.2: the complement ¬x; ∧, ∨ and ⊕ are the library's bit_and, bit_or and bit_xor
abbrev pub ¬w : ℕ → ℕ
¬w x = 2 ^ 32 - 1 - x

-- 3.2, 3: SHR^n(x) = x >> n
abbrev pub SHR : ℕ → ℕ → ℕ
SHR n x = x / 2 ^ n

-- 3.2, 4: ROTR^n(x) = (x >> n) ∨ (x << 32 - n), where << drops what leaves the word
abbrev pub ROTR : ℕ → ℕ → ℕ
ROTR n x = bit_or (x / 2 ^ n) ((x * 2 ^ (32 - n)) % 2 ^ 32)

-- ---- 4.1.2: functions

-- (4.2) Ch(x, y, z) = (x ∧ y) ⊕ (¬x ∧ z)
abbrev pub Ch : ℕ → ℕ → ℕ → ℕ
Ch x y z = bit_xor (bit_and x y) (bit_and (¬w x) z)

-- (4.3) Maj(x, y, z) = (x ∧ y) ⊕ (x ∧ z) ⊕ (y ∧ z)
abbrev pub Maj : ℕ → ℕ → ℕ → ℕ
Maj x y z = bit_xor (bit_xor (bit_and x y) (bit_and x z)) (bit_and y z)

-- (4.4)
abbrev pub Σ₀ : ℕ → ℕ
Σ₀ x = bit_xor (bit_xor (ROTR 2 x) (ROTR 13 x)) (ROTR 22 x)

-- (4.5)
abbrev pub Σ₁ : ℕ → ℕ
Σ₁ x = bit_xor (bit_xor (ROTR 6 x) (ROTR 11 x)) (ROTR 25 x)

-- (4.6)
abbrev pub σ₀ : ℕ → ℕ
σ₀ x = bit_xor (bit_xor (ROTR 7 x) (ROTR 18 x)) (SHR 3 x)

-- (4.7)
abbrev pub σ₁ : ℕ → ℕ
σ₁ x = bit_xor (bit_xor (ROTR 17 x) (ROTR 19 x)) (SHR 10 x)

-- ---- 4.2.2: the constants K_0 to K_63

abbrev pub K256 : List ℕ
K256 =
    0x428a2f98 ∷ 0x71374491 ∷ 0xb5c0fbcf ∷ 0xe9b5dba5 ∷ 0x3956c25b ∷ 0x59f111f1 ∷ 0x923f82a4 ∷ 0xab1c5ed5
    ∷ 0xd807aa98 ∷ 0x12835b01 ∷ 0x243185be ∷ 0x550c7dc3 ∷ 0x72be5d74 ∷ 0x80deb1fe ∷ 0x9bdc06a7 ∷ 0xc19bf174
    ∷ 0xe49b69c1 ∷ 0xefbe4786 ∷ 0x0fc19dc6 ∷ 0x240ca1cc ∷ 0x2de92c6f ∷ 0x4a7484aa ∷ 0x5cb0a9dc ∷ 0x76f988da
    ∷ 0x983e5152 ∷ 0xa831c66d ∷ 0xb00327c8 ∷ 0xbf597fc7 ∷ 0xc6e00bf3 ∷ 0xd5a79147 ∷ 0x06ca6351 ∷ 0x14292967
    ∷ 0x27b70a85 ∷ 0x2e1b2138 ∷ 0x4d2c6dfc ∷ 0x53380d13 ∷ 0x650a7354 ∷ 0x766a0abb ∷ 0x81c2c92e ∷ 0x92722c85
    ∷ 0xa2bfe8a1 ∷ 0xa81a664b ∷ 0xc24b8b70 ∷ 0xc76c51a3 ∷ 0xd192e819 ∷ 0xd6990624 ∷ 0xf40e3585 ∷ 0x106aa070
    ∷ 0x19a4c116 ∷ 0x1e376c08 ∷ 0x2748774c ∷ 0x34b0bcb5 ∷ 0x391c0cb3 ∷ 0x4ed8aa4a ∷ 0x5b9cca4f ∷ 0x682e6ff3
    ∷ 0x748f82ee ∷ 0x78a5636f ∷ 0x84c87814 ∷ 0x8cc70208 ∷ 0x90befffa ∷ 0xa4506ceb ∷ 0xbef9a3f7 ∷ 0xc67178f2
    ∷ []

-- ---- 5.1.1: padding

-- how many bytes of zeros follow the byte 80 (hexadecimal) behind a message of n bytes. In bits, k = 7 + 8 × zeros: the
-- smallest k with l + 1 + k ≡ 448 modulo 512, l being 8 × n (HashLaws, `zeros_solve` and `zeros_smallest`)
unfoldable pub zero_bytes : ℕ → ℕ
zero_bytes n = (119 - n % 64) % 64

-- what follows a message of n bytes: the bit 1, the zeros, and the message's length in bits in 64 bits
unfoldable pub padding : ℕ → List ℕ
padding n = (128 ∷ replicate (zero_bytes n) 0) ++ bytes_of 8 (8 * n)

-- the message with its padding
unfoldable pub padded : List ℕ → List ℕ
padded m = m ++ padding (length m)

-- ---- 5.2.1: parsing

-- the word whose four bytes, the most significant first, stand at i (3.1)
abbrev pub word : List ℕ → ℕ → ℕ
word m i = slice_index m i * 2 ^ 24 + slice_index m (i + 1) * 2 ^ 16 + slice_index m (i + 2) * 2 ^ 8 + slice_index m (i + 3)

-- the first n words of m from its byte o on
unfoldable pub words : List ℕ → ℕ → ℕ → List ℕ
words m o zero = []
words m o (suc n) = words m o n ++ (word m (o + 4 * n) ∷ [])

-- the block of sixteen words at the byte o
abbrev pub block : List ℕ → ℕ → List ℕ
block m o = words m o 16

-- ---- 5.3.3: the initial hash value

abbrev pub H₀ : State
H₀ =
    record {
      a = 0x6a09e667;
      b = 0xbb67ae85;
      c = 0x3c6ef372;
      d = 0xa54ff53a;
      e = 0x510e527f;
      f = 0x9b05688c;
      g = 0x1f83d9ab;
      h = 0x5be0cd19;
    }

-- ---- 6.2.2: the hash computation

-- step 1: W_t, from the block M and the words before W_t
unfoldable pub next_w : List ℕ → List ℕ → ℕ → ℕ
next_w M ws t =
    cond (nat_lt t 16) (slice_index M t)
    (σ₁ (slice_index ws (t - 2)) ⊞ slice_index_or ws (t - 7) 0 ⊞ σ₀ (slice_index ws (t - 15)) ⊞ slice_index_or ws (t - 16) 0)

-- step 1: the message schedule, its first t words
unfoldable pub W : List ℕ → ℕ → List ℕ
W M zero = []
W M (suc t) = W M t ++ (next_w M (W M t) t ∷ [])

-- step 3: the working variables a to h after a round with K_t = k and W_t = w
unfoldable pub one_round : State → ℕ → ℕ → State
one_round v k w =
    let T₁ : ℕ = v.h ⊞ Σ₁ v.e ⊞ Ch v.e v.f v.g ⊞ k ⊞ w in
    let T₂ : ℕ = Σ₀ v.a ⊞ Maj v.a v.b v.c in
    record { a = T₁ ⊞ T₂; b = v.a; c = v.b; d = v.c; e = v.d ⊞ T₁; f = v.e; g = v.f; h = v.g }

-- steps 2 and 3: the working variables after t rounds over the schedule ws, from the hash value s
unfoldable pub rounds : State → List ℕ → ℕ → State
rounds s ws zero = s
rounds s ws (suc t) = one_round (rounds s ws t) (slice_index K256 t) (slice_index ws t)

-- step 4: the working variables added to the hash value, word by word
unfoldable pub plus : State → State → State
plus v s =
    record {
      a = v.a ⊞ s.a;
      b = v.b ⊞ s.b;
      c = v.c ⊞ s.c;
      d = v.d ⊞ s.d;
      e = v.e ⊞ s.e;
      f = v.f ⊞ s.f;
      g = v.g ⊞ s.g;
      h = v.h ⊞ s.h;
    }

-- the hash value after the block M
unfoldable pub compressed : State → List ℕ → State
compressed s M = plus (rounds s (W M 64) 64) s

-- H^(i): the hash value after the first i blocks of m
unfoldable pub hash_value : List ℕ → ℕ → State
hash_value m zero = H₀
hash_value m (suc i) = compressed (hash_value m i) (block m (64 * i))

-- the bytes of words, one word after the other (3.1)
unfoldable pub word_bytes : List ℕ → List ℕ
word_bytes [] = []
word_bytes (w ∷ ws) = bytes_of 4 w ++ word_bytes ws

-- the message digest that a hash value is
unfoldable pub digest_of : State → List ℕ
digest_of s = word_bytes (s.a ∷ s.b ∷ s.c ∷ s.d ∷ s.e ∷ s.f ∷ s.g ∷ s.h ∷ [])

-- 6.2: the message digest of m
unfoldable pub sha256 : List ℕ → List ℕ
sha256 m = digest_of (hash_value (padded m) (length (padded m) / 64))
