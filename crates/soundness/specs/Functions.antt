-- All functions from strings of bytes to digests, and how many of them a test is true of. A function is a table: a digest for each string.
use Rattle.std.specs.Prelude.{◌≡◌, Bool, true, cond, List, [], ◌∷◌, ℕ, zero, suc, ◌+◌, ◌*◌, ◌^◌, ◌≤◌, ◌<◌, length, get_or}
use Rattle.sampling.specs.core.BigEndian.{bytes_of}
use Rattle.centralized_telescope.specs.core.Lists.{Each}
use Rattle.centralized_telescope.specs.later.Words.{same_bytes}

-- ---- counting

-- g 0 + .. + g (k - 1)
unfoldable pub sum_below : ℕ → (ℕ → ℕ) → ℕ
sum_below zero g = 0
sum_below (suc k) g = sum_below k g + g k

-- the sum of g over all lists of k numbers that are each below m
unfoldable pub sum_tables : ℕ → ℕ → (List ℕ → ℕ) → ℕ
sum_tables m zero g = g []
sum_tables m (suc k) g = sum_below m (λ (v : ℕ). sum_tables m k (λ (t : List ℕ). g (v ∷ t)))

-- 1 for a yes
abbrev pub one_if : Bool → ℕ
one_if b = cond b 1 0

-- of how many tables of k numbers below m the test is true
abbrev pub how_many_tables : ℕ → ℕ → (List ℕ → Bool) → ℕ
how_many_tables m k test = sum_tables m k (λ (t : List ℕ). one_if (test t))

-- ---- strings and their places in a table

abbrev pub OfBytes : List ℕ → Type 0
OfBytes s = Each (λ (b : ℕ). b < 256) s

-- how many strings of at most n bytes there are: the empty one, and a byte before each of at most n - 1
unfoldable pub how_many_strings : ℕ → ℕ
how_many_strings zero = 1
how_many_strings (suc n) = 1 + how_many_strings n * 256

-- the place of a string, in that order
unfoldable pub place_of : List ℕ → ℕ
place_of [] = 0
place_of (b ∷ s) = 1 + (place_of s * 256 + b)

-- ---- functions

-- there are so many digests of 32 bytes
abbrev pub how_many_digests : ℕ
how_many_digests = 2 ^ 256

-- the function of a table
abbrev pub hash_of : List ℕ → List ℕ → List ℕ
hash_of t s = bytes_of 32 (get_or t (place_of s) 0)

-- ---- that tables are functions, and that counting counts

abbrev pub IsDigest : List ℕ → Type 0
IsDigest d = OfBytes d × (length d ≡ 32)

-- k numbers below m
abbrev pub IsTable : ℕ → ℕ → List ℕ → Type 0
IsTable m k t = (length t ≡ k) × Each (λ (v : ℕ). v < m) t

-- two functions have the same digest for each string of at most n bytes
abbrev pub Agree : ℕ → (List ℕ → List ℕ) → (List ℕ → List ℕ) → Type 0
Agree n F G = (s : List ℕ) → OfBytes s → length s ≤ n → F s ≡ G s

pub record TablesAreFunctions : Type 0 where
  -- every function from strings of at most n bytes to digests is a table's, and one table's alone
  pub each : (n : ℕ) (F : List ℕ → List ℕ) → ((s : List ℕ) → OfBytes s → length s ≤ n → IsDigest (F s))
      → (t : List ℕ) × IsTable how_many_digests (how_many_strings n) t × Agree n (hash_of t) F
  pub alone : (n : ℕ) (t t' : List ℕ) → IsTable how_many_digests (how_many_strings n) t → IsTable how_many_digests (how_many_strings n) t'
      → Agree n (hash_of t) (hash_of t') → t ≡ t'
  -- every table is counted, and once; there are m ^ k
  pub once : (m k : ℕ) (t : List ℕ) → IsTable m k t → how_many_tables m k (λ (s : List ℕ). same_bytes t s) ≡ 1
  pub all : (m k : ℕ) → how_many_tables m k (λ (t : List ℕ). true) ≡ m ^ k
