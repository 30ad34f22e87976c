-- Numbers in big-endian bytes, the most significant first: document 01, and FIPS 180-4, section 3.1.
use Rattle.std.specs.Prelude.{ℕ, zero, suc, ◌+◌, ◌*◌, ◌/◌, ◌%◌, List, [], ◌∷◌, ◌++◌, slice_index}

-- the number that the first k bytes make
unfoldable pub big_endian : ℕ → List ℕ → ℕ
big_endian zero h = 0
big_endian (suc k) h = big_endian k h * 256 + slice_index h k

-- v in k bytes
unfoldable pub bytes_of : ℕ → ℕ → List ℕ
bytes_of zero v = []
bytes_of (suc k) v = bytes_of k (v / 256) ++ (v % 256 ∷ [])
