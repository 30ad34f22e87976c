-- Document 01, Lent and given back, the exported verifier: settings one by one, ends and indexes in bytes.
use Rattle.std.specs.Prelude.{ℕ, zero, suc, ◌/◌, ◌%◌, Bool, not, ◌&&◌, List, [], ◌∷◌, length, drop, ◌==◌}
use Rattle.sampling.specs.core.BigEndian.{big_endian}
use Rattle.centralized_telescope.specs.core.Elements.{Lent, lent_of}
use Rattle.centralized_telescope.specs.declared.params.Params.{Params}
use Rattle.sampling.specs.core.FirstNumber.{line, first_number}
use Rattle.centralized_telescope.specs.core.Params.{checked}
use Rattle.centralized_telescope.specs.core.Verifier.{verdict}

-- the first n numbers, of k big-endian bytes each
unfoldable pub numbers_in : ℕ → ℕ → List ℕ → List ℕ
numbers_in zero k bytes = []
numbers_in (suc n) k bytes = big_endian k bytes ∷ numbers_in n k (drop k bytes)

-- the numbers that lent bytes stand for, k bytes each: 4 for ends, 8 for indexes
abbrev pub numbers_of : ℕ → List ℕ → List ℕ
numbers_of k bytes = numbers_in (length bytes / k) k bytes

abbrev pub is_whole_count : ℕ → List ℕ → Bool
is_whole_count k bytes = length bytes % k == 0

-- the list that is lent with its ends and indexes in bytes
abbrev pub numbered : Lent → Lent
numbered lent = lent_of lent.bytes (numbers_of 4 lent.ends) lent.marks (numbers_of 8 lent.indexes)

-- 4, Malformed, comes of bytes that are left over too
abbrev pub left_over : Lent → Bool
left_over lent = not (is_whole_count 4 lent.ends && is_whole_count 8 lent.indexes)

-- the verdict on it; bytes that are left over are looked for behind the settings' refusals
unfoldable pub exported_verdict : Params → ℕ → ℕ → Lent → ℕ
exported_verdict p R S lent = first_number (checked p ∷ line 4 (left_over lent) ∷ verdict p R S (numbered lent) ∷ [])
