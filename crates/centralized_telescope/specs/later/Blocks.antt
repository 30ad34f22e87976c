-- Document 02, N1, blocks: a byte string as blocks of 512 bytes, each 504 of body and then its check.
use Rattle.std.specs.Prelude.{ℕ, zero, suc, ◌+◌, ◌-◌, ◌*◌, ◌/◌, ◌%◌, Bool, true, not, ◌&&◌, ◌||◌, List, [], ◌++◌, length, take, drop, replicate, ◌==◌}
use Rattle.sampling.specs.core.Fips180.{sha256}
use Rattle.centralized_telescope.specs.later.Words.{same_bytes}

-- 02, N1: the bytes of a block, of its body, and of the check behind that
abbrev pub block_bytes : ℕ
block_bytes = 512

abbrev pub body_bytes : ℕ
body_bytes = 504

abbrev pub check_bytes : ℕ
check_bytes = 8

-- no block holds only filling, so there are so many bytes of it at most
abbrev pub max_filling : ℕ
max_filling = body_bytes - 1

-- 02, N1, the check: the first 8 bytes of the SHA-256 of a body, filling included
unfoldable pub body_check : List ℕ → List ℕ
body_check body = take check_bytes (sha256 body)

-- a block: a body, and its check behind it
abbrev pub with_check : List ℕ → List ℕ
with_check body = body ++ body_check body

-- ---- written

-- how many blocks a string takes: as few as hold it, so that none has only filling
abbrev pub block_count : ℕ → ℕ
block_count len = (len + max_filling) / body_bytes

-- 02, N1, filling: zeros up to the end of the last body
unfoldable pub filled : List ℕ → List ℕ
filled s = s ++ replicate (body_bytes * block_count (length s) - length s) 0

-- n bodies that follow each other, each with its check behind it
unfoldable pub sealed : ℕ → List ℕ → List ℕ
sealed zero b = []
sealed (suc n) b = with_check (take body_bytes b) ++ sealed n (drop body_bytes b)

unfoldable pub blocks : List ℕ → List ℕ
blocks s = sealed (block_count (length s)) (filled s)

-- ---- read

-- the bodies of n blocks, joined
unfoldable pub bodies : ℕ → List ℕ → List ℕ
bodies zero t = []
bodies (suc n) t = take body_bytes t ++ bodies n (drop block_bytes t)

-- the joined bodies of whole blocks
abbrev pub bodies_of : List ℕ → List ℕ
bodies_of t = bodies (length t / block_bytes) t

-- each of n blocks ends with the check of its body
unfoldable pub checks_hold : ℕ → List ℕ → Bool
checks_hold zero t = true
checks_hold (suc n) t = same_bytes (body_check (take body_bytes t)) (take check_bytes (drop body_bytes t)) && checks_hold n (drop block_bytes t)

-- 02, N1, the reader's 40: the size isn't whole blocks, or a block's check fails
unfoldable pub damaged : List ℕ → Bool
damaged t = not (length t % block_bytes == 0) || not (checks_hold (length t / block_bytes) t)
