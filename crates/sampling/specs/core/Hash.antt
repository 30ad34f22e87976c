-- Document 01, Hash: SHA-256 of joined strings, and the limit on their length in all.
use Rattle.std.specs.Prelude.{ℕ, ◌^◌, cond, List, length, replicate, Result, Ok, Err, nat_le}
use Rattle.sampling.specs.core.Fips180.{sha256}
use Rattle.sampling.specs.declared.sha256.TooLong.{TooLong}

-- 01, Hash, the limit: so many bytes at most
abbrev pub max_hashed : ℕ
max_hashed = 2 ^ 29

-- 01's number and the digest for the joined strings m: 0 with their digest, or 9 with zeros where m is too long
unfoldable pub hashed : List ℕ → ℕ × List ℕ
hashed m = cond (nat_le (length m) max_hashed) (0, sha256 m) (9, replicate 32 0)

-- 01's number and digest for each answer of the hash
abbrev pub hashed_by : Result (List ℕ) TooLong → ℕ × List ℕ
hashed_by (Ok digest) = (0, digest)
hashed_by (Err e) = (9, replicate 32 0)
