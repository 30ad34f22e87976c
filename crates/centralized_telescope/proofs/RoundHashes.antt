-- The hash of four strings that are within its limit.
use Rattle.std.proofs.Common.{◌≡◌, ℕ, ◌+◌, ◌^◌, ◌≤◌, List, Result, Ok, ◌++◌, length, arith, length-append}
use Rattle.sampling.specs.core.Fips180.{sha256}
use Rattle.sampling.specs.core.Hash.{hashed, hashed_by}
use Rattle.sampling.specs.laws.HashLaws.{digest_within}
use Rattle.sampling.specs.declared.sha256.TooLong.{TooLong}

pub digest_is : (a b c d : List ℕ) (r : Result (List ℕ) TooLong) → length a + (length b + (length c + length d)) ≤ 2 ^ 29
    → hashed_by r ≡ hashed (a ++ (b ++ (c ++ d))) → r ≡ Ok (sha256 (a ++ (b ++ (c ++ d))))
digest_is a b c d r L e = digest_within r (a ++ (b ++ (c ++ d))) (simp length-append (omega arith)) e
