-- What the inner functions of the hash promise each other about the last blocks of a message. No public call's contract needs any of it.
use Rattle.std.specs.Prelude.{ℕ, zero, suc, ◌+◌, ◌-◌, ◌*◌, Bool, ◌&&◌, List, ◌++◌, length, replicate, nat_le, nat_lt}
use Rattle.sampling.specs.core.Fips180.{block, compressed}
use Rattle.sampling.specs.declared.sha256.State.{State}

-- whether four strings of these lengths are joined in one piece: each is shorter than a block, so that none lies whole in one of them, and
-- with the padding they are two blocks at most
unfoldable pub in_one_piece : ℕ → ℕ → ℕ → ℕ → Bool
in_one_piece a b c d = nat_lt a 64 && nat_lt b 64 && nat_lt c 64 && nat_lt d 64 && nat_le (a + b + c + d) 119

-- the room of two blocks: the bytes t, and zeros behind them
unfoldable pub in_two_blocks : List ℕ → List ℕ
in_two_blocks t = t ++ replicate (128 - length t) 0

-- the hash value after the first k blocks of m, from the hash value h on
unfoldable pub hash_value_from : State → List ℕ → ℕ → State
hash_value_from h m zero = h
hash_value_from h m (suc k) = compressed (hash_value_from h m k) (block m (64 * k))
