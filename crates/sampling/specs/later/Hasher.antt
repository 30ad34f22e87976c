-- A hasher as a value: what each of its three calls makes of it, for every hasher and every string.
use Rattle.std.specs.Prelude.{◌≡◌, ℕ, ◌+◌, ◌%◌, Bool, cond, List, [], ◌∷◌, ◌++◌, length, replicate, nat_eq, nat_le, slice_set}
use Rattle.sampling.specs.core.Fips180.{H₀, block, compressed, padding, digest_of}
use Rattle.sampling.specs.core.Hash.{max_hashed, hashed}
use Rattle.sampling.specs.declared.sha256.Hasher.{Hasher}

-- FIPS 180-4, 5.3.3: no byte absorbed
unfoldable pub new_hasher : Hasher
new_hasher = record { state = H₀; block = replicate 64 0; len = 0 }

-- FIPS 180-4, 6.2.2: the byte b takes the next place of the block. Where it is the last, the hash value takes the block in, and the next
-- block is zeros
unfoldable pub absorb_byte : Hasher → ℕ → Hasher
absorb_byte h b =
    let filled : List ℕ = slice_set h.block (h.len % 64) b in
    let full : Bool = nat_eq (h.len % 64) 63 in
    record {
      state = cond full (compressed h.state (block filled 0)) h.state;
      block = cond full (replicate 64 0) filled;
      len = h.len + 1;
    }

-- one byte after the other
unfoldable pub absorb_bytes : Hasher → List ℕ → Hasher
absorb_bytes h [] = h
absorb_bytes h (b ∷ bs) = absorb_bytes (absorb_byte h b) bs

-- past the limit of 2^29 bytes (document 01, Hash) a hasher is this one, whichever the bytes were
unfoldable pub too_long : Hasher
too_long = record { state = H₀; block = replicate 64 0; len = max_hashed + 1 }

-- one string more: its bytes, where that makes 2^29 in all at most (document 01, Hash)
unfoldable pub absorbed : Hasher → List ℕ → Hasher
absorbed h s = cond (nat_le (h.len + length s) max_hashed) (absorb_bytes h s) too_long

-- document 01, Hash: 0 with the digest, the padding (FIPS 180-4, 5.1.1) absorbed like any bytes; or 9, over 2^29 bytes, with zeros
unfoldable pub finished : Hasher → ℕ × List ℕ
finished h = cond (nat_le h.len max_hashed) (0, digest_of (absorb_bytes h (padding h.len)).state) (9, replicate 32 0)

-- ---- what the three calls give together

-- strings absorbed one after the other
unfoldable pub absorbed_all : Hasher → List (List ℕ) → Hasher
absorbed_all h [] = h
absorbed_all h (s ∷ ss) = absorbed_all (absorbed h s) ss

-- the strings as one
unfoldable pub all_strings : List (List ℕ) → List ℕ
all_strings [] = []
all_strings (s ∷ ss) = s ++ all_strings ss

-- from a new hasher on, `finish` gives the hash of all that was absorbed
abbrev pub HasherHashes : Type 0
HasherHashes = (strings : List (List ℕ)) → finished (absorbed_all new_hasher strings) ≡ hashed (all_strings strings)
