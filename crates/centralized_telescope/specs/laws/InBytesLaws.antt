-- Laws of numbers written in bytes, as the exported verifier takes them: they are read as they were written.
use Rattle.std.specs.Prelude.{◌≡◌, ℕ, ◌+◌, ◌*◌, ◌/◌, ◌%◌, ◌^◌, ◌<◌, List, [], ◌∷◌, length, refl}
use Rattle.std.proofs.Math.Nat.{mul-div_left, mul-mod_left}
use Rattle.std.proofs.Common.{arith, length-append, drop_at}
use Rattle.sampling.specs.core.BigEndian.{bytes_of}
use Rattle.sampling.specs.laws.BigEndianLaws.{length_bytes_of}
use Rattle.centralized_telescope.specs.core.Lists.{Each}
use Rattle.centralized_telescope.specs.core.Elements.{Element, Lent, max_data_bytes}
use Rattle.centralized_telescope.specs.core.Exports.{numbers_in, numbers_of, numbered}
use Rattle.centralized_telescope.specs.later.ProofList.{ends_from, indexes_of}
use Rattle.centralized_telescope.specs.later.Tickets.{ElementFits}
use Rattle.centralized_telescope.specs.later.TicketClaims.{in_bytes, lent_in_bytes}
use Rattle.centralized_telescope.specs.laws.BytesLaws.{number_found}

-- ---- k bytes each

pub length_in_bytes : (k : ℕ) (vs : List ℕ) → length (in_bytes k vs) ≡ length vs * k
unfolding in_bytes
length_in_bytes k [] = omega arith
length_in_bytes k (v ∷ vs) = omega (arith, length-append (bytes_of k v) (in_bytes k vs), length_bytes_of k v, length_in_bytes k vs)

read_each : (k : ℕ) (vs : List ℕ) → Each (λ (v : ℕ). v < 256 ^ k) vs → numbers_in (length vs) k (in_bytes k vs) ≡ vs
unfolding numbers_in in_bytes Each
read_each k [] E = refl
read_each k (v ∷ vs) E =
    rw (number_found k v (in_bytes k vs) E.0, drop_at (bytes_of k v) (in_bytes k vs) k (length_bytes_of k v), read_each k vs E.1)

pub numbers_back : (k : ℕ) (vs : List ℕ) → 0 < k → Each (λ (v : ℕ). v < 256 ^ k) vs → numbers_of k (in_bytes k vs) ≡ vs
numbers_back k vs P E =
    let many : length (in_bytes k vs) / k ≡ length vs = rw (length_in_bytes k vs) (mul-div_left (length vs) P) in
    rw many (read_each k vs E)

pub whole_count : (k : ℕ) (vs : List ℕ) → length (in_bytes k vs) % k ≡ 0
whole_count k vs = rw (length_in_bytes k vs) (mul-mod_left (length vs) k)

-- ---- a list

pub numbered_back : (lent : Lent) → Each (λ (v : ℕ). v < 2 ^ 32) lent.ends → Each (λ (v : ℕ). v < 2 ^ 64) lent.indexes
    → numbered (lent_in_bytes lent) ≡ lent
numbered_back lent E X = rw (numbers_back 4 lent.ends (omega arith) E, numbers_back 8 lent.indexes (omega arith) X)

-- ---- the list of some elements within the limits: its numbers fit

pub ends_fit : (bound from : ℕ) (es : List Element) → Each ElementFits es → from + length es * max_data_bytes < bound
    → Each (λ (v : ℕ). v < bound) (ends_from from es)
unfolding Each ends_from
ends_fit bound from [] E h = tt
ends_fit bound from (e ∷ es) E h = (omega (arith, E.0.0), ends_fit bound (from + length e.bytes) es E.1 (omega (arith, E.0.0)))

pub indexes_fit : (es : List Element) → Each ElementFits es → Each (λ (v : ℕ). v < 2 ^ 64) (indexes_of es)
unfolding Each
indexes_fit [] E = tt
indexes_fit (e ∷ es) E = (E.0.1, indexes_fit es E.1)
