-- Document 01, Rounds, and from Search an element's bin and the yes or no on a last hash: each digest, and what is drawn from it.
use Rattle.std.specs.Prelude.{ℕ, Bool, cond, List, [], ◌∷◌, ◌++◌, take, ◌==◌}
use Rattle.std.proofs.Math.Option.{Option, none, some}
use Rattle.sampling.specs.core.BigEndian.{bytes_of}
use Rattle.sampling.specs.core.Fips180.{sha256}
use Rattle.sampling.specs.core.Sample.{uniform, value_of, bernoulli}
use Rattle.sampling.specs.declared.sample.U128.{U128}
use Rattle.centralized_telescope.specs.core.Elements.{Element, tail}

-- ---- 01, Rounds, labels: their ASCII bytes alone

-- Telescope-round_hash
unfoldable pub round_label : List ℕ
round_label = 84 ∷ 101 ∷ 108 ∷ 101 ∷ 115 ∷ 99 ∷ 111 ∷ 112 ∷ 101 ∷ 45 ∷ 114 ∷ 111 ∷ 117 ∷ 110 ∷ 100 ∷ 95 ∷ 104 ∷ 97 ∷ 115 ∷ 104 ∷ []

-- Telescope-bin_hash
unfoldable pub bin_label : List ℕ
bin_label = 84 ∷ 101 ∷ 108 ∷ 101 ∷ 115 ∷ 99 ∷ 111 ∷ 112 ∷ 101 ∷ 45 ∷ 98 ∷ 105 ∷ 110 ∷ 95 ∷ 104 ∷ 97 ∷ 115 ∷ 104 ∷ []

-- Telescope-proof_hash
unfoldable pub proof_label : List ℕ
proof_label = 84 ∷ 101 ∷ 108 ∷ 101 ∷ 115 ∷ 99 ∷ 111 ∷ 112 ∷ 101 ∷ 45 ∷ 112 ∷ 114 ∷ 111 ∷ 111 ∷ 102 ∷ 95 ∷ 104 ∷ 97 ∷ 115 ∷ 104 ∷ []

-- ---- 01, Rounds, the hashes: both begin with the label of rounds; a counter takes 8 big-endian bytes

-- the start hash: of the two counters
unfoldable pub start_hash : ℕ → ℕ → List ℕ
start_hash R S = sha256 (round_label ++ (bytes_of 8 R ++ bytes_of 8 S))

-- the next hash: of the hash before and an element's Tail
unfoldable pub next_hash : List ℕ → Element → List ℕ
next_hash h e = sha256 (round_label ++ (h ++ tail e))

-- ---- what is drawn

-- the number that `sample_uniform` draws below n, if it draws one; of a digest it is always lent the first 16 bytes
abbrev pub drawn : ℕ × ℕ → Option ℕ
drawn a = cond (a.0 == 0) (some a.1) none

unfoldable pub drawn_below : ℕ → List ℕ → Option ℕ
drawn_below n h = drawn (uniform (take 16 h) n)

-- 01, Rounds, the id of a round, drawn from its hash below n, which is set_size; none: there is no such round
abbrev pub round_id : ℕ → List ℕ → Option ℕ
round_id n h = drawn_below n h

-- 01, Search, the bin of an element, drawn from the hash of R and its Tail; none: it is in no bin
unfoldable pub bin_of : ℕ → ℕ → Element → Option ℕ
bin_of n R e = drawn_below n (sha256 (bin_label ++ (bytes_of 8 R ++ tail e)))

-- 01, Search, passing: the yes or no by X, from the hash of a last hash
unfoldable pub says_yes : U128 → List ℕ → Bool
says_yes x h = bernoulli (take 16 (sha256 (proof_label ++ h))) (value_of x)
