-- What green means: who has few elements seldom has a proof that the verifier accepts, with a function drawn at random in SHA-256's place.
use Rattle.std.specs.Prelude.{◌≡◌, Bool, true, ℕ, ◌+◌, ◌*◌, ◌^◌, ◌≤◌, min, eqb, length, Float}
use mathlib.Core.List.{List, [], ◌∷◌, map, Memᴰ}
use Rattle.sampling.specs.core.Fips180.{sha256}
use Rattle.sampling.specs.core.Sample.{value_of}
use Rattle.sampling.specs.later.Threshold.{xOf}
use Rattle.centralized_telescope.specs.declared.params.Params.{Params}
use Rattle.centralized_telescope.specs.declared.params.SmallSettings.{SmallSettings}
use Rattle.centralized_telescope.specs.core.Lists.{Each}
use Rattle.centralized_telescope.specs.later.SmallCase.{ceil, probability, small_case}
use Rattle.centralized_telescope.specs.core.Elements.{Element, tail, Lent, lent_of, elements, max_data_bytes}
use Rattle.centralized_telescope.specs.core.Verifier.{verdict}
use Rattle.centralized_telescope.specs.later.ProofSize.{Meets, InRange, SizeIs}
use Rattle.soundness.specs.AnyHash.{verdict_with}
use Rattle.soundness.specs.Functions.{OfBytes, how_many_strings, how_many_digests, hash_of, how_many_tables}

-- ---- who sends what

-- 01, Elements: at most 4,096 bytes of data
abbrev pub IsElement : Element → Type 0
IsElement e = OfBytes e.bytes × (length e.bytes ≤ max_data_bytes)

-- what is sent to the verifier: R, S and a list
pub record Sent : Type 0 where
  pub retry : ℕ
  pub search : ℕ
  pub lent : Lent

-- each element sent has the Tail of one of E
abbrev pub MadeOf : List Element → Sent → Type 0
MadeOf E sent = Each (λ (e : Element). Memᴰ (tail e) (map tail E)) (elements sent.lent)

-- the verifier accepts it, with this function in SHA-256's place
abbrev pub accepts : (List ℕ → List ℕ) → Params → Sent → Bool
accepts hash p sent = eqb (verdict_with hash p sent.retry sent.search sent.lent) 0

-- ---- how often

-- the longest string that is hashed: a label, a digest, and a Tail, of 4,096 bytes of data and an index
unfoldable pub longest : ℕ
longest = 20 + 32 + max_data_bytes + 8

-- Under how many of all functions what is sent is green. The elements are fixed before; the rest is chosen with the function at hand
abbrev pub how_many_green : Params → (List ℕ → Sent) → ℕ
how_many_green p sender = how_many_tables how_many_digests (how_many_strings longest) (λ (t : List ℕ). accepts (hash_of t) p (sender t))

abbrev pub how_many_functions : ℕ
how_many_functions = how_many_digests ^ how_many_strings longest

-- ---- for any settings

-- Whatever is sent of at most set_size elements, the share of all functions that are green is at most
--     r d f^u X / (n^u 2^128) + r d u^2 / 2^256,
-- r being max_retries, d search_width, n set_size, u proof_size, and f the number of elements. Both terms, each times n^u 2^256:

-- the first is the number of chains times the chance of each, that its ids are its elements' bins and that its last hash is told yes
abbrev pub chains_term : Params → ℕ → ℕ
chains_term p f = p.max_retries * p.search_width * f ^ p.proof_size * (value_of p.x * 2 ^ 128)

-- Alone it would be no bound: where a digest comes again within a chain, what follows isn't drawn anew (`first_term_exceeded`, ShareLaws:
-- with two digests, n = 2, u = 3 and one chain, 4 of 32 tables are green, and the term allows 2). The second is for that
abbrev pub again_term : Params → ℕ
again_term p = p.max_retries * p.search_width * (p.proof_size * p.proof_size) * p.set_size ^ p.proof_size

abbrev pub GreenShare : Type 0
GreenShare =
    (p : Params) (E : List Element) → length E ≤ p.set_size → Each IsElement E
    → (sender : List ℕ → Sent) → ((t : List ℕ) → MadeOf E (sender t))
    → how_many_green p sender * (p.set_size ^ p.proof_size * how_many_digests)
    ≤ (chains_term p (length E) + again_term p) * how_many_functions

-- ---- for settings made from security figures

-- 02, N6: the figures are in range, and the size meets the inequality, as the one that `proof_size` answers does; the rest is the answer of
-- `param_small_case` to the size and to a completeness that is at most c when rounded up. dfs_bound may be any: the verifier reads it only
-- for its limit
pub record Made (s c n f : ℕ) (p : Params) : Type 0 where
  pub figures : InRange s c n f
  pub enough : Meets s c n f p.proof_size
  pub completeness : Float
  pub rounded : ceil completeness ≤ c
  pub small : SmallSettings
  pub answer : small_case p.proof_size completeness ≡ (0, small)
  pub set : p.set_size ≡ n
  pub retries : p.max_retries ≡ small.max_retries
  pub width : p.search_width ≡ small.search_width
  pub chance : p.x ≡ small.x

-- Whatever is sent of at most f elements, at most one in 2^(s + bits) of all functions is green; an s above the limit counts as the limit
abbrev pub SeldomBy : ℕ → ℕ → Type 0
SeldomBy limit bits =
    (s c n f : ℕ) (p : Params) (E : List Element) → Made s c n f p → length E ≤ f → Each IsElement E
    → (sender : List ℕ → Sent) → ((t : List ℕ) → MadeOf E (sender t))
    → how_many_green p sender * 2 ^ (min s limit + bits) ≤ how_many_functions

-- The limits come from the second term above, which doesn't shrink as s grows: at its greatest it is 2^-209.7
pub record SeldomGreen : Type 0 where
  pub up_to_207 : SeldomBy 207 1
  pub up_to_204 : SeldomBy 204 2
  -- and with SHA-256 the verifier is that of `centralized_telescope`
  pub ours : (p : Params) (R S : ℕ) (lent : Lent) → verdict_with sha256 p R S lent ≡ verdict p R S lent

-- ---- that the premise is what the calls make, and that there are proofs

-- a small case's settings with a set size
abbrev pub with_size : ℕ → SmallSettings → Params
with_size n small = record {
  set_size = n;
  proof_size = small.proof_size;
  max_retries = small.max_retries;
  search_width = small.search_width;
  dfs_bound = small.dfs_bound;
  x = small.x;
}

-- what `proof_size` answers to figures, and `param_small_case` to the size and to c
abbrev pub MadeByCalls : Type 0
MadeByCalls =
    (s c n f u : ℕ) (completeness : Float) (small : SmallSettings)
    → SizeIs s c n f 0 u → ceil completeness ≡ c → small_case u completeness ≡ (0, small) → Made s c n f (with_size n small)

-- settings for s = 9, c = 2 and 32,768 elements against 1
abbrev pub example_settings : Params
example_settings = record {
  set_size = 32768;
  proof_size = 1;
  max_retries = 2;
  search_width = 80;
  dfs_bound = 0;
  x = xOf (probability 80);
}

-- R = 0, S = 0 and one element without data or index
abbrev pub example_sent : Sent
example_sent = record { retry = 0; search = 0; lent = lent_of [] (0 ∷ []) (0 ∷ []) (0 ∷ []) }

-- they are made from these figures, and under one function, all of whose digests are zeros, a proof is green
abbrev pub GreenExample : Type 0
GreenExample = Made 9 2 32768 1 example_settings × (accepts (hash_of []) example_settings example_sent ≡ true)
