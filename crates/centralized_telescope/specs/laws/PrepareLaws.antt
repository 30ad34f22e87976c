-- Laws of the bytes that a run stands for: how many there are, and that they tell runs apart.
use Rattle.std.specs.Prelude.{◌≡◌, ℕ, zero, suc, ◌+◌, ◌-◌, ◌*◌, ◌/◌, ◌%◌, ◌^◌, ◌<◌, ◌≤◌, false, List, [], ◌∷◌, ◌++◌, length, drop, Result, Ok, nat_lt, refl}
use Rattle.std.proofs.Common.{sym, ap, ◌∙◌, append_assoc, append-nil, add-zero, add-suc, mul_assoc, pow-suc, arith, ltb-false, length-append, length-take, drop_at}
use Rattle.sampling.specs.core.BigEndian.{big_endian, bytes_of}
use Rattle.sampling.specs.core.Hash.{max_hashed, hashed_by}
use Rattle.sampling.specs.declared.sha256.TooLong.{TooLong}
use Rattle.sampling.specs.declared.sha256.Hasher.{Hasher}
use Rattle.sampling.specs.later.Hasher.{new_hasher, absorbed, finished}
use Rattle.sampling.specs.laws.BigEndianLaws.{length_bytes_of}
use Rattle.sampling.specs.laws.HashLaws.{digest_within}
use Rattle.sampling.specs.laws.HasherLaws.{absorbed_twice, absorbed_hashes}
use Rattle.centralized_telescope.specs.declared.params.Params.{Params}
use Rattle.centralized_telescope.specs.core.Lists.{Each}
use Rattle.centralized_telescope.specs.core.Elements.{Element, elements_from, elements, data_long, list_check, Lent, max_data_bytes}
use Rattle.centralized_telescope.specs.later.ElementBytes.{elements_bytes}
use Rattle.centralized_telescope.specs.later.Prepare.{run_head, run_bytes, run_digest}
use Rattle.centralized_telescope.specs.laws.BytesLaws.{number_found}
use Rattle.centralized_telescope.specs.laws.ElementsLaws.{accepted, length_elements, few_elements}
use Rattle.centralized_telescope.specs.laws.ElementBytesLaws.{elements_most}
use Rattle.centralized_telescope.specs.laws.TestLaws.{neither}

-- ---- a number of j + k bytes by its two parts

pub bytes_joined : (j k a b : ℕ) → b < 256 ^ k → bytes_of (j + k) (a * 256 ^ k + b) ≡ bytes_of j a ++ bytes_of k b
unfolding bytes_of
bytes_joined j zero a b h =
    let none : a * 256 ^ zero + b ≡ a = omega arith in
    rw (none, add-zero j) (sym (append-nil (bytes_of j a)))
bytes_joined j (suc k) a b h =
    let c : ℕ = a * 256 ^ k in
    let up : a * 256 ^ suc k ≡ c * 256 = ap (λ (n : ℕ). a * n) (pow-suc 256 k) ∙ sym (mul_assoc a (256 ^ k) 256) in
    let q : (c * 256 + b) / 256 ≡ c + b / 256 = omega arith in
    let m : (c * 256 + b) % 256 ≡ b % 256 = omega arith in
    rw (add-suc j k, up, q, m, bytes_joined j k a (b / 256) (omega (arith, pow-suc 256 k)))
    (append_assoc (bytes_of j a) (bytes_of k (b / 256)) (b % 256 ∷ []))

-- ---- a field at the front

module _ (k a b : ℕ) (r s : List ℕ) (e : bytes_of k a ++ r ≡ bytes_of k b ++ s) where
  pub field_same : a < 256 ^ k → b < 256 ^ k → a ≡ b
  field_same A B = sym (number_found k a r A) ∙ ap (big_endian k) e ∙ number_found k b s B

  pub field_behind : r ≡ s
  field_behind = sym (drop_at (bytes_of k a) r k (length_bytes_of k a)) ∙ ap (drop k) e ∙ drop_at (bytes_of k b) s k (length_bytes_of k b)

-- ---- how many bytes there are

-- before the elements
abbrev run_head_bytes : ℕ
run_head_bytes = 64

pub head_size_lem : (p : Params) (count : ℕ) → length (run_head p count) ≡ run_head_bytes
unfolding run_head
head_size_lem p count = simp (length-append, length_bytes_of) (omega arith)

pub run_size : (p : Params) (es : List Element) → length (run_bytes p es) ≡ run_head_bytes + length (elements_bytes es)
unfolding run_bytes
run_size p es = omega (arith, length-append (run_head p (length es)) (elements_bytes es), head_size_lem p (length es))

pub run_parts : (p : Params) (es : List Element) → run_bytes p es ≡ run_head p (length es) ++ elements_bytes es
unfolding run_bytes
run_parts p es = refl

-- those of an accepted list are few enough for the hash
short_from : (from : ℕ) (d n m x : List ℕ) → data_long from n ≡ false
    → Each (λ (e : Element). length e.bytes ≤ max_data_bytes) (elements_from from d n m x)
unfolding Each data_long elements_from
short_from from d [] m x l = tt
short_from from d (k ∷ n) [] x l = tt
short_from from d (k ∷ n) (j ∷ m) [] l = tt
short_from from d (k ∷ n) (j ∷ m) (v ∷ x) l =
    let h = neither (nat_lt max_data_bytes (k - from)) l in (
      omega (arith, length-take (k - from) (drop from d), ltb-false max_data_bytes (k - from) h.0),
      short_from k d n m x h.1,
    )

pub run_few : (p : Params) (lent : Lent) → list_check lent ≡ 0 → length (run_bytes p (elements lent)) ≤ max_hashed
run_few p lent A =
    let short = short_from 0 lent.bytes lent.ends lent.marks lent.indexes (accepted lent A).short in
    omega (
      arith,
      run_size p (elements lent),
      elements_most max_data_bytes (elements lent) short,
      length_elements lent A,
      few_elements lent A,
    )

-- ---- their hash

pub digest_given : (p : Params) (lent : Lent) → list_check lent ≡ 0 → (h : Hasher) (r : Result (List ℕ) TooLong)
    → h ≡ absorbed new_hasher (run_bytes p (elements lent)) → hashed_by r ≡ finished h → r ≡ Ok (run_digest p (elements lent))
unfolding run_digest
digest_given p lent A h r H R =
    let m : List ℕ = run_bytes p (elements lent) in
    digest_within r m (run_few p lent A) (R ∙ ap finished H ∙ absorbed_hashes m)

-- ---- the head, absorbed number by number

pub head_absorbed : (p : Params) (count : ℕ) → p.x.lo < 2 ^ 64 → (a b c d e f g h : Hasher)
    → a ≡ absorbed new_hasher (bytes_of 8 p.set_size)
    → b ≡ absorbed a (bytes_of 8 p.proof_size)
    → c ≡ absorbed b (bytes_of 8 p.max_retries)
    → d ≡ absorbed c (bytes_of 8 p.search_width)
    → e ≡ absorbed d (bytes_of 8 p.dfs_bound)
    → f ≡ absorbed e (bytes_of 8 count)
    → g ≡ absorbed f (bytes_of 8 p.x.hi)
    → h ≡ absorbed g (bytes_of 8 p.x.lo)
    → h ≡ absorbed new_hasher (run_head p count)
unfolding run_head
head_absorbed p count L a b c d e f g h A B C D E F G H =
    rw (H, G, F, E, D, C, B, A, bytes_joined 8 8 p.x.hi p.x.lo L) (simp (absorbed_twice, append_assoc))
