-- Writing a ticket: what stands before its elements, and the whole content over a buffer.
use Rattle.std.proofs.Common.{◌≡◌, ℕ, ◌+◌, List, [], ◌∷◌, ◌++◌, length, take, drop, sym, refl, ap, ◌∙◌, append_assoc, append-nil, arith, length-append, drop-drop, take_at, drop_at}
use borrow.Rule.Slice.PartMut.{put_mid}
use lib.Seq.{drop-append-add}
use Rattle.sampling.specs.core.BigEndian.{bytes_of}
use Rattle.sampling.specs.laws.BigEndianLaws.{length_bytes_of}
use Rattle.centralized_telescope.specs.core.Elements.{Element}
use Rattle.centralized_telescope.specs.core.Lists.{over}
use Rattle.centralized_telescope.specs.later.Blocks.{block_count}
use Rattle.centralized_telescope.specs.later.ElementBytes.{elements_bytes}
use Rattle.centralized_telescope.specs.later.Tickets.{content, ticket_head_bytes}
use Rattle.centralized_telescope.specs.laws.ListsLaws.{take_over}
use Rattle.centralized_telescope.proofs.ElementWriting.{put}

-- ---- what stands before the elements, in an array

mid_at : (xs ys zs w : List ℕ) (a k : ℕ) → length xs ≡ a → length ys ≡ k → put_mid a k (xs ++ (ys ++ zs)) w ≡ xs ++ (w ++ zs)
mid_at xs ys zs w a k E F = rw (take_at xs (ys ++ zs) a E, drop_at xs (ys ++ zs) a E, drop_at ys zs k F)

mid_length : (xs ys zs : List ℕ) (a k : ℕ) → length xs ≡ a → length ys ≡ k → length (take k (drop a (xs ++ (ys ++ zs)))) ≡ k
mid_length xs ys zs a k E F = rw (drop_at xs (ys ++ zs) a E, take_at ys zs k F) F

abbrev pub four : List ℕ
four = 0 ∷ 0 ∷ 0 ∷ 0 ∷ []

abbrev pub eight : List ℕ
eight = 0 ∷ 0 ∷ 0 ∷ 0 ∷ four

-- the array with R in its first eight bytes
abbrev pub with_retry : List ℕ → List ℕ
with_retry r = r ++ (0 ∷ 0 ∷ 0 ∷ 0 ∷ eight)

module _ (R S n : ℕ) (r s : List ℕ) (E : r ≡ bytes_of 8 R) (F : s ≡ bytes_of (length (take 8 (drop 8 (with_retry r)))) S) where
  search_is : s ≡ bytes_of 8 S
  search_is = F ∙ ap (λ (k : ℕ). bytes_of k S) (mid_length r eight four 8 8 (ap length E ∙ length_bytes_of 8 R) refl)

  -- with both counters
  both_in : put_mid 8 8 (with_retry r) s ≡ (bytes_of 8 R ++ bytes_of 8 S) ++ four
  both_in =
      mid_at r eight four s 8 8 (ap length E ∙ length_bytes_of 8 R) refl
      ∙ rw (E, search_is, append_assoc (bytes_of 8 R) (bytes_of 8 S) four)

  sixteen : length (bytes_of 8 R ++ bytes_of 8 S) ≡ 16
  sixteen = omega (arith, length-append (bytes_of 8 R) (bytes_of 8 S), length_bytes_of 8 R, length_bytes_of 8 S)

  pub both_length : length (put_mid 8 8 (with_retry r) s) ≡ 20
  both_length = rw both_in (omega (arith, length-append (bytes_of 8 R ++ bytes_of 8 S) four, sixteen))

  pub head_made : (q : List ℕ) → q ≡ bytes_of (length (take 4 (drop 16 (put_mid 8 8 (with_retry r) s)))) n
      → put_mid 16 4 (put_mid 8 8 (with_retry r) s) q ≡ bytes_of 8 R ++ (bytes_of 8 S ++ bytes_of 4 n)
  head_made q G =
      let last : length (take 4 (drop 16 (put_mid 8 8 (with_retry r) s))) ≡ 4
      = rw both_in (mid_length (bytes_of 8 R ++ bytes_of 8 S) four [] 16 4 sixteen refl) in
      ap (λ (l : List ℕ). put_mid 16 4 l q) both_in
      ∙ mid_at (bytes_of 8 R ++ bytes_of 8 S) four [] q 16 4 sixteen refl
      ∙ rw (G, last, append-nil (bytes_of 4 n), append_assoc (bytes_of 8 R) (bytes_of 8 S) (bytes_of 4 n))

-- ---- the whole content over a buffer

-- what stands over a front of itself
over_over : (w y was : List ℕ) → over (w ++ y) (over w was) ≡ over (w ++ y) was
over_over w y was =
    ap (λ (l : List ℕ). (w ++ y) ++ l)
    (rw (length-append w y) (drop-append-add w (drop (length w) was) (length y) ∙ drop-drop (length y) (length w) was))

abbrev pub head_of : ℕ → ℕ → ℕ → List ℕ
head_of R S n = bytes_of 8 R ++ (bytes_of 8 S ++ bytes_of 4 n)

pub length_head_of : (R S n : ℕ) → length (head_of R S n) ≡ 20
length_head_of R S n =
    omega (
      arith,
      length-append (bytes_of 8 R) (bytes_of 8 S ++ bytes_of 4 n),
      length-append (bytes_of 8 S) (bytes_of 4 n),
      length_bytes_of 8 R,
      length_bytes_of 8 S,
      length_bytes_of 4 n,
    )

module _ (k R S n : ℕ) (es : List Element) (K : k ≡ block_count (ticket_head_bytes + length (elements_bytes es))) (N : length es ≡ n) where
  content_is : content R S es ≡ (bytes_of 4 k ++ head_of R S n) ++ elements_bytes es
  unfolding content
  content_is = rw (← K, N) (simp append_assoc)

  -- the number of blocks, the head behind it, then the elements
  pub content_put : (was stated head out out' : List ℕ) → stated ≡ bytes_of 4 k → head ≡ head_of R S n
      → out ≡ take 4 (stated ++ drop 4 was) ++ (head ++ drop (4 + length head) (stated ++ drop 4 was))
      → out' ≡ over (take ticket_head_bytes out ++ elements_bytes es) out → out' ≡ over (content R S es) was
  content_put was stated head out out' B H C E =
      let four : length stated ≡ 4 = ap length B ∙ length_bytes_of 4 k in
      let first : stated ++ drop 4 was ≡ over stated was = rw four in
      let both_put : out ≡ over (stated ++ head) was = put stated head was 4 (stated ++ drop 4 was) out (sym four) first C in
      let l : length (stated ++ head) ≡ ticket_head_bytes =
      omega (arith, length-append stated head, four, ap length H, length_head_of R S n) in
      E
      ∙ rw (
        both_put,
        take_over ticket_head_bytes (stated ++ head) was l,
        over_over (stated ++ head) (elements_bytes es) was,
        B,
        H,
        ← content_is,
      )
