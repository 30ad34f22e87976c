-- Laws of numbers in bytes: there are k of them, each is below 256, and read back they make the number.
use Rattle.std.specs.Prelude.{◌≡◌, ℕ, zero, suc, ◌+◌, ◌*◌, ◌/◌, ◌%◌, ◌^◌, ◌<◌, ◌≤◌, min, List, [], ◌∷◌, ◌++◌, length, take, drop, slice_index, refl}
use Rattle.std.proofs.Common.{sym, ap, ◌∙◌, subst, div-add-mod', div-lt_iff_lt-mul, pow-suc, le_of_eq, mod-lt, add-one, arith, length-append, length-drop, take-append-drop, length-take-le}
use Rattle.std.proofs.Math.ListN.{get_or-append}
use Rattle.std.proofs.lemmas.List.{get_or_at}
use Rattle.sampling.specs.core.BigEndian.{big_endian, bytes_of}

pub length_bytes_of : (k v : ℕ) → length (bytes_of k v) ≡ k
unfolding bytes_of
length_bytes_of zero v = refl
length_bytes_of (suc k) v =
    length-append (bytes_of k (v / 256)) (v % 256 ∷ []) ∙ ap (λ (i : ℕ). i + 1) (length_bytes_of k (v / 256)) ∙ add-one k

-- bytes that follow are not read
pub big_endian_append : (k : ℕ) (l m : List ℕ) → k ≤ length l → big_endian k (l ++ m) ≡ big_endian k l
unfolding big_endian
big_endian_append zero l m h = refl
big_endian_append (suc k) l m h = rw (big_endian_append k l m (omega arith), get_or-append)

-- a part of k bytes, 8 at most, read by itself
module _ (l : List ℕ) (at k : ℕ) (h : at + k ≤ length l) (e : k ≤ 8) where
  pub part_size : min (length (take k (drop at l))) 8 ≡ k
  part_size = omega (arith, length-take-le k (drop at l) (omega (arith, length-drop at l)))

  pub part_read : big_endian (min (length (take k (drop at l))) 8) (take k (drop at l)) ≡ big_endian k (drop at l)
  part_read =
      let m = drop at l in
      let n = length-take-le k m (omega (arith, length-drop at l)) in
      rw part_size (sym (big_endian_append k (take k m) (drop k m) (omega arith)) ∙ ap (big_endian k) (take-append-drop k m))

pub read_back : (k v : ℕ) → v < 256 ^ k → big_endian k (bytes_of k v) ≡ v
unfolding big_endian bytes_of
read_back zero v h = omega arith
read_back (suc k) v h =
    let l = bytes_of k (v / 256) in
    let less : v / 256 < 256 ^ k = (div-lt_iff_lt-mul {k = 256} (omega arith)).1 (subst (λ (i : ℕ). v < i) (pow-suc 256 k) h) in
    ap (λ (i : ℕ). i * 256 + slice_index (l ++ (v % 256 ∷ [])) k)
    (big_endian_append k l (v % 256 ∷ []) (le_of_eq (sym (length_bytes_of k (v / 256)))) ∙ read_back k (v / 256) less)
    ∙ ap (λ (i : ℕ). v / 256 * 256 + i) (get_or_at l (v % 256) [] 0 k (length_bytes_of k (v / 256)))
    ∙ div-add-mod' v 256

-- each element is a byte
unfoldable pub All256 : List ℕ → Type 0
All256 [] = Unit {0}
All256 (b ∷ bs) = (b < 256) × All256 bs

pub all256_append : (l m : List ℕ) → All256 l → All256 m → All256 (l ++ m)
unfolding All256
all256_append [] m p q = q
all256_append (b ∷ l) m p q = (p.0, all256_append l m p.1 q)

pub all256_bytes_of : (k v : ℕ) → All256 (bytes_of k v)
unfolding All256 bytes_of
all256_bytes_of zero v = tt
all256_bytes_of (suc k) v = all256_append (bytes_of k (v / 256)) (v % 256 ∷ []) (all256_bytes_of k (v / 256)) (mod-lt v (omega arith), tt)

pub all256_at : (l : List ℕ) → All256 l → (i : ℕ) → slice_index l i < 256
unfolding All256
all256_at [] p i = omega arith
all256_at (b ∷ l) p zero = p.0
all256_at (b ∷ l) p (suc i) = all256_at l p.1 i
