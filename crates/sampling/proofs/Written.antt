-- Bytes that are written: a number's from the last back, a string's into an array, words' one after the other.
use Rattle.std.proofs.Common.{◌≡◌, ℕ, zero, suc, ◌+◌, ◌-◌, ◌*◌, ◌/◌, ◌%◌, ◌<◌, ◌≤◌, List, [], ◌∷◌, ◌++◌, length, get_or, take, drop, set, sym, ap, ◌∙◌, subst, append_assoc, append-nil, le_of_suc-le-suc, not-suc-le-zero, add-one, arith, length-append, length-drop, length-take, length-take-le, drop-drop, take_at, drop_at}
use lib.Seq.{set_split, sets, sets-eq}
use Rattle.sampling.specs.core.BigEndian.{bytes_of}
use Rattle.sampling.specs.laws.BigEndianLaws.{length_bytes_of}
use Rattle.sampling.specs.core.Fips180.{word_bytes}

-- ---- a number

-- one more byte is written, the lowest of what is left of the number
before_last : (k r : ℕ) (out w : List ℕ) → k < length out → bytes_of (suc k) r ++ drop (suc k) out ≡ w
    → bytes_of k (r / 256) ++ drop k (set out k (r % 256)) ≡ w
unfolding bytes_of
before_last k r out w L e =
    let n : length (take k out) ≡ k = simp length-take (omega arith) in
    let tail : drop k (set out k (r % 256)) ≡ r % 256 ∷ drop (suc k) out =
    ap (drop k) (set_split out k (r % 256) L) ∙ drop_at (take k out) (r % 256 ∷ drop (suc k) out) k n in
    ap (λ (l : List ℕ). bytes_of k (r / 256) ++ l) tail ∙ sym (append_assoc (bytes_of k (r / 256)) (r % 256 ∷ []) (drop (suc k) out)) ∙ e

pub one_written : (k r : ℕ) (out w : List ℕ) → 0 < k → k ≤ length out → bytes_of k r ++ drop k out ≡ w
    → bytes_of (k - 1) (r / 256) ++ drop (k - 1) (set out (k - 1) (r % 256)) ≡ w
one_written k r out w P L e =
    let more : k ≡ suc (k - 1) = omega arith in
    before_last (k - 1) r out w (omega arith) (subst (λ (i : ℕ). bytes_of i r ++ drop i out ≡ w) more e)

pub all_written : (r : ℕ) (out w : List ℕ) → bytes_of 0 r ++ drop 0 out ≡ w → out ≡ w
unfolding bytes_of
all_written r out w e = e

-- ---- a string

-- a copy into the part that starts at a, n bytes long: p is what that part holds then
pub copied_in : (b s p : List ℕ) (a n : ℕ) → a + length s ≤ length b → n ≡ length s → p ≡ s
    → take a b ++ (p ++ drop n (drop a b)) ≡ sets b a s
copied_in b s p a n le k e = rw (e, k, drop-drop (length s) a b, sets-eq s b a le, append_assoc)

-- ---- words

more : (ws : List ℕ) (n : ℕ) → n < length ws → word_bytes (take (suc n) ws) ≡ word_bytes (take n ws) ++ bytes_of 4 (get_or ws n 0)
unfolding word_bytes
more [] n h = absurd (not-suc-le-zero h)
more (w ∷ ws) zero h = append-nil (bytes_of 4 w)
more (w ∷ ws) (suc n) h =
    ap (λ (bs : List ℕ). bytes_of 4 w ++ bs) (more ws n (le_of_suc-le-suc h))
    ∙ sym (append_assoc (bytes_of 4 w) (word_bytes (take n ws)) (bytes_of 4 (get_or ws n 0)))

-- bytes put in the place of as many leave the length as it was
pub put_size : (d p part : List ℕ) (a k n x : ℕ) → length d ≡ n → a + k ≤ n → length part ≡ k → p ≡ bytes_of (length part) x
    → length (take a d ++ (p ++ drop k (drop a d))) ≡ n
put_size d p part a k n x e le l q =
    let f : length p ≡ k = ap length q ∙ length_bytes_of (length part) x ∙ l in
    simp (length-append, length-take, length-drop) (omega arith)

-- the bytes p of one word more, x, behind those of n words
pub put_word : (ws d p part rest : List ℕ) (n x : ℕ) → n < length ws → 4 * n ≤ length d → length part ≡ 4 → p ≡ bytes_of (length part) x
    → x ≡ get_or ws n 0
    → take (4 * n) d ≡ word_bytes (take n ws) → take (4 * (n + 1)) (take (4 * n) d ++ (p ++ rest)) ≡ word_bytes (take (n + 1) ws)
put_word ws d p part rest n x h k l e q i =
    let f : p ≡ bytes_of 4 (get_or ws n 0) = rw (l, q) at e in
    let c : 4 * (n + 1) ≡ 4 * n + 4 = omega arith in
    let size : length (take (4 * n) d ++ p) ≡ 4 * n + 4 =
    length-append (take (4 * n) d) p ∙ rw (length-take-le (4 * n) d k, f, length_bytes_of 4 (get_or ws n 0)) in
    rw (c, ← append_assoc) (take_at (take (4 * n) d ++ p) rest (4 * n + 4) size ∙ rw (i, f, add-one n, more ws n h))
