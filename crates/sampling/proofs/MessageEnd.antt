-- The last bytes of a message, laid into the zeros of two blocks: strings one behind the other, and the padding behind them.
use Rattle.std.proofs.Common.{◌≡◌, ℕ, ◌+◌, ◌-◌, ◌*◌, ◌/◌, ◌%◌, ◌≤◌, true, ◌&&◌, ltb, leb, List, [], ◌∷◌, ◌++◌, length, set, replicate, sym, refl, ap, ◌∙◌, append_assoc, arith, length-append, take_at, drop_at, leb-true}
use mathlib.Core.Bool.{and-eq-true_iff}
use lib.ListN.{length-replicate, replicate-append-replicate}
use lib.Seq.{sets, sets-eq}
use Rattle.sampling.specs.core.BigEndian.{bytes_of}
use Rattle.sampling.specs.laws.BigEndianLaws.{length_bytes_of}
use Rattle.sampling.specs.core.Fips180.{zero_bytes, padding}
use Rattle.sampling.specs.laws.HashLaws.{blocks_append}
use Rattle.sampling.specs.inner.LastBlocksInner.{in_one_piece, in_two_blocks, hash_value_from}
use Rattle.sampling.specs.declared.sha256.State.{State}

-- strings that are joined in one piece fit
pub piece_fits : (a b c d : ℕ) → in_one_piece a b c d ≡ true → a + b + c + d ≤ 119
unfolding in_one_piece
piece_fits a b c d h =
    leb-true (a + b + c + d) 119 ((and-eq-true_iff (ltb a 64 && ltb b 64 && ltb c 64 && ltb d 64) (leb (a + b + c + d) 119)).0 h).1

-- bytes in the place of as many
in_place : (t x y s : List ℕ) (n : ℕ) → n ≡ length t → length x ≡ length s → sets (t ++ (x ++ y)) n s ≡ t ++ (s ++ y)
in_place t x y s n e k =
    let f : length (t ++ x) ≡ n + length s = length-append t x ∙ omega arith in
    let size : length (t ++ (x ++ y)) ≡ length (t ++ x) + length y = ap length (sym (append_assoc t x y)) ∙ length-append (t ++ x) y in
    sets-eq s (t ++ (x ++ y)) n (omega arith)
    ∙ rw (take_at t (x ++ y) n (sym e), ← append_assoc t x y, drop_at (t ++ x) y (n + length s) f, append_assoc t s y)

-- a string behind what is there
pub laid : (t s : List ℕ) (n : ℕ) → n ≡ length t → n + length s ≤ 128 → sets (in_two_blocks t) n s ≡ in_two_blocks (t ++ s)
unfolding in_two_blocks
laid t s n e le =
    let k : 128 - length t ≡ length s + (128 - length (t ++ s)) = omega (arith, length-append t s) in
    rw (k, ← replicate-append-replicate {A = ℕ} (length s) (128 - length (t ++ s)) 0)
    (in_place t (replicate (length s) 0) (replicate (128 - length (t ++ s)) 0) s n e (length-replicate (length s) 0)
    ∙ sym (append_assoc t s (replicate (128 - length (t ++ s)) 0)))

-- behind nothing: the zeros alone are there
pub first_laid : (s : List ℕ) → length s ≤ 128 → sets (replicate 128 0) 0 s ≡ in_two_blocks s
unfolding in_two_blocks
first_laid s le = laid [] s 0 refl (omega arith)

-- two strings, the second put there first
two_laid : (a b : List ℕ) → length a + length b ≤ 128 → sets (sets (replicate 128 0) (length a) b) 0 a ≡ in_two_blocks (a ++ b)
unfolding in_two_blocks
two_laid a b le =
    let rest : ℕ = 128 - length (a ++ b) in
    let k : 128 ≡ length a + (length b + rest) = omega (arith, length-append a b) in
    let za : List ℕ = replicate (length a) 0 in
    let zb : List ℕ = replicate (length b) 0 in
    let zs : List ℕ = replicate rest 0 in
    let split : replicate 128 0 ≡ za ++ (zb ++ zs) =
    ap (λ (n : ℕ). replicate n 0) k
    ∙ sym (replicate-append-replicate {A = ℕ} (length a) (length b + rest) 0)
    ∙ ap (λ (l : List ℕ). za ++ l) (sym (replicate-append-replicate {A = ℕ} (length b) rest 0)) in
    ap (λ (l : List ℕ). sets (sets l (length a) b) 0 a) split
    ∙ ap (λ (l : List ℕ). sets l 0 a)
    (in_place za zb zs b (length a) (sym (length-replicate (length a) 0)) (length-replicate (length b) 0))
    ∙ in_place [] za (b ++ zs) a 0 refl (length-replicate (length a) 0)
    ∙ sym (append_assoc a b zs)

pub four_laid : (a b c d : List ℕ) → length a + length b + length c + length d ≤ 128
    → sets (sets (sets (sets (replicate 128 0) (length a) b) 0 a) (length a + length b) c) (length a + length b + length c) d
    ≡ in_two_blocks (a ++ (b ++ (c ++ d)))
four_laid a b c d le =
    let ab : length a + length b ≡ length (a ++ b) = sym (length-append a b) in
    let abc : length a + length b + length c ≡ length ((a ++ b) ++ c) = rw ab (sym (length-append (a ++ b) c)) in
    rw (
      two_laid a b (omega arith),
      laid (a ++ b) c _ ab (omega arith),
      laid ((a ++ b) ++ c) d _ abc (omega arith),
    )
    (ap in_two_blocks (simp append_assoc))

-- zeros behind it are there already
zeros_laid : (t : List ℕ) (k : ℕ) → length t + k ≤ 128 → in_two_blocks (t ++ replicate k 0) ≡ in_two_blocks t
unfolding in_two_blocks
zeros_laid t k le =
    let z : List ℕ = replicate k 0 in
    let e : k + (128 - length (t ++ z)) ≡ 128 - length t = omega (arith, length-append t z, length-replicate {A = ℕ} k 0) in
    append_assoc t z (replicate (128 - length (t ++ z)) 0) ∙ rw (replicate-append-replicate {A = ℕ} k (128 - length (t ++ z)) 0, e)

-- the padding behind it: its bit 1, and the length in bits at the end of a block
pub padding_laid : (t : List ℕ) (f n : ℕ) → f ≡ length t → f ≤ 119 → n % 64 ≡ f % 64
    → sets (set (in_two_blocks t) f 128) ((f + 72) / 64 * 64 - 8) (bytes_of 8 (8 * n)) ≡ in_two_blocks (t ++ padding n)
unfolding padding zero_bytes
padding_laid t f n e le r =
    let at : ℕ = (f + 72) / 64 * 64 - 8 in
    let bits : List ℕ = bytes_of 8 (8 * n) in
    let one : List ℕ = t ++ (128 ∷ []) in
    let z : ℕ = (119 - n % 64) % 64 in
    let most : List ℕ = one ++ replicate z 0 in
    let size_one : length one ≡ length t + 1 = length-append t (128 ∷ []) in
    let size : length most ≡ at = length-append one (replicate z 0) ∙ rw (length-replicate {A = ℕ} z 0) (omega arith) in
    rw (
      laid t (128 ∷ []) f e (omega arith),
      ← zeros_laid one z (omega arith),
      laid most bits at (sym size) (omega (arith, length_bytes_of 8 (8 * n))),
    )
    (ap in_two_blocks (simp append_assoc))

-- the blocks that are there whole are read as by themselves
pub read_whole : (h : State) (m : List ℕ) (k : ℕ) → 64 * k ≤ length m → hash_value_from h (in_two_blocks m) k ≡ hash_value_from h m k
unfolding in_two_blocks
read_whole h m k le = blocks_append h m (replicate (128 - length m) 0) k le
