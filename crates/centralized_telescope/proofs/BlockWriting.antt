-- Writing blocks: the check of a body, a block made at its place, and one block more in front of those that are.
use Rattle.std.proofs.Common.{◌≡◌, ℕ, suc, ◌+◌, ◌-◌, ◌*◌, ◌<◌, ◌≤◌, List, Result, Ok, [], ◌++◌, length, take, drop, sym, ap, ◌∙◌, append_assoc, append-nil, arith, length-append, length-drop, take-append-drop, length-take, length-take-le, take_all, drop-drop, take_at, take-add, drop_at}
use lib.Seq.{paste, take-paste, drop-paste}
use Rattle.sampling.specs.core.Fips180.{sha256}
use Rattle.sampling.specs.core.Hash.{hashed, hashed_by}
use Rattle.sampling.specs.declared.sha256.TooLong.{TooLong}
use Rattle.centralized_telescope.specs.later.Blocks.{body_check, sealed, body_bytes, block_bytes, check_bytes}
use Rattle.centralized_telescope.specs.laws.BlocksLaws.{length_check}
use Rattle.centralized_telescope.specs.laws.BlocksReadLaws.{part_front}
use Rattle.centralized_telescope.proofs.RoundHashes.{digest_is}

-- ---- a part more of a list copied to its offset in a buffer

pub copied_more : (d s : List ℕ) (at k n : ℕ) → at ≤ length d → k + n ≤ length s
    → (o p r : List ℕ) → o ≡ take at d ++ (take k s ++ drop (at + k) d) → p ≡ take n (drop k s) → length p ≡ n
    → r ≡ take (at + k) o ++ (p ++ drop (at + k + length p) o)
    → r ≡ take at d ++ (take (k + n) s ++ drop (at + (k + n)) d)
copied_more d s at k n hd hs o p r O P L R =
    let O' : o ≡ paste d at s k = O ∙ sym (append_assoc (take at d) (take k s) (drop (at + k) d)) in
    let front : take (at + k) o ≡ take at d ++ take k s = rw O' (take-paste d at s k hd (omega arith)) in
    let e : at + k + n ≡ at + (k + n) = omega arith in
    let back : drop (at + k + n) o ≡ drop (at + (k + n)) d
    = rw (← drop-drop n (at + k) o, O', drop-paste d at s k hd (omega arith), drop-drop n (at + k) d, e) in
    R
    ∙ rw (L, front, back, P, append_assoc (take at d) (take k s), take-add k n s, append_assoc (take k s) (take n (drop k s)))

-- ---- a part of a slice as it is lent: n bytes from an offset on

abbrev pub part : ℕ → ℕ → List ℕ → List ℕ
part from n t = take (from + n - from) (drop from t)

pub part_taken : (from n : ℕ) (t : List ℕ) → part from n t ≡ take n (drop from t)
part_taken from n t = let e : from + n - from ≡ n = omega arith in rw e

pub part_long : (from n : ℕ) (t : List ℕ) → from + n ≤ length t → length (part from n t) ≡ n
part_long from n t h = simp (length-take, length-drop) (omega arith)

-- a copy of it
pub part_copied : (from n : ℕ) (t r : List ℕ) → from + n ≤ length t → r ≡ part from n t → r ≡ take n (drop from t)
part_copied from n t r h R = R ∙ part_taken from n t

-- ---- the check of a body

module _ (body : List ℕ) (r : Result (List ℕ) TooLong) (l : length body ≡ body_bytes) (e : hashed_by r ≡ hashed (body ++ [])) where
  pub digest_of_body : r ≡ Ok (sha256 body)
  digest_of_body = rw append-nil at (digest_is body [] [] [] r (omega arith) e)

  pub check_is : (digest r : List ℕ) → r ≡ take 8 digest → digest ≡ sha256 body → r ≡ body_check body
  unfolding body_check
  check_is digest r R D = R ∙ ap (take 8) D

-- ---- a block made at its place, in two parts

pub block_made : (at : ℕ) (o body check q r : List ℕ) → at + block_bytes ≤ length o → length body ≡ body_bytes → check ≡ body_check body
    → q ≡ take at o ++ (body ++ drop (at + length body) o)
    → r ≡ take (at + body_bytes) q ++ (check ++ drop (at + body_bytes + length check) q)
    → r ≡ take at o ++ ((body ++ body_check body) ++ drop (at + block_bytes) o)
block_made at o body check q r h B C Q R =
    let L : length check ≡ 8 = rw C (length_check body) in
    let s : List ℕ = body ++ check in
    let S : length s ≡ block_bytes = simp length-append (omega arith) in
    let first : q ≡ take at o ++ (take body_bytes s ++ drop (at + body_bytes) o) = rw (take_at body check body_bytes B, ← B) Q in
    let second : check ≡ take check_bytes (drop body_bytes s) = rw (drop_at body check body_bytes B, take_all 8 check (omega arith)) in
    rw (← C, ← take_all block_bytes s (omega arith)) (copied_more o s at body_bytes 8 (omega arith) (omega arith) q check r first second L R)

-- ---- one block more

abbrev block : List ℕ → List ℕ
block body = body ++ body_check body

-- the blocks from the k-th on are made of the bodies in b, and what is before and behind them is as it was
abbrev pub sealed_from : ℕ → ℕ → List ℕ → List ℕ
sealed_from k n b = take (block_bytes * k) b ++ (sealed (n - k) (drop (body_bytes * k) b) ++ drop (block_bytes * n) b)

pub none_sealed : (n : ℕ) (b : List ℕ) → b ≡ sealed_from n n b
unfolding sealed
none_sealed n b = let e : n - n ≡ 0 = omega arith in rw e (sym (take-append-drop (block_bytes * n) b))

pub all_sealed : (n : ℕ) (b : List ℕ) → sealed_from 0 n b ≡ sealed n b ++ drop (block_bytes * n) b
all_sealed n b = let e : n - 0 ≡ n = omega arith in rw e

sealed_step : (k n : ℕ) (b : List ℕ) → k < n
    → sealed (n - k) (drop (body_bytes * k) b)
    ≡ block (take body_bytes (drop (body_bytes * k) b)) ++ sealed (n - (k + 1)) (drop (body_bytes * (k + 1)) b)
unfolding sealed
sealed_step k n b h =
    let e : n - k ≡ suc (n - (k + 1)) = omega arith in
    let f : body_bytes * k + body_bytes ≡ body_bytes * (k + 1) = omega arith in
    rw (e, drop-drop body_bytes (body_bytes * k) b, f)

pub one_sealed : (k n : ℕ) (b o r : List ℕ) → k < n → block_bytes * n ≤ length b → o ≡ sealed_from (k + 1) n b
    → r ≡ take (block_bytes * k) o ++ (block (take body_bytes (drop (body_bytes * k) o)) ++ drop (block_bytes * k + block_bytes) o)
    → r ≡ sealed_from k n b
one_sealed k n b o r h l O R =
    let ys : List ℕ = sealed (n - (k + 1)) (drop (body_bytes * (k + 1)) b) ++ drop (block_bytes * n) b in
    let w : length (take (block_bytes * (k + 1)) b) ≡ block_bytes * (k + 1) = length-take-le (block_bytes * (k + 1)) b (omega arith) in
    let front : take (block_bytes * k) o ≡ take (block_bytes * k) b
    = ap (take (block_bytes * k)) O ∙ part_front 0 (block_bytes * k) (block_bytes * (k + 1)) b ys (omega arith) (omega arith) in
    let body : take body_bytes (drop (body_bytes * k) o) ≡ take body_bytes (drop (body_bytes * k) b)
    = ap (λ (s : List ℕ). take body_bytes (drop (body_bytes * k) s)) O
    ∙ part_front (body_bytes * k) body_bytes (block_bytes * (k + 1)) b ys (omega arith) (omega arith) in
    let back : drop (block_bytes * k + block_bytes) o ≡ ys =
    ap (drop (block_bytes * k + block_bytes)) O ∙ drop_at (take (block_bytes * (k + 1)) b) ys (block_bytes * k + block_bytes) (omega arith) in
    R ∙ rw (front, body, back, sealed_step k n b h, append_assoc (block (take body_bytes (drop (body_bytes * k) b))))
