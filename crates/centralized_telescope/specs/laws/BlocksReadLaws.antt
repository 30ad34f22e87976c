-- Laws of blocks as they are read: where a part of the joined bodies stands among the blocks.
use Rattle.std.specs.Prelude.{◌≡◌, ℕ, zero, suc, ◌+◌, ◌-◌, ◌*◌, ◌/◌, ◌%◌, ◌<◌, ◌≤◌, List, ◌++◌, length, take, drop}
use Rattle.std.proofs.Common.{sym, ap, ◌∙◌, ⊎_elim, arith, length-drop, take-append-drop, length-take-le, drop-drop}
use Rattle.std.proofs.lemmas.List.{take-append-le, drop-append-le}
use Rattle.std.proofs.Math.Seq.{drop-append-add}
use Rattle.centralized_telescope.specs.later.Blocks.{bodies, block_bytes, body_bytes}
use Rattle.centralized_telescope.specs.laws.TestLaws.{lt_or_le}

-- ---- a part of the first m of a list, whatever stands behind them

part_before : (at n : ℕ) (xs ys : List ℕ) → at + n ≤ length xs → take n (drop at (xs ++ ys)) ≡ take n (drop at xs)
part_before at n xs ys h =
    rw (drop-append-le at xs ys (omega arith)) (take-append-le n (drop at xs) ys (omega (arith, length-drop at xs)))

pub part_front : (at n m : ℕ) (t ys : List ℕ) → at + n ≤ m → m ≤ length t → take n (drop at (take m t ++ ys)) ≡ take n (drop at t)
part_front at n m t ys h l =
    let w : at + n ≤ length (take m t) = omega (arith, length-take-le m t l) in
    part_before at n (take m t) ys w
    ∙ sym (part_before at n (take m t) (drop m t) w)
    ∙ ap (λ (s : List ℕ). take n (drop at s)) (take-append-drop m t)

-- ---- a part of the joined bodies that lies within one body

-- where the byte at an offset of the joined bodies stands among the blocks
abbrev pub block_offset : ℕ → ℕ
block_offset at = at / body_bytes * block_bytes + at % body_bytes

module _ (at n : ℕ) (t ys : List ℕ) (l : body_bytes ≤ length t) where
  in_first : at < body_bytes → at + n ≤ body_bytes → take n (drop (block_offset at) t) ≡ take n (drop at (take body_bytes t ++ ys))
  in_first s h = let e : block_offset at ≡ at = omega arith in rw e (sym (part_front at n body_bytes t ys h l))

  behind_first_lem : body_bytes ≤ at → take n (drop (block_offset (at - body_bytes)) (drop block_bytes t)) ≡ take n (drop (at - body_bytes) ys)
      → take n (drop (block_offset at) t) ≡ take n (drop at (take body_bytes t ++ ys))
  behind_first_lem h e =
      let q : block_offset at ≡ block_bytes + block_offset (at - body_bytes) = omega arith in
      let f : length (take body_bytes t) + (at - body_bytes) ≡ at = omega (arith, length-take-le body_bytes t l) in
      let d : drop at (take body_bytes t ++ ys) ≡ drop (at - body_bytes) ys =
      rw f at (drop-append-add (take body_bytes t) ys (at - body_bytes)) in
      rw (q, ← drop-drop (block_offset (at - body_bytes)) block_bytes t, d) e

pub body_part : (N at n : ℕ) (t : List ℕ) → at % body_bytes + n ≤ body_bytes → at + n ≤ body_bytes * N → block_bytes * N ≤ length t
    → take n (drop (block_offset at) t) ≡ take n (drop at (bodies N t))
unfolding bodies
body_part zero at n t h k l = let e : n ≡ 0 = omega arith in rw e
body_part (suc N) at n t h k l =
    let rest : body_bytes ≤ at
    → take n (drop (block_offset (at - body_bytes)) (drop block_bytes t)) ≡ take n (drop (at - body_bytes) (bodies N (drop block_bytes t)))
    = λ s. body_part N (at - body_bytes) n (drop block_bytes t) (omega arith) (omega arith) (omega (arith, length-drop block_bytes t)) in
    ⊎_elim
    (λ s. in_first at n t (bodies N (drop block_bytes t)) (omega arith) s (omega arith))
    (λ s. behind_first_lem at n t (bodies N (drop block_bytes t)) (omega arith) s (rest s))
    (lt_or_le at body_bytes)
