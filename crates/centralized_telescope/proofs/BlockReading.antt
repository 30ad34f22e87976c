-- Reading blocks: what the checks of all blocks say, and one part more of the bodies copied.
use Rattle.std.proofs.Common.{◌≡◌, ℕ, zero, suc, refl, ap, ◌+◌, ◌-◌, ◌*◌, ◌/◌, ◌%◌, ◌≤◌, Bool, ◌&&◌, List, length, take, drop, ◌∙◌, arith, length-drop, drop-drop}
use Rattle.std.specs.List.{list_all, range_with_len}
use Rattle.centralized_telescope.specs.later.Words.{same_bytes}
use Rattle.centralized_telescope.specs.later.Blocks.{body_check, bodies, checks_hold, body_bytes, block_bytes, check_bytes}
use Rattle.centralized_telescope.specs.laws.BlocksLaws.{length_bodies}
use Rattle.centralized_telescope.specs.laws.BlocksReadLaws.{block_offset, body_part}
use Rattle.centralized_telescope.proofs.BlockWriting.{part, part_taken}

-- ---- the check of each block

-- the first block of a string has the check of its body
abbrev pub check_holds : List ℕ → Bool
check_holds t = same_bytes (body_check (take body_bytes t)) (take check_bytes (drop body_bytes t))

pub check_read : (at : ℕ) (t check : List ℕ) (r : Bool) → check ≡ body_check (part at body_bytes t)
    → r ≡ same_bytes check (take (at + block_bytes - (at + body_bytes)) (drop (at + body_bytes) t))
    → r ≡ check_holds (drop at t)
check_read at t check r C R =
    let e : at + block_bytes - (at + body_bytes) ≡ 8 = omega arith in R ∙ rw (C, part_taken at body_bytes t, e, drop-drop body_bytes at t)

pub checks_from : (n k : ℕ) (t : List ℕ) → list_all (λ i. check_holds (drop (block_bytes * i) t)) (range_with_len k n) ≡ checks_hold n (drop (block_bytes * k) t)
unfolding checks_hold
checks_from zero k t = refl
checks_from (suc n) k t =
    let f : block_bytes * (k + 1) ≡ block_bytes * k + block_bytes = omega arith in
    ap (λ (r : Bool). check_holds (drop (block_bytes * k) t) && r)
    (checks_from n (k + 1) t ∙ rw (f, drop-drop block_bytes (block_bytes * k) t))

-- ---- the part of a turn: what one body has of the rest

module _ (t : List ℕ) (at len k n : ℕ) (h : at + len ≤ body_bytes * (length t / block_bytes)) (l : (at + k) % body_bytes + n ≤ body_bytes)
    (m : k + n ≤ len) where
  pub part_is : part (block_offset (at + k)) n t ≡ take n (drop k (drop at (bodies (length t / block_bytes) t)))
  part_is =
      part_taken (block_offset (at + k)) n t
      ∙ rw (drop-drop k at (bodies (length t / block_bytes) t))
      (body_part (length t / block_bytes) (at + k) n t l (omega arith) (omega arith))

  pub bodies_long : k + n ≤ length (drop at (bodies (length t / block_bytes) t))
  bodies_long = omega (arith, length-drop at (bodies (length t / block_bytes) t), length_bodies (length t / block_bytes) t (omega arith))
