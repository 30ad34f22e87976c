-- Laws of blocks: bodies that are sealed come back, and blocks whose checks hold are their bodies, sealed.
use Rattle.std.specs.Prelude.{◌≡◌, ℕ, zero, suc, ◌-◌, ◌*◌, ◌/◌, ◌%◌, ◌≤◌, true, false, not, List, [], ◌∷◌, ◌++◌, length, take, drop, replicate, ◌==◌, refl}
use Rattle.std.proofs.Common.{append_assoc, arith, eqb-true, length-append, length-take, length-drop, take-append-drop, take_at, drop_at, take-add, length-take-le}
use Rattle.std.proofs.lemmas.Bool.{not-false}
use Rattle.std.proofs.lemmas.List.{length-replicate, take-append-le, drop-append-le}
use Rattle.sampling.specs.laws.HashLaws.{length_sha256}
use Rattle.centralized_telescope.specs.laws.TestLaws.{both, neither}
use Rattle.centralized_telescope.specs.laws.BytesLaws.{Bytes, bytes_take, bytes_drop, bytes_append}
use Rattle.centralized_telescope.specs.laws.DistinctLaws.{bytes_same, same_bytes_lem}
use Rattle.centralized_telescope.specs.later.Words.{same_bytes}
use Rattle.centralized_telescope.specs.later.Blocks.{body_check, block_count, filled, sealed, blocks, bodies, bodies_of, checks_hold}
use Rattle.centralized_telescope.specs.later.Blocks.{damaged, block_bytes, body_bytes, check_bytes, with_check}

pub length_check : (body : List ℕ) → length (body_check body) ≡ 8
unfolding body_check
length_check body = simp (length-take, length_sha256)

-- ---- bodies taken from blocks

pub length_bodies : (n : ℕ) (t : List ℕ) → block_bytes * n ≤ length t → length (bodies n t) ≡ body_bytes * n
unfolding bodies
length_bodies zero t h = refl
length_bodies (suc n) t h =
    let r = length_bodies n (drop block_bytes t) (omega (arith, length-drop block_bytes t)) in
    omega (arith, length-append (take body_bytes t) (bodies n (drop block_bytes t)), length-take-le body_bytes t (omega arith))

pub bodies_bytes : (n : ℕ) (t : List ℕ) → Bytes t → Bytes (bodies n t)
unfolding bodies
bodies_bytes zero t B = λ i. omega arith
bodies_bytes (suc n) t B =
    bytes_append (take body_bytes t) (bodies n (drop block_bytes t)) (bytes_take body_bytes t B)
    (bodies_bytes n (drop block_bytes t) (bytes_drop block_bytes t B))

-- ---- bodies sealed

block_length : (b : List ℕ) → body_bytes ≤ length b → length (with_check (take body_bytes b)) ≡ block_bytes
block_length b h =
    omega (
      arith,
      length-append (take body_bytes b) (body_check (take body_bytes b)),
      length-take-le body_bytes b h,
      length_check (take body_bytes b),
    )

pub length_sealed : (n : ℕ) (b : List ℕ) → body_bytes * n ≤ length b → length (sealed n b) ≡ block_bytes * n
unfolding sealed
length_sealed zero b h = refl
length_sealed (suc n) b h =
    let r = length_sealed n (drop body_bytes b) (omega (arith, length-drop body_bytes b)) in
    omega (arith, length-append (with_check (take body_bytes b)) (sealed n (drop body_bytes b)), block_length b (omega arith))

-- what lies behind n bodies isn't looked at
pub sealed_front : (n : ℕ) (b rest : List ℕ) → length b ≡ body_bytes * n → sealed n (b ++ rest) ≡ sealed n b
unfolding sealed
sealed_front zero b rest e = refl
sealed_front (suc n) b rest e =
    rw (
      take-append-le body_bytes b rest (omega arith),
      drop-append-le body_bytes b rest (omega arith),
      sealed_front n (drop body_bytes b) rest (omega (arith, length-drop body_bytes b)),
    )

module _ (b : List ℕ) (h : body_bytes ≤ length b) (rest : List ℕ) where
  abbrev block : List ℕ
  block = with_check (take body_bytes b)

  body_there : take body_bytes (block ++ rest) ≡ take body_bytes b
  body_there =
      rw (append_assoc (take body_bytes b) (body_check (take body_bytes b)) rest)
      (take_at (take body_bytes b) (body_check (take body_bytes b) ++ rest) body_bytes (length-take-le body_bytes b h))

  check_there : take check_bytes (drop body_bytes (block ++ rest)) ≡ body_check (take body_bytes b)
  check_there =
      rw (
        append_assoc (take body_bytes b) (body_check (take body_bytes b)) rest,
        drop_at (take body_bytes b) (body_check (take body_bytes b) ++ rest) body_bytes (length-take-le body_bytes b h),
      )
      (take_at (body_check (take body_bytes b)) rest check_bytes (length_check (take body_bytes b)))

  rest_there : drop block_bytes (block ++ rest) ≡ rest
  rest_there = drop_at block rest block_bytes (block_length b h)

pub bodies_sealed : (n : ℕ) (b : List ℕ) → length b ≡ body_bytes * n → bodies n (sealed n b) ≡ b
unfolding bodies sealed
bodies_sealed zero [] e = refl
bodies_sealed zero (x ∷ b) e = absurd (omega arith)
bodies_sealed (suc n) b e =
    let rest : List ℕ = sealed n (drop body_bytes b) in
    rw (
      body_there b (omega arith) rest,
      rest_there b (omega arith) rest,
      bodies_sealed n (drop body_bytes b) (omega (arith, length-drop body_bytes b)),
    )
    (take-append-drop body_bytes b)

pub checks_sealed : (n : ℕ) (b : List ℕ) → body_bytes * n ≤ length b → checks_hold n (sealed n b) ≡ true
unfolding checks_hold sealed
checks_sealed zero b h = refl
checks_sealed (suc n) b h =
    let rest : List ℕ = sealed n (drop body_bytes b) in
    rw (
      body_there b (omega arith) rest,
      check_there b (omega arith) rest,
      bytes_same (body_check (take body_bytes b)),
      rest_there b (omega arith) rest,
    )
    (checks_sealed n (drop body_bytes b) (omega (arith, length-drop body_bytes b)))

pub sealed_bodies : (n : ℕ) (t : List ℕ) → length t ≡ block_bytes * n → checks_hold n t ≡ true → sealed n (bodies n t) ≡ t
unfolding checks_hold sealed bodies
sealed_bodies zero [] l e = refl
sealed_bodies zero (x ∷ t) l e = absurd (omega arith)
sealed_bodies (suc n) t l e =
    let h = both (same_bytes (body_check (take body_bytes t)) (take check_bytes (drop body_bytes t))) e in
    let k : length (take body_bytes t) ≡ body_bytes = length-take-le body_bytes t (omega arith) in
    rw (
      take_at (take body_bytes t) (bodies n (drop block_bytes t)) body_bytes k,
      drop_at (take body_bytes t) (bodies n (drop block_bytes t)) body_bytes k,
      same_bytes_lem (body_check (take body_bytes t)) (take check_bytes (drop body_bytes t)) h.0,
      sealed_bodies n (drop block_bytes t) (omega (arith, length-drop block_bytes t)) h.1,
      ← take-add body_bytes check_bytes t,
    )
    (take-append-drop block_bytes t)

-- ---- a string as blocks

pub length_filled : (s : List ℕ) → length (filled s) ≡ body_bytes * block_count (length s)
unfolding filled
length_filled s =
    let k : ℕ = body_bytes * block_count (length s) - length s in
    omega (arith, length-append s (replicate k 0), length-replicate {A = ℕ} k 0)

pub length_blocks : (s : List ℕ) → length (blocks s) ≡ block_bytes * block_count (length s)
unfolding blocks
length_blocks s = length_sealed (block_count (length s)) (filled s) (omega (arith, length_filled s))

pub count_blocks : (s : List ℕ) → length (blocks s) / block_bytes ≡ block_count (length s)
count_blocks s = omega (arith, length_blocks s)

pub bodies_blocks : (s : List ℕ) → bodies_of (blocks s) ≡ filled s
unfolding blocks
bodies_blocks s = rw (count_blocks s) (bodies_sealed (block_count (length s)) (filled s) (length_filled s))

checks_blocks : (s : List ℕ) → checks_hold (length (blocks s) / block_bytes) (blocks s) ≡ true
unfolding blocks
checks_blocks s = rw (count_blocks s) (checks_sealed (block_count (length s)) (filled s) (omega (arith, length_filled s)))

-- ---- damage

-- whole blocks, with every check
pub record Whole (t : List ℕ) : Type 0 where
  pub size : length t ≡ block_bytes * (length t / block_bytes)
  pub checks : checks_hold (length t / block_bytes) t ≡ true

pub undamaged : (t : List ℕ) → damaged t ≡ false → Whole t
unfolding damaged
undamaged t e =
    let h = neither (not (length t % block_bytes == 0)) e in
    let m : length t % block_bytes ≡ 0 = eqb-true (length t % block_bytes) 0 (not-false _ h.0) in
    record { size = omega arith; checks = not-false _ h.1 }

pub blocks_undamaged : (s : List ℕ) → damaged (blocks s) ≡ false
unfolding damaged
blocks_undamaged s =
    let l = length_blocks s in
    let m : length (blocks s) % block_bytes ≡ 0 = omega arith in
    rw (m, checks_blocks s)
