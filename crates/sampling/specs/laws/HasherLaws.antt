-- Laws of a hasher. For a caller that hashes strings one after the other, `absorbed_none`, `absorbed_twice` and `absorbed_hashes` suffice,
-- with no definition opened; the others are for the hasher's own functions.
use Rattle.std.specs.Prelude.{◌≡◌, ℕ, zero, suc, ◌+◌, ◌-◌, ◌*◌, ◌/◌, ◌%◌, ◌^◌, ◌<◌, ◌≤◌, Bool, true, false, cond, List, [], ◌∷◌, ◌++◌, length, take, drop, replicate, ◌==◌, slice_index, slice_set}
use Rattle.std.proofs.Math.Path.{refl}
use Rattle.std.proofs.Common.{sym, ap, ◌∙◌, append-nil, append_assoc, add-zero, eq-eqb, ne_eqb, le-leb, length-append, length-drop, length-set, take-append-drop, drop_of_length-le, take-add, length-take-le, get_or-take, get_or-drop}
use Rattle.std.proofs.Math.Decide.{dec_le}
use native.Mathlib.Omega.{arith}
use Rattle.std.proofs.lemmas.Bool.{lt-leb}
use Rattle.std.proofs.lemmas.List.Edits.{sets, sets-eq}
use Rattle.std.proofs.Math.Seq.{take-length}
use Rattle.sampling.specs.core.Fips180.{words, block, compressed, hash_value, padding, padded, digest_of, sha256}
use Rattle.sampling.specs.core.Hash.{hashed}
use Rattle.sampling.specs.laws.HashLaws.{padding_size, padded_whole, from_first, hashed_within, hashed_over}
use Rattle.sampling.specs.inner.LastBlocksInner.{hash_value_from}
use Rattle.sampling.specs.later.Hasher.{new_hasher, absorb_byte, absorb_bytes, too_long, absorbed, finished, absorbed_all}
use Rattle.sampling.specs.later.Hasher.{all_strings, HasherHashes}
use Rattle.sampling.specs.declared.sha256.Hasher.{Hasher}

-- ---- bytes, one after the other

pub absorb_bytes_append : (h : Hasher) (a b : List ℕ) → absorb_bytes h (a ++ b) ≡ absorb_bytes (absorb_bytes h a) b
unfolding absorb_bytes
absorb_bytes_append h [] b = refl
absorb_bytes_append h (x ∷ a) b = absorb_bytes_append (absorb_byte h x) a b

pub absorb_bytes_len : (h : Hasher) (s : List ℕ) → (absorb_bytes h s).len ≡ h.len + length s
unfolding absorb_bytes absorb_byte
absorb_bytes_len h [] = omega arith
absorb_bytes_len h (b ∷ s) = absorb_bytes_len (absorb_byte h b) s ∙ omega arith

byte_size : (h : Hasher) (b : ℕ) → length h.block ≡ 64 → length (absorb_byte h b).block ≡ 64
unfolding absorb_byte
byte_size h b e = go (h.len % 64 == 63)
  where
    go : (t : Bool) → length (cond t (replicate 64 0) (slice_set h.block (h.len % 64) b)) ≡ 64
    go true = refl
    go false = length-set h.block (h.len % 64) b ∙ e

-- a block stays one of 64 bytes
size : (h : Hasher) (s : List ℕ) → length h.block ≡ 64 → length (absorb_bytes h s).block ≡ 64
unfolding absorb_bytes
size h [] e = e
size h (b ∷ s) e = size (absorb_byte h b) s (byte_size h b e)

-- ---- a string that ends within the block that is being filled, or with it

-- a byte that isn't the block's last
abbrev with_byte : Hasher → ℕ → Hasher
with_byte h b = record { state = h.state; block = slice_set h.block (h.len % 64) b; len = h.len + 1 }

one_byte : (h : Hasher) (b : ℕ) (s : List ℕ) → h.len % 64 < 63 → absorb_bytes h (b ∷ s) ≡ absorb_bytes (with_byte h b) s
unfolding absorb_bytes absorb_byte
one_byte h b s lt = rw (ne_eqb (h.len % 64) 63 (λ e. omega arith))

module _ (h : Hasher) where
  next_place : h.len % 64 < 63 → (h.len + 1) % 64 ≡ suc (h.len % 64)
  next_place lt = omega arith

  one_longer : (n : ℕ) → h.len + 1 + n ≡ h.len + suc n
  one_longer n = omega arith

pub within_block : (h : Hasher) (s : List ℕ) → h.len % 64 + length s < 64
    → absorb_bytes h s ≡ record { state = h.state; block = sets h.block (h.len % 64) s; len = h.len + length s }
unfolding absorb_bytes
within_block h [] lt = rw (add-zero h.len)
within_block h (b ∷ s) lt =
    one_byte h b s (omega arith)
    ∙ within_block (with_byte h b) s (omega arith)
    ∙ rw (next_place h (omega arith), one_longer h (length s))

pub fills_block : (h : Hasher) (s : List ℕ) → h.len % 64 + length s ≡ 64
    → absorb_bytes h s
    ≡ record { state = compressed h.state (block (sets h.block (h.len % 64) s) 0); block = replicate 64 0; len = h.len + length s }
unfolding absorb_bytes absorb_byte
fills_block h [] e = absurd (omega arith)
fills_block h (b ∷ []) e = rw (eq-eqb (h.len % 64) 63 (omega arith))
fills_block h (b ∷ (b₂ ∷ s)) e =
    one_byte h b (b₂ ∷ s) (omega arith)
    ∙ fills_block (with_byte h b) (b₂ ∷ s) (omega arith)
    ∙ rw (next_place h (omega arith), one_longer h (suc (length s)))

-- ---- whole blocks

-- a block is its own 64 bytes
own_byte : (s : List ℕ) (o i j : ℕ) → i < 64 → j ≡ o + i → slice_index (take 64 (drop o s)) i ≡ slice_index s j
own_byte s o i j lt e = rw (get_or-take 64 (drop o s) i 0 lt, get_or-drop o s i 0, e)

own_words : (s : List ℕ) (o n : ℕ) → n ≤ 16 → words (take 64 (drop o s)) 0 n ≡ words s o n
unfolding words
own_words s o zero le = refl
own_words s o (suc n) le =
    rw (
      own_words s o n (omega arith),
      own_byte s o (0 + 4 * n) (o + 4 * n) (omega arith) (omega arith),
      own_byte s o (0 + 4 * n + 1) (o + 4 * n + 1) (omega arith) (omega arith),
      own_byte s o (0 + 4 * n + 2) (o + 4 * n + 2) (omega arith) (omega arith),
      own_byte s o (0 + 4 * n + 3) (o + 4 * n + 3) (omega arith) (omega arith),
    )

-- 64 bytes take the place of all that the block held
all_set : (b x : List ℕ) → length b ≡ 64 → length x ≡ 64 → sets b 0 x ≡ x
all_set b x l k = sets-eq x b 0 (omega arith) ∙ rw (drop_of_length-le b {i = 0 + length x} (omega arith), append-nil x)

module _ (h : Hasher) (s : List ℕ) (l : length h.block ≡ 64) (z : h.len % 64 ≡ 0) where
  -- o bytes of s are absorbed, and then the block at o is
  pub one_block : (o : ℕ) → o % 64 ≡ 0 → o + 64 ≤ length s
      → absorb_bytes h (take (o + 64) s)
      ≡ record { state = compressed (absorb_bytes h (take o s)).state (block s o); block = replicate 64 0; len = h.len + (o + 64) }
  one_block o y le =
      let g : Hasher = absorb_bytes h (take o s) in
      let x : List ℕ = take 64 (drop o s) in
      let n : length x ≡ 64 = length-take-le 64 (drop o s) (omega (arith, length-drop o s)) in
      let c : g.len ≡ h.len + o = absorb_bytes_len h (take o s) ∙ rw (length-take-le o s (omega arith)) in
      let a : g.len % 64 ≡ 0 = omega arith in
      let e : g.len + length x ≡ h.len + (o + 64) = omega arith in
      rw (
        take-add o 64 s,
        absorb_bytes_append h (take o s) x,
        fills_block g x (omega arith),
        a,
        e,
        all_set g.block x (size h (take o s) l) n,
        own_words s o 16 (omega arith),
      )

  -- after one block at least, the block is zeros
  pub whole_blocks : length s % 64 ≡ 0 → 0 < length s
      → absorb_bytes h s ≡ record { state = (absorb_bytes h s).state; block = replicate 64 0; len = h.len + length s }
  whole_blocks y lt =
      let e : length s - 64 + 64 ≡ length s = omega arith in
      rw (rw (e, take-length s) at (one_block (length s - 64) (omega arith) (omega arith)))

  -- the hash value after the first k blocks of s
  after_blocks : (k : ℕ) → 64 * k ≤ length s → (absorb_bytes h (take (64 * k) s)).state ≡ hash_value_from h.state s k
  unfolding absorb_bytes hash_value_from
  after_blocks zero le = refl
  after_blocks (suc k) le =
      let e : 64 * suc k ≡ 64 * k + 64 = omega arith in
      rw (e, one_block (64 * k) (omega arith) (omega arith), after_blocks k (omega arith))

  -- and after all of them
  pub all_blocks : length s % 64 ≡ 0 → (absorb_bytes h s).state ≡ hash_value_from h.state s (length s / 64)
  all_blocks y =
      let e : 64 * (length s / 64) ≡ length s = omega arith in
      rw (e, take-length s) at (after_blocks (length s / 64) (omega arith))

-- ---- document 01's limit

pub absorbed_within : (h : Hasher) (s : List ℕ) → h.len + length s ≤ 2 ^ 29 → absorbed h s ≡ absorb_bytes h s
unfolding absorbed
absorbed_within h s le = rw (le-leb (h.len + length s) (2 ^ 29) le)

pub absorbed_over : (h : Hasher) (s : List ℕ) → 2 ^ 29 < h.len + length s → absorbed h s ≡ too_long
unfolding absorbed
absorbed_over h s lt = rw (lt-leb (h.len + length s) (2 ^ 29) lt)

pub finished_within : (h : Hasher) → h.len ≤ 2 ^ 29 → finished h ≡ (0, digest_of (absorb_bytes h (padding h.len)).state)
unfolding finished
finished_within h le = rw (le-leb h.len (2 ^ 29) le)

pub finished_over : (h : Hasher) → 2 ^ 29 < h.len → finished h ≡ (9, replicate 32 0)
unfolding finished
finished_over h lt = rw (lt-leb h.len (2 ^ 29) lt)

-- past the limit a hasher stays
too_long_stays : (s : List ℕ) → absorbed too_long s ≡ too_long
unfolding too_long
too_long_stays s = absorbed_over too_long s (omega arith)

-- ---- the last blocks

-- a hasher as it was where its block began
abbrev at_block : Hasher → Hasher
at_block h = record { state = h.state; block = h.block; len = h.len - h.len % 64 }

-- the bytes that the block holds lead from there to the hasher again
back_again : (h : Hasher) → length h.block ≡ 64 → absorb_bytes (at_block h) (take (h.len % 64) h.block) ≡ h
back_again h l =
    let n : ℕ = h.len % 64 in
    let t : List ℕ = take n h.block in
    let size : length t ≡ n = length-take-le n h.block (omega arith) in
    let z : (h.len - n) % 64 ≡ 0 = omega arith in
    let e : h.len - n + length t ≡ h.len = omega arith in
    let read : 0 + length t ≡ n = omega arith in
    let same : sets h.block 0 t ≡ h.block = sets-eq t h.block 0 (omega arith) ∙ rw read (take-append-drop n h.block) in
    within_block (at_block h) t (omega arith) ∙ rw (z, e, same)

-- what is left of a message is whole blocks with its padding: the bytes of the block that is being filled come first
pub finished_in_blocks : (h : Hasher) → length h.block ≡ 64 → h.len ≤ 2 ^ 29
    → finished h ≡ (0, digest_of (hash_value_from h.state (take (h.len % 64) h.block ++ padding h.len) ((h.len % 64 + 72) / 64)))
finished_in_blocks h l le =
    let t : List ℕ = take (h.len % 64) h.block in
    let p : List ℕ = padding h.len in
    let size : length t ≡ h.len % 64 = length-take-le (h.len % 64) h.block (omega arith) in
    let whole : length (t ++ p) ≡ (h.len % 64 + 72) / 64 * 64 = length-append t p ∙ omega (arith, padding_size h.len) in
    let k : length (t ++ p) / 64 ≡ (h.len % 64 + 72) / 64 = omega arith in
    let again : absorb_bytes h p ≡ absorb_bytes (at_block h) (t ++ p) = rw (absorb_bytes_append (at_block h) t p, back_again h l) in
    finished_within h le ∙ rw (again, all_blocks (at_block h) (t ++ p) l (omega arith) (omega arith), k)

-- ---- for callers

-- nothing absorbed is the empty string absorbed
pub absorbed_none : absorbed new_hasher [] ≡ new_hasher
unfolding absorbed absorb_bytes new_hasher
absorbed_none = refl

-- two strings one after the other are the two joined
pub absorbed_twice : (h : Hasher) (a b : List ℕ) → absorbed (absorbed h a) b ≡ absorbed h (a ++ b)
absorbed_twice h a b = go (dec_le (h.len + length a) (2 ^ 29)) (dec_le (h.len + length (a ++ b)) (2 ^ 29))
  where
    n : length (a ++ b) ≡ length a + length b
    n = length-append a b

    c : (absorb_bytes h a).len ≡ h.len + length a
    c = absorb_bytes_len h a

    go : Dec (h.len + length a ≤ 2 ^ 29) → Dec (h.len + length (a ++ b) ≤ 2 ^ 29) → absorbed (absorbed h a) b ≡ absorbed h (a ++ b)
    go (yes p) (yes q) =
        rw (
          absorbed_within h a p,
          absorbed_within (absorb_bytes h a) b (omega (arith, n, c)),
          absorbed_within h (a ++ b) q,
          absorb_bytes_append h a b,
        )
    go (yes p) (no q) =
        rw (absorbed_within h a p, absorbed_over (absorb_bytes h a) b (omega (arith, n, c)), absorbed_over h (a ++ b) (omega arith))
    go (no p) _ = rw (absorbed_over h a (omega arith), absorbed_over h (a ++ b) (omega (arith, n)), too_long_stays b)

-- after the message with its padding
after_padding : (m : List ℕ) (n : ℕ) → n ≡ length m
    → (absorb_bytes (absorb_bytes new_hasher m) (padding n)).state ≡ hash_value (padded m) (length (padded m) / 64)
unfolding padded new_hasher
after_padding m n p =
    rw (p, ← absorb_bytes_append new_hasher m (padding (length m)), from_first (padded m) (length (padded m) / 64))
    (all_blocks new_hasher (padded m) refl refl (padded_whole m))

-- all that was absorbed is hashed
pub absorbed_hashes : (m : List ℕ) → finished (absorbed new_hasher m) ≡ hashed m
unfolding new_hasher sha256 too_long
absorbed_hashes m = go (dec_le (length m) (2 ^ 29))
  where
    c : (absorb_bytes new_hasher m).len ≡ length m
    c = absorb_bytes_len new_hasher m ∙ omega arith

    go : Dec (length m ≤ 2 ^ 29) → finished (absorbed new_hasher m) ≡ hashed m
    go (yes p) =
        rw (
          absorbed_within new_hasher m (omega arith),
          finished_within (absorb_bytes new_hasher m) (omega (arith, c)),
          after_padding m (absorb_bytes new_hasher m).len c,
          hashed_within m p,
        )
    go (no p) = rw (absorbed_over new_hasher m (omega arith), finished_over too_long (omega arith), hashed_over m (omega arith))

-- ---- strings one after the other

absorbed_each : (h : Hasher) (m : List ℕ) (ss : List (List ℕ)) → absorbed_all (absorbed h m) ss ≡ absorbed h (m ++ all_strings ss)
unfolding absorbed_all all_strings
absorbed_each h m [] = ap (absorbed h) (sym (append-nil m))
absorbed_each h m (s ∷ ss) =
    ap (λ (g : Hasher). absorbed_all g ss) (absorbed_twice h m s) ∙ absorbed_each h (m ++ s) ss
    ∙ ap (absorbed h) (append_assoc m s (all_strings ss))

pub hasher_hashes : HasherHashes
hasher_hashes ss =
    ap (λ (g : Hasher). finished (absorbed_all g ss)) (sym absorbed_none) ∙ ap finished (absorbed_each new_hasher [] ss)
    ∙ absorbed_hashes (all_strings ss)
