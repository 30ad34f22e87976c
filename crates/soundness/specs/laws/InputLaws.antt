-- The strings that are hashed: they are of bytes, none is longer than `longest`, and those of different kinds differ.
use Rattle.std.specs.Prelude.{◌≡◌, refl, false, List, [], ◌∷◌, ◌++◌, ℕ, zero, suc, ◌+◌, ◌*◌, ◌/◌, ◌%◌, ◌^◌, ◌≤◌, ◌<◌, leb, length, take, drop, get_or}
use Rattle.std.proofs.Common.{sym, ◌∙◌, ap, le_trans, le_of_eq, mod-lt, pow-suc, arith, leb-false, length-append, take_at, drop_at}
use Rattle.std.proofs.Math.Option.{Option, none, some}
use Rattle.std.proofs.Math.Nat.{mod-one, pow-zero, one-le-pow}
use Rattle.std.proofs.Math.Arith.{mod-mul}
use Rattle.sampling.specs.core.BigEndian.{bytes_of}
use Rattle.sampling.specs.laws.BigEndianLaws.{length_bytes_of}
use Rattle.centralized_telescope.specs.core.Lists.{Each, some_of}
use Rattle.centralized_telescope.specs.core.Elements.{Element, index_bytes, tail}
use Rattle.centralized_telescope.specs.core.Rounds.{round_label, bin_label, proof_label}
use Rattle.centralized_telescope.specs.laws.TestLaws.{neither}
use Rattle.centralized_telescope.specs.laws.ListsLaws.{each_nil}
use Rattle.soundness.specs.AnyHash.{start_input, next_input, bin_input, last_input}
use Rattle.soundness.specs.Functions.{OfBytes}
use Rattle.soundness.specs.Green.{IsElement, longest}

-- ---- strings of bytes, at most k

abbrev Short : ℕ → List ℕ → Type 0
Short k s = OfBytes s × (length s ≤ k)

bytes_tested : (s : List ℕ) → some_of (leb 256) s ≡ false → OfBytes s
unfolding Each some_of
bytes_tested [] e = tt
bytes_tested (b ∷ s) e = let n = neither (leb 256 b) e in (leb-false 256 b n.0, bytes_tested s n.1)

bytes_joined : (r s : List ℕ) → OfBytes r → OfBytes s → OfBytes (r ++ s)
unfolding Each
bytes_joined [] s R S = S
bytes_joined (b ∷ r) s R S = (R.0, bytes_joined r s R.1 S)

bytes_number : (k v : ℕ) → OfBytes (bytes_of k v)
unfolding Each bytes_of
bytes_number zero v = tt
bytes_number (suc k) v = bytes_joined (bytes_of k (v / 256)) (v % 256 ∷ []) (bytes_number k (v / 256)) (mod-lt v (omega arith), tt)

short_joined : (k l : ℕ) (r s : List ℕ) → Short k r → Short l s → Short (k + l) (r ++ s)
short_joined k l r s R S =
    (bytes_joined r s R.0 S.0, (let a = length-append r s in let b = R.1 in let c = S.1 in omega arith))

short_number : (k v : ℕ) → Short k (bytes_of k v)
short_number k v = (bytes_number k v, le_of_eq (length_bytes_of k v))

index_short : (o : Option ℕ) → length (index_bytes o) ≤ 8
index_short none = omega arith
index_short (some v) = omega (arith, length_bytes_of 8 v)

short_tail : (e : Element) → IsElement e → Short (4096 + 8) (tail e)
unfolding tail
short_tail e i = short_joined 4096 8 e.bytes (index_bytes e.index) i (of_index e.index, index_short e.index)
  where
    of_index : (o : Option ℕ) → OfBytes (index_bytes o)
    of_index none = each_nil (λ b. b < 256)
    of_index (some n) = bytes_number 8 n

round_label_lem : Short 20 round_label
unfolding some_of round_label
round_label_lem = (bytes_tested round_label refl, omega arith)

bin_label_lem : Short 18 bin_label
unfolding some_of bin_label
bin_label_lem = (bytes_tested bin_label refl, omega arith)

proof_label_lem : Short 20 proof_label
unfolding some_of proof_label
proof_label_lem = (bytes_tested proof_label refl, omega arith)

-- ---- each input is a string of a table

pub record Asked (s : List ℕ) : Type 0 where
  pub of_bytes : OfBytes s
  pub short : length s ≤ longest

asked : (k : ℕ) {s : List ℕ} → Short k s → k ≤ longest → Asked s
asked k S l = record { of_bytes = S.0; short = le_trans S.1 l }

pub start_asked : (R S : ℕ) → Asked (start_input R S)
unfolding longest
start_asked R S =
    asked (20 + (8 + 8)) {s = start_input R S}
    (short_joined 20 (8 + 8) round_label _ round_label_lem (short_joined 8 8 _ _ (short_number 8 R) (short_number 8 S))) (omega arith)

pub next_asked : (h : ℕ) (e : Element) → IsElement e → Asked (next_input (bytes_of 32 h) e)
unfolding longest
next_asked h e i =
    asked (20 + (32 + (4096 + 8))) {s = next_input (bytes_of 32 h) e}
    (short_joined 20 (32 + (4096 + 8)) round_label _ round_label_lem (short_joined 32 (4096 + 8) _ _ (short_number 32 h) (short_tail e i)))
    (omega arith)

pub bin_asked : (R : ℕ) (e : Element) → IsElement e → Asked (bin_input R e)
unfolding longest
bin_asked R e i =
    asked (18 + (8 + (4096 + 8))) {s = bin_input R e}
    (short_joined 18 (8 + (4096 + 8)) bin_label _ bin_label_lem (short_joined 8 (4096 + 8) _ _ (short_number 8 R) (short_tail e i)))
    (omega arith)

pub last_asked : (h : ℕ) → Asked (last_input (bytes_of 32 h))
unfolding longest
last_asked h =
    asked (20 + 32) {s = last_input (bytes_of 32 h)} (short_joined 20 32 proof_label _ proof_label_lem (short_number 32 h)) (omega arith)

-- ---- the byte 10, behind `Telescope-`, tells the labels apart

pub round_byte : (s : List ℕ) → (10 < length (round_label ++ s)) × (get_or (round_label ++ s) 10 0 ≡ 114)
unfolding round_label
round_byte s = (omega arith, refl)

pub bin_byte : (s : List ℕ) → (10 < length (bin_label ++ s)) × (get_or (bin_label ++ s) 10 0 ≡ 98)
unfolding bin_label
bin_byte s = (omega arith, refl)

pub last_byte : (s : List ℕ) → (10 < length (proof_label ++ s)) × (get_or (proof_label ++ s) 10 0 ≡ 112)
unfolding proof_label
last_byte s = (omega arith, refl)

-- ---- inputs apart

cut : (n : ℕ) (a b c d : List ℕ) → length a ≡ n → length b ≡ n → a ++ c ≡ b ++ d → (a ≡ b) × (c ≡ d)
cut n a b c d l m e =
    (sym (take_at a c n l) ∙ (ap (take n) e ∙ take_at b d n m), sym (drop_at a c n l) ∙ (ap (drop n) e ∙ drop_at b d n m))

behind : (a c d : List ℕ) → a ++ c ≡ a ++ d → c ≡ d
behind a c d e = (cut (length a) a a c d refl refl e).1

-- the bytes of a number tell its remainder
pub same_remainder : (k v w : ℕ) → bytes_of k v ≡ bytes_of k w → v % 256 ^ k ≡ w % 256 ^ k
unfolding bytes_of
same_remainder zero v w e = rw (pow-zero 256, mod-one v, mod-one w)
same_remainder (suc k) v w e =
    let c = cut k (bytes_of k (v / 256)) (bytes_of k (w / 256)) (v % 256 ∷ []) (w % 256 ∷ []) (length_bytes_of k _) (length_bytes_of k _) e in
    let i = same_remainder k (v / 256) (w / 256) c.0 in
    let b : v % 256 ≡ w % 256 = ap (λ (l : List ℕ). get_or l 0 0) c.1 in
    rw (pow-suc 256 k, split v, split w, i, b)
  where
    split : (x : ℕ) → x % (256 ^ k * 256) ≡ (x / 256 % 256 ^ k) * 256 + x % 256
    split x = mod-mul x {m = 256 ^ k} {c = 256} (one-le-pow k 256 (omega arith)) (omega arith)

pub next_next : (h g : ℕ) (e c : Element) → next_input (bytes_of 32 h) e ≡ next_input (bytes_of 32 g) c → h % 2 ^ 256 ≡ g % 2 ^ 256
next_next h g e c q =
    same_remainder 32 h g
    (cut 32 (bytes_of 32 h) (bytes_of 32 g) (tail e) (tail c) (length_bytes_of 32 h) (length_bytes_of 32 g) (behind round_label _ _ q)).0

pub next_start : (h R S : ℕ) (e : Element) → next_input (bytes_of 32 h) e ≡ start_input R S → ⊥
next_start h R S e q =
    let l = ap length (behind round_label (bytes_of 32 h ++ tail e) (bytes_of 8 R ++ bytes_of 8 S) q) in
    let a = length-append (bytes_of 32 h) (tail e) in
    let b = length-append (bytes_of 8 R) (bytes_of 8 S) in
    let c = length_bytes_of 32 h in
    let d = length_bytes_of 8 R in
    let f = length_bytes_of 8 S in
    omega arith

pub last_other : (r s : List ℕ) → proof_label ++ r ≡ round_label ++ s → ⊥
last_other r s q =
    let z : ◌≡◌ {A = ℕ} 112 114 = sym (last_byte r).1 ∙ (ap (λ (l : List ℕ). get_or l 10 0) q ∙ (round_byte s).1) in
    omega arith
