-- Laws of a string's place: each string of bytes has its own, and its bytes are read from it again.
use Rattle.std.specs.Prelude.{◌≡◌, refl, List, [], ◌∷◌, ℕ, zero, suc, ◌+◌, ◌-◌, ◌*◌, ◌/◌, ◌%◌, ◌≤◌, ◌<◌, length, get_or}
use Rattle.std.proofs.Common.{sym, ◌∙◌, ap, mod-lt, div-lt_iff_lt-mul, div-add-mod', le_of_suc-le-suc, arith}
use Rattle.std.proofs.Math.Arith.{digits_div, digits_mod, digits_lt}
use Rattle.centralized_telescope.specs.core.Lists.{Each}
use Rattle.soundness.specs.Functions.{OfBytes, how_many_strings, place_of}

-- a quotient and a remainder are told by the number
digits : (m a b r s : ℕ) → r < m → s < m → a * m + r ≡ b * m + s → (a ≡ b) × (r ≡ s)
digits m a b r s R S e =
    (sym (digits_div a R) ∙ (ap (λ (z : ℕ). z / m) e ∙ digits_div b S), sym (digits_mod a R) ∙ (ap (λ (z : ℕ). z % m) e ∙ digits_mod b S))

pub place_apart : (r s : List ℕ) → OfBytes r → OfBytes s → place_of r ≡ place_of s → r ≡ s
unfolding Each place_of
place_apart [] [] R S e = refl
place_apart [] (c ∷ s) R S e = absurd (omega arith)
place_apart (b ∷ r) [] R S e = absurd (omega arith)
place_apart (b ∷ r) (c ∷ s) R S e =
    let d = digits 256 (place_of r) (place_of s) b c R.0 S.0 (omega arith) in
    let i = place_apart r s R.1 S.1 d.0 in
    rw (d.1, i)

pub place_within : (n : ℕ) (s : List ℕ) → OfBytes s → length s ≤ n → place_of s < how_many_strings n
unfolding Each place_of how_many_strings
place_within zero [] B l = omega arith
place_within zero (b ∷ s) B l = absurd (omega arith)
place_within (suc n) [] B l = omega arith
place_within (suc n) (b ∷ s) B l =
    let i : place_of s * 256 + b < how_many_strings n * 256 = digits_lt (place_within n s B.1 (le_of_suc-le-suc l)) B.0 in
    omega arith

-- the string at a place among those of at most n bytes
unfoldable pub string_at : ℕ → ℕ → List ℕ
string_at zero i = []
string_at (suc n) zero = []
string_at (suc n) (suc i) = i % 256 ∷ string_at n (i / 256)

pub string_at_lem : (n i : ℕ) → i < how_many_strings n → OfBytes (string_at n i) × (length (string_at n i) ≤ n) × (place_of (string_at n i) ≡ i)
unfolding Each place_of how_many_strings string_at
string_at_lem zero zero l = (tt, omega arith, refl)
string_at_lem zero (suc i) l = absurd (omega arith)
string_at_lem (suc n) zero l = (tt, omega arith, refl)
string_at_lem (suc n) (suc i) l =
    let w = string_at_lem n (i / 256) ((div-lt_iff_lt-mul {k = 256} (omega arith)).1 (omega arith)) in
    ((mod-lt i (omega arith), w.0), longer w.1, at w.2)
  where
    longer : {k : ℕ} → k ≤ n → suc k ≤ suc n
    longer h = omega arith

    at : {k : ℕ} → k ≡ i / 256 → 1 + (k * 256 + i % 256) ≡ suc i
    at e = let d = div-add-mod' i 256 in rw e (omega arith)

-- the byte j of the string at a place
unfoldable pub byte_at : ℕ → ℕ → ℕ
byte_at zero i = (i - 1) % 256
byte_at (suc j) i = byte_at j ((i - 1) / 256)

pub byte_at_lem : (j : ℕ) (s : List ℕ) → OfBytes s → j < length s → byte_at j (place_of s) ≡ get_or s j 0
unfolding Each place_of byte_at
byte_at_lem j [] B l = absurd (omega arith)
byte_at_lem zero (b ∷ s) B l = rw (less (place_of s * 256 + b)) (digits_mod (place_of s) B.0)
  where
    less : (k : ℕ) → 1 + k - 1 ≡ k
    less k = omega arith
byte_at_lem (suc j) (b ∷ s) B l =
    rw (less (place_of s * 256 + b), digits_div (place_of s) B.0) (byte_at_lem j s B.1 (le_of_suc-le-suc l))
  where
    less : (k : ℕ) → 1 + k - 1 ≡ k
    less k = omega arith
