-- Sixteen hexadecimal digits, one at a time.
use Prim.Native.Nat.{ℕ, ◌+◌, ◌*◌, ◌^◌, ◌≤◌, ◌<◌}
use mathlib.Core.Path.{◌≡◌, refl, sym, ◌∙◌, ap}
use mathlib.Core.Bool.{Bool, true, false, ◌&&◌}
use mathlib.Core.List.{List, ◌∷◌}
use native.Mathlib.Nat.{pow-suc, pow-le-pow_right, zero-lt-suc}
use native.Mathlib.Numerals.{add-one}
use native.Mathlib.Omega.{arith}
use borrow.Author.Tests.{eq-eqb, ne_eqb, le-leb, lt-leb}
use lib.Dec.{leb}
use lib.ListN.{length, drop, get_or, drop_of_length-le}
use lib.Seq.{drop-cons}
use Rattle.std.specs.Prelude.{Option, Some, None, if◌then◌else◌}
use Rattle.text.specs.Hexadecimal.{digit_value, hex_after, all_hex, is_sixteen, sixteen_value}

-- i digits are read, and write v: what they and the rest write is what all do
abbrev pub Read : List ℕ → ℕ → ℕ → Type 0
Read l v i = (i ≤ 16) × (length l ≡ 16) × (hex_after v (drop i l) ≡ hex_after 0 l) × (all_hex (drop i l) ≡ all_hex l) × (v < 16 ^ i)

-- what is read of a text: the number, where it writes one
abbrev read : List ℕ → Option ℕ
read l = if is_sixteen l then Some (sixteen_value l) else None

unread : (l : List ℕ) → is_sixteen l ≡ false → None ≡ read l
unread l e = rw e refl

-- ---- no number

module _ (l : List ℕ) where
  pub other_length : (length l ≡ 16 → ⊥) → None ≡ read l
  unfolding is_sixteen
  other_length h = unread l (rw (ne_eqb (length l) 16 h) refl)

  cut : (i : ℕ) → i < length l → drop i l ≡ get_or l i 0 ∷ drop (i + 1) l
  cut i h = drop-cons l i 0 h ∙ ap (λ (n : ℕ). get_or l i 0 ∷ drop n l) (sym (add-one i))

  pub no_digit : (v i : ℕ) → Read l v i → i < length l → 15 < digit_value (get_or l i 0) → None ≡ read l
  unfolding all_hex is_sixteen
  no_digit v i (a, n, x, g, b) h o =
      let other : leb (digit_value (get_or l i 0)) 15 ≡ false = lt-leb (digit_value (get_or l i 0)) 15 o in
      let none : all_hex l ≡ false =
      sym g ∙ ap (λ (m : List ℕ). all_hex m) (cut i h) ∙ ap (λ (b : Bool). b && all_hex (drop (i + 1) l)) other in
      unread l (rw (eq-eqb (length l) 16 n) none)

  -- sixteen digits have room in 64 bits
  pub room : (v i : ℕ) → Read l v i → i < length l → 16 * v + 15 < 2 ^ 64
  room v i (a, n, x, g, b) h =
      let last : i ≤ 15 = omega (arith, n, h) in
      let less : 16 ^ i ≤ 16 ^ 15 = pow-le-pow_right (zero-lt-suc 15) last in
      omega (arith, b, less)

-- ---- one digit more, and the last

pub one_more : (l : List ℕ) (v i d w : ℕ) → Read l v i → i < length l → d ≡ digit_value (get_or l i 0) → d ≤ 15 → w ≡ 16 * v + d
    → Read l w (i + 1)
unfolding all_hex hex_after
one_more l v i d w (a, n, x, g, b) h e o q =
    let next : 16 ^ (i + 1) ≡ 16 ^ i * 16 = ap (λ (m : ℕ). 16 ^ m) (add-one i) ∙ pow-suc 16 i in
    let is : leb (digit_value (get_or l i 0)) 15 ≡ true = le-leb (digit_value (get_or l i 0)) 15 (omega (arith, e, o)) in
    let value : w ≡ 16 * v + digit_value (get_or l i 0) = q ∙ ap (λ (m : ℕ). 16 * v + m) e in (
      omega (arith, n, h),
      n,
      ap (λ (m : ℕ). hex_after m (drop (i + 1) l)) value ∙ sym (ap (λ (m : List ℕ). hex_after v m) (cut l i h)) ∙ x,
      sym (ap (λ (t : Bool). t && all_hex (drop (i + 1) l)) is) ∙ sym (ap (λ (m : List ℕ). all_hex m) (cut l i h)) ∙ g,
      omega (arith, next, b, o, q),
    )

module _ (l : List ℕ) (v i : ℕ) where
  all_digits : all_hex (drop i l) ≡ all_hex l → length l ≤ i → length l ≡ 16 → is_sixteen l ≡ true
  unfolding all_hex is_sixteen
  all_digits g h n = rw (eq-eqb (length l) 16 n) (sym g ∙ ap (λ (m : List ℕ). all_hex m) (drop_of_length-le l {i = i} h))

  pub all_read : Read l v i → length l ≤ i → Some v ≡ read l
  unfolding hex_after sixteen_value
  all_read (a, n, x, g, b) h =
      let is : is_sixteen l ≡ true = all_digits g h n in
      let value : hex_after 0 l ≡ v = sym x ∙ ap (λ (m : List ℕ). hex_after v m) (drop_of_length-le l {i = i} h) in
      rw (is, value) refl
