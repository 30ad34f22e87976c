-- Decimal digits, one at a time. A number only grows with the digits after it, so one that is too large stays so.
use Prim.Native.Nat.{ℕ, suc, ◌+◌, ◌-◌, ◌*◌, ◌^◌, ◌≤◌, ◌<◌}
use mathlib.Core.Path.{◌≡◌, refl, sym, ◌∙◌}
use mathlib.Core.Bool.{Bool, true, false, ◌&&◌}
use mathlib.Core.List.{List, [], ◌∷◌}
use mathlib.Core.Logic.{◌⊎◌, inl, inr, ⊎_elim}
use native.Mathlib.Numerals.{add-one}
use native.Mathlib.Omega.{arith}
use borrow.Author.Tests.{ltb-true, ltb-false, lt-ltb, le-ltb}
use lib.Dec.{ltb}
use lib.ListN.{length, drop, get_or, drop_of_length-le}
use lib.Seq.{drop-cons}
use Rattle.std.specs.Prelude.{Option, Some, None, if◌then◌else◌}
use Rattle.text.specs.Decimal.{is_digit, value_after, all_digits, known_after, is_decimal, decimal_value}

-- whether a byte is a digit that v, the number before it, leaves room for
abbrev pub fits : ℕ → ℕ → Bool
fits v c = is_digit c && ltb (10 * v + (c - 48)) (2 ^ 64)

and_false : (b : Bool) → b && false ≡ false
and_false true = refl
and_false false = refl

first_true : (a b : Bool) → a && b ≡ true → a ≡ true
first_true true b e = refl
first_true false b e = e

second_true : (a b : Bool) → a && b ≡ true → b ≡ true
second_true true b e = e
second_true false b e = absurd (let z : ◌≡◌ {A = ℕ} 0 1 = cc in omega arith)

one_false : (a b : Bool) → a && b ≡ false → (a ≡ false) ⊎ (b ≡ false)
one_false true b e = inr e
one_false false b e = inl refl

grows : (v : ℕ) (cs : List ℕ) → v ≤ value_after v cs
unfolding value_after
grows v [] = omega arith
grows v (c ∷ cs) = omega (arith, grows (10 * v + (c - 48)) cs)

-- ---- one digit of many

known_step : (v c : ℕ) (cs : List ℕ) → fits v c ≡ true → known_after v (c ∷ cs) ≡ known_after (10 * v + (c - 48)) cs
unfolding known_after all_digits value_after
known_step v c cs e = let d : is_digit c ≡ true = first_true (is_digit c) _ e in rw d

too_large_lem : (v : ℕ) (cs : List ℕ) → 2 ^ 64 ≤ v → ltb (value_after v cs) (2 ^ 64) ≡ false
too_large_lem v cs h = le-ltb (value_after v cs) (2 ^ 64) (omega (arith, grows v cs))

unknown_step : (v c : ℕ) (cs : List ℕ) → fits v c ≡ false → known_after v (c ∷ cs) ≡ false
unfolding known_after all_digits value_after
unknown_step v c cs e =
    ⊎_elim
    (λ d. rw d)
    (λ l. rw (too_large_lem (10 * v + (c - 48)) cs (ltb-false (10 * v + (c - 48)) (2 ^ 64) l)) (and_false (is_digit c && all_digits cs)))
    (one_false (is_digit c) _ e)

-- ---- the loop: what is left of the text is worth as much after v as the whole text

pub record At (t : List ℕ) (v i : ℕ) : Type 0 where
  pub known : known_after v (drop i t) ≡ known_after 0 t
  pub value : value_after v (drop i t) ≡ value_after 0 t
  pub small : v < 2 ^ 64

pub start : (t : List ℕ) → At t 0 0
start t = record { known = refl; value = refl; small = omega arith }

whole : (t : List ℕ) → 0 < length t → is_decimal t ≡ known_after 0 t
unfolding is_decimal
whole [] h = absurd (omega arith)
whole (c ∷ cs) h = refl

-- what is read of a text: the number, where it writes one
abbrev read : List ℕ → Option ℕ
read t = if is_decimal t then Some (decimal_value t) else None

unread : (t : List ℕ) → is_decimal t ≡ false → None ≡ read t
unread t e = rw e refl

none_if : (b : Bool) (n : ℕ) → None ≡ (if b then Some n else None) → b ≡ false
none_if true n e = cc
none_if false n e = refl

some_if : (b : Bool) (m n : ℕ) → Some m ≡ (if b then Some n else None) → (b ≡ true) × (m ≡ n)
some_if true m n e = (refl, cc)
some_if false m n e = cc

pub empty : (t : List ℕ) → length t ≡ 0 → None ≡ read t
unfolding is_decimal
empty [] h = refl
empty (c ∷ cs) h = absurd (omega arith)

-- what one digit after v makes, where it is one and there is room
abbrev next : ℕ → ℕ → Option ℕ
next v c = if fits v c then Some (10 * v + (c - 48)) else None

module _ (t : List ℕ) (v i : ℕ) (at : At t v i) where
  pub refused : i < length t → None ≡ next v (get_or t i 0) → None ≡ read t
  refused h n =
      let e : fits v (get_or t i 0) ≡ false = none_if (fits v (get_or t i 0)) (10 * v + (get_or t i 0 - 48)) n in
      let k : known_after 0 t ≡ false = sym at.known ∙ rw (drop-cons t i 0 h) (unknown_step v (get_or t i 0) (drop (suc i) t) e) in
      unread t (whole t (omega arith) ∙ k)

  pub goes_on : (w : ℕ) → i < length t → Some w ≡ next v (get_or t i 0) → At t w (i + 1)
  unfolding value_after
  goes_on w h n =
      let s : (fits v (get_or t i 0) ≡ true) × (w ≡ 10 * v + (get_or t i 0 - 48)) =
      some_if (fits v (get_or t i 0)) w (10 * v + (get_or t i 0 - 48)) n in
      rw (s.1) (
      record {
        known = rw add-one (sym (known_step v (get_or t i 0) (drop (suc i) t) s.0) ∙ rw (drop-cons t i 0 h) at at.known);
        value = rw add-one (rw (drop-cons t i 0 h) at at.value);
        small = ltb-true (10 * v + (get_or t i 0 - 48)) (2 ^ 64) (second_true (is_digit (get_or t i 0)) _ s.0);
      }
      )

  pub ends : 0 < length t → length t ≤ i → Some v ≡ read t
  unfolding known_after all_digits value_after decimal_value
  ends h l =
      let n : drop i t ≡ [] = drop_of_length-le t l in
      let k : is_decimal t ≡ true = whole t h ∙ (sym at.known ∙ rw n (lt-ltb v (2 ^ 64) at.small)) in
      let w : value_after 0 t ≡ v = sym at.value ∙ rw n in
      rw (k, w) refl
