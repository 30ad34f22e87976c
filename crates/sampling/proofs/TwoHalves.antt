-- Numbers of two halves: the 16 bytes that they stand for, and their order.
use Rattle.std.proofs.Common.{◌≡◌, ℕ, ◌+◌, ◌*◌, ◌^◌, ◌<◌, min, ltb, List, length, get_or, take, drop, ap, ◌∙◌, arith, get_or-drop}
use Rattle.std.specs.Ordering.{nat_cmp, is_lt, is_some_and, partial_ordering_then}
use Rattle.std.specs.Prelude.{Some}
use Rattle.std.proofs.lemmas.Bool.Decides.{nat_tests}
use Rattle.sampling.specs.core.BigEndian.{big_endian}
use Rattle.sampling.specs.laws.BigEndianLaws.{part_read}

-- ---- 16 bytes: 8 more bytes after those of the high half make the low one

abbrev then_bytes : (p a b c d e f g h : ℕ) → ℕ
then_bytes p a b c d e f g h = (((((((p * 256 + a) * 256 + b) * 256 + c) * 256 + d) * 256 + e) * 256 + f) * 256 + g) * 256 + h

half_then_bytes : (p lo a b c d e f g h : ℕ) → lo ≡ (((((((a * 256 + b) * 256 + c) * 256 + d) * 256 + e) * 256 + f) * 256 + g) * 256 + h)
    → p * 2 ^ 64 + lo ≡ then_bytes p a b c d e f g h
half_then_bytes p lo a b c d e f g h q = omega arith

pub sixteen_bytes : (l : List ℕ) (hi lo : ℕ) → hi ≡ big_endian 8 l → lo ≡ big_endian 8 (drop 8 l) → hi * 2 ^ 64 + lo ≡ big_endian 16 l
unfolding big_endian
sixteen_bytes l hi lo p q =
    half_then_bytes hi lo (get_or l 8 0) (get_or l 9 0) (get_or l 10 0) (get_or l 11 0) (get_or l 12 0) (get_or l 13 0) (get_or l 14 0) (get_or l 15 0)
    (q
    ∙ omega (
      arith,
      get_or-drop 8 l 0 0,
      get_or-drop 8 l 1 0,
      get_or-drop 8 l 2 0,
      get_or-drop 8 l 3 0,
      get_or-drop 8 l 4 0,
      get_or-drop 8 l 5 0,
      get_or-drop 8 l 6 0,
      get_or-drop 8 l 7 0,
    ))
    ∙ ap (λ (k : ℕ). then_bytes k (get_or l 8 0) (get_or l 9 0) (get_or l 10 0) (get_or l 11 0) (get_or l 12 0) (get_or l 13 0) (get_or l 14 0)
    (get_or l 15 0)) p

-- the halves as they are read from the 16 bytes
module _ (l : List ℕ) (n : length l ≡ 16) (v : ℕ) where
  pub first_read : v ≡ big_endian (min (length (take 8 l)) 8) (take 8 l) → v ≡ big_endian 8 l
  first_read e = e ∙ part_read l 0 8 (omega arith) (omega arith)

  pub second_read : (k : ℕ) → k ≡ 8 → v ≡ big_endian (min (length (take k (drop 8 l))) 8) (take k (drop 8 l)) → v ≡ big_endian 8 (drop 8 l)
  second_read k K e = e ∙ part_read l 8 k (omega arith) (omega arith) ∙ ap (λ (i : ℕ). big_endian i (drop 8 l)) K

-- ---- the order of the halves, as the fields of `U128` are compared, is that of the numbers

pub by_halves : (a b c d : ℕ) → c < 2 ^ 64 → d < 2 ^ 64
    → is_some_and is_lt (partial_ordering_then (Some (nat_cmp a b)) (Some (nat_cmp c d))) ≡ ltb (a * 2 ^ 64 + c) (b * 2 ^ 64 + d)
by_halves a b c d C E = grind (arith, nat_tests)
