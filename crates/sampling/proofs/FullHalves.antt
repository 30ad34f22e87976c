-- Where no draw is made: with M = 2 ^ 128 - 1 and m = M % n, D * n is M - m. A number of two halves comes to it only where its high
-- half is full and its low half is within m of full.
use Rattle.std.proofs.Common.{◌≡◌, ℕ, ◌+◌, ◌-◌, ◌*◌, ◌%◌, ◌^◌, ◌<◌, ◌≤◌, Bool, true, false, cond, leb, sym, ap, ◌∙◌, mod-lt, div-add-mod', arith, le-leb}
use borrow.Author.Tests.{lt-leb}
use lib.Arith.{digits_lt}
use Rattle.sampling.specs.core.Sample.{D, mod_not_power}

module _ (n hi lo : ℕ) where
  abbrev m : ℕ
  m = (2 ^ 128 - 1) % n

  -- D * n + m is M: a full high half and a full low one
  whole : D n * n + m ≡ (2 ^ 64 - 1) * 2 ^ 64 + (2 ^ 64 - 1)
  whole = div-add-mod' (2 ^ 128 - 1) n

  decided : (t : Bool) → leb (D n * n) (hi * 2 ^ 64 + lo) ≡ t → cond t (1, 0) (0, (hi * 2 ^ 64 + lo) % n) ≡ mod_not_power (hi * 2 ^ 64 + lo) n
  unfolding mod_not_power
  decided t e = rw e

  -- what the high halves amount to is a variable below: 2 ^ 128 has more digits than `omega` takes
  module _ (full : hi ≡ 2 ^ 64 - 1) where
    whole_full : D n * n + m ≡ hi * 2 ^ 64 + (2 ^ 64 - 1)
    whole_full = whole ∙ ap (λ (k : ℕ). k * 2 ^ 64 + (2 ^ 64 - 1)) (sym full)

    pub none_near_the_top : 2 ^ 64 - 1 - lo ≤ m → (1, 0) ≡ mod_not_power (hi * 2 ^ 64 + lo) n
    none_near_the_top near = decided true (le-leb (D n * n) (hi * 2 ^ 64 + lo) (go (hi * 2 ^ 64) (D n * n) m whole_full near))
      where
        go : (p d m : ℕ) → d + m ≡ p + (2 ^ 64 - 1) → 2 ^ 64 - 1 - lo ≤ m → d ≤ p + lo
        go p d m w h = omega arith

    pub value_below_it : m < 2 ^ 64 - 1 - lo → (0, (hi * 2 ^ 64 + lo) % n) ≡ mod_not_power (hi * 2 ^ 64 + lo) n
    value_below_it far = decided false (lt-leb (D n * n) (hi * 2 ^ 64 + lo) (go (hi * 2 ^ 64) (D n * n) m whole_full far))
      where
        go : (p d m : ℕ) → d + m ≡ p + (2 ^ 64 - 1) → m < 2 ^ 64 - 1 - lo → p + lo < d
        go p d m w h = omega arith

  pub value_at_a_lower_half : 0 < n → n < 2 ^ 64 → hi < 2 ^ 64 - 1 → lo < 2 ^ 64
      → (0, (hi * 2 ^ 64 + lo) % n) ≡ mod_not_power (hi * 2 ^ 64 + lo) n
  value_at_a_lower_half N F H L =
      decided false
      (lt-leb (D n * n) (hi * 2 ^ 64 + lo)
      (go ((2 ^ 64 - 1) * 2 ^ 64) (D n * n) m (hi * 2 ^ 64 + lo) whole (mod-lt (2 ^ 128 - 1) N) (digits_lt H L)))
    where
      go : (p d m i : ℕ) → d + m ≡ p + (2 ^ 64 - 1) → m < n → i < p → i < d
      go p d m i w b l = omega arith
