-- Along a chain, over all tables: as long as no digest comes again, each next one is as good as any other.
use Rattle.std.specs.Prelude.{◌≡◌, Bool, not, ◌&&◌, ◌||◌, ltb, eqb, length}
use Rattle.std.proofs.Math.Path.{refl, sym, ap}
use Rattle.std.proofs.Common.{◌∙◌, mul-le-mul_right, mul-le-mul_left, le_refl, pow-suc, zero-mul, le_of_mul-le-mul_right, mod-eq_of_lt, arith}
use Rattle.std.proofs.Math.Bool.{true, false, false≢true}
use mathlib.Core.List.{List, [], ◌∷◌}
use Prim.Native.Nat.{ℕ, zero, suc, ◌+◌, ◌*◌, ◌%◌, ◌^◌, ◌≤◌, ◌<◌}
use Rattle.std.proofs.Math.Nat.{mul-le-mul, pow-zero, one-mul}
use borrow.Author.Tests.{ltb-true, eq-eqb}
use Rattle.std.proofs.Math.ListN.{get_or}
use Rattle.centralized_telescope.specs.laws.TestLaws.{neither, both}
use Rattle.soundness.specs.Functions.{sum_below, sum_tables, one_if}
use Rattle.soundness.specs.laws.SumLaws.{sum_same, sum_scaled, sum_most, sum_zero, sum_plus}
use Rattle.soundness.specs.laws.TableLaws.{are_below, tables_times, Blind, resample}
use Rattle.soundness.specs.laws.CountLaws.{how_many, count_equal}

-- ---- among those seen: a digest is a number below m, so a number stands for its remainder

unfoldable pub is_in : ℕ → ℕ → List ℕ → Bool
is_in m h [] = false
is_in m h (s ∷ seen) = eqb (s % m) (h % m) || is_in m h seen

one_or : (a b : Bool) → one_if (a || b) ≤ one_if a + one_if b
one_or true b = omega arith
one_or false b = omega arith

pub count_in_lem : (m : ℕ) (seen : List ℕ) → how_many m (λ (v : ℕ). is_in m v seen) ≤ length seen
unfolding is_in
count_in_lem m [] = let z = sum_zero m in omega arith
count_in_lem m (s ∷ seen) =
    let i = count_in_lem m seen in
    let e = count_equal m (s % m) in
    let d = sum_same m (λ v. one_if (eqb (s % m) (v % m))) (λ v. one_if (eqb (s % m) v))
    (λ v l. ap (λ (z : ℕ). one_if (eqb (s % m) z)) (mod-eq_of_lt l)) in
    let p = sum_plus m (λ v. one_if (eqb (s % m) (v % m))) (λ v. one_if (is_in m v seen)) in
    let q = sum_most m (λ v. one_if (eqb (s % m) (v % m) || is_in m v seen)) (λ v. one_if (eqb (s % m) (v % m)) + one_if (is_in m v seen))
    (λ v _. one_or (eqb (s % m) (v % m)) (is_in m v seen)) in
    omega arith

-- ---- along a chain of f elements' places, whose entry for a digest h and an element e is `next_at h e`

module _ (m f : ℕ) (next_at : ℕ → ℕ → ℕ) (fits : ℕ → ℕ → Bool) (final : List ℕ → ℕ → List ℕ → ℕ) where
  -- from a digest on, as long as none comes again; then what `final` says
  unfoldable pub along : List ℕ → ℕ → List ℕ → List ℕ → ℕ
  along seen h [] t = final seen h t
  along seen h (e ∷ es) t = one_if (not (is_in m h seen) && fits e h) * along (h ∷ seen) (get_or t (next_at h e) 0) es t

  -- it doesn't look at an entry that no digest beside those seen asks for
  pub along_blind : (i : ℕ) → ((seen : List ℕ) (v : ℕ) → Blind i (final seen v)) → (j : ℕ) (seen : List ℕ) (h : ℕ) (es : List ℕ)
      → are_below f j es ≡ true → ((h e : ℕ) → is_in m h seen ≡ false → e < f → next_at h e ≡ i → ⊥) → Blind i (along seen h es)
  unfolding along are_below is_in
  along_blind i fb zero seen h [] w miss t t' a = fb seen h t t' a
  along_blind i fb zero seen h (e ∷ es) w miss t t' a = absurd (false≢true w)
  along_blind i fb (suc j) seen h [] w miss t t' a = absurd (false≢true w)
  along_blind i fb (suc j) seen h (e ∷ es) w miss t t' a =
      go (is_in m h seen) refl
      (λ n. a (next_at h e) (miss h e n (ltb-true e f (both (ltb e f) w).0)))
      (along_blind i fb j (h ∷ seen) (get_or t' (next_at h e) 0) es (both (ltb e f) w).1
      (λ g c n. miss g c (neither (eqb (h % m) (g % m)) n).1) t t' a)
    where
      go : (b : Bool) → is_in m h seen ≡ b → (is_in m h seen ≡ false → get_or t (next_at h e) 0 ≡ get_or t' (next_at h e) 0)
          → along (h ∷ seen) (get_or t' (next_at h e) 0) es t ≡ along (h ∷ seen) (get_or t' (next_at h e) 0) es t'
          → one_if (not (is_in m h seen) && fits e h) * along (h ∷ seen) (get_or t (next_at h e) 0) es t
          ≡ one_if (not (is_in m h seen) && fits e h) * along (h ∷ seen) (get_or t' (next_at h e) 0) es t'
      go true b same rest =
          rw b
          (zero-mul (along (h ∷ seen) (get_or t (next_at h e) 0) es t) ∙ sym (zero-mul (along (h ∷ seen) (get_or t' (next_at h e) 0) es t')))
      go false b same rest =
          ap (λ (z : ℕ). one_if (not (is_in m h seen) && fits e h) * along (h ∷ seen) z es t) (same b)
          ∙ ap (λ (z : ℕ). one_if (not (is_in m h seen) && fits e h) * z) rest

  -- its sum over all digests to begin with, if at most one in n fits an element, and `final` has at most the share b / a
  module _ (n k : ℕ) (M : 0 < m) (bins : (e : ℕ) → how_many m (fits e) * n ≤ m)
      (within : (h e : ℕ) → e < f → next_at h e < k)
      (apart : (h e g c : ℕ) → e < f → c < f → next_at h e ≡ next_at g c → h % m ≡ g % m)
      (final_blind : (h e : ℕ) → e < f → (seen : List ℕ) (v : ℕ) → Blind (next_at h e) (final seen v)) (u a b : ℕ)
      (end : (seen : List ℕ) → length seen ≡ u → sum_below m (λ (v : ℕ). sum_tables m k (final seen v)) * a ≤ b) where
    miss_seen : (v e : ℕ) (seen : List ℕ) → e < f → (h c : ℕ) → is_in m h (v ∷ seen) ≡ false → c < f → next_at h c ≡ next_at v e → ⊥
    unfolding is_in
    miss_seen v e seen l h c n d q =
        false≢true (sym (neither (eqb (v % m) (h % m)) n).0 ∙ eq-eqb (v % m) (h % m) (sym (apart h c v e d l q)))

    one_test : (h e : ℕ) (seen : List ℕ) → one_if (not (is_in m h seen) && fits e h) ≤ one_if (fits e h)
    one_test h e seen = go (not (is_in m h seen)) (fits e h)
      where
        go : (x y : Bool) → one_if (x && y) ≤ one_if y
        go true y = le_refl _
        go false y = omega arith

    pub along_sum : (j : ℕ) (seen es : List ℕ) → are_below f j es ≡ true → length seen + j ≡ u
        → sum_below m (λ (v : ℕ). sum_tables m k (along seen v es)) * (n ^ j * a) ≤ b
    unfolding along are_below
    along_sum zero seen [] w l = rw (pow-zero n, one-mul a) (end seen (omega arith))
    along_sum zero seen (e ∷ es) w l = absurd (false≢true w)
    along_sum (suc j) seen [] w l = absurd (false≢true w)
    along_sum (suc j) seen (e ∷ es) w l =
        let z = both (ltb e f) w in
        let d = ltb-true e f z.0 in
        let each : (v : ℕ) → v < m → sum_tables m k (along seen v (e ∷ es)) * (m * (n ^ j * a)) ≤ b * one_if (fits e v)
        = λ (v : ℕ) (_ : v < m).
        step (one_if (not (is_in m v seen) && fits e v)) (one_if (fits e v)) _ _ _ (n ^ j * a) (one_test v e seen)
        (tables_times m k (one_if (not (is_in m v seen) && fits e v)) (λ t. along (v ∷ seen) (get_or t (next_at v e) 0) es t))
        (resample m k (next_at v e) (λ g. along (v ∷ seen) g es) (within v e d)
        (λ g. along_blind (next_at v e) (final_blind v e d) j (v ∷ seen) g es z.1 (miss_seen v e seen d)))
        (along_sum j (v ∷ seen) es z.1 (omega arith)) in
        let s = sum_scaled m (m * (n ^ j * a)) b (λ v. sum_tables m k (along seen v (e ∷ es))) (λ v. one_if (fits e v)) each in
        rw (pow-suc n j) (last_step _ (how_many m (fits e)) (n ^ j) s (bins e))
      where
        step : (p q x y z c : ℕ) → p ≤ q → x ≡ p * y → m * y ≡ z → z * c ≤ b → x * (m * c) ≤ b * q
        step p q x y z c pq e r i =
            let g : m * y * c ≤ b = rw r i in
            let h = mul-le-mul pq g in
            rw e (omega arith)

        last_step : (x h p : ℕ) → x * (m * (p * a)) ≤ b * h → h * n ≤ m → x * (p * n * a) ≤ b
        last_step x h p s hn =
            let y = mul-le-mul_right n s in
            let g = mul-le-mul_left b hn in
            let z : x * (p * n * a) * m ≤ b * m = omega arith in
            le_of_mul-le-mul_right z M
