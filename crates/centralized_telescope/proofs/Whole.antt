-- Doubles from 0 to 2 ^ 52 in code: the tests that tell them, their floor and their ceiling.
use Rattle.std.proofs.Common.{◌≡◌, ℕ, ◌+◌, ◌*◌, ◌/◌, ◌%◌, ◌^◌, ◌<◌, ◌≤◌, Bool, true, false, cond, T, eqb, ltb, ℤ, pos, sym, refl, ap, ◌∙◌, subst, mul-le-mul_right, mul-lt-mul_of_pos_right, div-add-mod', zero-mul, mul-one, mul_right_comm, arith, le→leb, lt→ltb, ltb-false, ltb-true, le-ltb, eq-eqb, ne_eqb}
use native.Mathlib.Nat.{zero-div}
use lib.Ieee.{Float, nan, inf, fin, binary64, up, down, lt, of_int, in_float, to_unsigned}
use lib.Ieee.Fits.{down_pos}
use lib.Ieee.Back.{round_whole}
use lib.Ieee.Exact.{HasValue}
use Rattle.sampling.specs.laws.CommonLaws.{same_test}
use Rattle.centralized_telescope.specs.later.SmallCase.{floor, ceil}
use Rattle.centralized_telescope.specs.laws.SmallCaseLaws.{Inside, inside, floor_most}

-- ---- the floor: what the truncation asks, and what it answers

pub above_minus_one : (x : Float) → Inside (2 ^ 52) x → T (lt (fin true 1 (pos 0)) x)
unfolding lt
above_minus_one nan i = absurd i
above_minus_one (inf s) i = absurd i
above_minus_one (fin true m e) i =
    let d = down_pos e in
    lt→ltb (m * up e * 1) (1 * down e) (rw (i.0 refl) (omega (arith, zero-mul (up e))))
above_minus_one (fin false m e) i = let d = down_pos e in lt→ltb 0 (1 * down e + m * up e * 1) (omega arith)

pub below_2_to_64 : (x : Float) → Inside (2 ^ 52) x → T (lt x (fin false 1 (pos 64)))
unfolding lt
below_2_to_64 nan i = absurd i
below_2_to_64 (inf s) i = absurd i
below_2_to_64 (fin true m e) i = let d = down_pos e in lt→ltb 0 (m * up e * 1 + 1 * 2 ^ 64 * down e) (omega arith)
below_2_to_64 (fin false m e) i =
    let d = down_pos e in
    let h = i.1 in
    lt→ltb (m * up e * 1) (1 * 2 ^ 64 * down e) (omega arith)

pub truncated : (x : Float) → Inside (2 ^ 52) x → to_unsigned 64 x ≡ floor x
unfolding to_unsigned floor
truncated nan i = absurd i
truncated (inf s) i = absurd i
truncated (fin true m e) i = rw (i.0 refl, zero-mul (up e), zero-div (down e))
truncated (fin false m e) i = let h = floor_most (2 ^ 52) (fin false m e) i in omega arith

-- ---- the ceiling: the floor's double is below x exactly when something was cut off

-- a whole number this small is a double
pub counted : (t : ℕ) → t ≤ 2 ^ 52 → T (in_float binary64 (pos t))
unfolding in_float
counted t h = le→leb t (2 ^ 53) (omega arith)

double : (t : ℕ) → t ≤ 2 ^ 52 → HasValue (of_int binary64 (pos t)) false t 1
unfolding of_int
double t h = round_whole binary64 false t (omega arith)

scaled : (a b k : ℕ) → 0 < k → ltb (a * k) (b * k) ≡ ltb a b
scaled a b k h =
    sym (same_test a b (a * k) (b * k) (λ l. mul-lt-mul_of_pos_right l h) (λ l. mul-le-mul_right k l))

less : (v : Float) (t : ℕ) (s : Bool) (m : ℕ) (e : ℤ) → HasValue v false t 1 → (s ≡ true → m ≡ 0)
    → lt v (fin s m e) ≡ ltb (t * down e) (m * up e)
unfolding lt
less nan t s m e h z = absurd h
less (inf r) t s m e h z = absurd h
less (fin true n d) t s m e h z = absurd (subst T h.0 tt)
less (fin false n d) t true m e h z = rw (z refl, zero-mul (up e)) (sym (le-ltb (t * down e) 0 (omega arith)))
less (fin false n d) t false m e h z =
    ap (λ (k : ℕ). ltb (k * down e) (m * up e * down d)) (sym (mul-one (n * up d)) ∙ h.1)
    ∙ ap (λ (k : ℕ). ltb k (m * up e * down d)) (mul_right_comm t (down d) (down e))
    ∙ scaled (t * down e) (m * up e) (down d) (down_pos d)

by_rest : (n d : ℕ) (b : Bool) → ltb (n / d * d) n ≡ b → cond b (n / d + 1) (n / d) ≡ cond (eqb (n % d) 0) (n / d) (n / d + 1)
by_rest n d true e = let l = ltb-true (n / d * d) n e in rw (ne_eqb (n % d) 0 (λ z. omega (arith, div-add-mod' n d)))
by_rest n d false e = let l = ltb-false (n / d * d) n e in rw (eq-eqb (n % d) 0 (omega (arith, div-add-mod' n d)))

pub ceiling : (x : Float) (b : Bool) (t : ℕ) → Inside (2 ^ 52) x → t ≡ floor x → lt (of_int binary64 (pos t)) x ≡ b
    → cond b (t + 1) t ≡ ceil x
unfolding floor ceil
ceiling nan b t i f l = absurd i
ceiling (inf s) b t i f l = absurd i
ceiling (fin s m e) b t i f l =
    let h : t ≤ 2 ^ 52 = rw f (floor_most (2 ^ 52) (fin s m e) i) in
    let c : ltb (t * down e) (m * up e) ≡ b = sym (less (of_int binary64 (pos t)) t s m e (double t h) i.0) ∙ l in
    rw f (by_rest (m * up e) (down e) b (rw f at c))

-- the floor by the truncation
pub ruleset floor_told = (inside, above_minus_one, below_2_to_64, truncated)
