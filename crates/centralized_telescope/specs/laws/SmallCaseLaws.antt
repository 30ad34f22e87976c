-- Laws of the small case: its answer by its tests, and that its settings keep the limits of the check.
use Rattle.std.specs.Prelude.{◌≡◌, ℕ, ◌+◌, ◌*◌, ◌/◌, ◌%◌, ◌^◌, ◌<◌, ◌≤◌, Bool, true, false, cond, not, ◌&&◌, T, ◌==◌, nat_lt, refl, Float}
use Rattle.std.proofs.Common.{sym, subst, inl, inr, mul_comm, mul-pos, mul-le-mul_right, div-add-mod', le_trans, eq-zero-or-pos, eq-or-lt_of_le, arith, ltb-false, le-ltb}
use Rattle.std.proofs.Math.Nat.{div-le_of_le-mul}
use Rattle.std.proofs.lemmas.Bool.{eqb-false}
use Rattle.std.specs.Float.{nan, inf, fin, binary64}
use Rattle.std.specs.Float.Ieee.{up, down, is_nan, lt, of_bits, of_int, round, add, mul, div}
use Rattle.std.specs.Float.Ieee.Fits.{up_pos, and_l, and_r}
use Rattle.sampling.specs.core.FirstNumber.{first_number}
use Rattle.sampling.specs.later.Threshold.{outside, outside_unit}
use Rattle.centralized_telescope.specs.declared.params.Params.{Params}
use Rattle.centralized_telescope.specs.declared.params.SmallSettings.{SmallSettings}
use Rattle.centralized_telescope.specs.core.Params.{set_size_out, checked, max_proof_size, max_search_width, max_dfs_bound}
use Rattle.centralized_telescope.specs.later.SmallCase.{floor, ceil, as_double, L, before_ceil, search_width, probability, before_floor}
use Rattle.centralized_telescope.specs.later.SmallCase.{dfs_bound, small_settings, no_settings, proof_size_out, completeness_out}
use Rattle.centralized_telescope.specs.later.SmallCase.{small_case_refusal, small_case}
use Rattle.centralized_telescope.specs.later.SmallCase.{max_completeness}
use Rattle.centralized_telescope.specs.laws.TestLaws.{neither, each_up_to, from_computed}
use Rattle.centralized_telescope.specs.laws.ParamsLaws.{one_to, passes}
use Rattle.centralized_telescope.specs.later.VerdictExactly.{Limits}

-- ---- the small case, by its tests in the table's order

module _ (u : ℕ) (c : Float) where
  pub proof_size_refused : proof_size_out u ≡ true → small_case u c ≡ (30, no_settings)
  unfolding small_case small_case_refusal first_number
  proof_size_refused s = rw s

  module _ (s : proof_size_out u ≡ false) where
    pub completeness_refused : completeness_out c ≡ true → small_case u c ≡ (31, no_settings)
    unfolding small_case small_case_refusal first_number
    completeness_refused o = rw (s, o)

    pub settings_given : completeness_out c ≡ false → small_case u c ≡ (0, small_settings u c)
    unfolding small_case small_case_refusal first_number
    settings_given o = rw (s, o)

-- −0.0 is not below 0: as c it is admitted, and gives max_retries 0
pub negative_zero : (completeness_out (of_bits binary64 (2 ^ 63)) ≡ false) × (ceil (of_bits binary64 (2 ^ 63)) ≡ 0)
unfolding is_nan lt of_bits outside ceil
negative_zero = (refl, refl)

-- ---- a double that is not outside 0 to hi

-- it is finite, negative at most as a zero, and no more than hi
abbrev pub Inside : ℕ → Float → Type 0
Inside hi nan = ⊥
Inside hi (inf s) = ⊥
Inside hi (fin s m e) = (s ≡ true → m ≡ 0) × (m * up e ≤ hi * down e)

none : (m u : ℕ) → 0 < u → m * u ≤ 0 → m ≡ 0
none m u U h = elim (eq-zero-or-pos m) [ inl z ↦ z | inr p ↦ absurd (let q = mul-pos p U in omega arith) ]

pub inside : (hi : ℕ) (x : Float) → outside hi x ≡ false → Inside hi x
unfolding outside is_nan lt
inside hi nan o = absurd (subst T o tt)
inside hi (inf true) o = absurd (subst T o tt)
inside hi (inf false) o = absurd (subst T o tt)
inside hi (fin true m e) o =
    let l = ltb-false 0 (m * up e * 1 + 0 * down e) (neither (nat_lt 0 (m * up e * 1 + 0 * down e)) {b = false} o).0 in
    (λ _. none m (up e) (up_pos e) (omega arith), omega arith)
inside hi (fin false m e) o =
    let l = ltb-false (hi * 1 * down e) (m * up e * 1) (neither (nat_lt (m * up e * 1) (0 * down e)) o).1 in
    (λ t. absurd (subst T (sym t) tt), omega arith)

pub wider : (lo hi : ℕ) (x : Float) → lo ≤ hi → outside lo x ≡ false → outside hi x ≡ false
unfolding outside is_nan lt
wider lo hi nan h o = o
wider lo hi (inf true) h o = o
wider lo hi (inf false) h o = o
wider lo hi (fin true m e) h o = o
wider lo hi (fin false m e) h o =
    let b = neither (nat_lt (m * up e * 1) (0 * down e)) o in
    let l = ltb-false (lo * 1 * down e) (m * up e * 1) b.1 in
    rw (b.0, le-ltb (hi * 1 * down e) (m * up e * 1) (le_trans l (mul-le-mul_right (down e) (mul-le-mul_right 1 h))))

-- its floor and its ceiling are no more than hi either
div_most : (n d hi : ℕ) → n ≤ hi * d → n / d ≤ hi
div_most n d hi h = div-le_of_le-mul d (rw mul_comm h)

pub floor_most : (hi : ℕ) (x : Float) → Inside hi x → floor x ≤ hi
unfolding floor
floor_most hi nan i = absurd i
floor_most hi (inf s) i = absurd i
floor_most hi (fin s m e) i = div_most (m * up e) (down e) hi i.1

ceil_most_of : (n d hi : ℕ) → n ≤ hi * d → (t : Bool) → (n % d == 0) ≡ t → cond t (n / d) (n / d + 1) ≤ hi
ceil_most_of n d hi h true e = div_most n d hi h
ceil_most_of n d hi h false e = elim (eq-or-lt_of_le (div_most n d hi h)) [
  | inl s ↦ absurd (eqb-false (n % d) 0 e (let cut : hi * d + n % d ≡ n = rw s at (div-add-mod' n d) in omega arith))
  | inr l ↦ omega arith
]

pub ceil_most : (hi : ℕ) (x : Float) → Inside hi x → ceil x ≤ hi
unfolding ceil
ceil_most hi nan i = absurd i
ceil_most hi (inf s) i = absurd i
ceil_most hi (fin s m e) i = ceil_most_of (m * up e) (down e) hi i.1 (m * up e % down e == 0) refl

-- ---- what the small case works out is in range before the ceiling and the floor, and is a probability: computed for each u that is
-- admitted

abbrev passes_at : ℕ → Bool
passes_at u =
    not (outside max_search_width (before_ceil u))
    && (not (outside max_dfs_bound (before_floor u (search_width u))) && not (outside_unit (probability (search_width u))))

computed : T (each_up_to passes_at max_proof_size)
unfolding is_nan lt of_int round add mul div outside ceil as_double L before_ceil search_width probability before_floor each_up_to
computed = tt

pub record InRange (u : ℕ) : Type 0 where
  pub before_ceil_lem : outside max_search_width (before_ceil u) ≡ false
  pub before_floor_lem : outside max_dfs_bound (before_floor u (search_width u)) ≡ false
  pub unit : outside_unit (probability (search_width u)) ≡ false

is_false : (b : Bool) → T (not b) → b ≡ false
is_false true t = absurd t
is_false false t = refl

pub in_range : (u : ℕ) → proof_size_out u ≡ false → InRange u
in_range u p =
    let b = one_to p in
    let t = from_computed passes_at max_proof_size computed u b.0 b.1 in
    let f = not (outside max_dfs_bound (before_floor u (search_width u))) in
    let q = not (outside_unit (probability (search_width u))) in
    let w = and_r (not (outside max_search_width (before_ceil u))) (f && q) t in
    record {
      before_ceil_lem = is_false _ (and_l (not (outside max_search_width (before_ceil u))) (f && q) t);
      before_floor_lem = is_false _ (and_l f q w);
      unit = is_false _ (and_r f q w);
    }

module _ (u : ℕ) (p : proof_size_out u ≡ false) where
  pub width_most : search_width u ≤ max_search_width
  unfolding search_width
  width_most = ceil_most max_search_width (before_ceil u) (inside max_search_width (before_ceil u) (in_range u p).before_ceil_lem)

  pub bound_most : dfs_bound u (search_width u) ≤ max_dfs_bound
  unfolding dfs_bound
  bound_most =
      floor_most max_dfs_bound (before_floor u (search_width u))
      (inside max_dfs_bound (before_floor u (search_width u)) (in_range u p).before_floor_lem)

-- ---- the settings of the small case are lawful, with any set_size in its range

abbrev pub with_set_size : ℕ → SmallSettings → Params
with_set_size n s = record {
  set_size = n;
  proof_size = s.proof_size;
  max_retries = s.max_retries;
  search_width = s.search_width;
  dfs_bound = s.dfs_bound;
  x = s.x;
}

module _ (n u : ℕ) (c : Float) (p : proof_size_out u ≡ false) (o : completeness_out c ≡ false) where
  pub keeps_limits : Limits (with_set_size n (small_settings u c))
  unfolding small_settings
  keeps_limits = record {
    proof_size = (one_to p).1;
    max_retries_kept = ceil_most max_completeness c (inside max_completeness c o);
    search_width_kept = width_most u p;
    dfs_bound_kept = bound_most u p;
  }

  pub small_case_lawful : set_size_out n ≡ false → checked (with_set_size n (small_settings u c)) ≡ 0
  small_case_lawful s = passes (with_set_size n (small_settings u c)) s keeps_limits

-- the small case by its tests
pub ruleset small_case_told = (proof_size_refused, completeness_refused, settings_given)
