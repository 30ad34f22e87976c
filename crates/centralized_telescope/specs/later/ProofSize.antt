-- Document 02, N6: the size of a proof from the security figures: soundness s, completeness c, set size n and lower bound f.
use Rattle.std.specs.Prelude.{◌≡◌, ℕ, ◌+◌, ◌*◌, ◌^◌, ◌<◌, ◌≤◌, Bool, true, false, ◌||◌, ◌⊎◌, nat_le, nat_lt, Result, Ok, Err}
use Rattle.centralized_telescope.specs.declared.errors.Refusal.{Refusal}
use Rattle.centralized_telescope.specs.core.Refusals.{refusal_number}
use Rattle.centralized_telescope.specs.core.Params.{max_set_size, max_proof_size, not_one_to}

-- 02, N6, the inequality: of whole numbers, log2 e cut to six decimals
abbrev pub Meets : ℕ → ℕ → ℕ → ℕ → ℕ → Type 0
Meets s c n f u = f ^ u * 2 ^ (s + 5) * c * 1000000 ≤ n ^ u * 1442695

-- 02, N6, the highest soundness and the highest completeness
abbrev pub max_soundness : ℕ
max_soundness = 256

abbrev pub max_figure : ℕ
max_figure = 1024

-- 02, N6, 43: a figure outside its range
unfoldable pub figures_out : ℕ → ℕ → ℕ → ℕ → Bool
figures_out s c n f = nat_lt max_soundness s || (not_one_to max_figure c || (nat_lt n 2 || (nat_lt max_set_size n || (nat_lt f 1 || nat_le n f))))

module _ (s c n f : ℕ) where
  -- 02, N6, the size: the smallest u from 1 to 1,024 that meets the inequality
  pub record Smallest (u : ℕ) : Type 0 where
    pub from : 1 ≤ u
    pub upto : u ≤ max_proof_size
    pub meets : Meets s c n f u
    pub none_below : (v : ℕ) → 1 ≤ v → v < u → Meets s c n f v → ⊥

  -- 02, N6, 44: none up to 1,024 does
  abbrev pub NoSize : Type 0
  NoSize = (v : ℕ) → 1 ≤ v → v ≤ max_proof_size → Meets s c n f v → ⊥

  -- the answer's number and size: 43, else 44, else 0 with the size; a refusal has size 0
  abbrev pub SizeIs : ℕ → ℕ → Type 0
  SizeIs number u =
      ((number ≡ 43) × (u ≡ 0) × (figures_out s c n f ≡ true))
      ⊎ (((number ≡ 44) × (u ≡ 0) × (figures_out s c n f ≡ false) × NoSize) ⊎ ((number ≡ 0) × (figures_out s c n f ≡ false) × Smallest u))

-- number and size for each answer
abbrev pub size_by : Result ℕ Refusal → ℕ × ℕ
size_by (Ok u) = (0, u)
size_by (Err k) = (refusal_number k, 0)

-- ---- beyond 02's words: what holds of the answers to two sets of figures

-- number' and u' ask for no less than number and u: where they are a size, so is this, and a smaller one or the same
abbrev pub NoLess : ℕ → ℕ → ℕ → ℕ → Type 0
NoLess number u number' u' = number' ≡ 0 → (number ≡ 0) × (u ≤ u')

abbrev pub InRange : ℕ → ℕ → ℕ → ℕ → Type 0
InRange s c n f = figures_out s c n f ≡ false

-- the answer never falls when s, c or f grows
abbrev pub SizeNeverFalls : Type 0
SizeNeverFalls =
    (s c n f s' c' f' : ℕ) → InRange s c n f → s ≤ s' → c ≤ c' → f ≤ f'
    → (number u number' u' : ℕ) → SizeIs s c n f number u → SizeIs s' c' n f' number' u' → NoLess number u number' u'

-- nor rises when n grows
abbrev pub SizeNeverRises : Type 0
SizeNeverRises =
    (s c n f n' : ℕ) → InRange s c n' f → n ≤ n'
    → (number u number' u' : ℕ) → SizeIs s c n f number u → SizeIs s c n' f number' u' → NoLess number' u' number u

-- the relation has one answer alone
abbrev pub SizeOneAnswer : Type 0
SizeOneAnswer =
    (s c n f number u number' u' : ℕ) → SizeIs s c n f number u → SizeIs s c n f number' u' → (number ≡ number') × (u ≡ u')
