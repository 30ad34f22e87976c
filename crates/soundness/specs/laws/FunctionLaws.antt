-- Tables are functions: each function is one table's alone, and each table is counted once.
use Rattle.std.specs.Prelude.{◌≡◌, refl, Bool, true, false, ◌&&◌, List, [], ◌∷◌, ℕ, zero, suc, ◌*◌, ◌^◌, ◌≤◌, ◌<◌, eqb, length, get_or}
use Rattle.std.proofs.Common.{sym, ◌∙◌, ap, subst, mul-one, one-mul, zero-mul, le_of_eq, le_of_suc-le-suc, arith, eq-eqb, take_all, ext_get_or}
use Rattle.sampling.specs.core.BigEndian.{big_endian, bytes_of}
use Rattle.sampling.specs.laws.BigEndianLaws.{read_back}
use Rattle.centralized_telescope.specs.core.Lists.{Each}
use Rattle.centralized_telescope.specs.later.Words.{same_bytes}
use Rattle.centralized_telescope.specs.laws.BytesLaws.{each_bytes, big_endian_below, bytes_again}
use Rattle.soundness.specs.Functions.{sum_tables, one_if, how_many_tables, OfBytes, how_many_strings, place_of, how_many_digests, hash_of}
use Rattle.soundness.specs.Functions.{IsDigest, IsTable, Agree, TablesAreFunctions}
use Rattle.soundness.specs.laws.SumLaws.{sum_same, sum_has}
use Rattle.soundness.specs.laws.TableLaws.{tables_same, tables_const, tables_times}
use Rattle.soundness.specs.laws.CountLaws.{how_many, count_equal}
use Rattle.soundness.specs.laws.PlaceLaws.{place_apart, place_within, string_at, string_at_lem}

-- ---- the table of a function

-- g of each place below k
unfoldable tabled : ℕ → (ℕ → ℕ) → List ℕ
tabled zero g = []
tabled (suc k) g = g 0 ∷ tabled k (λ (i : ℕ). g (suc i))

tabled_is : (m k : ℕ) (g : ℕ → ℕ) → ((i : ℕ) → i < k → g i < m) → IsTable m k (tabled k g)
unfolding tabled Each
tabled_is m zero g h = (refl, tt)
tabled_is m (suc k) g h =
    let r = tabled_is m k (λ i. g (suc i)) (λ i l. h (suc i) (omega arith)) in
    (ap suc r.0, (h 0 (omega arith), r.1))

tabled_at : (k : ℕ) (g : ℕ → ℕ) (i : ℕ) → i < k → get_or (tabled k g) i 0 ≡ g i
unfolding tabled
tabled_at zero g i l = absurd (omega arith)
tabled_at (suc k) g zero l = refl
tabled_at (suc k) g (suc i) l = tabled_at k (λ j. g (suc j)) i (le_of_suc-le-suc l)

number_again : (d : List ℕ) → IsDigest d → (big_endian 32 d < how_many_digests) × (bytes_of 32 (big_endian 32 d) ≡ d)
number_again d i =
    let b = each_bytes d i.0 in
    (big_endian_below 32 d b, bytes_again 32 d b (le_of_eq (sym i.1)) ∙ take_all 32 d (le_of_eq i.1))

of_function : (n : ℕ) (F : List ℕ → List ℕ) → ((s : List ℕ) → OfBytes s → length s ≤ n → IsDigest (F s))
    → (t : List ℕ) × IsTable how_many_digests (how_many_strings n) t × Agree n (hash_of t) F
of_function n F digest = (
  tabled (how_many_strings n) number,
  tabled_is how_many_digests (how_many_strings n) number (λ i l. (again i l).0),
  λ s b l. at s b (place_within n s b l),
)
  where
    number : ℕ → ℕ
    number i = big_endian 32 (F (string_at n i))

    again : (i : ℕ) → i < how_many_strings n → (number i < how_many_digests) × (bytes_of 32 (number i) ≡ F (string_at n i))
    again i l = let r = string_at_lem n i l in number_again (F (string_at n i)) (digest (string_at n i) r.0 r.1)

    at : (s : List ℕ) → OfBytes s → place_of s < how_many_strings n → hash_of (tabled (how_many_strings n) number) s ≡ F s
    at s b w =
        let r = string_at_lem n (place_of s) w in
        ap (bytes_of 32) (tabled_at (how_many_strings n) number (place_of s) w)
        ∙ ((again (place_of s) w).1 ∙ ap F (place_apart (string_at n (place_of s)) s r.0 b r.2))

-- ---- of one table alone

entry_below : (m : ℕ) (t : List ℕ) (i : ℕ) → Each (λ (v : ℕ). v < m) t → i < length t → get_or t i 0 < m
unfolding Each
entry_below m [] i e l = absurd (omega arith)
entry_below m (v ∷ t) zero e l = e.0
entry_below m (v ∷ t) (suc i) e l = entry_below m t i e.1 (le_of_suc-le-suc l)

same_digest : (v w : ℕ) → v < how_many_digests → w < how_many_digests → bytes_of 32 v ≡ bytes_of 32 w → v ≡ w
same_digest v w l m e = sym (read_back 32 v l) ∙ (ap (big_endian 32) e ∙ read_back 32 w m)

one_table : (n : ℕ) (t t' : List ℕ) → IsTable how_many_digests (how_many_strings n) t → IsTable how_many_digests (how_many_strings n) t'
    → Agree n (hash_of t) (hash_of t') → t ≡ t'
one_table n t t' T T' alike = ext_get_or 0 t t' (T.0 ∙ sym T'.0) entry
  where
    entry : (i : ℕ) → i < length t → get_or t i 0 ≡ get_or t' i 0
    entry i l =
        let r = string_at_lem n i (subst (λ (k : ℕ). i < k) T.0 l) in
        same_digest (get_or t i 0) (get_or t' i 0) (entry_below how_many_digests t i T.1 l)
        (entry_below how_many_digests t' i T'.1 (subst (λ (k : ℕ). i < k) (T.0 ∙ sym T'.0) l))
        (subst (λ (j : ℕ). bytes_of 32 (get_or t j 0) ≡ bytes_of 32 (get_or t' j 0)) r.2 (alike (string_at n i) r.0 r.1))

-- ---- counted once

one_and : (a b : Bool) → one_if (a && b) ≡ one_if a * one_if b
one_and true b = sym (one-mul (one_if b))
one_and false b = sym (zero-mul (one_if b))

just_one : (m v : ℕ) → v < m → how_many m (λ (x : ℕ). eqb v x) ≡ 1
just_one m v l =
    let most = count_equal m v in
    let least : one_if (eqb v v) ≤ how_many m (λ (x : ℕ). eqb v x) = sum_has m v (λ x. one_if (eqb v x)) l in
    let it : one_if (eqb v v) ≡ 1 = ap one_if (eq-eqb v v refl) in
    omega arith

counted_once : (m k : ℕ) (t : List ℕ) → IsTable m k t → how_many_tables m k (λ (s : List ℕ). same_bytes t s) ≡ 1
unfolding Each sum_tables
counted_once m zero [] T = refl
counted_once m zero (v ∷ t) T = absurd (let l = T.0 in omega arith)
counted_once m (suc k) [] T = absurd (let l = T.0 in omega arith)
counted_once m (suc k) (v ∷ t) T =
    let rest = counted_once m k t (let l = T.0 in omega arith, T.1.1) in
    sum_same m (λ x. sum_tables m k (λ s. one_if (eqb v x && same_bytes t s))) (λ x. one_if (eqb v x)) (λ x _.
    tables_same m k (λ s. one_if (eqb v x && same_bytes t s)) (λ s. one_if (eqb v x) * one_if (same_bytes t s))
    (λ s. one_and (eqb v x) (same_bytes t s))
    ∙ (tables_times m k (one_if (eqb v x)) (λ s. one_if (same_bytes t s))
    ∙ (ap (λ (z : ℕ). one_if (eqb v x) * z) rest ∙ mul-one (one_if (eqb v x)))))
    ∙ just_one m v T.1.0

pub tables_are_functions : TablesAreFunctions
tables_are_functions = record {
  each = of_function;
  alone = one_table;
  once = counted_once;
  all = λ m k. tables_const m k 1 ∙ mul-one (m ^ k);
}
