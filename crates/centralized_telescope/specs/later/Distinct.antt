-- Document 01, Distinctness, as 02's N2 has it read: whether no element of a list stands at two of its places.
use Rattle.std.specs.Prelude.{◌≡◌, ℕ, ◌<◌, Bool, true, false, cond, not, ◌&&◌, ◌↔◌, List, [], ◌∷◌, length, ◌==◌, ◌≢◌, Result, Ok, Err}
use Rattle.centralized_telescope.specs.core.Lists.{some_of}
use Rattle.centralized_telescope.specs.later.Words.{same_bytes, mark_of, number_of}
use Rattle.centralized_telescope.specs.core.Refusals.{refusal_number}
use Rattle.centralized_telescope.specs.core.Elements.{Element, elements, element_at, list_check, Lent}
use Rattle.centralized_telescope.specs.declared.errors.Refusal.{Refusal}

-- no two places hold the same element
abbrev pub Distinct : List Element → Type 0
Distinct es = (i j : ℕ) → i < j → j < length es → element_at es i ≢ element_at es j

-- ---- the yes or no

-- 02, N2: data and mark agree and, where the mark is 1, the index
unfoldable pub same_element : Element → Element → Bool
same_element e f =
    same_bytes e.bytes f.bytes && (mark_of e.index == mark_of f.index && number_of e.index == number_of f.index)

-- none is the same as one behind it
unfoldable pub none_equal : List Element → Bool
none_equal [] = true
none_equal (e ∷ es) = not (some_of (same_element e) es) && none_equal es

-- it is yes exactly when the list is distinct
abbrev pub DistinctExactly : Type 0
DistinctExactly = (es : List Element) → (none_equal es ≡ true) ↔ Distinct es

-- ---- the answer: 0 with the yes or no, or the list's number, 4 or 5, with no

unfoldable pub distinct : Lent → ℕ × Bool
distinct lent =
    cond (list_check lent == 0) (0, none_equal (elements lent)) (list_check lent, false)

-- 01's number and the yes or no for each answer
abbrev pub distinct_by : Result Bool Refusal → ℕ × Bool
distinct_by (Ok apart) = (0, apart)
distinct_by (Err k) = (refusal_number k, false)
