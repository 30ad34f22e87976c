-- Demand 3, of the verifier: its verdict by cases. Each field of `OfVerifier` is a declaration of its name.
use Rattle.std.proofs.Common.{◌≡◌, ℕ, ◌<◌, ◌≤◌, Bool, true, false, not, ◌||◌, eqb, leb, ◌⊎◌, ◌↔◌, List, [], ◌∷◌, length, get_or, sym, refl, ◌∙◌, subst, inl, inr, arith, eqb-true, leb-false, leb-true}
use mathlib.Core.Bool.{false≢true}
use mathlib.Core.List.{Memᴰ}
use borrow.Author.Tests.{eqb-false}
use Rattle.sampling.specs.core.FirstNumber.{line, first_number}
use Rattle.centralized_telescope.specs.declared.params.Params.{Params}
use Rattle.centralized_telescope.specs.laws.TestLaws.{neither, lt_or_le}
use Rattle.centralized_telescope.specs.laws.ListsLaws.{at_place}
use Rattle.centralized_telescope.specs.core.Params.{checked}
use Rattle.centralized_telescope.specs.core.Elements.{Element, elements, list_check, Lent}
use Rattle.centralized_telescope.specs.laws.ElementsLaws.{check_range, check_least}
use Rattle.centralized_telescope.specs.core.Chains.{ElementsPass}
use Rattle.centralized_telescope.specs.core.Verifier.{last_hash, yes_on, counters_out, judged, verdict}
use Rattle.centralized_telescope.specs.laws.VerifierLaws.{yes_exists, exists_yes}
use Rattle.centralized_telescope.specs.core.Demand3.{Accepted, OfVerifier}
use Rattle.centralized_telescope.specs.later.VerdictExactly.{verdict_numbers}
use Rattle.centralized_telescope.proofs.VerdictAnswers.{list_met, left_to_judge}

-- a number that is the k-th of the verifier's
pub among : (v k : ℕ) → k < length verdict_numbers → v ≡ get_or verdict_numbers k 0 → Memᴰ v verdict_numbers
among v k h e = subst (λ (n : ℕ). Memᴰ n verdict_numbers) (sym e) (at_place verdict_numbers k h)

module _ (p : Params) (R S : ℕ) (lent : Lent) where
  abbrev es : List Element
  es = elements lent

  abbrev list : ℕ
  list = list_check lent

  abbrev Long : Type 0
  Long = length es ≡ p.proof_size

  abbrev Out : Type 0
  Out = (p.search_width ≤ S) ⊎ (p.max_retries ≤ R)

  abbrev In : Type 0
  In = (S < p.search_width) × (R < p.max_retries)

  abbrev Pass : Type 0
  Pass = ElementsPass p R S es

  apart : In → Out → ⊥
  apart i (inl o) = omega arith
  apart i (inr o) = omega arith

  -- ---- which line is met first

  data Judged (v : ℕ) : Type 0 where
    by_length : v ≡ 20 → (Long → ⊥) → Judged v
    by_counters : v ≡ 21 → Long → Out → Judged v
    by_chain : v ≡ 22 → Long → In → (Pass → ⊥) → Judged v
    by_none : v ≡ 0 → In → Pass → Judged v

  data Met (v : ℕ) : Type 0 where
    by_list : v ≡ list → 4 ≤ list → list < 6 → Met v
    accepted : list ≡ 0 → Judged v → Met v

  -- ---- where each number is the verdict

  neither_way : {A B : Type 0} → (A → ⊥) → (B → ⊥) → A ↔ B
  neither_way a b = ((λ x. absurd (a x)), (λ y. absurd (b y)))

  module _ (v : ℕ) where
    no_list_number : (k : ℕ) → 0 < k → k < 6 → Judged v → v ≡ k → ⊥
    no_list_number k o s (by_length e n) q = omega arith
    no_list_number k o s (by_counters e l c) q = omega arith
    no_list_number k o s (by_chain e l i n) q = omega arith
    no_list_number k o s (by_none e i w) q = omega arith

    of_list : (k : ℕ) → 0 < k → k < 6 → Met v → (v ≡ k) ↔ (list ≡ k)
    of_list k o s (by_list e z r) = ((λ q. sym e ∙ q), (λ q. e ∙ q))
    of_list k o s (accepted a j) = neither_way (no_list_number k o s j) (λ q. omega arith)

    at_20 : Met v → (v ≡ 20) ↔ ((list ≡ 0) × (Long → ⊥))
    at_20 (by_list e z r) = neither_way (λ q. omega arith) (λ h. omega (arith, h.0))
    at_20 (accepted a (by_length e n)) = ((λ _. (a, n)), (λ _. e))
    at_20 (accepted a (by_counters e l c)) = neither_way (λ q. omega arith) (λ h. h.1 l)
    at_20 (accepted a (by_chain e l i n)) = neither_way (λ q. omega arith) (λ h. h.1 l)
    at_20 (accepted a (by_none e i w)) = neither_way (λ q. omega arith) (λ h. h.1 w.0)

    at_21 : Met v → (v ≡ 21) ↔ ((list ≡ 0) × Long × Out)
    at_21 (by_list e z r) = neither_way (λ q. omega arith) (λ h. omega (arith, h.0))
    at_21 (accepted a (by_length e n)) = neither_way (λ q. omega arith) (λ h. n h.1)
    at_21 (accepted a (by_counters e l c)) = ((λ _. (a, l, c)), (λ _. e))
    at_21 (accepted a (by_chain e l i n)) = neither_way (λ q. omega arith) (λ h. apart i h.2)
    at_21 (accepted a (by_none e i w)) = neither_way (λ q. omega arith) (λ h. apart i h.2)

    at_22 : Met v → (v ≡ 22) ↔ ((list ≡ 0) × Long × (S < p.search_width) × (R < p.max_retries) × (Pass → ⊥))
    at_22 (by_list e z r) = neither_way (λ q. omega arith) (λ h. omega (arith, h.0))
    at_22 (accepted a (by_length e n)) = neither_way (λ q. omega arith) (λ h. n h.1)
    at_22 (accepted a (by_counters e l c)) = neither_way (λ q. omega arith) (λ h. apart (h.2, h.3) c)
    at_22 (accepted a (by_chain e l i n)) = ((λ _. (a, l, i.0, i.1, n)), (λ _. e))
    at_22 (accepted a (by_none e i w)) = neither_way (λ q. omega arith) (λ h. h.4 w)

    at_0 : Met v → (v ≡ 0) ↔ ((list ≡ 0) × (S < p.search_width) × (R < p.max_retries) × Pass)
    at_0 (by_list e z r) = neither_way (λ q. omega arith) (λ h. omega (arith, h.0))
    at_0 (accepted a (by_length e n)) = neither_way (λ q. omega arith) (λ h. n h.3.0)
    at_0 (accepted a (by_counters e l c)) = neither_way (λ q. omega arith) (λ h. apart (h.1, h.2) c)
    at_0 (accepted a (by_chain e l i n)) = neither_way (λ q. omega arith) (λ h. n h.3)
    at_0 (accepted a (by_none e i w)) = ((λ _. (a, i.0, i.1, w)), (λ _. e))

  -- ---- which it is

  abbrev yes : Bool
  yes = yes_on p.x (last_hash p R S es)

  yes_passes : Long → yes ≡ true → Pass
  yes_passes l y = (l, yes_exists p R S es y)

  passes_yes : Pass → yes ≡ true
  passes_yes w = exists_yes p R S es w.1.0 w.1.1 w.1.2

  out_is : leb p.search_width S || leb p.max_retries R ≡ true → Out
  out_is e = go (leb p.search_width S) refl e
    where
      go : (b : Bool) → leb p.search_width S ≡ b → b || leb p.max_retries R ≡ true → Out
      go true q v = inl (leb-true _ _ q)
      go false q v = inr (leb-true _ _ v)

  in_is : leb p.search_width S || leb p.max_retries R ≡ false → In
  in_is e = let w = neither (leb p.search_width S) e in (leb-false _ _ w.0, leb-false _ _ w.1)

  judged_so : Judged (judged p R S es)
  unfolding judged first_number
  judged_so = go (eqb (length es) p.proof_size) refl (counters_out p R S) refl yes refl
    where
      go : (a : Bool) → eqb (length es) p.proof_size ≡ a → (b : Bool) → counters_out p R S ≡ b → (c : Bool) → yes ≡ c
          → Judged (first_number (line 20 (not a) ∷ line 21 b ∷ line 22 (not c) ∷ []))
      go false l b o c y = by_length refl (eqb-false _ _ l)
      go true l true o c y = by_counters refl (eqb-true _ _ l) (out_is o)
      go true l false o true y = by_none refl (in_is o) (yes_passes (eqb-true _ _ l) y)
      go true l false o false y = by_chain refl (eqb-true _ _ l) (in_is o) (λ k. false≢true (sym y ∙ passes_yes k))

  module _ (s : checked p ≡ 0) where
    abbrev v : ℕ
    v = verdict p R S lent

    met : Met v
    met = elim (check_least lent) [
      | inl a ↦ accepted a (rw (← left_to_judge p R S lent s a) judged_so)
      | inr l ↦
          by_list (sym (list_met p R S lent s (λ z. omega arith))) l
          (check_range lent)
    ]

    -- the settings' numbers, and 3, don't come
    none_below : (k : ℕ) → 0 < k → k < 4 → Met v → v ≡ k → ⊥
    none_below k o s (by_list e z r) q = omega arith
    none_below k o s (accepted a j) q = no_list_number v k o (omega arith) j q

    pub not_settings : (k : ℕ) → 0 < k → k < 4 → v ≡ k → ⊥
    not_settings k o s q = none_below k o s met q

    -- and so one of the verifier's does
    known : Met v → Memᴰ v verdict_numbers
    known (by_list e z r) = elim (lt_or_le list 5) [
      | inl l ↦ among v 3 (omega arith) (omega arith)
      | inr l ↦ among v 4 (omega arith) (omega arith)
    ]
    known (accepted a (by_length e n)) = among v 5 (omega arith) e
    known (accepted a (by_counters e l c)) = among v 6 (omega arith) e
    known (accepted a (by_chain e l i n)) = among v 7 (omega arith) e
    known (accepted a (by_none e i w)) = among v 0 (omega arith) e

    pub one_known : Memᴰ v verdict_numbers
    one_known = known met

    -- ---- the fields

    malformed : (v ≡ 4) ↔ (list ≡ 4)
    malformed = of_list v 4 (omega arith) (omega arith) met

    list_over : (v ≡ 5) ↔ (list ≡ 5)
    list_over = of_list v 5 (omega arith) (omega arith) met

    length_differs : (v ≡ 20) ↔ (Accepted lent × (Long → ⊥))
    length_differs = at_20 v met

    counters_over : (v ≡ 21) ↔ (Accepted lent × Long × Out)
    counters_over = at_21 v met

    fails : (v ≡ 22) ↔ (Accepted lent × Long × (S < p.search_width) × (R < p.max_retries) × (Pass → ⊥))
    fails = at_22 v met

    accepts : (v ≡ 0) ↔ (Accepted lent × (S < p.search_width) × (R < p.max_retries) × Pass)
    accepts = at_0 v met

    pub verdict_so : OfVerifier p R S lent v
    verdict_so = record {
      malformed = malformed;
      list_over = list_over;
      length_differs = length_differs;
      counters_over = counters_over;
      fails = fails;
      accepts = accepts;
    }
