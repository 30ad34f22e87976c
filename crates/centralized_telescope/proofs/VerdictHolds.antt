-- The verdict under any settings: its number by what is the first to be out, the settings or, where they are lawful, what `OfVerifier`
-- says; and the exported verdict, by whether bytes are left over.
use Rattle.std.proofs.Common.{◌≡◌, ℕ, zero, suc, ◌<◌, Bool, true, false, ◌↔◌, sym, refl, ◌∙◌, arith}
use mathlib.Core.List.{Memᴰ}
use Rattle.sampling.specs.laws.FirstNumberLaws.{number_met, number_passed, second_met, two_passed, number_last}
use Rattle.centralized_telescope.specs.declared.params.Params.{Params}
use Rattle.centralized_telescope.specs.core.Params.{set_size_out, limit_broken, checked}
use Rattle.centralized_telescope.specs.core.Elements.{elements, list_check, Lent}
use Rattle.centralized_telescope.specs.core.Verifier.{verdict}
use Rattle.centralized_telescope.specs.core.Exports.{numbered, left_over, exported_verdict}
use Rattle.centralized_telescope.specs.later.VerdictExactly.{SetSizeKept, Limits, Lawful, verdict_numbers, VerdictIs, bytes_check}
use Rattle.centralized_telescope.specs.later.VerdictExactly.{VerdictExactly}
use Rattle.centralized_telescope.specs.laws.TestLaws.{not_both}
use Rattle.centralized_telescope.specs.laws.ParamsLaws.{one_to, size_kept, limits_kept, within_limits, set_size_refused}
use Rattle.centralized_telescope.specs.laws.ParamsLaws.{limit_refused, none_refused}
use Rattle.centralized_telescope.proofs.VerifierDemand.{among, verdict_so, not_settings, one_known}

no_way : {A B : Type 0} → (A → ⊥) → (B → ⊥) → A ↔ B
no_way a b = ((λ x. absurd (a x)), (λ y. absurd (b y)))

-- v being a verdict: the settings' number where they have one, and else none below 4
module _ (p : Params) (v : ℕ) (met : (k : ℕ) → (k ≡ 0 → ⊥) → checked p ≡ k → v ≡ k)
    (above : checked p ≡ 0 → (k : ℕ) → 0 < k → k < 4 → v ≡ k → ⊥) where
  -- which of the settings' lines is met first, or none
  data Which : Type 0 where
    by_size : (SetSizeKept p → ⊥) → v ≡ 1 → Which
    by_limit : SetSizeKept p → (Limits p → ⊥) → v ≡ 2 → Which
    by_none : Lawful p → checked p ≡ 0 → Which

  which : Which
  which = go (set_size_out p.set_size) refl (limit_broken p) refl
    where
      go : (s : Bool) → set_size_out p.set_size ≡ s → (l : Bool) → limit_broken p ≡ l → Which
      go true s l L = by_size (λ k. not_both s (size_kept p k)) (met 1 (λ z. omega arith) (set_size_refused p s))
      go false s true L = by_limit (one_to s) (λ k. not_both L (within_limits p k)) (met 2 (λ z. omega arith) (limit_refused p s L))
      go false s false L = by_none (record { set_size = one_to s; limits = limits_kept p L }) (none_refused p s L)

  at_1 : Which → (v ≡ 1) ↔ (SetSizeKept p → ⊥)
  at_1 (by_size n e) = ((λ _. n), (λ _. e))
  at_1 (by_limit k n e) = no_way (λ q. omega arith) (λ h. h k)
  at_1 (by_none l c) = no_way (above c 1 (omega arith) (omega arith)) (λ h. h l.set_size)

  at_2 : Which → (v ≡ 2) ↔ (SetSizeKept p × (Limits p → ⊥))
  at_2 (by_size n e) = no_way (λ q. omega arith) (λ h. n h.0)
  at_2 (by_limit k n e) = ((λ _. (k, n)), (λ _. e))
  at_2 (by_none l c) = no_way (above c 2 (omega arith) (omega arith)) (λ h. h.1 l.limits)

  -- every other number: the settings are lawful, and what is so then
  lawful_and : (k : ℕ) (P : Type 0) → (checked p ≡ 0 → (v ≡ k) ↔ P) → (1 ≡ k → ⊥) → (2 ≡ k → ⊥) → Which → (v ≡ k) ↔ (Lawful p × P)
  lawful_and k P f a b (by_size n e) = no_way (λ q. a (sym e ∙ q)) (λ h. n h.0.set_size)
  lawful_and k P f a b (by_limit s n e) = no_way (λ q. b (sym e ∙ q)) (λ h. n h.0.limits)
  lawful_and k P f a b (by_none l c) = ((λ q. (l, (f c).0 q)), (λ h. (f c).1 h.1))

  one_of : (checked p ≡ 0 → Memᴰ v verdict_numbers) → Memᴰ v verdict_numbers
  one_of passed = go which
    where
      go : Which → Memᴰ v verdict_numbers
      go (by_size n e) = among v 1 (omega arith) e
      go (by_limit k n e) = among v 2 (omega arith) e
      go (by_none l c) = passed c

  set_size_met : (v ≡ 1) ↔ (SetSizeKept p → ⊥)
  set_size_met = at_1 which

  limit_met : (v ≡ 2) ↔ (SetSizeKept p × (Limits p → ⊥))
  limit_met = at_2 which

  settled : (k : ℕ) (P : Type 0) → (checked p ≡ 0 → (v ≡ k) ↔ P) → (1 ≡ k → ⊥) → (2 ≡ k → ⊥) → (v ≡ k) ↔ (Lawful p × P)
  settled k P f a b = lawful_and k P f a b which

module _ (p : Params) (R S : ℕ) (lent : Lent) where
  abbrev v : ℕ
  v = verdict p R S lent

  v_met : (k : ℕ) → (k ≡ 0 → ⊥) → checked p ≡ k → v ≡ k
  unfolding verdict
  v_met k n c = number_met (checked p) _ k c n

  of_list : VerdictIs p R S (list_check lent) (elements lent) v
  of_list =
      let so = verdict_so p R S lent in
      let above = not_settings p R S lent in
      record {
        one_of_these = one_of p v v_met above (one_known p R S lent);
        set_size = set_size_met p v v_met above;
        limit = limit_met p v v_met above;
        malformed = settled p v v_met above 4 _ (λ c. (so c).malformed) (λ z. omega arith) (λ z. omega arith);
        list_over = settled p v v_met above 5 _ (λ c. (so c).list_over) (λ z. omega arith) (λ z. omega arith);
        length_differs = settled p v v_met above 20 _ (λ c. (so c).length_differs) (λ z. omega arith) (λ z. omega arith);
        counters_over = settled p v v_met above 21 _ (λ c. (so c).counters_over) (λ z. omega arith) (λ z. omega arith);
        fails = settled p v v_met above 22 _ (λ c. (so c).fails) (λ z. omega arith) (λ z. omega arith);
        accepts = settled p v v_met above 0 _ (λ c. (so c).accepts) (λ z. omega arith) (λ z. omega arith);
      }

-- ---- in bytes

module _ (p : Params) (R S : ℕ) (lent : Lent) where
  abbrev left : Bool
  left = left_over lent

  abbrev w : ℕ
  w = exported_verdict p R S lent

  w_met : (k : ℕ) → (k ≡ 0 → ⊥) → checked p ≡ k → w ≡ k
  unfolding exported_verdict
  w_met k n c = number_met (checked p) _ k c n

  -- without bytes left over the verdict is that on the list which they stand for
  pub of_numbers : left ≡ false → w ≡ verdict p R S (numbered lent)
  unfolding exported_verdict
  of_numbers W = go (checked p) refl
    where
      go : (k : ℕ) → checked p ≡ k → w ≡ verdict p R S (numbered lent)
      go zero c = two_passed (checked p) _ _ c (rw W) ∙ number_last (verdict p R S (numbered lent))
      go (suc k) c = w_met (suc k) (λ z. omega arith) c ∙ sym (v_met p R S (numbered lent) (suc k) (λ z. omega arith) c)

  check_whole : left ≡ false → bytes_check lent ≡ list_check (numbered lent)
  check_whole W = number_passed _ _ (rw W) ∙ number_last (list_check (numbered lent))

  -- and otherwise 4
  check_left_over : left ≡ true → bytes_check lent ≡ 4
  check_left_over W = number_met _ _ 4 (rw W) (λ z. omega arith)

  w_left_over : left ≡ true → checked p ≡ 0 → w ≡ 4
  unfolding exported_verdict
  w_left_over W c = second_met (checked p) _ _ 4 c (rw W) (λ z. omega arith)

  abbrev Exactly : Type 0
  Exactly = VerdictIs p R S (bytes_check lent) (elements (numbered lent)) w

  of_whole : left ≡ false → Exactly
  of_whole W = rw (check_whole W, of_numbers W) (of_list p R S (numbered lent))

  of_left_over : left ≡ true → Exactly
  of_left_over W =
      let four = w_left_over W in
      let above : checked p ≡ 0 → (k : ℕ) → 0 < k → k < 4 → w ≡ k → ⊥ = λ c k o s q. omega (arith, four c) in
      rw (check_left_over W)
      record {
        one_of_these = one_of p w w_met above (λ c. among w 3 (omega arith) (four c));
        set_size = set_size_met p w w_met above;
        limit = limit_met p w w_met above;
        malformed = settled p w w_met above 4 _ (λ c. ((λ _. refl), (λ _. four c))) (λ z. omega arith) (λ z. omega arith);
        list_over = settled p w w_met above 5 _ (λ c. other 5 _ (four c) (λ z. omega arith) (λ h. omega arith)) (λ z. omega arith)
            (λ z. omega arith);
        length_differs = settled p w w_met above 20 _ (λ c. other 20 _ (four c) (λ z. omega arith) (λ h. omega (arith, h.0)))
            (λ z. omega arith) (λ z. omega arith);
        counters_over = settled p w w_met above 21 _ (λ c. other 21 _ (four c) (λ z. omega arith) (λ h. omega (arith, h.0)))
            (λ z. omega arith) (λ z. omega arith);
        fails = settled p w w_met above 22 _ (λ c. other 22 _ (four c) (λ z. omega arith) (λ h. omega (arith, h.0)))
            (λ z. omega arith) (λ z. omega arith);
        accepts = settled p w w_met above 0 _ (λ c. other 0 _ (four c) (λ z. omega arith) (λ h. omega (arith, h.0)))
            (λ z. omega arith) (λ z. omega arith);
      }
    where
      other : (k : ℕ) (P : Type 0) → w ≡ 4 → (4 ≡ k → ⊥) → (P → ⊥) → (w ≡ k) ↔ P
      other k P e n h = no_way (λ q. n (sym e ∙ q)) h

  in_bytes_lem : Exactly
  in_bytes_lem = go left refl
    where
      go : (t : Bool) → left ≡ t → Exactly
      go true W = of_left_over W
      go false W = of_whole W

pub verdict_exactly : VerdictExactly
verdict_exactly = (of_list, in_bytes_lem)
