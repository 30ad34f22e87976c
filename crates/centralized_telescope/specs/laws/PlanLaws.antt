-- Laws of planning: the answer by the lines of the table, and how many bytes a proof's ticket holds.
use Rattle.std.specs.Prelude.{◌≡◌, ℕ, ◌+◌, ◌*◌, ◌^◌, ◌<◌, ◌≤◌, Bool, true, false, cond, List, [], ◌∷◌, length, ◌==◌, nat_lt}
use Rattle.std.proofs.Math.Path.{refl, ap}
use Rattle.std.proofs.Common.{sym, ◌∙◌, mul-le-mul}
use native.Mathlib.Omega.{arith}
use borrow.Author.Tests.{eq-eqb, ne_eqb, eqb-true, lt-ltb, le-ltb, ltb-false}
use Rattle.std.proofs.Math.ListN.{length-append}
use Rattle.centralized_telescope.specs.declared.errors.Refusal.{Refusal}
use Rattle.centralized_telescope.specs.declared.errors.Refusal.TheVariants as refusal
use Rattle.centralized_telescope.specs.declared.params.Params.{Params}
use Rattle.centralized_telescope.specs.declared.planning.Amounts.{Amounts}
use Rattle.centralized_telescope.specs.laws.TestLaws.{unsaid}
use Rattle.centralized_telescope.specs.laws.ParamsLaws.{lawful}
use Rattle.sampling.specs.core.FirstNumber.{line}
use Rattle.sampling.specs.laws.FirstNumberLaws.{number_passed, number_met, number_last, second_met, number_none}
use Rattle.centralized_telescope.specs.laws.RefusalsLaws.{refusal_number_lem}
use Rattle.centralized_telescope.specs.laws.ElementBytesLaws.{length_element, elements_most}
use Rattle.centralized_telescope.specs.laws.TicketsReadLaws.{content_length}
use Rattle.centralized_telescope.specs.core.Lists.{Each}
use Rattle.centralized_telescope.specs.core.Refusals.{refusal_number}
use Rattle.centralized_telescope.specs.core.Params.{checked}
use Rattle.centralized_telescope.specs.core.Elements.{Element, max_data_bytes}
use Rattle.centralized_telescope.specs.later.Words.{mark_of}
use Rattle.centralized_telescope.specs.later.ElementBytes.{element_bytes, elements_bytes, max_head_bytes}
use Rattle.centralized_telescope.specs.later.Tickets.{content, ticket_head_bytes}
use Rattle.centralized_telescope.specs.later.Plan.{amounts, no_amounts, plan_refusal, planned}

-- ---- the answer

module _ (p : Params) (longest : ℕ) where
  refusal_is : (k : Refusal) → plan_refusal p longest ≡ refusal_number k → planned p longest ≡ (refusal_number k, no_amounts)
  unfolding planned
  refusal_is k e = rw (e, ne_eqb (refusal_number k) 0 (refusal_number_lem k))

  -- 1, 2
  pub settings_refused : (k : Refusal) → checked p ≡ refusal_number k → planned p longest ≡ (refusal_number k, no_amounts)
  unfolding plan_refusal
  settings_refused k e = refusal_is k (number_met (checked p) _ (refusal_number k) e (refusal_number_lem k))

  -- 5
  pub length_refused : checked p ≡ 0 → max_data_bytes < longest → planned p longest ≡ (5, no_amounts)
  unfolding plan_refusal
  length_refused s h =
      refusal_is refusal.TooLarge
      (second_met (checked p) (line 5 (nat_lt max_data_bytes longest)) _ 5 s (rw (lt-ltb max_data_bytes longest h))
      (refusal_number_lem refusal.TooLarge))

  pub amounts_given : checked p ≡ 0 → longest ≤ max_data_bytes → planned p longest ≡ (0, amounts p longest)
  unfolding planned plan_refusal
  amounts_given s h =
      let none : plan_refusal p longest ≡ 0 =
      number_passed (checked p) _ s ∙ number_last (line 5 (nat_lt max_data_bytes longest)) ∙ rw (le-ltb max_data_bytes longest h) in
      rw (eq-eqb (plan_refusal p longest) 0 none)

  -- what a caller knows of amounts that were given
  pub record Given (a : Amounts) : Type 0 where
    pub settings : checked p ≡ 0
    pub short : longest ≤ max_data_bytes
    pub same : a ≡ amounts p longest

  none_met : (a : Amounts) → planned p longest ≡ (0, a) → plan_refusal p longest ≡ 0
  unfolding planned
  none_met a = go (refusal == 0) refl
    where
      refusal : ℕ
      refusal = plan_refusal p longest

      go : (t : Bool) → (refusal == 0) ≡ t → ◌≡◌ {A = ℕ × Amounts} (cond t (0, amounts p longest) (refusal, no_amounts)) (0, a) → refusal ≡ 0
      go true e h = eqb-true refusal 0 e
      go false e h = ap (λ (r : ℕ × Amounts). r.0) h

  pub given : (a : Amounts) → planned p longest ≡ (0, a) → Given a
  unfolding plan_refusal
  given a e =
      let s = number_none _ _ (none_met a e) in
      let l = number_none _ _ s.1 in
      let short = ltb-false max_data_bytes longest (unsaid (nat_lt max_data_bytes longest) 4 l.0) in
      record { settings = s.0; short = short; same = ap (λ (r : ℕ × Amounts). r.1) (sym e ∙ amounts_given s.0 short) }

-- ---- none of the amounts of lawful settings is too great for 64 bits

module _ (p : Params) (P : checked p ≡ 0) where
  pub content_fits : (longest : ℕ) → longest ≤ max_data_bytes → p.proof_size * (max_head_bytes + longest) < 2 ^ 63
  content_fits longest h =
      let most : max_head_bytes + longest ≤ 4109 = omega arith in
      let size : p.proof_size * (max_head_bytes + longest) ≤ 1024 * 4109 = mul-le-mul (lawful p P).limits.proof_size most in
      omega arith

  pub table_fits : p.set_size < 2 ^ 32
  table_fits = omega (arith, (lawful p P).set_size)

  pub steps_fit : p.max_retries * p.dfs_bound < 2 ^ 64
  steps_fit =
      let steps : p.max_retries * p.dfs_bound ≤ 65535 * 2 ^ 48
      = mul-le-mul (lawful p P).limits.max_retries_kept (lawful p P).limits.dfs_bound_kept in
      omega arith

-- ---- how many bytes a ticket holds

module _ (longest : ℕ) where
  elements_exact : (es : List Element) → Each (λ (e : Element). (length e.bytes ≡ longest) × (mark_of e.index ≡ 1)) es
      → length (elements_bytes es) ≡ length es * (max_head_bytes + longest)
  unfolding Each elements_bytes
  elements_exact [] h = omega arith
  elements_exact (e ∷ es) h =
      omega (arith, length-append (element_bytes e) (elements_bytes es), length_element e, h.0.0, h.0.1, elements_exact es h.1)

  pub content_most : (R S : ℕ) (es : List Element) → Each (λ (e : Element). length e.bytes ≤ longest) es
      → length (content R S es) ≤ ticket_head_bytes + length es * (max_head_bytes + longest)
  content_most R S es h = omega (arith, content_length R S es, elements_most longest es h)

  pub content_exact : (R S : ℕ) (es : List Element) → Each (λ (e : Element). (length e.bytes ≡ longest) × (mark_of e.index ≡ 1)) es
      → length (content R S es) ≡ ticket_head_bytes + length es * (max_head_bytes + longest)
  content_exact R S es h = omega (arith, content_length R S es, elements_exact es h)

-- none of the amounts is too great
pub ruleset amounts_fit = (content_fits, table_fits, steps_fit)

-- the answer by the lines of the table
pub ruleset plan_told = (settings_refused, length_refused, amounts_given)
