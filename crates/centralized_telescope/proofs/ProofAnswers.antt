-- The answers of `write_proof` by its tests, in their order.
use Rattle.std.proofs.Common.{◌≡◌, ℕ, ◌<◌, ◌≤◌, Bool, true, false, cond, ltb, List, length, ◌∙◌, le-ltb, lt-ltb, ne_eqb}
use Rattle.centralized_telescope.specs.declared.errors.Refusal.{Refusal}
use Rattle.centralized_telescope.specs.declared.errors.Refusal.TheVariants as refusal
use Rattle.centralized_telescope.specs.core.Refusals.{refusal_number}
use Rattle.centralized_telescope.specs.laws.RefusalsLaws.{refusal_number_lem}
use Rattle.centralized_telescope.specs.core.Elements.{list_check, Lent, max_elements}
use Rattle.sampling.specs.core.FirstNumber.{line}
use Rattle.sampling.specs.laws.FirstNumberLaws.{number_passed, number_met, second_met, two_passed, number_last}
use Rattle.centralized_telescope.specs.later.ProofList.{joined_data, chosen, place_out, ProofList, list_over, buffers_short, write_refusal}
use Rattle.centralized_telescope.specs.later.ProofList.{proof_list, with_buffers}

-- places, a list, and the lent buffers
module _ (ps : List ℕ) (lent : Lent) (buffers : Lent) where
  open lent use {ends as n}

  refused : (k : Refusal) → write_refusal ps lent buffers ≡ refusal_number k
      → with_buffers (refusal_number k) 0 buffers ≡ proof_list ps lent buffers
  unfolding proof_list
  refused k w = rw (w, ne_eqb (refusal_number k) 0 (refusal_number_lem k))

  pub list_refused : (k : Refusal) → list_check lent ≡ refusal_number k → with_buffers (refusal_number k) 0 buffers ≡ proof_list ps lent buffers
  unfolding write_refusal
  list_refused k l = refused k (number_met (list_check lent) _ (refusal_number k) l (refusal_number_lem k))

  module _ (A : list_check lent ≡ 0) where
    place_met : place_out (length n) ps ≡ true → write_refusal ps lent buffers ≡ 4
    unfolding write_refusal
    place_met t = second_met (list_check lent) (line 4 (place_out (length n) ps)) _ 4 A (rw t) (refusal_number_lem refusal.Malformed)

    pub place_past : place_out (length n) ps ≡ true → with_buffers 4 0 buffers ≡ proof_list ps lent buffers
    place_past t = refused refusal.Malformed (place_met t)

    module _ (P : place_out (length n) ps ≡ false) where
      many_met : max_elements < length ps → write_refusal ps lent buffers ≡ 5
      unfolding write_refusal
      many_met t =
          two_passed (list_check lent) (line 4 (place_out (length n) ps)) _ A (rw P)
          ∙ number_met (line 5 (ltb max_elements (length ps))) _ 5 (rw (lt-ltb max_elements (length ps) t)) (refusal_number_lem refusal.TooLarge)

      pub too_many : max_elements < length ps → with_buffers 5 0 buffers ≡ proof_list ps lent buffers
      too_many t = refused refusal.TooLarge (many_met t)

      module _ (F : length ps ≤ max_elements) where
        abbrev short : Bool
        short = buffers_short (length ps) (length (joined_data (chosen ps lent))) buffers

        pub last_met : (u : Bool) → short ≡ u → write_refusal ps lent buffers ≡ cond u 42 0
        unfolding write_refusal
        last_met u s =
            two_passed (list_check lent) (line 4 (place_out (length n) ps)) _ A (rw P)
            ∙ number_passed (line 5 (ltb max_elements (length ps))) _ (rw (le-ltb max_elements (length ps) F))
            ∙ rw s (number_last (cond u 42 0))

        pub too_short : short ≡ true → with_buffers 42 0 buffers ≡ proof_list ps lent buffers
        too_short h = refused refusal.BufferShort (last_met true h)

        pub written : short ≡ false → (w : ProofList) → w ≡ list_over (chosen ps lent) buffers → w ≡ proof_list ps lent buffers
        unfolding proof_list
        written h w W = rw (last_met false h) W
