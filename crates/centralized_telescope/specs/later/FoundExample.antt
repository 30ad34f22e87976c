-- Document 01, Search, a run that finds a proof: of one element, "a", in the first try. The verifier accepts it. So demand 3 speaks of
-- proofs, and planning of tickets.
use Rattle.std.specs.Prelude.{◌≡◌, ◌-◌, ◌^◌, [], ◌∷◌, replicate}
use Rattle.sampling.specs.declared.sample.U128.{U128}
use Rattle.centralized_telescope.specs.declared.params.Params.{Params}
use Rattle.centralized_telescope.specs.core.Elements.{Lent, lent_of}
use Rattle.centralized_telescope.specs.core.Prover.{answer_of, proved}
use Rattle.centralized_telescope.specs.core.Verifier.{verdict}

abbrev pub found_settings : Params
found_settings =
    let most : U128 = record { hi = 2 ^ 64 - 1; lo = 2 ^ 64 - 1 } in
    record { set_size = 1; proof_size = 1; max_retries = 2; search_width = 1; dfs_bound = 2; x = most }

abbrev pub found_list : Lent
found_list = lent_of (97 ∷ []) (1 ∷ []) (0 ∷ []) (0 ∷ [])

-- with one place and four bin-table numbers lent the prover answers R = 1 and S = 0 after two steps: the chain of no place, and the one
-- of the place 0. The bin table has one bin, from 0 to 1, with that place
abbrev pub FoundExample : Type 0
FoundExample =
    (proved found_settings found_list (9 ∷ []) (replicate 4 9) ≡ answer_of 0 1 0 2 (0 ∷ []) (0 ∷ 1 ∷ 0 ∷ 0 ∷ []))
    × (verdict found_settings 1 0 found_list ≡ 0)
