-- Demand 3, proved; and the example that its premise admits.
use Rattle.std.proofs.Common.{◌≡◌, ℕ, ◌*◌, ◌<◌, ◌≤◌, List, [], ◌∷◌, map, length, take, sym, refl, ap, ◌∙◌, subst, inr, arith, length-take, take_at}
use lib.ListN.{length-map}
use Rattle.sampling.specs.core.FirstNumber.{first_number}
use Rattle.centralized_telescope.specs.declared.params.Params.{Params}
use Rattle.centralized_telescope.specs.core.Params.{not_one_to, limit_broken, checked}
use Rattle.centralized_telescope.specs.laws.ParamsLaws.{lawful}
use Rattle.centralized_telescope.specs.core.Elements.{Element, elements, element_at, end_wrong, malformed, data_long, too_large}
use Rattle.centralized_telescope.specs.core.Elements.{list_check, Lent, lent_of}
use Rattle.centralized_telescope.specs.laws.ElementsLaws.{at_kept, length_elements, bytes_short}
use Rattle.centralized_telescope.specs.core.Lists.{Each, some_of}
use Rattle.centralized_telescope.specs.laws.ListsLaws.{each_nil, each_cons, each_head, each_rest}
use Rattle.centralized_telescope.specs.core.Chains.{Try, try_of, Chain, ElementsPass, elements_of, Passes}
use Rattle.centralized_telescope.specs.core.Search.{searched}
use Rattle.centralized_telescope.specs.core.Prover.{Proved, by_search, proved, table_after}
use Rattle.centralized_telescope.specs.core.Verifier.{verdict}
use Rattle.centralized_telescope.specs.later.ProofList.{joined_data, ends_from, marks_of, indexes_of}
use Rattle.centralized_telescope.specs.laws.ProofListLaws.{Short, accepted_again, elements_again}
use Rattle.centralized_telescope.specs.core.Demand3.{Served, OfProver, OfVerifier, OnTheProof, Listed, proof_elements, Demand3Claim}
use Rattle.centralized_telescope.specs.core.Demand3.{ServedExample}
use Rattle.centralized_telescope.proofs.ProveAnswers.{served_so}
use Rattle.centralized_telescope.proofs.VerifierDemand.{verdict_so}
use Rattle.centralized_telescope.proofs.ProverDemand.{prover_so}

-- ---- the elements at a chain's places

map_kept : (k : ℕ) (es : List Element) (ps : List ℕ) → Each (λ (place : ℕ). place < length (take k es)) ps
    → map (element_at es) ps ≡ map (element_at (take k es)) ps
map_kept k es [] e = refl
map_kept k es (place ∷ ps) e =
    let l = each_head (λ (i : ℕ). i < length (take k es)) place ps e in
    rw (at_kept k es place l, map_kept k es ps (each_rest (λ (i : ℕ). i < length (take k es)) place ps e))

module _ (p : Params) (es : List Element) (R : ℕ) (c : Chain) (w : Passes (try_of p es R) c) where
  chain_passes : ElementsPass p R c.search (elements_of (try_of p es R) c)
  chain_passes = (length-map c.places (element_at (take (2 * p.set_size) es)) ∙ w.exactly, (c.last, w.exists.rounds, w.yes))

-- ---- the chain's elements as a list

module _ (lent : Lent) (A : list_check lent ≡ 0) (k : ℕ) where
  open lent use {ends as n}

  all_short : (ps : List ℕ) → Each (λ (place : ℕ). place < length (take k (elements lent))) ps
      → Each Short (map (element_at (elements lent)) ps)
  all_short [] e = each_nil Short
  all_short (place ∷ ps) e =
      let l = each_head (λ (i : ℕ). i < length (take k (elements lent))) place ps e in
      let r = each_rest (λ (i : ℕ). i < length (take k (elements lent))) place ps e in
      let within : place < length n = omega (arith, l, length-take k (elements lent), length_elements lent A) in
      each_cons Short _ _ (bytes_short lent A place within) (all_short ps r)

pub list_of : (es : List Element) → length es ≤ 65536 → Each Short es → Listed es
list_of es few short = record {
  lent = lent_of (joined_data es) (ends_from 0 es) (marks_of es) (indexes_of es);
  accepted = accepted_again es few short;
  same = elements_again es;
}

proof_size_few : (p : Params) → checked p ≡ 0 → p.proof_size ≤ 1024
proof_size_few p s = (lawful p s).limits.proof_size

-- ---- the claim, each field of `Demand3` a declaration of its name

module _ (p : Params) (lent : Lent) (places table : List ℕ) (S : Served p lent places table) where
  abbrev es : List Element
  es = elements lent

  abbrev r : Proved
  r = proved p lent places table

  of_prover : OfProver p es places r
  unfolding by_search
  of_prover =
      subst (OfProver p es places)
      (sym (served_so p lent places table S))
      (prover_so p es places (table_after p es (searched p es).made table))

  of_verifier : (R S' : ℕ) (lent' : Lent)
      → OfVerifier p R S' lent' (verdict p R S' lent')
  of_verifier R S' lent' = verdict_so p R S' lent' S.settings

  module _ (n : r.number ≡ 0) where
    abbrev T : Try
    T = try_of p es of_prover.made

    abbrev c : Chain
    c = (of_prover.proof_is n).0

    passes : Passes T c
    passes = (of_prover.proof_is n).1.passes

    at_places : proof_elements p es r ≡ map (element_at es) c.places
    at_places =
        ap (λ (ps : List ℕ). map (element_at es) (take p.proof_size ps)) (of_prover.proof_is n).4
        ∙ ap (map (element_at es)) (take_at c.places _ p.proof_size passes.exactly)

    of_chain : proof_elements p es r ≡ elements_of T c
    of_chain = at_places ∙ map_kept (2 * p.set_size) es c.places passes.exists.kept_places

    listed : Listed (proof_elements p es r)
    listed =
        rw at_places
        (list_of (map (element_at es) c.places)
        (omega (arith, length-map c.places (element_at es), passes.exactly, proof_size_few p S.settings))
        (all_short lent S.list (2 * p.set_size) c.places passes.exists.kept_places))

    chain_verified : ElementsPass p r.retry r.search (proof_elements p es r)
    chain_verified = rw (of_chain, (of_prover.proof_is n).2, (of_prover.proof_is n).3) (chain_passes p es of_prover.made c passes)

    below_width : r.search < p.search_width
    below_width = rw (of_prover.proof_is n).3 passes.exists.below_width

    on_the_proof : (l : Listed (proof_elements p es r)) → OnTheProof p r (verdict p r.retry r.search l.lent)
    on_the_proof l =
        let w = of_verifier r.retry r.search l.lent in
        let pass : ElementsPass p r.retry r.search (elements l.lent) = rw l.same chain_verified in
        record {
          accepts = ((λ q. (w.accepts.0 q).2), (λ b. w.accepts.1 (l.accepted, below_width, b, pass)));
          else_counters = λ b. w.counters_over.1 (l.accepted, pass.0, inr b);
        }

pub demand_3 : Demand3Claim
demand_3 p lent places table S = record {
  of_prover = of_prover p lent places table S;
  of_verifier = of_verifier p lent places table S;
  of_chain = of_chain p lent places table S;
  listed = listed p lent places table S;
  on_the_proof = on_the_proof p lent places table S;
}

-- ---- the example

pub served_example : ServedExample
unfolding first_number checked not_one_to limit_broken list_check malformed some_of end_wrong too_large data_long
served_example = record { settings = refl; list = refl; at_least = omega arith; places_enough = omega arith; table_enough = omega arith }
