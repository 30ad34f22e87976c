-- The claims on prepare and commit.
use Rattle.std.proofs.Common.{◌≡◌, ℕ, ◌^◌, ◌<◌, Bool, true, false, eqb, ◌⊎◌, List, [], ◌++◌, length, sym, refl, ap, ◌∙◌, inl, inr, append_assoc, arith, eqb-true}
use borrow.Author.Tests.{eqb-false}
use Rattle.sampling.specs.core.BigEndian.{bytes_of}
use Rattle.sampling.specs.core.Fips180.{sha256}
use Rattle.centralized_telescope.specs.declared.params.Params.{Params}
use Rattle.centralized_telescope.specs.core.Elements.{Element, elements, Lent}
use Rattle.centralized_telescope.specs.core.Prover.{refused, prover_refusal, proved}
use Rattle.centralized_telescope.specs.later.Words.{same_bytes}
use Rattle.centralized_telescope.specs.later.ElementBytes.{elements_bytes}
use Rattle.centralized_telescope.specs.later.Prepare.{run_head, run_bytes, run_digest, prepared, committed}
use Rattle.centralized_telescope.specs.later.PrepareClaims.{PairProves, IsRun, SameRun, RunsTold, Collide, ChangeNoticed}
use Rattle.centralized_telescope.specs.laws.ParamsLaws.{lawful}
use Rattle.centralized_telescope.specs.laws.DistinctLaws.{bytes_same, same_bytes_lem}
use Rattle.centralized_telescope.specs.laws.ElementsLaws.{accepted, length_elements, few_elements}
use Rattle.centralized_telescope.specs.laws.TicketsLaws.{elements_complete}
use Rattle.centralized_telescope.specs.laws.PrepareLaws.{bytes_joined, field_same, field_behind, run_few}
use Rattle.centralized_telescope.proofs.ProveAnswers.{refused_by}
use Rattle.centralized_telescope.proofs.PrepareAnswers.{prepare_passed, prepare_served, commit_refused_by, commit_changed}
use Rattle.centralized_telescope.proofs.PrepareAnswers.{commit_served}
use Rattle.centralized_telescope.proofs.TicketsHold.{fit_from}

-- ---- the bytes tell runs apart

-- the fields that two runs' bytes have in common, one behind the other
whole : (p : Params) (es : List Element) → p.x.lo < 2 ^ 64
    → run_bytes p es
    ≡ bytes_of 8 p.set_size
    ++ (bytes_of 8 p.proof_size
    ++ (bytes_of 8 p.max_retries
    ++ (bytes_of 8 p.search_width
    ++ (bytes_of 8 p.dfs_bound
    ++ (bytes_of 8 (length es) ++ (bytes_of 8 p.x.hi ++ (bytes_of 8 p.x.lo ++ elements_bytes es)))))))
unfolding run_bytes run_head
whole p es low = rw (bytes_joined 8 8 p.x.hi p.x.lo low) (simp append_assoc)

params_same : (p q : Params) → p.set_size ≡ q.set_size → p.proof_size ≡ q.proof_size → p.max_retries ≡ q.max_retries
    → p.search_width ≡ q.search_width → p.dfs_bound ≡ q.dfs_bound → p.x.hi ≡ q.x.hi → p.x.lo ≡ q.x.lo → p ≡ q
params_same p q a b c d e f g = rw (a, b, c, d, e, f, g)

-- elements are read off their bytes, their number known
elements_told : (lent lent' : Lent) (p p' : Params) → IsRun p lent → IsRun p' lent'
    → length (elements lent) ≡ length (elements lent')
    → elements_bytes (elements lent) ≡ elements_bytes (elements lent')
    → elements lent ≡ elements lent'
elements_told lent lent' p p' I I' n e =
    let fits = fit_from 0 lent.bytes lent.ends lent.marks lent.indexes I.index_numbers (accepted lent I.list).short in
    let fits' =
    fit_from 0 lent'.bytes lent'.ends lent'.marks lent'.indexes I'.index_numbers (accepted lent' I'.list).short in
    let f = elements_complete (elements lent) [] fits in
    let f' = elements_complete (elements lent') [] fits' in
    sym f.same ∙ rw (n, e) f'.same

runs_same : (p : Params) (lent : Lent) (p' : Params) (lent' : Lent) → IsRun p lent → IsRun p' lent'
    → run_bytes p (elements lent) ≡ run_bytes p' (elements lent') → SameRun p lent p' lent'
runs_same p lent p' lent' I I' e =
    let es : List Element = elements lent in
    let es' : List Element = elements lent' in
    let L = lawful p I.settings in
    let L' = lawful p' I'.settings in
    let b1 = sym (whole p es I.low) ∙ e ∙ whole p' es' I'.low in
    let b2 = field_behind 8 _ _ _ _ b1 in
    let b3 = field_behind 8 _ _ _ _ b2 in
    let b4 = field_behind 8 _ _ _ _ b3 in
    let b5 = field_behind 8 _ _ _ _ b4 in
    let b6 = field_behind 8 _ _ _ _ b5 in
    let b7 = field_behind 8 _ _ _ _ b6 in
    let b8 = field_behind 8 _ _ _ _ b7 in
    let b9 = field_behind 8 _ _ _ _ b8 in
    let few : length es < 256 ^ 8 = omega (arith, length_elements lent I.list, few_elements lent I.list) in
    let few' : length es' < 256 ^ 8 = omega (arith, length_elements lent' I'.list, few_elements lent' I'.list) in
    let count = field_same 8 _ _ _ _ b6 few few' in (
      params_same p p'
          (field_same 8 _ _ _ _ b1 (omega (arith, L.set_size.1)) (omega (arith, L'.set_size.1)))
          (field_same 8 _ _ _ _ b2 (omega (arith, L.limits.proof_size)) (omega (arith, L'.limits.proof_size)))
          (field_same 8 _ _ _ _ b3 (omega (arith, L.limits.max_retries_kept)) (omega (arith, L'.limits.max_retries_kept)))
          (field_same 8 _ _ _ _ b4 (omega (arith, L.limits.search_width_kept)) (omega (arith, L'.limits.search_width_kept)))
          (field_same 8 _ _ _ _ b5 (omega (arith, L.limits.dfs_bound_kept)) (omega (arith, L'.limits.dfs_bound_kept)))
          (field_same 8 _ _ _ _ b7 I.high I'.high)
          (field_same 8 _ _ _ _ b8 I.low I'.low),
      elements_told lent lent' p p' I I' count b9,
    )

pub runs_told : RunsTold
runs_told = (run_few, runs_same)

-- ---- prepare and commit together

-- what commit gives for the digest that prepare gave
module _ (p : Params) (lent : Lent) (places_len table_len : ℕ) (N : (prepared p lent places_len table_len).0 ≡ 0) where
  given : (prepared p lent places_len table_len).1 ≡ run_digest p (elements lent)
  given = ap (λ (answer : ℕ × List ℕ). answer.1) (prepare_served p lent places_len table_len (prepare_passed p lent places_len table_len N))

pub pair_proves : PairProves
pair_proves p lent lent' places_len table_len places table N E = go (eqb met 0) refl
  where
    met : ℕ
    met = prover_refusal p lent' (length places) (length table)

    digest : List ℕ
    digest = (prepared p lent places_len table_len).1

    same : same_bytes digest (run_digest p (elements lent')) ≡ true
    same = rw (given p lent places_len table_len N, E) (bytes_same (run_digest p (elements lent)))

    go : (t : Bool) → eqb met 0 ≡ t → committed p digest lent' places table ≡ proved p lent' places table
    go true e = commit_served p digest lent' places table (eqb-true met 0 e) same
    go false e =
        commit_refused_by p digest lent' places table met (eqb-false met 0 e) refl
        ∙ sym (refused_by p lent' places table met (eqb-false met 0 e) refl)

-- the digests are SHA-256 of the bytes
hashes_same : (p : Params) (es : List Element) (p' : Params) (es' : List Element) → run_digest p es ≡ run_digest p' es'
    → sha256 (run_bytes p es) ≡ sha256 (run_bytes p' es')
unfolding run_digest
hashes_same p es p' es' e = e

pub change_noticed : ChangeNoticed
change_noticed p lent places_len table_len p' lent' places table I I' N C other = go (same_bytes digest (run_digest p' (elements lent'))) refl
  where
    digest : List ℕ
    digest = (prepared p lent places_len table_len).1

    go : (t : Bool) → same_bytes digest (run_digest p' (elements lent')) ≡ t
        → (committed p' digest lent' places table ≡ refused 46 places table)
        ⊎ Collide (run_bytes p (elements lent)) (run_bytes p' (elements lent'))
    go false e = inl (commit_changed p' digest lent' places table C e)
    go true e =
        let hashes = sym (given p lent places_len table_len N) ∙ same_bytes_lem digest (run_digest p' (elements lent')) e in
        inr (λ b. other (runs_same p lent p' lent' I I' b), hashes_same p (elements lent) p' (elements lent') hashes)
