-- What prepare and commit answer, by the lines that they meet.
use Rattle.std.proofs.Common.{◌≡◌, ℕ, Bool, true, false, cond, not, eqb, List, [], length, replicate, sym, refl, ap, ◌∙◌, eq-eqb, ne_eqb, eqb-true}
use Rattle.sampling.specs.core.FirstNumber.{line, first_number}
use Rattle.sampling.specs.laws.FirstNumberLaws.{number_met, second_met, two_passed}
use Rattle.centralized_telescope.specs.declared.errors.Refusal.{Refusal}
use Rattle.centralized_telescope.specs.declared.errors.Refusal.TheVariants as refusal
use Rattle.centralized_telescope.specs.declared.params.Params.{Params}
use Rattle.centralized_telescope.specs.declared.run.Run.{Run}
use Rattle.centralized_telescope.specs.core.Refusals.{refusal_number}
use Rattle.centralized_telescope.specs.core.Elements.{elements, Lent}
use Rattle.centralized_telescope.specs.inner.Held.{held}
use Rattle.centralized_telescope.specs.inner.Runs.{RunOf}
use Rattle.centralized_telescope.specs.core.Prover.{refused, prover_refusal, proved}
use Rattle.centralized_telescope.specs.later.Words.{same_bytes}
use Rattle.centralized_telescope.specs.later.Prepare.{run_digest, prepared, commit_refusal, committed}
use Rattle.centralized_telescope.specs.laws.RefusalsLaws.{refusal_number_lem}
use Rattle.centralized_telescope.proofs.ProveAnswers.{run_served}

-- the digest of the run that `check_run` hands on
pub digest_of : (p : Params) (lent : Lent) (run : Run) → RunOf p lent run
    → run_digest run.settings.params (elements (held run.list)) ≡ run_digest p (elements lent)
digest_of p lent run R =
    ap (λ (q : Params). run_digest q (elements (held run.list))) R.settings_are ∙ ap (λ (l : Lent). run_digest p (elements l)) R.list_is

module _ (p : Params) (lent : Lent) (places_len table_len : ℕ) where
  abbrev checks : ℕ
  checks = prover_refusal p lent places_len table_len

  pub prepare_refused : (k : Refusal) → checks ≡ refusal_number k
      → prepared p lent places_len table_len ≡ (refusal_number k, replicate 32 0)
  unfolding prepared
  prepare_refused k e = rw (e, ne_eqb (refusal_number k) 0 (refusal_number_lem k))

  pub prepare_served : checks ≡ 0 → prepared p lent places_len table_len ≡ (0, run_digest p (elements lent))
  unfolding prepared
  prepare_served e = rw (eq-eqb checks 0 e)

  -- a run that prepare gives a digest of passed the checks
  pub prepare_passed : (prepared p lent places_len table_len).0 ≡ 0 → checks ≡ 0
  unfolding prepared
  prepare_passed = go (eqb checks 0) refl
    where
      go : (t : Bool) → eqb checks 0 ≡ t
          → (cond {A = ℕ × List ℕ} t (0, run_digest p (elements lent)) (checks, replicate 32 0)).0 ≡ 0 → checks ≡ 0
      go true e h = eqb-true checks 0 e
      go false e h = h

module _ (p : Params) (digest : List ℕ) (lent : Lent) (places table : List ℕ) where
  abbrev met : ℕ
  met = prover_refusal p lent (length places) (length table)

  abbrev same : Bool
  same = same_bytes digest (run_digest p (elements lent))

  checks_first : (k : ℕ) → (k ≡ 0 → ⊥) → met ≡ k → commit_refusal p digest lent (length places) (length table) ≡ k
  unfolding commit_refusal
  checks_first k n e = number_met met _ k e n

  pub commit_refused_by : (k : ℕ) → (k ≡ 0 → ⊥) → met ≡ k → committed p digest lent places table ≡ refused k places table
  unfolding committed
  commit_refused_by k n e = rw (checks_first k n e, ne_eqb k 0 n)

  -- a refusal that `check_run` gives
  pub commit_refused : (k : Refusal) → met ≡ refusal_number k → committed p digest lent places table ≡ refused (refusal_number k) places table
  commit_refused k e = commit_refused_by (refusal_number k) (refusal_number_lem k) e

  module _ (e : met ≡ 0) where
    pub commit_changed : same ≡ false → committed p digest lent places table ≡ refused 46 places table
    unfolding committed commit_refusal
    commit_changed s = rw (second_met met (line 46 (not same)) [] 46 e (rw s) (refusal_number_lem refusal.RunChanged))

    pub commit_served : same ≡ true → committed p digest lent places table ≡ proved p lent places table
    unfolding committed commit_refusal first_number
    commit_served s = rw (two_passed met (line 46 (not same)) [] e (rw s)) (sym (run_served p lent places table e))
