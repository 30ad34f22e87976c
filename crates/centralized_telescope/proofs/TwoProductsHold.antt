-- The claims on two parties: what each is answered is by its definition its own try's, and what demand 3 says of the prover holds of that
-- try; then the last try of a run, run alone on the bin table that the run leaves.
use Rattle.std.proofs.Common.{◌≡◌, ℕ, zero, suc, ◌+◌, ◌*◌, ◌<◌, ◌≤◌, min, Bool, true, leb, List, length, drop, sym, refl, ap, ◌∙◌, subst, inl, inr, arith, length-append, eq-eqb, le-leb, leb-false}
use mathlib.Core.Option.{Option, none, some}
use borrow.Author.Tests.{lt-leb}
use Rattle.sampling.specs.core.FirstNumber.{first_number}
use Rattle.centralized_telescope.specs.declared.params.Params.{Params}
use Rattle.centralized_telescope.specs.core.Elements.{Element, elements, Lent}
use Rattle.centralized_telescope.specs.core.Bins.{table_of, bin_table}
use Rattle.centralized_telescope.specs.core.Chains.{Try, try_of, Chain}
use Rattle.centralized_telescope.specs.core.Search.{bins_of, K, try_count, try_finds, searched}
use Rattle.centralized_telescope.specs.core.Prover.{Proved, table_after, answered, by_search, prover_refusal, proved}
use Rattle.centralized_telescope.specs.core.Demand3.{Served}
use Rattle.centralized_telescope.specs.laws.BinsLaws.{length_table}
use Rattle.centralized_telescope.specs.laws.DistinctLaws.{bytes_same}
use Rattle.centralized_telescope.specs.later.TwoProducts.{table_right, party_refusal, tried_alone}
use Rattle.centralized_telescope.specs.later.TwoProductsClaims.{PartiesApart, OfTry, TryGuaranteed, LastAlone, LastAloneClaim}
use Rattle.centralized_telescope.proofs.TryFinds.{K_number, finds_first, finds_none, finds_none_below}
use Rattle.centralized_telescope.proofs.Tries.{search_ran, search_counted}
use Rattle.centralized_telescope.proofs.RaisingHolds.{number, not_small, is_twelve}
use Rattle.centralized_telescope.proofs.ProveAnswers.{lawful_passes, served_so}
use Rattle.centralized_telescope.proofs.PartyAnswers.{few, filled_front, its_try}

pub parties_apart : PartiesApart
parties_apart lent table_retry table p R places p' R' places' p'' R'' places'' = (refl, refl, refl)

-- ---- a try

module _ (p : Params) (es : List Element) (R : ℕ) (places table : List ℕ) where
  abbrev T : Try
  T = try_of p es R

  of_try : (o : Option Chain) → try_finds T ≡ o → OfTry T places (answered p o R (try_count T) places table)
  unfolding answered try_count
  of_try (some c) e =
      let f = finds_first T c e in
      record {
        proof_when = ((λ _. (c, f.1)), (λ _. refl));
        proof_is = λ _. (c, f.0, refl, refl, refl);
        K = K T;
        K_is = K_number T;
        count_is = refl;
        not_found = λ n _. absurd (n refl);
        not_in_bounds = λ n _. absurd (n refl);
        places_kept = λ n. absurd (n refl);
        none_passes = λ n. absurd (omega arith);
      }
  of_try none e =
      let count : ℕ = min (K T) p.dfs_bound in
      let t : Bool = leb p.dfs_bound count in
      record {
        proof_when = ((λ n. absurd (not_small t (omega arith))), (λ h. absurd (finds_none T e h)));
        proof_is = λ n. absurd (not_small t (omega arith));
        K = K T;
        K_is = K_number T;
        count_is = refl;
        not_found = λ _ l. ap number (lt-leb p.dfs_bound count l);
        not_in_bounds = λ _ l. ap number (le-leb p.dfs_bound count l);
        places_kept = λ _. refl;
        none_passes = λ n.
            let below : count < p.dfs_bound = leb-false p.dfs_bound count (is_twelve t n) in
            finds_none_below T e (omega arith);
      }

pub try_guaranteed : TryGuaranteed
try_guaranteed lent table_retry table p R places passed =
    rw (its_try p lent R table_retry table places passed)
    (of_try p (elements lent) table_retry places table (try_finds (try_of p (elements lent) table_retry)) refl)

-- ---- the bin table that the try R leaves

module _ (p : Params) (es : List Element) (R : ℕ) (made : 1 ≤ R) (table : List ℕ) where
  abbrev n : ℕ
  n = p.set_size

  abbrev left : List ℕ
  left = table_after p es R table

  abbrev bins : List ℕ
  bins = bins_of (try_of p es R)

  left_is : left ≡ bin_table n bins table
  unfolding table_after
  left_is = go R made
    where
      go : (k : ℕ) → 1 ≤ k → table_after p es k table ≡ bin_table n (bins_of (try_of p es k)) table
      go zero l = absurd (omega arith)
      go (suc k) l = refl

  left_right : table_right n R es left ≡ true
  unfolding table_right
  left_right = rw (filled_front n R es table left left_is) (bytes_same (table_of n bins))

  left_enough : 3 * n + 1 ≤ length left
  unfolding bin_table
  left_enough =
      rw left_is (omega (arith, length-append (table_of n bins) (drop (3 * n + 1) table), length_table n bins (few n R es)))

-- ---- the last try of a run

module _ (p : Params) (lent : Lent) (places table : List ℕ) (S : Served p lent places table)
    (tried : 1 ≤ (searched p (elements lent)).made) where
  abbrev es : List Element
  es = elements lent

  abbrev last : ℕ
  last = (searched p es).made

  abbrev kept : List ℕ
  kept = table_after p es last table

  last_finds : try_finds (try_of p es last) ≡ (searched p es).proof
  last_finds = elim (search_ran p es).end [
    | inl f ↦ f.2 (omega arith) ∙ sym f.0
    | inr f ↦ f.3 ∙ sym f.1
  ]

  passes : party_refusal lent last kept p last (length places) ≡ 0
  unfolding party_refusal first_number
  passes =
      let met : prover_refusal p lent (length places) (length kept) ≡ 0 = lawful_passes p lent places kept (record {
        settings = S.settings;
        list = S.list;
        at_least = S.at_least;
        places_enough = S.places_enough;
        table_enough = left_enough p es last tried table;
      }) in
      rw (met, eq-eqb last last refl, left_right p es last tried table)

  abbrev ended : Option Chain → Proved
  ended o = answered p o last (searched p es).count places kept

  abbrev alone : Option Chain → Proved
  alone o = answered p o last (try_count (try_of p es last)) places kept

  same_end : (o : Option Chain) → try_finds (try_of p es last) ≡ o
      → LastAlone p lent places last (ended o) (tried_alone lent last (ended o).table p last places)
  unfolding answered
  same_end o e = go o (its_try p lent last last kept places passes ∙ ap alone e)
    where
      go : (d : Option Chain) → tried_alone lent last kept p last places ≡ alone d
          → LastAlone p lent places last (ended d) (tried_alone lent last (ended d).table p last places)
      go (some c) q = rw q (record {
        not_refused = passes;
        counted = search_counted p es;
        last_adds = refl;
        proof_same = λ _. refl;
        none_alone = λ f _. f refl;
      })
      go none q = rw q (record {
        not_refused = passes;
        counted = search_counted p es;
        last_adds = refl;
        proof_same = λ z. absurd (not_small (leb p.dfs_bound (searched p es).count) (omega arith));
        none_alone = λ _ z. not_small (leb p.dfs_bound (try_count (try_of p es last))) (omega arith);
      })

  abbrev At : ℕ → Type 0
  At R = LastAlone p lent places R (proved p lent places table) (tried_alone lent R (proved p lent places table).table p R places)

  last_at_lem : At last
  unfolding by_search
  last_at_lem = rw (served_so p lent places table S) (same_end (searched p es).proof last_finds)

pub last_alone : LastAloneClaim
last_alone p lent places table S R e tried =
    let made : 1 ≤ (searched p (elements lent)).made = omega arith in
    subst (At p lent places table S made) e (last_at_lem p lent places table S made)
