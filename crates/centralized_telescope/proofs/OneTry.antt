-- What a try gives, search counter by search counter, and a turn of its loop in the terms that the code's calls give.
use Rattle.std.proofs.Common.{◌≡◌, ℕ, zero, suc, ◌+◌, ◌-◌, ◌<◌, ◌≤◌, List, [], sym, refl, ap, ◌∙◌, arith}
use mathlib.Core.Option.{none, some}
use native.Mathlib.Nat.{sub-zero}
use Rattle.std.specs.Prelude.{Some, None}
use Rattle.std.specs.Prelude.{Option as Answer}
use Rattle.std.specs.declared.ops.ControlFlow.{ControlFlow}
use Rattle.std.specs.declared.ops.ControlFlow.TheVariants.{Break, Continue}
use Rattle.centralized_telescope.specs.core.Lists.{over}
use Rattle.centralized_telescope.specs.core.Rounds.{start_hash}
use Rattle.centralized_telescope.specs.core.Chains.{Try, Chain}
use Rattle.centralized_telescope.specs.core.Search.{id_of, grown, chains, chains_at, chains_from, passing}
use Rattle.centralized_telescope.specs.inner.Held.{option_of}
use Rattle.centralized_telescope.specs.laws.SearchLaws.{same_search}
use Rattle.centralized_telescope.specs.laws.TryLaws.{id_below}
use Rattle.centralized_telescope.specs.inner.Walk.{Ended, found, missing, walk}
use Rattle.centralized_telescope.specs.laws.WalkLaws.{walk_full, and_then, walk_append, walk_among}
use Rattle.centralized_telescope.specs.inner.Visit.{visited, tried, attempt_of, written, written_from, VisitEnds, TryEnds}
use Rattle.centralized_telescope.specs.declared.round.Round.{Round}
use Rattle.centralized_telescope.specs.inner.Following.{round_with}
use Rattle.centralized_telescope.proofs.Walked.{Drawn, round_drawn, round_missing}
use Rattle.centralized_telescope.proofs.Walked.{visited_bound, visited_own, missing_of, Finds, found_of, stopped}
use Rattle.centralized_telescope.proofs.Walked.{written_short, written_full, written_none}

module _ (T : Try) where
  abbrev bound : ℕ
  bound = T.settings.dfs_bound

  abbrev size : ℕ
  size = T.settings.proof_size

  -- the whole try
  abbrev pub whole : Ended Chain
  whole = tried T T.settings.search_width 0 0

  module _ (w S count : ℕ) where
    abbrev start : List ℕ
    start = start_hash T.retry S

    pub tried_end : w ≡ 0 → tried T w S count ≡ missing count
    unfolding tried chains_from walk
    tried_end e = rw e

    pub tried_full : bound ≤ count → tried T w S count ≡ missing count
    unfolding tried
    tried_full l = walk_full (passing T) bound count _ l

    tried_nothing : id_of T start ≡ none → tried T (suc w) S count ≡ tried T w (S + 1) count
    unfolding tried chains_from chains_at grown
    tried_nothing q = rw q

    tried_at : (i : ℕ) (r : Ended Chain) → id_of T start ≡ some i → visited T S start i [] 0 count ≡ r
        → tried T (suc w) S count ≡ and_then (passing T) bound r (λ (t : ℕ). tried T w (S + 1) t)
    unfolding tried visited chains_from chains_at grown
    tried_at i r q e =
        let f : walk (passing T) bound count (chains T S size start i []) ≡ r = rw (sub-zero size) at e in
        rw (q, ← f) (walk_append (passing T) bound count (chains T S size start i []) (chains_from T w (S + 1)))

    tried_missing : (i t : ℕ) → id_of T start ≡ some i → visited T S start i [] 0 count ≡ missing t
        → tried T (suc w) S count ≡ tried T w (S + 1) t
    unfolding and_then
    tried_missing i t q e = tried_at i (missing t) q e

    tried_found : (i t : ℕ) (c : Chain) → id_of T start ≡ some i → visited T S start i [] 0 count ≡ found t c
        → tried T (suc w) S count ≡ found t c
    unfolding and_then
    tried_found i t c q e = tried_at i (found t c) q e

  -- what a visit finds has its search counter
  found_search : (S : ℕ) (h : List ℕ) (i count t : ℕ) (c : Chain) → id_of T h ≡ some i → visited T S h i [] 0 count ≡ found t c
      → c.search ≡ S
  unfolding visited
  found_search S h i count t c q e =
      same_search T S (size - 0) h i [] c (id_below T h i q) (walk_among (passing T) bound count _ t c e)

-- ---- at the head of the loop over the search counters

-- at the search counter S: mid are the lent places as they are, old as they were
pub record Trying (T : Try) (S count : ℕ) (mid old : List ℕ) : Type 0 where
  pub most : count ≤ bound T
  pub as_lent : mid ≡ old
  pub still : whole T ≡ tried T (T.settings.search_width - S) S count

pub try_begins : (T : Try) (old : List ℕ) → Trying T 0 0 old old
try_begins T old = record {
  most = omega arith;
  as_lent = refl;
  still = ap (λ (w : ℕ). tried T w 0 0) (sym (sub-zero T.settings.search_width));
}

module _ {T : Try} {S count : ℕ} {mid old : List ℕ} (k : Trying T S count mid old) where
  pub all_tried : T.settings.search_width ≤ S → TryEnds (whole T) (Continue count) old mid
  all_tried l = stopped attempt_of (k.still ∙ tried_end T _ S count (omega arith)) k.as_lent

  pub bound_reached : bound T ≤ count → TryEnds (whole T) (Continue count) old mid
  bound_reached l = stopped attempt_of (k.still ∙ tried_full T _ S count l) k.as_lent

-- ---- a turn

-- what it knows, where the start hash g is made and the round d is drawn from it
pub record Starting (T : Try) (S count : ℕ) (mid old : List ℕ) (g : List ℕ) (d : Answer Round) : Type 0 where
  pub head : Trying T S count mid old
  pub inside : S < T.settings.search_width
  pub within : count < bound T
  pub hash_is : g ≡ start_hash T.retry S
  pub round_is : option_of d ≡ round_with g (id_of T g)

module _ {T : Try} {S count : ℕ} {mid old : List ℕ} {g : List ℕ} {d : Answer Round} (k : Starting T S count mid old g d) where
  -- how many search counters there are behind this one
  abbrev behind : ℕ
  behind = T.settings.search_width - (S + 1)

  opened : whole T ≡ tried T (suc behind) S count
  opened =
      let more : T.settings.search_width - S ≡ suc behind = omega (arith, k.inside) in
      k.head.still ∙ ap (λ (u : ℕ). tried T u S count) more

  -- the round doesn't exist, and the loop's variables are as they were
  pub try_nothing : d ≡ None → (count' : ℕ) (mid' : List ℕ) → count' ≡ count → mid' ≡ mid → Trying T (S + 1) count' mid' old
  try_nothing q count' mid' C M = rw (C, M) (record {
    most = k.head.most;
    as_lent = k.head.as_lent;
    still = opened ∙ tried_nothing T behind S count (rw (← k.hash_is) (round_missing T g d k.round_is q));
  })

  -- it exists, it is r, and its visit answers o and leaves the lent places as `last`
  module _ {r : Round} (q : d ≡ Some r) where
    abbrev below : Ended Chain
    below = visited T S r.hash r.id [] 0 count

    known : Drawn T g r
    known = round_drawn T g d k.round_is q

    module _ {o : ControlFlow ℕ ℕ} {last : List ℕ} (said : VisitEnds T.settings 0 below o mid last) where
      drawn : id_of T r.hash ≡ some r.id
      drawn = rw known.hash_is known.id_is

      start_is : r.hash ≡ start_hash T.retry S
      start_is = known.hash_is ∙ k.hash_is

      left : last ≡ written_from T.settings 0 below old
      left = said.places_are ∙ ap (written_from T.settings 0 below) k.head.as_lent

      pub try_missing : {t : ℕ} → o ≡ Continue t → (count' : ℕ) (mid' : List ℕ) → count' ≡ t → mid' ≡ last
          → Trying T (S + 1) count' mid' old
      try_missing {t} e count' mid' C M =
          let m : below ≡ missing t = missing_of below t (sym e ∙ said.answer_is) in
          rw (C, M) (record {
            most = rw m at (visited_bound T S r.hash r.id [] 0 count (omega (arith, k.within)));
            as_lent = left ∙ written_none T.settings 0 below old t m;
            still = opened ∙ tried_missing T behind S count r.id t (rw (← start_is) drawn) (rw (← start_is) m);
          })

      -- places are written, and at length 0 there are none
      all_written : (t : ℕ) (c : Chain) → below ≡ found t c → written_from T.settings 0 below old ≡ over c.places old
      unfolding written
      all_written t c e = go T.settings.proof_size refl
        where
          go : (u : ℕ) → T.settings.proof_size ≡ u → written_from T.settings 0 below old ≡ over c.places old
          go zero z =
              let own : c.places ≡ [] = ap (λ (x : Chain). x.places) (visited_own T S r.hash r.id [] 0 count t c (sym z) e) in
              written_full T.settings 0 below old (omega arith) ∙ rw own
          go (suc u) z = written_short T.settings 0 below old (omega arith) ∙ ap (λ (y : Ended Chain). written y old) e

      pub try_found : {t : ℕ} → o ≡ Break t → TryEnds (whole T) (Break (record { 0 = S }, t)) old last
      unfolding written
      try_found {t} e =
          let f : Finds below t = found_of below t (sym e ∙ said.answer_is) in
          let ends : whole T ≡ found t f.chain =
          opened ∙ tried_found T behind S count r.id t f.chain (rw (← start_is) drawn) (rw (← start_is) f.ends_with) in
          record {
            answer_is = rw (ends, found_search T S r.hash r.id count t f.chain drawn f.ends_with);
            places_are = rw ends (left ∙ all_written t f.chain f.ends_with);
          }
