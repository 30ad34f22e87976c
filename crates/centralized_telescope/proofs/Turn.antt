-- The walk's loop: what holds at its head, and a turn of it in the terms that the code's calls give.
use Rattle.std.proofs.Common.{◌≡◌, ℕ, ◌+◌, ◌<◌, ◌≤◌, List, [], ◌∷◌, ◌++◌, length, get_or, take, drop, set, sym, ap, ◌∙◌, subst, le_refl, add-one, arith, length-set, length-take-le, drop-cons, drop_of_length-le}
use mathlib.Core.Option.{some}
use lib.Seq.{take-set-le, take-take}
use Rattle.sampling.specs.laws.CommonLaws.{filled_more}
use Rattle.std.specs.Prelude.{Some, None}
use Rattle.std.specs.Prelude.{Option as Answer}
use Rattle.std.specs.declared.ops.ControlFlow.{ControlFlow}
use Rattle.std.specs.declared.ops.ControlFlow.TheVariants.{Break, Continue}
use Rattle.centralized_telescope.specs.core.Chains.{Try, Chain}
use Rattle.centralized_telescope.specs.core.Search.{next_at, id_of}
use Rattle.centralized_telescope.specs.inner.Held.{option_of}
use Rattle.centralized_telescope.specs.inner.Walk.{Ended, found, missing}
use Rattle.centralized_telescope.specs.inner.Visit.{visited, walked, outcome_of, written, written_from, VisitEnds, WalkEnds}
use Rattle.centralized_telescope.proofs.Walked.{walked_end, walked_full, walked_nothing, walked_missing, walked_found, stopped}
use Rattle.centralized_telescope.specs.declared.round.Round.{Round}
use Rattle.centralized_telescope.specs.inner.Following.{round_with}
use Rattle.centralized_telescope.proofs.Walked.{Drawn, round_drawn, round_missing}
use Rattle.centralized_telescope.proofs.Walked.{visited_bound, visited_own, missing_of, Finds, found_of}
use Rattle.centralized_telescope.proofs.Walked.{written_short, written_full, written_none}

-- a walk, by what it is called with: of a round its S, its hash, the places up to it and their number; the candidates for the next place;
-- the steps so far; the lent places
pub record Walk : Type 0 where
  pub of : Try
  pub search : ℕ
  pub hash : List ℕ
  pub path : List ℕ
  pub depth : ℕ
  pub candidates : List ℕ
  pub steps : ℕ
  pub old : List ℕ

module _ (W : Walk) where
  abbrev pub bound : ℕ
  bound = W.of.settings.dfs_bound

  abbrev pub size : ℕ
  size = W.of.settings.proof_size

  -- the walk of some candidates, and of those from an index on
  abbrev pub among : List ℕ → ℕ → Ended Chain
  among es count = walked W.of W.search W.hash W.path W.depth es count

  abbrev pub onward : ℕ → ℕ → Ended Chain
  onward i count = among (drop i W.candidates) count

  abbrev pub whole : Ended Chain
  whole = among W.candidates W.steps

-- ---- at the head of the loop

-- at the index i of the candidates: next is the path that is handed on, mid are the lent places as they are
pub record Looping (W : Walk) (i count : ℕ) (next mid : List ℕ) : Type 0 where
  pub most : count ≤ bound W
  pub long : length next ≡ 1024
  pub path_is : take W.depth next ≡ W.path
  pub as_lent : mid ≡ W.old
  pub still : whole W ≡ onward W i count

module _ {W : Walk} {i count : ℕ} {next mid : List ℕ} (k : Looping W i count next mid) where
  pub at_end : length W.candidates ≤ i → WalkEnds (whole W) (Continue count) W.old mid
  at_end l =
      let none_left : drop i W.candidates ≡ [] = drop_of_length-le W.candidates l in
      stopped outcome_of
      (k.still
      ∙ ap (λ (es : List ℕ). among W es count) none_left
      ∙ walked_end W.of W.search W.hash W.path W.depth count)
      k.as_lent

  pub at_bound : bound W ≤ count → WalkEnds (whole W) (Continue count) W.old mid
  at_bound l =
      stopped outcome_of (k.still ∙ walked_full W.of W.search W.hash W.path W.depth count _ l) k.as_lent

-- ---- a turn

-- what it knows, where the next hash, g, is made by the element at the place there and the round d is drawn from it
pub record Turning (W : Walk) (i count : ℕ) (next mid : List ℕ) (g : List ℕ) (d : Answer Round) : Type 0 where
  pub head : Looping W i count next mid
  pub inside : i < length W.candidates
  pub within : count < bound W
  pub deep : W.depth < 1024
  pub hash_is : g ≡ next_at W.of W.hash (get_or W.candidates i 0)
  pub round_is : option_of d ≡ round_with g (id_of W.of g)

module _ {W : Walk} {i count : ℕ} {next mid : List ℕ} {g : List ℕ} {d : Answer Round} (k : Turning W i count next mid g d) where
  open W use {of as T, search as S, hash as h, path as ps, depth as depth, candidates as candidates, old as old}

  abbrev place : ℕ
  place = get_or candidates i 0

  -- the places behind this one
  abbrev behind : List ℕ
  behind = drop (i + 1) candidates

  opened : whole W ≡ among W (place ∷ behind) count
  opened =
      k.head.still
      ∙ ap (λ (es : List ℕ). among W es count) (rw (add-one i) (drop-cons candidates i 0 k.inside))

  -- ---- the round doesn't exist, and the loop's variables are as they were

  pub turn_nothing : d ≡ None → (count' : ℕ) (next' mid' : List ℕ) → count' ≡ count → next' ≡ next → mid' ≡ mid
      → Looping W (i + 1) count' next' mid'
  turn_nothing q count' next' mid' C N M = rw (C, N, M) (record {
    most = k.head.most;
    long = k.head.long;
    path_is = k.head.path_is;
    as_lent = k.head.as_lent;
    still = opened ∙ walked_nothing T S h ps depth count place behind (rw (← k.hash_is) (round_missing T g d k.round_is q));
  })

  -- ---- it exists, it is r, and its visit answers o and leaves the lent places as `last`

  abbrev set_next : List ℕ
  set_next = set next depth place

  abbrev path : List ℕ
  path = take (depth + 1) set_next

  module _ {r : Round} (q : d ≡ Some r) where
    abbrev below : Ended Chain
    below = visited T S r.hash r.id path (depth + 1) count

    known : Drawn T g r
    known = round_drawn T g d k.round_is q

    -- it keeps the path that was handed to it, as far as that goes
    module _ {o : ControlFlow ℕ ℕ} {last : List ℕ} (after : List ℕ) (said : VisitEnds T.settings (depth + 1) below o mid last)
        (handed : take (depth + 1) after ≡ path) (as_long : length after ≡ 1024) where
      pub path_after : take depth after ≡ ps
      path_after =
          let less : depth ≤ depth + 1 = omega arith in
          sym (take-take depth (depth + 1) after less)
          ∙ ap (λ (l : List ℕ). take depth l) handed
          ∙ take-take depth (depth + 1) set_next less
          ∙ take-set-le depth next depth place (le_refl depth)
          ∙ k.head.path_is

      left : last ≡ written_from T.settings (depth + 1) below old
      left = said.places_are ∙ ap (written_from T.settings (depth + 1) below) k.head.as_lent

      drawn : id_of T (next_at T h place) ≡ some r.id
      drawn = rw (← k.hash_is) known.id_is

      ahead : depth < length next
      ahead = omega (arith, k.deep, k.head.long)

      same : visited T S (next_at T h place) r.id (ps ++ (place ∷ [])) (depth + 1) count ≡ below
      same = rw (known.hash_is, ← k.hash_is, filled_more next ps depth place ahead k.head.path_is)

      -- it finds nothing: the loop goes on with its count and the path as it is
      pub turn_missing : {t : ℕ} → o ≡ Continue t → (count' : ℕ) (next' mid' : List ℕ) → count' ≡ t → next' ≡ after → mid' ≡ last
          → Looping W (i + 1) count' next' mid'
      turn_missing {t} v count' next' mid' C N M =
          let m : below ≡ missing t = missing_of below t (sym v ∙ said.answer_is) in
          rw (C, N, M) (record {
            most = rw m at (visited_bound T S r.hash r.id path (depth + 1) count (omega (arith, k.within)));
            long = as_long;
            path_is = path_after;
            as_lent = left ∙ written_none T.settings (depth + 1) below old t m;
            still = opened ∙ walked_missing T S h ps depth count place behind r.id t drawn (same ∙ m);
          })

      module _ {t : ℕ} (v : o ≡ Break t) where
        caught : Finds below t
        caught = found_of below t (sym v ∙ said.answer_is)

        ends_so : whole W ≡ found t caught.chain
        ends_so = opened ∙ walked_found T S h ps depth count place behind r.id t caught.chain drawn (same ∙ caught.ends_with)

        -- the places were written further down
        pub turn_found : depth < size W → (depth + 1 ≡ size W → ⊥) → WalkEnds (whole W) (Break t) old last
        turn_found ls ne = record {
          answer_is = rw ends_so;
          places_are =
              left ∙ written_short T.settings (depth + 1) below old (omega arith)
              ∙ ap (λ (y : Ended Chain). written y old) (caught.ends_with ∙ sym ends_so);
        }

        -- the places are written here
        pub turn_write : depth + 1 ≡ size W → {now : List ℕ} → now ≡ take (size W) after ++ drop (size W) last
            → WalkEnds (whole W) (Break t) old now
        unfolding written
        turn_write eq {now} n =
            let own : caught.chain.places ≡ path =
            ap (λ (c : Chain). c.places) (visited_own T S r.hash r.id path (depth + 1) count t caught.chain eq caught.ends_with) in
            let kept : last ≡ old = left ∙ written_full T.settings (depth + 1) below old (omega arith) in
            let long : length path ≡ depth + 1 =
            length-take-le (depth + 1) set_next (omega (arith, ahead, length-set next depth place)) in
            let whole_path : take (size W) after ≡ take (size W) set_next = subst (λ (m : ℕ). take m after ≡ take m set_next) eq handed in
            record { answer_is = rw ends_so; places_are = rw (ends_so, own, long, eq) (n ∙ rw (kept, whole_path)) }
