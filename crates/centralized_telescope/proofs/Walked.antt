-- What a visit and a walk give, step by step. The proofs of the search cite these and open no definition.
use Rattle.std.proofs.Common.{◌≡◌, ℕ, suc, ◌+◌, ◌-◌, ◌<◌, ◌≤◌, true, false, cond, eqb, ltb, List, [], ◌∷◌, ◌++◌, length, sym, refl, ap, ◌∙◌, arith, le-ltb, lt-ltb, eq-eqb, ne_eqb}
use mathlib.Core.Option.{Option, none, some}
use Rattle.std.specs.Prelude.{Some, None}
use Rattle.std.specs.Prelude.{Option as Answer}
use Rattle.centralized_telescope.specs.declared.params.Params.{Params}
use Rattle.std.specs.declared.ops.ControlFlow.{ControlFlow}
use Rattle.std.specs.declared.ops.ControlFlow.TheVariants.{Break, Continue}
use Rattle.centralized_telescope.specs.declared.round.Round.{Round}
use Rattle.centralized_telescope.specs.inner.Held.{option_of}
use Rattle.centralized_telescope.specs.inner.Following.{round_with}
use Rattle.centralized_telescope.specs.laws.TestLaws.{either_way}
use Rattle.centralized_telescope.specs.core.Rounds.{says_yes}
use Rattle.centralized_telescope.specs.core.Chains.{Try, Chain}
use Rattle.centralized_telescope.specs.core.Search.{places_in, next_at, id_of, grown, along, chains, passing}
use Rattle.centralized_telescope.specs.inner.Walk.{Ended, found, missing, walk, counted}
use Rattle.centralized_telescope.specs.laws.WalkLaws.{walk_full, and_then, walk_append, walk_bound, walk_one}
use Rattle.centralized_telescope.specs.inner.Visit.{visited, walked, outcome_of, written, written_from, Answers, VisitEnds, WalkEnds}

module _ (T : Try) (S : ℕ) where
  abbrev bound : ℕ
  bound = T.settings.dfs_bound

  abbrev size : ℕ
  size = T.settings.proof_size

  -- ---- a walk

  module _ (h places : List ℕ) (depth count : ℕ) where
    abbrev W : List ℕ → ℕ → Ended Chain
    W es t = walked T S h places depth es t

    pub walked_end : W [] count ≡ missing count
    unfolding walked along walk
    walked_end = refl

    pub walked_full : (es : List ℕ) → bound ≤ count → W es count ≡ missing count
    unfolding walked
    walked_full es l = walk_full (passing T) bound count _ l

    module _ (e : ℕ) (es : List ℕ) where
      abbrev g : List ℕ
      g = next_at T h e

      abbrev below : ℕ → Ended Chain
      below i = visited T S g i (places ++ (e ∷ [])) (depth + 1) count

      -- a place whose round doesn't exist
      pub walked_nothing : id_of T g ≡ none → W (e ∷ es) count ≡ W es count
      unfolding walked along grown
      walked_nothing q = rw q

      walked_at : (i : ℕ) (r : Ended Chain) → id_of T g ≡ some i → below i ≡ r
          → W (e ∷ es) count ≡ and_then (passing T) bound r (λ (t : ℕ). W es t)
      unfolding walked visited along grown
      walked_at i r q w =
          let deeper : List ℕ → ℕ → List ℕ → List Chain = chains T S (size - (depth + 1)) in
          rw (q, ← w) (walk_append (passing T) bound count (deeper g i (places ++ (e ∷ []))) (along T deeper h places es))

      pub walked_missing : (i t : ℕ) → id_of T g ≡ some i → below i ≡ missing t → W (e ∷ es) count ≡ W es t
      unfolding and_then
      walked_missing i t q w = walked_at i (missing t) q w

      pub walked_found : (i t : ℕ) (c : Chain) → id_of T g ≡ some i → below i ≡ found t c → W (e ∷ es) count ≡ found t c
      unfolding and_then
      walked_found i t c q w = walked_at i (found t c) q w

  -- ---- a visit

  module _ (h : List ℕ) (i : ℕ) (places : List ℕ) (depth count : ℕ) where
    abbrev ended : Ended Chain
    ended = visited T S h i places depth count

    -- the chain that ends here
    abbrev here : Chain
    here = record { search = S; places = places; last = h }

    pub visited_bound : count ≤ bound → counted ended ≤ bound
    unfolding visited
    visited_bound l = walk_bound (passing T) bound count _ l

    -- at full length it finds its own chain or none
    pub visited_own : (t : ℕ) (c : Chain) → depth ≡ size → ended ≡ found t c → c ≡ here
    unfolding visited chains
    visited_own t c q e =
        let z : size - depth ≡ 0 = omega arith in
        walk_one (passing T) bound count here t c (rw z at e)

    module _ (lp : length places ≡ depth) (lc : count < bound) where
      -- below it, it walks the candidates, which are its bin's places
      pub visited_walk : depth < size → (candidates : List ℕ) → candidates ≡ places_in T i
          → ended ≡ walked T S h places depth candidates (count + 1)
      unfolding visited walked chains walk passing
      visited_walk l candidates are =
          let e : size - depth ≡ suc (size - (depth + 1)) = omega arith in
          let f : eqb (length places) size ≡ false = ne_eqb (length places) size (λ q. omega arith) in
          rw (e, lt-ltb count bound lc, f, are)

      module _ (full : depth ≡ size) where
        last_step : ended ≡ cond (says_yes T.settings.x h) (found (count + 1) here) (missing (count + 1))
        unfolding visited chains walk passing
        last_step =
            let e : size - depth ≡ 0 = omega arith in
            rw (e, lt-ltb count bound lc, eq-eqb (length places) size (lp ∙ full))

        pub visited_pass : says_yes T.settings.x h ≡ true → ended ≡ found (count + 1) here
        visited_pass y = last_step ∙ rw y

        pub visited_fail : says_yes T.settings.x h ≡ false → ended ≡ missing (count + 1)
        visited_fail y = last_step ∙ rw y

-- ---- the round that is drawn

-- with this hash, and its id is the one that is drawn from it
pub record Drawn (T : Try) (g : List ℕ) (r : Round) : Type 0 where
  pub hash_is : r.hash ≡ g
  pub id_is : id_of T g ≡ some r.id

module _ (T : Try) (g : List ℕ) (d : Answer Round) (drawn : option_of d ≡ round_with g (id_of T g)) where
  pub round_drawn : {r : Round} → d ≡ Some r → Drawn T g r
  round_drawn {r} q = go (id_of T g) refl (sym drawn ∙ ap option_of q)
    where
      go : (o : Option ℕ) → id_of T g ≡ o → round_with g o ≡ some r → Drawn T g r
      go none i e = let z : ◌≡◌ {A = ℕ} 0 1 = cc in absurd (omega arith)
      go (some j) i e =
          let z : record { hash = g; id = j } ≡ r = cc in
          record { hash_is = ap (λ (k : Round). k.hash) (sym z); id_is = i ∙ ap (λ (k : Round). some k.id) z }

  pub round_missing : d ≡ None → id_of T g ≡ none
  round_missing q = go (id_of T g) refl (sym drawn ∙ ap option_of q)
    where
      go : (o : Option ℕ) → id_of T g ≡ o → round_with g o ≡ none → id_of T g ≡ none
      go none i e = i
      go (some j) i e = let z : ◌≡◌ {A = ℕ} 0 1 = cc in absurd (omega arith)

-- ---- from an answer back to the walk's end

pub missing_of : (r : Ended Chain) (t : ℕ) → Continue t ≡ outcome_of r → r ≡ missing t
missing_of (found u c) t e = let z : ◌≡◌ {A = ℕ} 0 1 = cc in absurd (omega arith)
missing_of (missing u) t e = cc

-- a find, with its chain
pub record Finds (r : Ended Chain) (t : ℕ) : Type 0 where
  pub chain : Chain
  pub ends_with : r ≡ found t chain

pub found_of : (r : Ended Chain) (t : ℕ) → Break t ≡ outcome_of r → Finds r t
found_of (found u c) t e = record { chain = c; ends_with = cc }
found_of (missing u) t e = let z : ◌≡◌ {A = ℕ} 0 1 = cc in absurd (omega arith)

-- without a find, whatever an answer says of the walk's end, and the lent places as they were
pub stopped : {A : Type 0} (answer : Ended Chain → A) {whole : Ended Chain} {t : ℕ} {now old : List ℕ} → whole ≡ missing t → now ≡ old
    → Answers (answer (missing t)) (answer whole) now (written whole old)
unfolding written
stopped answer e q = rw e (record { answer_is = refl; places_are = q })

-- ---- the lent places after a visit

module _ (p : Params) (depth : ℕ) (r : Ended Chain) (places : List ℕ) where
  pub written_short : depth < p.proof_size → written_from p depth r places ≡ written r places
  unfolding written_from
  written_short l = rw (lt-ltb depth p.proof_size l)

  pub written_full : p.proof_size ≤ depth → written_from p depth r places ≡ places
  unfolding written_from
  written_full l = rw (le-ltb depth p.proof_size l)

  pub written_none : (t : ℕ) → r ≡ missing t → written_from p depth r places ≡ places
  unfolding written_from written
  written_none t e = rw e (either_way (ltb depth p.proof_size) places)

-- ---- the answers of a visit

module _ (p : Params) (depth : ℕ) {v w : Ended Chain} (e : v ≡ w) (old : List ℕ) where
  -- that of the walk that it hands over to
  pub by_walk : depth < p.proof_size → {o : ControlFlow ℕ ℕ} {now : List ℕ} → WalkEnds w o old now → VisitEnds p depth v o old now
  by_walk l q = rw e (record { answer_is = q.answer_is; places_are = q.places_are ∙ sym (written_short p depth w old l) })

  -- at full length nothing is written
  pub by_leaf : p.proof_size ≤ depth → VisitEnds p depth v (outcome_of w) old old
  by_leaf l = rw e (record { answer_is = refl; places_are = sym (written_full p depth w old l) })
