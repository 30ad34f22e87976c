-- The tally of some chains, and what a count of them gives step by step.
use Rattle.std.proofs.Common.{◌≡◌, ℕ, zero, suc, ◌+◌, ◌-◌, ◌<◌, ◌≤◌, Bool, true, false, cond, eqb, ltb, List, [], ◌∷◌, ◌++◌, length, get_or, set, drop, sym, refl, ap, ◌∙◌, subst, add-one, arith, length-set, drop-cons, drop_of_length-le, get_or-set_same, get_or-set_other, eq-eqb, ne_eqb, eqb-true, lt-ltb, le-ltb, ltb-true, ltb-false, length-append, replicate}
use Rattle.std.specs.Prelude.{count_by, Some, None, Result, Ok, Err, OnOk}
use Rattle.std.specs.Prelude.{Option as Answer}
use Rattle.std.proofs.lemmas.Bool.{eqb-false}
use Rattle.std.proofs.lemmas.List.{length-replicate, get_or-replicate}
use Rattle.std.proofs.lemmas.List.Sums.{sum_by-cons}
use mathlib.Core.Option.{none, some}
use Rattle.sampling.specs.core.FirstNumber.{line}
use Rattle.centralized_telescope.specs.declared.errors.Refusal.{Refusal}
use Rattle.centralized_telescope.specs.declared.round.Round.{Round}
use Rattle.centralized_telescope.specs.declared.shape.Tally.{Tally}
use Rattle.centralized_telescope.specs.core.Rounds.{says_yes}
use Rattle.centralized_telescope.specs.core.Refusals.{refusal_number, answer_number}
use Rattle.centralized_telescope.specs.laws.RefusalsLaws.{refusal_number_lem}
use Rattle.centralized_telescope.specs.core.Chains.{Try, Chain}
use Rattle.centralized_telescope.specs.core.Search.{places_in, next_at, id_of, grown, along, chains, passing}
use Rattle.centralized_telescope.specs.later.Shape.{number_of_length}
use Rattle.centralized_telescope.specs.inner.Held.{option_of}
use Rattle.centralized_telescope.specs.inner.Following.{round_with}
use Rattle.centralized_telescope.specs.inner.Tallies.{none_counted, one_more, with_chains, Few, Counts}
use Rattle.centralized_telescope.proofs.Walked.{Drawn, round_drawn, round_missing}

-- ---- no chain yet

pub none_few : Few none_counted
none_few = record { lengths_few = λ l h. omega (arith, get_or-replicate {A = ℕ} 1025 l 0 0); passing_few = omega arith }

-- ---- one chain more

module _ (len : ℕ) (passes : Bool) (t : Tally) where
  pub few_more : Few t → Few (one_more len passes t)
  few_more k = record { lengths_few = each; passing_few = passed passes }
    where
      each : (l : ℕ) → l < length (set t.lengths len (get_or t.lengths len 0 + 1))
          → get_or (set t.lengths len (get_or t.lengths len 0 + 1)) l 0 ≤ t.total + 1
      each l h = go (eqb l len) refl
        where
          inside : l < length t.lengths
          inside = omega (arith, h, length-set t.lengths len (get_or t.lengths len 0 + 1))

          go : (b : Bool) → eqb l len ≡ b → get_or (set t.lengths len (get_or t.lengths len 0 + 1)) l 0 ≤ t.total + 1
          go true e =
              let same : l ≡ len = eqb-true l len e in
              let there : len < length t.lengths = omega (arith, same, inside) in
              rw (same, get_or-set_same t.lengths len (get_or t.lengths len 0 + 1) 0 there) (omega (arith, k.lengths_few len there))
          go false e =
              rw (get_or-set_other t.lengths len l (get_or t.lengths len 0 + 1) 0 (λ q. eqb-false l len e q))
              (omega (arith, k.lengths_few l inside))

      passed : (b : Bool) → t.passing + cond b 1 0 ≤ t.total + 1
      passed true = omega (arith, k.passing_few)
      passed false = omega (arith, k.passing_few)

-- one number of a list is one more, if it is the one at l
one_longer : (l len : ℕ) (ns : List ℕ) → l < length ns
    → get_or (set ns len (get_or ns len 0 + 1)) l 0 ≡ get_or ns l 0 + cond (eqb len l) 1 0
one_longer l len ns h = go (eqb len l) refl
  where
    go : (b : Bool) → eqb len l ≡ b → get_or (set ns len (get_or ns len 0 + 1)) l 0 ≡ get_or ns l 0 + cond b 1 0
    go true e = let same : len ≡ l = eqb-true len l e in rw (same, get_or-set_same ns l (get_or ns l 0 + 1) 0 h)
    go false e = rw (get_or-set_other ns len l (get_or ns len 0 + 1) 0 (λ q. eqb-false len l e (sym q))) (omega arith)

-- ---- some chains more

module _ (T : Try) where
  abbrev more : Chain → Tally → Tally
  more c t = one_more (length c.places) (passing T c) t

  pub with_append : (xs ys : List Chain) (t : Tally) → with_chains T (xs ++ ys) t ≡ with_chains T ys (with_chains T xs t)
  unfolding with_chains
  with_append [] ys t = refl
  with_append (c ∷ xs) ys t = with_append xs ys (more c t)

  pub total_with : (cs : List Chain) (t : Tally) → (with_chains T cs t).total ≡ t.total + length cs
  unfolding with_chains
  total_with [] t = omega arith
  total_with (c ∷ cs) t = total_with cs (more c t) ∙ omega arith

  pub few_with : (cs : List Chain) (t : Tally) → Few t → Few (with_chains T cs t)
  unfolding with_chains
  few_with [] t k = k
  few_with (c ∷ cs) t k = few_with cs (more c t) (few_more (length c.places) (passing T c) t k)

  pub lengths_kept : (cs : List Chain) (t : Tally) → length (with_chains T cs t).lengths ≡ length t.lengths
  unfolding with_chains
  lengths_kept [] t = refl
  lengths_kept (c ∷ cs) t = lengths_kept cs (more c t) ∙ length-set t.lengths (length c.places) _

  pub passing_with : (cs : List Chain) (t : Tally) → (with_chains T cs t).passing ≡ t.passing + count_by (passing T) cs
  unfolding with_chains
  passing_with [] t = omega arith
  passing_with (c ∷ cs) t =
      passing_with cs (more c t)
      ∙ omega (arith, sum_by-cons (λ (x : Chain). cond (passing T x) 1 0) c cs)

  pub length_with : (l : ℕ) (cs : List Chain) (t : Tally) → l < length t.lengths
      → get_or (with_chains T cs t).lengths l 0 ≡ get_or t.lengths l 0 + number_of_length cs l
  unfolding with_chains
  length_with l [] t h = omega arith
  length_with l (c ∷ cs) t h =
      length_with l cs (more c t) (omega (arith, h, length-set t.lengths (length c.places) (get_or t.lengths (length c.places) 0 + 1)))
      ∙ omega (
        arith,
        one_longer l (length c.places) t.lengths h,
        sum_by-cons (λ (x : Chain). cond (eqb (length x.places) l) 1 0) c cs,
      )

-- ---- the loop along a bin's places

module _ (T : Try) (h : List ℕ) (depth : ℕ) where
  -- what grows by some candidates for the next place
  abbrev pub grows : ℕ → List ℕ → List ℕ → List Chain
  grows S places es = along T (chains T S (T.settings.proof_size - (depth + 1))) h places es

  -- at the index i of the candidates
  pub record Along (candidates : List ℕ) (old : Tally) (i : ℕ) (now : Tally) : Type 0 where
    pub few : Few now
    pub within : now.total ≤ T.settings.dfs_bound
    pub still : (S : ℕ) (places : List ℕ) → length places ≡ depth
        → with_chains T (grows S places candidates) old ≡ with_chains T (grows S places (drop i candidates)) now

-- within the bound there is no refusal
fits : (bound : ℕ) (t : Tally) → t.total ≤ bound → line 50 (ltb bound t.total) ≡ 0
fits bound t l = rw (le-ltb bound t.total l)

-- past it, it is 50
past : (bound : ℕ) (t : Tally) → bound < t.total → line 50 (ltb bound t.total) ≡ 50
past bound t l = rw (lt-ltb bound t.total l)

-- a number that isn't 0 says so
past_by : (bound : ℕ) (t : Tally) → (line 50 (ltb bound t.total) ≡ 0 → ⊥) → bound < t.total
past_by bound t n = go (ltb bound t.total) refl n
  where
    go : (b : Bool) → ltb bound t.total ≡ b → (line 50 b ≡ 0 → ⊥) → bound < t.total
    go true e n = ltb-true bound t.total e
    go false e n = absurd (n refl)

-- and the number 0, that it isn't passed
within_by : (bound : ℕ) (t : Tally) → 0 ≡ line 50 (ltb bound t.total) → t.total ≤ bound
within_by bound t z = go (ltb bound t.total) refl z
  where
    go : (b : Bool) → ltb bound t.total ≡ b → 0 ≡ line 50 b → t.total ≤ bound
    go true e z = absurd (omega (arith, z))
    go false e z = ltb-false bound t.total e

module _ {T : Try} {h : List ℕ} {depth : ℕ} {candidates : List ℕ} {old : Tally} where
  pub begins : Few old → old.total ≤ T.settings.dfs_bound → Along T h depth candidates old 0 old
  begins few l = record { few = few; within = l; still = λ S places e. refl }

  module _ {i : ℕ} {now : Tally} (k : Along T h depth candidates old i now) where
    pub at_end : length candidates ≤ i → (S : ℕ) (places : List ℕ) → length places ≡ depth
        → Counts T (grows T h depth S places candidates) old (Ok tt) now
    unfolding along with_chains
    at_end l S places e =
        let none_left : drop i candidates ≡ [] = drop_of_length-le candidates l in
        let same : with_chains T (grows T h depth S places candidates) old ≡ now =
        k.still S places e ∙ ap (λ (es : List ℕ). with_chains T (grows T h depth S places es) now) none_left in
        record { number_is = rw same (sym (fits T.settings.dfs_bound now k.within)); counted = sym same }

-- ---- a turn

-- what it knows, where the next hash, g, is made by the element at the place there and the round d is drawn from it
pub record Turning (T : Try) (h : List ℕ) (depth : ℕ) (candidates : List ℕ) (old : Tally) (i : ℕ) (now : Tally) (g : List ℕ)
    (d : Answer Round) : Type 0 where
  pub head : Along T h depth candidates old i now
  pub inside : i < length candidates
  pub hash_is : g ≡ next_at T h (get_or candidates i 0)
  pub round_is : option_of d ≡ round_with g (id_of T g)

module _ {T : Try} {h : List ℕ} {depth : ℕ} {candidates : List ℕ} {old : Tally} {i : ℕ} {now : Tally} {g : List ℕ} {d : Answer Round}
    (k : Turning T h depth candidates old i now g d) where
  abbrev place : ℕ
  place = get_or candidates i 0

  -- the places behind this one
  abbrev behind : List ℕ
  behind = drop (i + 1) candidates

  abbrev ahead : ℕ → List ℕ → List Chain
  ahead S places = grows T h depth S places behind

  opened : (S : ℕ) (places : List ℕ) → length places ≡ depth
      → with_chains T (grows T h depth S places candidates) old
      ≡ with_chains T (grows T h depth S places (place ∷ behind)) now
  opened S places e =
      k.head.still S places e
      ∙ ap (λ (es : List ℕ). with_chains T (grows T h depth S places es) now) (rw (add-one i) (drop-cons candidates i 0 k.inside))

  -- ---- the round doesn't exist

  pub turn_nothing : d ≡ None → Along T h depth candidates old (i + 1) now
  unfolding along grown
  turn_nothing q =
      let missing : id_of T (next_at T h place) ≡ none = rw (← k.hash_is) (round_missing T g d k.round_is q) in
      record {
        few = k.head.few;
        within = k.head.within;
        still = λ S places e. opened S places e ∙ rw missing;
      }

  -- ---- it exists, it is r, and its count answers o and leaves the tally as `after`

  module _ {r : Round} (q : d ≡ Some r) {o : Result (Unit {0}) Refusal} {after : Tally}
      (said : (S : ℕ) (places : List ℕ) → length places ≡ depth + 1
      → Counts T (chains T S (T.settings.proof_size - (depth + 1)) r.hash r.id places) now o after) where
    known : Drawn T g r
    known = round_drawn T g d k.round_is q

    abbrev own : ℕ → List ℕ → List Chain
    own S places = chains T S (T.settings.proof_size - (depth + 1)) r.hash r.id (places ++ (place ∷ []))

    longer : (places : List ℕ) → length places ≡ depth → length (places ++ (place ∷ [])) ≡ depth + 1
    longer places e = omega (arith, e, length-append places (place ∷ []))

    -- its chains, and then those behind
    parted : (S : ℕ) (places : List ℕ) → length places ≡ depth
        → with_chains T (grows T h depth S places candidates) old
        ≡ with_chains T (ahead S places) (with_chains T (own S places) now)
    unfolding along grown
    parted S places e =
        let drawn : id_of T (next_at T h place) ≡ some r.id = rw (← k.hash_is) known.id_is in
        let same : next_at T h place ≡ r.hash = sym k.hash_is ∙ sym known.hash_is in
        opened S places e ∙ rw (drawn, same) (with_append T (own S places) (ahead S places) now)

    -- the number of its answer
    number_of : (S : ℕ) (places : List ℕ) → length places ≡ depth
        → answer_number o ≡ line 50 (ltb T.settings.dfs_bound (with_chains T (own S places) now).total)
    number_of S places e = (said S (places ++ (place ∷ [])) (longer places e)).number_is

    -- within the bound the loop goes on with the tally after it
    pub turn_within : o ≡ Ok tt → Along T h depth candidates old (i + 1) after
    turn_within v =
        let some_places : length (replicate depth 0) ≡ depth = length-replicate depth 0 in
        record {
          few = subst Few (sym (counted_of 0 (replicate depth 0) some_places)) (few_with T (own 0 (replicate depth 0)) now k.head.few);
          within =
              subst (λ (t : Tally). t.total ≤ T.settings.dfs_bound) (sym (counted_of 0 (replicate depth 0) some_places))
              (within_by T.settings.dfs_bound (with_chains T (own 0 (replicate depth 0)) now)
              (ap answer_number (sym v) ∙ number_of 0 (replicate depth 0) some_places));
          still = λ S places e. parted S places e ∙ ap (with_chains T (ahead S places)) (sym (counted_of S places e));
        }
      where
        counted_of : (S : ℕ) (places : List ℕ) → length places ≡ depth → after ≡ with_chains T (own S places) now
        counted_of S places e =
            subst (λ (x : Result (Unit {0}) Refusal). OnOk x (after ≡ with_chains T (own S places) now)) v
            (said S (places ++ (place ∷ [])) (longer places e)).counted

    -- past it the refusal is handed on
    pub turn_past : (x : Refusal) → o ≡ Err x → (S : ℕ) (places : List ℕ) → length places ≡ depth
        → Counts T (grows T h depth S places candidates) old (Err x) after
    turn_past x v S places e =
        let so : refusal_number x ≡ line 50 (ltb T.settings.dfs_bound (with_chains T (own S places) now).total) =
        ap answer_number (sym v) ∙ number_of S places e in
        let p : T.settings.dfs_bound < (with_chains T (own S places) now).total =
        past_by T.settings.dfs_bound (with_chains T (own S places) now) (λ z. refusal_number_lem x (so ∙ z)) in
        record {
          number_is =
              so ∙ past T.settings.dfs_bound (with_chains T (own S places) now) p
              ∙ sym (rw (parted S places e)
              (past T.settings.dfs_bound (with_chains T (ahead S places) (with_chains T (own S places) now))
              (omega (arith, p, total_with T (ahead S places) (with_chains T (own S places) now)))));
          counted = tt;
        }

-- ---- a round

module _ (T : Try) (S : ℕ) (h : List ℕ) (i : ℕ) (places : List ℕ) (depth : ℕ) (old : Tally) (long : length places ≡ depth) where
  abbrev below : List Chain
  below = chains T S (T.settings.proof_size - depth) h i places

  -- with the bound reached its own chain is one too many
  some_chain : (k : ℕ) → 1 ≤ length (chains T S k h i places)
  unfolding chains
  some_chain zero = omega arith
  some_chain (suc k) = omega arith

  pub round_past : T.settings.dfs_bound ≤ old.total → (x : Refusal) → refusal_number x ≡ 50 → Counts T below old (Err x) old
  round_past l x e = record {
    number_is =
        e
        ∙ sym (past T.settings.dfs_bound (with_chains T below old)
        (omega (arith, l, total_with T below old, some_chain (T.settings.proof_size - depth))));
    counted = tt;
  }

  -- the chain that ends here
  abbrev here : Chain
  here = record { search = S; places = places; last = h }

  here_then : (k : ℕ) → with_chains T (chains T S (suc k) h i places) old
      ≡ with_chains T (along T (chains T S k) h places (places_in T i)) (one_more (length places) (passing T here) old)
  unfolding chains with_chains
  here_then k = refl

  here_alone : with_chains T (chains T S 0 h i places) old ≡ one_more (length places) (passing T here) old
  unfolding chains with_chains
  here_alone = refl

  short : depth < T.settings.proof_size → passing T here ≡ false
  unfolding passing
  short l = rw (ne_eqb (length places) T.settings.proof_size (λ q. omega arith))

  whole : depth ≡ T.settings.proof_size → passing T here ≡ says_yes T.settings.x h
  unfolding passing
  whole full = rw (eq-eqb (length places) T.settings.proof_size (long ∙ full))

  -- above full length, its chain, which doesn't pass, and then what grows along its bin
  opens_along : depth < T.settings.proof_size → (candidates : List ℕ) → candidates ≡ places_in T i
      → with_chains T below old ≡ with_chains T (grows T h depth S places candidates) (one_more depth false old)
  opens_along l candidates are =
      let e : T.settings.proof_size - depth ≡ suc (T.settings.proof_size - (depth + 1)) = omega arith in
      ap (λ (k : ℕ). with_chains T (chains T S k h i places) old) e
      ∙ here_then (T.settings.proof_size - (depth + 1))
      ∙ ap (λ (b : Bool). with_chains T (grows T h depth S places (places_in T i)) (one_more (length places) b old)) (short l)
      ∙ ap (λ (d : ℕ). with_chains T (grows T h depth S places (places_in T i)) (one_more d false old)) long
      ∙ ap (λ (es : List ℕ). with_chains T (grows T h depth S places es) (one_more depth false old)) (sym are)

  pub round_along : depth < T.settings.proof_size → (candidates : List ℕ) → candidates ≡ places_in T i
      → (o : Result (Unit {0}) Refusal) (after : Tally)
      → Counts T (grows T h depth S places candidates) (one_more depth false old) o after
      → Counts T below old o after
  round_along l candidates are o after c =
      let e = opens_along l candidates are in
      record {
        number_is = c.number_is ∙ ap (λ (t : Tally). line 50 (ltb T.settings.dfs_bound t.total)) (sym e);
        counted = subst (λ (t : Tally). OnOk o (after ≡ t)) (sym e) c.counted;
      }

  -- at full length, its chain alone
  opens_full : depth ≡ T.settings.proof_size → with_chains T below old ≡ one_more depth (says_yes T.settings.x h) old
  opens_full full =
      let e : T.settings.proof_size - depth ≡ 0 = omega arith in
      ap (λ (k : ℕ). with_chains T (chains T S k h i places) old) e
      ∙ here_alone
      ∙ ap (λ (b : Bool). one_more (length places) b old) (whole full)
      ∙ ap (λ (d : ℕ). one_more d (says_yes T.settings.x h) old) long

  pub round_full : depth ≡ T.settings.proof_size → old.total < T.settings.dfs_bound → (after : Tally)
      → after ≡ one_more depth (says_yes T.settings.x h) old → Counts T below old (Ok tt) after
  round_full full l after is = record {
    number_is =
        sym (ap (λ (t : Tally). line 50 (ltb T.settings.dfs_bound t.total)) (opens_full full)
        ∙ fits T.settings.dfs_bound (one_more depth (says_yes T.settings.x h) old) (omega (arith, l)));
    counted = is ∙ sym (opens_full full);
  }
