-- Laws of a try's list of existing chains: it holds exactly those that exist, each once, in the search's order.
use Rattle.std.specs.Prelude.{◌≡◌, ℕ, zero, suc, ◌+◌, ◌<◌, ◌≤◌, List, [], ◌∷◌, ◌++◌, map, length}
use Rattle.std.proofs.Math.Path.{refl, ap, sym, subst}
use Rattle.std.proofs.Common.{◌∙◌, eq-or-lt_of_le}
use Rattle.std.proofs.Math.Logic.{inl, inr, ⊎_elim}
use mathlib.Core.List.Memᴰ
use mathlib.Core.List.{append_assoc, append-nil, Memᴰ}
use Rattle.std.proofs.Math.Option.{Option, none, some}
use native.Mathlib.Omega.{arith}
use Rattle.centralized_telescope.specs.core.Elements.{Element, element_at}
use Rattle.centralized_telescope.specs.core.Lists.{Ascending, Each}
use Rattle.centralized_telescope.specs.laws.ListsLaws.{pairwise_append, each_nil, each_cons, each_head, each_rest}
use Rattle.centralized_telescope.specs.core.Rounds.{start_hash}
use Rattle.centralized_telescope.specs.core.Chains.{Try, Chain, Grows, ElementsExist, Exists, PlacesBefore, Before}
use Rattle.centralized_telescope.specs.laws.OrderLaws.{forked, longer}
use Rattle.centralized_telescope.specs.laws.TryLaws.{id_below, in_bin, bin_in, bin_ascends}
use Rattle.centralized_telescope.specs.core.Search.{places_in, next_at, id_of, grown, along, chains, chains_at, chains_from, existing}

abbrev chain : ℕ → List ℕ → List ℕ → Chain
chain S places last = record { search = S; places = places; last = last }

chain_eq : (S : ℕ) {ps qs g h : List ℕ} → ps ≡ qs → g ≡ h → chain S ps g ≡ chain S qs h
chain_eq S {ps} {qs} {g} {h} e f = ap (λ (x : List ℕ). chain S x g) e ∙ ap (chain S qs) f

module _ (T : Try) where
  abbrev N : ℕ
  N = T.settings.set_size

  abbrev Kept : ℕ → Type 0
  Kept e = e < length T.kept

  abbrev at : List ℕ → List Element
  at es = map (element_at T.kept) es

  abbrev Grow : Type 0
  Grow = List ℕ → ℕ → List ℕ → List Chain

  -- ---- along some candidates

  -- what a chain along some candidates grows from
  record By (grow : Grow) (h ps es : List ℕ) (c : Chain) : Type 0 where
    pub place : ℕ
    pub among : Memᴰ place es
    pub id : ℕ
    pub id_is : id_of T (next_at T h place) ≡ some id
    pub grows : Memᴰ c (grow (next_at T h place) id (ps ++ (place ∷ [])))

  along_sound : (grow : Grow) (h ps es : List ℕ) (c : Chain) → Memᴰ c (along T grow h ps es) → By grow h ps es c
  unfolding along grown
  along_sound grow h ps [] c m = absurd (Memᴰ.not-nil m)
  along_sound grow h ps (e ∷ es) c m =
      ⊎_elim (λ l. go (id_of T (next_at T h e)) refl l)
      (λ l. let r = along_sound grow h ps es c l in
      record { place = r.place; among = Memᴰ.tail r.among; id = r.id; id_is = r.id_is; grows = r.grows })
      (Memᴰ.append_cases (grown T grow (id_of T (next_at T h e)) (next_at T h e) (ps ++ (e ∷ []))) m)
    where
      go : (d : Option ℕ) → id_of T (next_at T h e) ≡ d → Memᴰ c (grown T grow d (next_at T h e) (ps ++ (e ∷ [])))
          → By grow h ps (e ∷ es) c
      go none q l = absurd (Memᴰ.not-nil l)
      go (some j) q l = record { place = e; among = Memᴰ.head refl; id = j; id_is = q; grows = l }

  along_complete : (grow : Grow) (h ps es : List ℕ) (c : Chain) (e j : ℕ) → Memᴰ e es → id_of T (next_at T h e) ≡ some j
      → Memᴰ c (grow (next_at T h e) j (ps ++ (e ∷ [])))
      → Memᴰ c (along T grow h ps es)
  unfolding along grown
  along_complete grow h ps [] c e j m q l = absurd (Memᴰ.not-nil m)
  along_complete grow h ps (y ∷ es) c e j m q l =
      ⊎_elim (λ r. Memᴰ.append_left (along T grow h ps es) (here r))
      (λ r. Memᴰ.append_right (grown T grow (id_of T (next_at T h y)) (next_at T h y) (ps ++ (y ∷ [])))
      (along_complete grow h ps es c e j r q l))
      (Memᴰ.cases_cons m)
    where
      here : e ≡ y → Memᴰ c (grown T grow (id_of T (next_at T h y)) (next_at T h y) (ps ++ (y ∷ [])))
      here r = subst (λ (z : ℕ). Memᴰ c (grown T grow (id_of T (next_at T h z)) (next_at T h z) (ps ++ (z ∷ [])))) r (rw q l)

  -- ---- from a round on

  -- a chain that begins with some places and from the round there goes on by at most k more
  record Extends (S k : ℕ) (h : List ℕ) (i : ℕ) (ps : List ℕ) (c : Chain) : Type 0 where
    pub more : List ℕ
    pub search_is : c.search ≡ S
    pub at_most : length more ≤ k
    pub places_are : c.places ≡ ps ++ more
    pub kept : Each Kept more
    pub grows : Grows T.settings T.retry h i (at more) c.last

  itself : (S k : ℕ) (h : List ℕ) (i : ℕ) (ps : List ℕ) (c : Chain) → c ≡ chain S ps h → Extends S k h i ps c
  unfolding Grows
  itself S k h i ps c e = record {
    more = [];
    search_is = ap (λ (x : Chain). x.search) e;
    at_most = omega arith;
    places_are = ap (λ (x : Chain). x.places) e ∙ sym (append-nil ps);
    kept = each_nil Kept;
    grows = ap (λ (x : Chain). x.last) e;
  }

  -- every listed chain is one that exists
  sound : (S k : ℕ) (h : List ℕ) (i : ℕ) (ps : List ℕ) (c : Chain) → i < N → Memᴰ c (chains T S k h i ps) → Extends S k h i ps c
  unfolding chains Grows
  sound S zero h i ps c l m = ⊎_elim (λ e. itself S zero h i ps c e) (λ n. absurd (Memᴰ.not-nil n)) (Memᴰ.cases_cons m)
  sound S (suc k) h i ps c l m =
      ⊎_elim (λ e. itself S (suc k) h i ps c e)
      (λ n.
      let b = along_sound (chains T S k) h ps (places_in T i) c n in
      let p = in_bin T i b.place l b.among in
      let s = sound S k (next_at T h b.place) b.id (ps ++ (b.place ∷ [])) c (id_below T _ _ b.id_is) b.grows in
      record {
        more = b.place ∷ s.more;
        search_is = s.search_is;
        at_most = omega (arith, s.at_most);
        places_are = s.places_are ∙ append_assoc ps (b.place ∷ []) s.more;
        kept = each_cons Kept b.place s.more p.0 s.kept;
        grows = (p.1, (b.id, b.id_is, s.grows));
      })
      (Memᴰ.cases_cons m)

  -- it has the search counter that it was started with
  pub same_search : (S k : ℕ) (h : List ℕ) (i : ℕ) (ps : List ℕ) (c : Chain) → i < N → Memᴰ c (chains T S k h i ps) → c.search ≡ S
  same_search S k h i ps c l m = (sound S k h i ps c l m).search_is

  -- every chain that exists is listed
  complete : (S k : ℕ) (h : List ℕ) (i : ℕ) (ps es g : List ℕ) → length es ≤ k → Each Kept es
      → Grows T.settings T.retry h i (at es) g
      → Memᴰ (chain S (ps ++ es) g) (chains T S k h i ps)
  unfolding chains Grows
  complete S zero h i ps [] g l w q = Memᴰ.head (chain_eq S (append-nil ps) q)
  complete S (suc k) h i ps [] g l w q = Memᴰ.head (chain_eq S (append-nil ps) q)
  complete S zero h i ps (e ∷ es) g l w q = absurd (omega arith)
  complete S (suc k) h i ps (e ∷ es) g l w q =
      Memᴰ.tail
      (along_complete (chains T S k) h ps (places_in T i) (chain S (ps ++ (e ∷ es)) g) e q.1.0
      (bin_in T i e (each_head Kept e es w) q.0) q.1.1
      (Memᴰ.cast (chain_eq S (sym (append_assoc ps (e ∷ []) es)) refl)
      (complete S k (next_at T h e) q.1.0 (ps ++ (e ∷ [])) es g (omega arith) (each_rest Kept e es w) q.1.2)))

  -- ---- order

  abbrev Earlier : Chain → Chain → Type 0
  Earlier c d = PlacesBefore c.places d.places

  -- whatever a function lists begins with the places it is given
  abbrev Starts : Grow → Type 0
  Starts grow = (h : List ℕ) (j : ℕ) (ps : List ℕ) (c : Chain) → j < N → Memᴰ c (grow h j ps) → (r : List ℕ) × (c.places ≡ ps ++ r)

  abbrev Sorts : Grow → Type 0
  Sorts grow = (h : List ℕ) (j : ℕ) (ps : List ℕ) → j < N → Ascending Earlier (grow h j ps)

  along_sorted : (grow : Grow) (h ps es : List ℕ) → Ascending ◌<◌ es → Sorts grow → Starts grow → Ascending Earlier (along T grow h ps es)
  unfolding along grown Ascending
  along_sorted grow h ps [] a s k = tt
  along_sorted grow h ps (e ∷ es) a s k =
      pairwise_append Earlier (grown T grow (id_of T (next_at T h e)) (next_at T h e) (ps ++ (e ∷ []))) (along T grow h ps es)
      (sorted (id_of T (next_at T h e)) refl) (along_sorted grow h ps es a.1 s k)
      (λ x y m l.
      let r = starts x (id_of T (next_at T h e)) refl m in
      let b = along_sound grow h ps es y l in
      let u = k (next_at T h b.place) b.id (ps ++ (b.place ∷ [])) y (id_below T _ _ b.id_is) b.grows in
      forked ps e b.place r.0 u.0 x.places y.places (a.0 b.place b.among) r.1 u.1)
    where
      sorted : (d : Option ℕ) → id_of T (next_at T h e) ≡ d → Ascending Earlier (grown T grow d (next_at T h e) (ps ++ (e ∷ [])))
      sorted none q = tt
      sorted (some j) q = s (next_at T h e) j (ps ++ (e ∷ [])) (id_below T _ _ q)

      starts : (c : Chain) (d : Option ℕ) → id_of T (next_at T h e) ≡ d → Memᴰ c (grown T grow d (next_at T h e) (ps ++ (e ∷ [])))
          → (r : List ℕ) × (c.places ≡ ps ++ (e ∷ []) ++ r)
      starts c none q m = absurd (Memᴰ.not-nil m)
      starts c (some j) q m = k (next_at T h e) j (ps ++ (e ∷ [])) c (id_below T _ _ q) m

  chains_start : (S k : ℕ) → Starts (chains T S k)
  chains_start S k h j ps c l m = let s = sound S k h j ps c l m in (s.more, s.places_are)

  chains_sorted : (S k : ℕ) → Sorts (chains T S k)
  unfolding chains Ascending
  chains_sorted S zero h i ps l = ((λ y m. absurd (Memᴰ.not-nil m)), tt)
  chains_sorted S (suc k) h i ps l = (
    λ y m.
        let b = along_sound (chains T S k) h ps (places_in T i) y m in
        let s = sound S k (next_at T h b.place) b.id (ps ++ (b.place ∷ [])) y (id_below T _ _ b.id_is) b.grows in
        longer ps b.place s.more y.places s.places_are,
    along_sorted (chains T S k) h ps (places_in T i) (bin_ascends T i) (chains_sorted S k) (chains_start S k),
  )

  -- ---- of a search counter, and of several

  abbrev start : ℕ → List ℕ
  start S = start_hash T.retry S

  -- a chain of the search counter S that exists
  pub record Started (S : ℕ) (c : Chain) : Type 0 where
    pub search_is : c.search ≡ S
    pub at_most : length c.places ≤ T.settings.proof_size
    pub kept : Each Kept c.places
    pub rounds : ElementsExist T.settings T.retry S (at c.places) c.last

  pub at_sound : (S : ℕ) (c : Chain) → Memᴰ c (chains_at T S) → Started S c
  unfolding chains_at grown
  at_sound S c m = go (id_of T (start S)) refl m
    where
      go : (d : Option ℕ) → id_of T (start S) ≡ d → Memᴰ c (grown T (chains T S T.settings.proof_size) d (start S) [])
          → Started S c
      go none q l = absurd (Memᴰ.not-nil l)
      go (some i) q l =
          let s = sound S T.settings.proof_size (start S) i [] c (id_below T _ _ q) l in
          record {
            search_is = s.search_is;
            at_most = rw s.places_are s.at_most;
            kept = rw s.places_are s.kept;
            rounds = (i, q, rw s.places_are s.grows);
          }

  pub at_complete : (S : ℕ) (c : Chain) → Started S c → Memᴰ c (chains_at T S)
  unfolding chains_at grown
  at_complete S c s =
      rw s.rounds.1
      (Memᴰ.cast (ap (λ (x : ℕ). chain x c.places c.last) s.search_is)
      (complete S T.settings.proof_size (start S) s.rounds.0 [] c.places c.last s.at_most s.kept s.rounds.2))

  pub at_sorted : (S : ℕ) → Ascending Before (chains_at T S)
  unfolding chains_at grown Ascending
  at_sorted S = go (id_of T (start S)) refl
    where
      one : (l : List Chain) → ((c : Chain) → Memᴰ c l → c.search ≡ S) → Ascending Earlier l → Ascending Before l
      one [] q p = tt
      one (x ∷ xs) q p = (
        λ y m. inr (q x (Memᴰ.head refl) ∙ sym (q y (Memᴰ.tail m)), p.0 y m),
        one xs (λ c m. q c (Memᴰ.tail m)) p.1,
      )

      go : (d : Option ℕ) → id_of T (start S) ≡ d → Ascending Before (grown T (chains T S T.settings.proof_size) d (start S) [])
      go none q = tt
      go (some i) q =
          one (chains T S T.settings.proof_size (start S) i [])
          (λ c m. (sound S T.settings.proof_size (start S) i [] c (id_below T _ _ q) m).search_is)
          (chains_sorted S T.settings.proof_size (start S) i [] (id_below T _ _ q))

  from_sound : (w S : ℕ) (c : Chain) → Memᴰ c (chains_from T w S) → (S ≤ c.search) × (c.search < S + w) × Started c.search c
  unfolding chains_from
  from_sound zero S c m = absurd (Memᴰ.not-nil m)
  from_sound (suc w) S c m =
      ⊎_elim
      (λ l.
      let s = at_sound S c l in
      let e : c.search ≡ S = s.search_is in
      (omega arith, omega arith, subst (λ (k : ℕ). Started k c) (sym e) s))
      (λ l. let r = from_sound w (S + 1) c l in (omega (arith, r.0), omega (arith, r.1), r.2))
      (Memᴰ.append_cases (chains_at T S) m)

  from_complete : (w S : ℕ) (c : Chain) → S ≤ c.search → c.search < S + w → Started c.search c → Memᴰ c (chains_from T w S)
  unfolding chains_from
  from_complete zero S c l h s = absurd (omega arith)
  from_complete (suc w) S c l h s =
      ⊎_elim
      (λ e. Memᴰ.append_left (chains_from T w (S + 1)) (subst (λ (k : ℕ). Memᴰ c (chains_at T k)) (sym e) (at_complete c.search c s)))
      (λ g. Memᴰ.append_right (chains_at T S) (from_complete w (S + 1) c (omega arith) (omega arith) s))
      (eq-or-lt_of_le l)

  from_sorted : (w S : ℕ) → Ascending Before (chains_from T w S)
  unfolding chains_from Ascending
  from_sorted zero S = tt
  from_sorted (suc w) S =
      pairwise_append Before (chains_at T S) (chains_from T w (S + 1)) (at_sorted S) (from_sorted w (S + 1))
      (λ x y m l.
      let e : x.search ≡ S = (at_sound S x m).search_is in
      let g = from_sound w (S + 1) y l in
      inl (omega (arith, g.0)))

  -- ---- the three laws

  -- every listed chain exists
  pub listed_exists : (c : Chain) → Memᴰ c (existing T) → Exists T c
  listed_exists c m =
      let r = from_sound T.settings.search_width 0 c m in
      record {
        below_width = omega (arith, r.1);
        at_most = r.2.at_most;
        kept_places = r.2.kept;
        rounds = r.2.rounds;
      }

  -- every existing chain is listed
  pub exists_listed : (c : Chain) → Exists T c → Memᴰ c (existing T)
  exists_listed c x =
      from_complete T.settings.search_width 0 c (omega arith) (omega (arith, x.below_width))
      (record { search_is = refl; at_most = x.at_most; kept = x.kept_places; rounds = x.rounds })

  -- they stand in the search's order, and so each stands there once
  pub in_order : Ascending Before (existing T)
  in_order = from_sorted T.settings.search_width 0
