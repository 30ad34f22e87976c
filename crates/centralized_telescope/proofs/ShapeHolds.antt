-- The claims on the counts of chains: what stands in a search counter's list, sorted out by length and by the test, and the sums.
use Rattle.std.proofs.Common.{◌≡◌, ◌⊎◌, ◌↔◌, inl, inr, ℕ, zero, suc, ◌+◌, ◌<◌, ◌≤◌, Bool, true, false, cond, eqb, ltb, List, [], ◌∷◌, ◌++◌, length, get_or, take, map, sym, refl, ap, ◌∙◌, subst, add-one, arith, eq-eqb, eqb-true, lt-ltb, le-ltb, ltb-true, ltb-false, length-append, ◌≢◌}
use Rattle.std.proofs.lemmas.Bool.{eqb-false}
use Rattle.std.specs.Prelude.{count_by, sum, sum_by}
use Rattle.std.specs.List.{filter, range_with_len}
use Rattle.std.proofs.lemmas.List.Sums.{sum_by-cons, sum_by_push, length-filter}
use Rattle.std.proofs.lemmas.List.FromFn.{map-range_with_len_more, length-map-range_with_len, get_or-map-range_with_len}
use mathlib.Core.Bool.{false≢true}
use mathlib.Core.List.Memᴰ
use mathlib.Core.List.{Memᴰ}
use Rattle.std.proofs.lemmas.List.{get_or_append_left}
use mathlib.Core.Option.{Option, none, some}
use Rattle.centralized_telescope.specs.declared.params.Params.{Params}
use Rattle.centralized_telescope.specs.core.Lists.{Ascending, over}
use Rattle.centralized_telescope.specs.core.Elements.{Element, elements, Lent}
use Rattle.centralized_telescope.specs.core.Bins.{bin_table}
use Rattle.centralized_telescope.specs.core.Chains.{Try, try_of, Chain, elements_of, ElementsExist, Before}
use Rattle.centralized_telescope.specs.core.Search.{bins_of, places_in, next_at, id_of, grown, along, chains, chains_at, chains_from, existing, passing}
use Rattle.centralized_telescope.specs.core.Demand3.{Number}
use Rattle.centralized_telescope.specs.laws.ListsLaws.{take_over}
use Rattle.centralized_telescope.specs.laws.SearchLaws.{at_sound, at_complete, at_sorted, listed_exists, exists_listed, in_order}
use Rattle.centralized_telescope.specs.later.Shape.{number_of_length, numbers_by_length, Shaped, shape_of, by_chains, shape_refusal, shaped}
use Rattle.centralized_telescope.specs.later.ShapeClaims.{with_width, ExistsAt, PassesAt, CountsExact, total_of, TotalsK, PassingFull}
use Rattle.centralized_telescope.proofs.TryFinds.{is_passing, passing_is}
use Rattle.centralized_telescope.proofs.ShapeAnswers.{shape_served, unrefused_by}

-- ---- those of a list for which a test says yes

module _ {A : Type 0} (test : A → Bool) where
  filter_among : (xs : List A) (x : A) → Memᴰ x (filter test xs) → Memᴰ x xs × (test x ≡ true)
  filter_among [] x m = absurd (Memᴰ.not-nil m)
  filter_among (y ∷ xs) x m = go (test y) refl m (filter_among xs x)
    where
      go : (b : Bool) → test y ≡ b → Memᴰ x (cond b (y ∷ filter test xs) (filter test xs))
          → (Memᴰ x (filter test xs) → Memᴰ x xs × (test x ≡ true)) → Memᴰ x (y ∷ xs) × (test x ≡ true)
      go true q m rest = elim (Memᴰ.cases_cons m) [
        | inl e ↦ (Memᴰ.head e, ap test e ∙ q)
        | inr n ↦ (Memᴰ.tail (rest n).0, (rest n).1)
      ]
      go false q m rest = (Memᴰ.tail (rest m).0, (rest m).1)

  among_filter : (xs : List A) (x : A) → Memᴰ x xs → test x ≡ true → Memᴰ x (filter test xs)
  among_filter [] x m t = absurd (Memᴰ.not-nil m)
  among_filter (y ∷ xs) x m t = go (test y) refl (Memᴰ.cases_cons m) (λ n. among_filter xs x n t)
    where
      go : (b : Bool) → test y ≡ b → (x ≡ y) ⊎ Memᴰ x xs → (Memᴰ x xs → Memᴰ x (filter test xs))
          → Memᴰ x (cond b (y ∷ filter test xs) (filter test xs))
      go true q (inl e) rest = Memᴰ.head e
      go true q (inr n) rest = Memᴰ.tail (rest n)
      go false q (inl e) rest = absurd (false≢true (sym q ∙ sym (ap test e) ∙ t))
      go false q (inr n) rest = rest n

  filter_ascends : (R : A → A → Type 0) (xs : List A) → Ascending R xs → Ascending R (filter test xs)
  unfolding Ascending
  filter_ascends R [] p = tt
  filter_ascends R (y ∷ xs) p = go (test y) (filter_ascends R xs p.1)
    where
      go : (b : Bool) → Ascending R (filter test xs) → Ascending R (cond b (y ∷ filter test xs) (filter test xs))
      go true rest = ((λ x m. p.0 x (filter_among xs x m).0), rest)
      go false rest = rest

-- ---- another width leaves a search counter's chains as they are

module _ (p : Params) (width : ℕ) (es : List Element) (R : ℕ) where
  abbrev T : Try
  T = try_of (with_width p width) es R

  abbrev U : Try
  U = try_of p es R

  abbrev Grow : Type 0
  Grow = List ℕ → ℕ → List ℕ → List Chain

  same_grown : (f g : Grow) → ((h : List ℕ) (i : ℕ) (ps : List ℕ) → f h i ps ≡ g h i ps)
      → (o : Option ℕ) (h ps : List ℕ) → grown T f o h ps ≡ grown U g o h ps
  unfolding grown
  same_grown f g e none h ps = refl
  same_grown f g e (some i) h ps = e h i ps

  same_along : (f g : Grow) → ((h : List ℕ) (i : ℕ) (ps : List ℕ) → f h i ps ≡ g h i ps)
      → (h ps es : List ℕ) → along T f h ps es ≡ along U g h ps es
  unfolding along
  same_along f g e h ps [] = refl
  same_along f g e h ps (y ∷ ys) =
      ap (λ (cs : List Chain). cs ++ along T f h ps ys) (same_grown f g e (id_of U (next_at U h y)) (next_at U h y) (ps ++ (y ∷ [])))
      ∙ ap (λ (cs : List Chain). grown U g (id_of U (next_at U h y)) (next_at U h y) (ps ++ (y ∷ [])) ++ cs) (same_along f g e h ps ys)

  same_places : (i : ℕ) → places_in T i ≡ places_in U i
  unfolding places_in
  same_places i = refl

  same_chains : (S k : ℕ) (h : List ℕ) (i : ℕ) (ps : List ℕ) → chains T S k h i ps ≡ chains U S k h i ps
  unfolding chains
  same_chains S zero h i ps = refl
  same_chains S (suc k) h i ps =
      ap (λ (cs : List Chain). record { search = S; places = ps; last = h } ∷ cs)
      (same_along (chains T S k) (chains U S k) (same_chains S k) h ps (places_in T i)
      ∙ ap (along U (chains U S k) h ps) (same_places i))

  same_at : (S : ℕ) → chains_at T S ≡ chains_at U S
  unfolding chains_at
  same_at S = same_grown (chains T S p.proof_size) (chains U S p.proof_size) (same_chains S p.proof_size) _ _ []

-- ---- the answer to a call that isn't refused before the table is filled

-- r being it, over its chains, counted by length
module _ (p : Params) (R S : ℕ) (lent : Lent) (counts table : List ℕ) (e : shape_refusal p lent (length counts) (length table) ≡ 0) where
  abbrev own : Try
  own = try_of p (elements lent) R

  abbrev its : List Chain
  its = chains_at own S

  abbrev filled : List ℕ
  filled = bin_table p.set_size (bins_of own) table

  abbrev r : Shaped
  r = shaped p R S lent counts table

  abbrev by_test : Bool → Shaped
  by_test b =
      cond b (shape_of 50 0 counts filled)
      (shape_of 0 (count_by (passing own) its) (over (numbers_by_length p.proof_size its) counts) filled)

  told : r ≡ by_test (ltb p.dfs_bound (length its))
  unfolding by_chains
  told = shape_served p R S lent counts table e

  -- within the bound it is 0, past it 50
  pub record Served : Type 0 where
    pub served : (r.number ≡ 0) ↔ (length its ≤ p.dfs_bound)
    pub too_many : (r.number ≡ 50) ↔ (p.dfs_bound < length its)
    pub counts_are : r.number ≡ 0 → r.counts ≡ over (numbers_by_length p.proof_size its) counts
    pub passing_are : r.number ≡ 0 → r.passing ≡ count_by (passing own) its

  by_case : (b : Bool) → ltb p.dfs_bound (length its) ≡ b → r ≡ by_test b → Served
  by_case true t q =
      let fifty : r.number ≡ 50 = ap (λ (x : Shaped). x.number) q in
      record {
        served = ((λ z. absurd (omega arith)), λ l. absurd (omega (arith, l, ltb-true p.dfs_bound (length its) t)));
        too_many = ((λ z. ltb-true p.dfs_bound (length its) t), λ l. fifty);
        counts_are = λ z. absurd (omega arith);
        passing_are = λ z. absurd (omega arith);
      }
  by_case false t q =
      let none_met : r.number ≡ 0 = ap (λ (x : Shaped). x.number) q in
      record {
        served = ((λ z. ltb-false p.dfs_bound (length its) t), λ l. none_met);
        too_many = ((λ z. absurd (omega arith)), λ l. absurd (omega (arith, l, ltb-false p.dfs_bound (length its) t)));
        counts_are = λ z. ap (λ (x : Shaped). x.counts) q;
        passing_are = λ z. ap (λ (x : Shaped). x.passing) q;
      }

  pub served_so : Served
  served_so = by_case (ltb p.dfs_bound (length its)) refl told

-- a number of the counts
module _ (proof_size : ℕ) (cs : List Chain) (counts : List ℕ) where
  numbers_long : length (numbers_by_length proof_size cs) ≡ proof_size + 1
  unfolding numbers_by_length
  numbers_long = length-map-range_with_len (number_of_length cs) 0 (proof_size + 1)

  pub number_at : (l : ℕ) → l ≤ proof_size → get_or (over (numbers_by_length proof_size cs) counts) l 0 ≡ number_of_length cs l
  unfolding numbers_by_length
  number_at l h =
      get_or_append_left (numbers_by_length proof_size cs) _ 0 l (omega (arith, h, numbers_long))
      ∙ get_or-map-range_with_len (number_of_length cs) 0 (proof_size + 1) l l 0 (omega arith) (omega arith)

-- ---- the chains that exist, pass, or have a length

module _ (p : Params) (width : ℕ) (lent : Lent) (R S : ℕ) (below : S < width) where
  abbrev V : Try
  V = try_of (with_width p width) (elements lent) R

  abbrev vs : List Chain
  vs = chains_at V S

  listed : (c : Chain) → Memᴰ c vs ↔ ExistsAt V S c
  listed c = (
    (λ m.
        let s = at_sound V S c m in (
          record {
            below_width = omega (arith, below, s.search_is);
            at_most = s.at_most;
            kept_places = s.kept;
            rounds = subst (λ (k : ℕ). ElementsExist V.settings V.retry k (elements_of V c) c.last) (sym s.search_is) s.rounds;
          },
          s.search_is,
        )),
    λ x. at_complete V S c (record {
      search_is = x.1;
      at_most = x.0.at_most;
      kept = x.0.kept_places;
      rounds = subst (λ (k : ℕ). ElementsExist V.settings V.retry k (elements_of V c) c.last) x.1 x.0.rounds;
    }),
  )

  pub all_number : Number (ExistsAt V S) (length vs)
  all_number = (vs, at_sorted V S, listed, refl)

  pub length_number : (l : ℕ) → Number (λ (c : Chain). ExistsAt V S c × (length c.places ≡ l)) (number_of_length vs l)
  length_number l =
      let test : Chain → Bool = λ (c : Chain). eqb (length c.places) l in (
        filter test vs,
        filter_ascends test Before vs (at_sorted V S),
        (λ c. (
          (λ m. let f = filter_among test vs c m in ((listed c).0 f.0, eqb-true (length c.places) l f.1)),
          λ x. among_filter test vs c ((listed c).1 x.0) (eq-eqb (length c.places) l x.1),
        )),
        length-filter test vs,
      )

  pub passing_number : Number (PassesAt V S) (count_by (passing V) vs)
  passing_number = (
    filter (passing V) vs,
    filter_ascends (passing V) Before vs (at_sorted V S),
    (λ c. (
      (λ m.
          let f = filter_among (passing V) vs c m in
          let x = (listed c).0 f.0 in
          let y = passing_is V c f.1 in
          (record { exists = x.0; exactly = y.0; yes = y.1 }, x.1)),
      λ x. among_filter (passing V) vs c ((listed c).1 (x.0.exists, x.1)) (is_passing V c x.0),
    )),
    length-filter (passing V) vs,
  )

pub counts_exact : CountsExact
unfolding passing
counts_exact p R S lent counts table e width below =
    let T = try_of (with_width p width) (elements lent) R in
    let same : chains_at T S ≡ chains_at (try_of p (elements lent) R) S = same_at p width (elements lent) R S in
    let s = served_so p R S lent counts table e in
    record {
      all = length (chains_at (try_of p (elements lent) R) S);
      all_is = subst (Number (ExistsAt T S)) (ap length same) (all_number p width lent R S below);
      served = s.served;
      too_many = s.too_many;
      by_length = λ z l h.
          subst (Number (λ (c : Chain). ExistsAt T S c × (length c.places ≡ l)))
          (ap (λ (cs : List Chain). number_of_length cs l) same
          ∙ sym (ap (λ (cs : List ℕ). get_or cs l 0) (s.counts_are z) ∙ number_at p.proof_size _ counts l h))
          (length_number p width lent R S below l);
      passing_is = λ z.
          subst (Number (PassesAt T S)) (ap (count_by (passing T)) same ∙ sym (s.passing_are z)) (passing_number p width lent R S below);
    }

-- ---- those that pass are of full length

fewer : (test other : Chain → Bool) → ((c : Chain) → test c ≡ true → other c ≡ true) → (cs : List Chain)
    → count_by test cs ≤ count_by other cs
fewer test other u [] = omega arith
fewer test other u (c ∷ cs) =
    omega (
      arith,
      fewer test other u cs,
      sum_by-cons (λ (x : Chain). cond (test x) 1 0) c cs,
      sum_by-cons (λ (x : Chain). cond (other x) 1 0) c cs,
      go (test c) (other c) (u c),
    )
  where
    go : (a b : Bool) → (a ≡ true → b ≡ true) → cond a 1 0 ≤ cond b 1 0
    go true true h = omega arith
    go true false h = absurd (false≢true (h refl))
    go false b h = omega arith

pub passing_full : PassingFull
passing_full p R S lent counts table z =
    let s = served_so p R S lent counts table (unrefused_by p R S lent counts table z) in
    let T = try_of p (elements lent) R in
    let cs = chains_at T S in (
      omega (
        arith,
        s.passing_are z,
        ap (λ (ns : List ℕ). get_or ns p.proof_size 0) (s.counts_are z) ∙ number_at p.proof_size cs counts p.proof_size (omega arith),
        fewer (passing T) (λ (c : Chain). eqb (length c.places) p.proof_size)
            (λ c t. eq-eqb (length c.places) p.proof_size (passing_is T c t).0) cs,
      ),
      λ width c x. ((x.0.exists, x.1), x.0.exactly),
    )

-- ---- the sums

-- all lengths together, those below n
module _ (n : ℕ) where
  abbrev shorter : Chain → Bool
  shorter c = ltb (length c.places) n

  one_of : (l : ℕ) → cond (ltb l (n + 1)) 1 0 ≡ cond (ltb l n) 1 0 + cond (eqb l n) 1 0
  one_of l = go (ltb l n) refl (eqb l n) refl
    where
      go : (a : Bool) → ltb l n ≡ a → (b : Bool) → eqb l n ≡ b → cond (ltb l (n + 1)) 1 0 ≡ cond a 1 0 + cond b 1 0
      go true t true e = absurd (omega (arith, ltb-true l n t, eqb-true l n e))
      go true t false e = rw (lt-ltb l (n + 1) (omega (arith, ltb-true l n t)))
      go false t true e = rw (lt-ltb l (n + 1) (omega (arith, eqb-true l n e)))
      go false t false e =
          let ne : l ≢ n = eqb-false l n e in
          rw (le-ltb l (n + 1) (omega (arith, ltb-false l n t)))

  one_length_more : (cs : List Chain)
      → count_by (λ (c : Chain). ltb (length c.places) (n + 1)) cs ≡ count_by shorter cs + number_of_length cs n
  one_length_more [] = refl
  one_length_more (c ∷ cs) =
      omega (
        arith,
        one_length_more cs,
        one_of (length c.places),
        sum_by-cons (λ (x : Chain). cond (ltb (length x.places) (n + 1)) 1 0) c cs,
        sum_by-cons (λ (x : Chain). cond (shorter x) 1 0) c cs,
        sum_by-cons (λ (x : Chain). cond (eqb (length x.places) n) 1 0) c cs,
      )

  all_shorter : (cs : List Chain) → ((c : Chain) → Memᴰ c cs → length c.places < n) → count_by shorter cs ≡ length cs
  all_shorter [] u = refl
  all_shorter (c ∷ cs) u =
      omega (
        arith,
        all_shorter cs (λ d m. u d (Memᴰ.tail m)),
        sum_by-cons (λ (x : Chain). cond (shorter x) 1 0) c cs,
        ap (λ (b : Bool). cond {A = ℕ} b 1 0) (lt-ltb (length c.places) n (u c (Memᴰ.head refl))),
      )

sum_shorter : (cs : List Chain) (n : ℕ) → sum (map (number_of_length cs) (range_with_len 0 n)) ≡ count_by (shorter n) cs
sum_shorter cs zero = sym (none_shorter cs)
  where
    none_shorter : (cs : List Chain) → count_by (shorter 0) cs ≡ 0
    none_shorter [] = refl
    none_shorter (c ∷ cs) =
        omega (
          arith,
          none_shorter cs,
          sum_by-cons (λ (x : Chain). cond (shorter 0 x) 1 0) c cs,
          ap (λ (b : Bool). cond {A = ℕ} b 1 0) (le-ltb (length c.places) 0 (omega arith)),
        )
sum_shorter cs (suc n) =
    subst (λ (m : ℕ). sum (map (number_of_length cs) (range_with_len 0 m)) ≡ count_by (shorter m) cs) (add-one n)
    (ap sum (map-range_with_len_more (number_of_length cs) 0 n n (omega arith))
    ∙ sum_by_push (λ x. x) (map (number_of_length cs) (range_with_len 0 n)) (number_of_length cs n)
    ∙ omega (arith, sum_shorter cs n, one_length_more n cs))

module _ (T : Try) where
  -- of a search counter
  total_at : (S : ℕ) → sum (numbers_by_length T.settings.proof_size (chains_at T S)) ≡ length (chains_at T S)
  unfolding numbers_by_length
  total_at S =
      sum_shorter (chains_at T S) (T.settings.proof_size + 1)
      ∙ all_shorter (T.settings.proof_size + 1) (chains_at T S) (λ c m. omega (arith, (at_sound T S c m).at_most))

  -- of several
  total_from : (w S : ℕ) → sum_by (λ (k : ℕ). length (chains_at T k)) (range_with_len S w) ≡ length (chains_from T w S)
  unfolding chains_from
  total_from zero S = refl
  total_from (suc w) S =
      omega (
        arith,
        sum_by-cons (λ (k : ℕ). length (chains_at T k)) S (range_with_len (S + 1) w),
        total_from w (S + 1),
        length-append (chains_at T S) (chains_from T w (S + 1)),
      )

-- sums of the same numbers
same_sums : (f g : ℕ → ℕ) (w S : ℕ) → ((k : ℕ) → S ≤ k → k < S + w → f k ≡ g k)
    → sum_by f (range_with_len S w) ≡ sum_by g (range_with_len S w)
same_sums f g zero S e = refl
same_sums f g (suc w) S e =
    omega (
      arith,
      sum_by-cons f S (range_with_len (S + 1) w),
      sum_by-cons g S (range_with_len (S + 1) w),
      e S (omega arith) (omega arith),
      same_sums f g w (S + 1) (λ k l h. e k (omega arith) (omega arith)),
    )

pub totals_k : TotalsK
totals_k p R lent counts table served nothing =
    let T = try_of p (elements lent) R in (
      existing T,
      in_order T,
      (λ c. (
        (λ m. (listed_exists T c m, λ d x. absurd (nothing d x))),
        λ u. exists_listed T c u.0,
      )),
      sym (same_sums (λ (S : ℕ). total_of p (shaped p R S lent (counts S) (table S))) (λ (S : ℕ). length (chains_at T S)) p.search_width 0
          (λ S l h. total_is S (served S (omega arith)))
          ∙ total_from T p.search_width 0),
    )
  where
    total_is : (S : ℕ) → (shaped p R S lent (counts S) (table S)).number ≡ 0
        → total_of p (shaped p R S lent (counts S) (table S)) ≡ length (chains_at (try_of p (elements lent) R) S)
    total_is S z =
        let T = try_of p (elements lent) R in
        let s = served_so p R S lent (counts S) (table S) (unrefused_by p R S lent (counts S) (table S) z) in
        ap (λ (ns : List ℕ). sum (take (p.proof_size + 1) ns)) (s.counts_are z)
        ∙ ap sum (take_over (p.proof_size + 1) (numbers_by_length p.proof_size (chains_at T S)) (counts S)
        (numbers_long p.proof_size (chains_at T S) (counts S)))
        ∙ total_at T S
