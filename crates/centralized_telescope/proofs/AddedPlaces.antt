-- The second list's places that are added, one place after the other; and the source that they make.
use Rattle.std.proofs.Common.{◌≡◌, ℕ, ◌+◌, ◌<◌, ◌≤◌, true, false, List, [], ◌∷◌, ◌++◌, map, length, get_or, take, set, sym, refl, ap, ◌∙◌, subst, ⊎_elim, eq-or-lt_of_le, add-one, arith, length-append, length-set, length-take-le, take_all, get_or-set_other, get_or-set_same, take-suc-set}
use mathlib.Core.List.{map-append}
use lib.ListN.{length-map}
use Rattle.centralized_telescope.specs.core.Lists.{some_of}
use Rattle.centralized_telescope.specs.core.Elements.{Element, elements, element_at, list_check, Lent, max_elements}
use Rattle.centralized_telescope.specs.later.Distinct.{same_element}
use Rattle.centralized_telescope.specs.later.Pool.{added_to, pool}
use Rattle.centralized_telescope.specs.inner.Source.{Source, meant}
use Rattle.centralized_telescope.specs.inner.Pooling.{Adding, AddedAre}
use Rattle.centralized_telescope.specs.laws.ElementsLaws.{length_elements, few_elements}
use Rattle.centralized_telescope.specs.laws.PoolLaws.{added_same, added_one, added_front}

module _ (first second : Lent) (A : list_check first ≡ 0) (B : list_check second ≡ 0) where
  abbrev es : List Element
  es = elements first

  abbrev fs : List Element
  fs = elements second

  abbrev f : ℕ → Element
  f = element_at fs

  pub add_begins : (ws : List ℕ) → max_elements ≡ length ws → Adding first second 0 0 ws
  unfolding added_to
  add_begins ws r = record {
    up_to = omega arith;
    few = omega (arith, few_elements first A);
    room = r;
    are = refl;
    there = λ i l. absurd (omega arith);
  }

  -- as many as are written
  module _ {place k : ℕ} {ws : List ℕ} (I : Adding first second place k ws) where
    so_many : length (added_to es (take place fs)) ≡ k
    so_many =
        sym (ap length I.are) ∙ length-map (take k ws) f ∙ length-take-le k ws (omega (arith, I.few, I.room))

    module _ (l : place < length second.ends) where
      in_second : place < length fs
      in_second = omega (arith, length_elements second B)

      pub add_none : true ≡ some_of (same_element (f place)) es → Adding first second (place + 1) k ws
      add_none t = record {
        up_to = omega arith;
        few = I.few;
        room = I.room;
        are = I.are ∙ sym (added_same es fs place in_second (sym t));
        there = I.there;
      }

      module _ (n : false ≡ some_of (same_element (f place)) es) where
        -- the pool has too many
        pub add_over : max_elements ≤ length first.ends + k → max_elements < length (pool first second)
        add_over o =
            let q = ap length (added_one es fs place in_second (sym n)) ∙ length-append (added_to es (take place fs)) (f place ∷ []) in
            let m = added_front es (place + 1) fs in
            let e = length_elements first A in
            let p = length-append es (added_to es fs) in
            omega (arith, so_many)

        module _ (fits : length first.ends + k < max_elements) where
          inside : k < length ws
          inside = omega (arith, I.room)

          one_taken : take (k + 1) (set ws k place) ≡ take k ws ++ (place ∷ [])
          one_taken = rw (add-one k) (take-suc-set ws k place inside)

          pub add_place : Adding first second (place + 1) (k + 1) (set ws k place)
          add_place = record {
            up_to = omega arith;
            few = omega arith;
            room = I.room ∙ sym (length-set ws k place);
            are =
                ap (λ (xs : List ℕ). map f xs) one_taken
                ∙ map-append f (take k ws) (place ∷ [])
                ∙ ap (λ (xs : List Element). xs ++ (f place ∷ [])) I.are
                ∙ sym (added_one es fs place in_second (sym n));
            there = λ i h.
                ⊎_elim
                (λ e. subst (λ (x : ℕ). x < length second.ends) (sym (ap (λ (x : ℕ). get_or (set ws k place) x 0) e
                ∙ get_or-set_same ws k place 0 inside)) l)
                (λ o. rw (get_or-set_other ws k i place 0 (λ q. omega arith)) (I.there i o))
                (eq-or-lt_of_le {n = i} {m = k} (omega arith));
          }

    pub add_ends : length second.ends ≤ place → AddedAre first second k ws
    add_ends o = record {
      few = I.few;
      room = I.room;
      are = I.are ∙ ap (added_to es) (take_all place fs (omega (arith, length_elements second B)));
      there = I.there;
    }

-- ---- the source of both lists and what is added: the pool

module _ (first second : Lent) (A : list_check first ≡ 0) (B : list_check second ≡ 0) (k : ℕ) (ws : List ℕ)
    (P : AddedAre first second k ws) where
  abbrev source : Source
  source = record { first = first; second = second; added = take k ws }

  long : length (take k ws) ≡ k
  long = length-take-le k ws (omega (arith, P.few, P.room))

  pub pool_meant : meant source ≡ pool first second
  pool_meant = ap (λ (xs : List Element). elements first ++ xs) P.are

  pub pool_length : length (pool first second) ≡ length first.ends + k
  pool_length =
      let e = length_elements first A in
      let q = ap length (sym P.are) ∙ length-map (take k ws) (element_at (elements second)) ∙ long in
      let a = length-append (elements first) (added_to (elements first) (elements second)) in
      omega arith
