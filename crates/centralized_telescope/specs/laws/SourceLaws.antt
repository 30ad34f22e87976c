-- Laws of a source: how many elements it has, and which element stands at a place of it.
use Rattle.std.specs.Prelude.{◌≡◌, ℕ, zero, suc, ◌+◌, ◌-◌, ◌<◌, ◌≤◌, List, [], ◌∷◌, ◌++◌, map, length, slice_index, slice_index_or, refl}
use Rattle.std.proofs.Common.{sym, ap, ◌∙◌, arith, length-append, get_or-append-add}
use Rattle.std.proofs.lemmas.List.{length-map}
use Rattle.std.proofs.Math.ListN.{get_or-append}
use Rattle.centralized_telescope.specs.core.Elements.{Element, elements, element_at, max_elements}
use Rattle.centralized_telescope.specs.laws.ElementsLaws.{length_elements, few_elements}
use Rattle.centralized_telescope.specs.inner.Source.{Source, meant, Readable}
use Rattle.centralized_telescope.specs.inner.SourceHeld.{source_held}
use Rattle.centralized_telescope.specs.declared.source.Source.{Source as HeldSource}

-- the code's values are right by their type
pub readable : (s : HeldSource) → Readable (source_held s)
readable s = record {
  first_accepted = s.first.accepted;
  second_accepted = s.second.accepted;
  few_added = s.few_added;
  added_there = s.added_there;
}

-- as the code counts them
pub source_length : (s : Source) → Readable s → length s.first.ends + length s.added ≡ length (meant s)
source_length s r =
    let e = length_elements s.first r.first_accepted in
    let m = length-map s.added (element_at (elements s.second)) in
    let a = length-append (elements s.first) (map (element_at (elements s.second)) s.added) in
    omega arith

-- no sum of them wraps
pub source_few : (s : Source) → Readable s → length s.first.ends + length s.added ≤ max_elements + max_elements
source_few s r = omega (arith, few_elements s.first r.first_accepted, r.few_added)

-- ---- one place, in front or behind

at_front : (es fs : List Element) (place : ℕ) → place < length es → element_at (es ++ fs) place ≡ element_at es place
unfolding element_at
at_front es fs place l = get_or-append es fs _ place l

at_behind : (es fs : List Element) (i : ℕ) → element_at (es ++ fs) (length es + i) ≡ element_at fs i
unfolding element_at
at_behind es fs i = get_or-append-add es fs i _

at_mapped : (f : ℕ → Element) (ks : List ℕ) (i : ℕ) → i < length ks → element_at (map f ks) i ≡ f (slice_index ks i)
unfolding element_at
at_mapped f [] i l = absurd (omega arith)
at_mapped f (k ∷ ks) zero l = refl
at_mapped f (k ∷ ks) (suc i) l = at_mapped f ks i (omega arith)

module _ (s : Source) (r : Readable s) (place : ℕ) where
  abbrev front : ℕ
  front = length s.first.ends

  -- a place of the first list
  pub first_there : place < front → element_at (elements s.first) place ≡ element_at (meant s) place
  first_there l =
      sym (at_front (elements s.first) _ place (omega (arith, length_elements s.first r.first_accepted)))

  -- a place behind it: which of those added, and that one's place in the second list
  module _ (k : place < length (meant s)) (l : front ≤ place) where
    pub which_added : place - front < length s.added
    which_added = omega (arith, source_length s r)

    pub added_within : slice_index_or s.added (place - front) 0 < length s.second.ends
    added_within = r.added_there (place - front) which_added

    pub second_there : element_at (elements s.second) (slice_index s.added (place - front)) ≡ element_at (meant s) place
    second_there =
        let e = length_elements s.first r.first_accepted in
        let q : length (elements s.first) + (place - front) ≡ place = omega arith in
        sym (at_mapped (element_at (elements s.second)) s.added (place - front) which_added)
        ∙ sym (at_behind (elements s.first) (map (element_at (elements s.second)) s.added) (place - front))
        ∙ ap (element_at (meant s)) q
