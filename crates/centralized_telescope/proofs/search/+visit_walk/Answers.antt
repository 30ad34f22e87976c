-- Visit and walk call each other. What a turn of the walk's loop knows is said once, over plain values, and each answer cites it.
use Rattle.std.proofs.Common.{◌≡◌, ℕ, ◌+◌, ◌-◌, ◌*◌, ◌^◌, ◌<◌, ◌≤◌, List, length, get_or, take, sym, ap, ◌∙◌, subst, refl, arith, length-set, length-take-le}
use Rattle.std.specs.Prelude.{Option as Answer}
use Rattle.centralized_telescope.specs.declared.ready.ReadyTry.{ReadyTry}
use Rattle.centralized_telescope.specs.core.Elements.{Element, element_at}
use Rattle.centralized_telescope.specs.declared.round.Round.{Round}
use Rattle.centralized_telescope.specs.inner.Held.{option_of}
use Rattle.centralized_telescope.specs.inner.Following.{round_with}
use Rattle.centralized_telescope.specs.core.Rounds.{next_hash}
use Rattle.centralized_telescope.specs.core.Search.{id_of}
use Rattle.centralized_telescope.specs.laws.TryLaws.{id_below}
use Rattle.centralized_telescope.specs.inner.Source.{meant}
use Rattle.centralized_telescope.specs.inner.SourceHeld.{source_held}
use Rattle.centralized_telescope.specs.inner.Visit.{try_held, CanVisit, CanWalk}
use Rattle.centralized_telescope.proofs.TableFacts.{proof_size_most, bound_most, place_there, place_hash}
use Rattle.centralized_telescope.proofs.Walked.{round_drawn, visited_walk, visited_pass, visited_fail, by_walk, by_leaf}
use Rattle.centralized_telescope.proofs.Turn.{Walk, Looping, at_end, at_bound, Turning, turn_nothing, turn_missing, turn_found}
use Rattle.centralized_telescope.proofs.Turn.{turn_write, path_after}
use Rattle.centralized_telescope.proofs.search.+visit_walk.Goals as goal
use Rattle.centralized_telescope.proofs.search.+visit_walk.Goals.{walk-in-Some+in-Continue, walk-in_default}

-- ---- the visit

module _ {t : ReadyTry} {room id depth steps : ℕ} (k : CanVisit t room id depth steps) where
  -- the path below the depth of a visit is as long as that
  path_long : (path : List ℕ) → length path ≡ 1024 → length (take depth path) ≡ depth
  path_long path e = length-take-le depth path (omega (arith, e, k.deep, proof_size_most t))

  counts_on : steps + 1 ≤ 2 ^ 48
  counts_on = omega (arith, k.within, bound_most t)

pub visit-overflow_add-steps : goal.visit-overflow_add-steps
visit-overflow_add-steps t c = omega (arith, counts_on c.requires.can)

pub visit-overflow_add-result : goal.visit-overflow_add-result
visit-overflow_add-result t c = omega (arith, counts_on c.requires.can)

pub visit-overflow_add-result-2 : goal.visit-overflow_add-result-2
visit-overflow_add-result-2 t c = omega (arith, counts_on c.requires.can)

pub visit-returns-then-depth-settings-clause-ends : goal.visit-returns-then-depth-settings-clause-ends
visit-returns-then-depth-settings-clause-ends t c =
    let a = c.args in
    let k = c.requires.can in
    let short = c.if-depth-settings.true in
    by_walk a.t.now.settings.params a.depth
    (visited_walk (try_held a.t.now) a.search.0 a.round.hash a.round.id (take a.depth a.path.now) a.depth a.steps
    (path_long k a.path.now c.requires.long) k.within short _ c.places_in-candidates.ensures)
    a.places.now short c.walk.ensures.ends

pub visit-returns-then-proof_hash-clause-ends : goal.visit-returns-then-proof_hash-clause-ends
visit-returns-then-proof_hash-clause-ends t c =
    let a = c.args in
    let k = c.requires.can in
    let full = c.if-depth-settings.false in
    by_leaf a.t.now.settings.params a.depth
    (visited_pass (try_held a.t.now) a.search.0 a.round.hash a.round.id (take a.depth a.path.now) a.depth a.steps
    (path_long k a.path.now c.requires.long) k.within
    (omega (arith, full, k.deep)) (sym c.proof_hash.ensures ∙ c.if-proof_hash.true))
    a.places.now full

pub visit-returns-clause-ends : goal.visit-returns-clause-ends
visit-returns-clause-ends t c =
    let a = c.args in
    let k = c.requires.can in
    let full = c.if-depth-settings.false in
    by_leaf a.t.now.settings.params a.depth
    (visited_fail (try_held a.t.now) a.search.0 a.round.hash a.round.id (take a.depth a.path.now) a.depth a.steps
    (path_long k a.path.now c.requires.long) k.within
    (omega (arith, full, k.deep)) (sym c.proof_hash.ensures ∙ c.if-proof_hash.false))
    a.places.now full

-- ---- the walk

module _ {t : ReadyTry} {room : ℕ} {candidates : List ℕ} {depth steps : ℕ} (k : CanWalk t room candidates depth steps) where
  shallow : depth < 1024
  shallow = omega (arith, k.deep, proof_size_most t)

  -- by what it is called with
  abbrev called : ℕ → List ℕ → List ℕ → List ℕ → Walk
  called S h path old = record {
    of = try_held t;
    search = S;
    hash = h;
    path = path;
    depth = depth;
    candidates = candidates;
    steps = steps;
    old = old;
  }

  -- what a turn knows where the id of the next round is drawn
  module _ {S : ℕ} {h path old : List ℕ} {i count : ℕ} {next mid : List ℕ} (L : Looping (called S h path old) i count next mid)
      (inside : i < length candidates) (within : count < t.settings.params.dfs_bound) where
    turning : {place : ℕ} → place ≡ get_or candidates i 0 → {e : Element} → e ≡ element_at (meant (source_held t.source)) place
        → {g : List ℕ} → g ≡ next_hash h e → {d : Answer Round} → option_of d ≡ round_with g (id_of (try_held t) g)
        → Turning (called S h path old) i count next mid g d
    turning {place} is read {g} hashed drawn = record {
      head = L;
      inside = inside;
      within = within;
      deep = shallow;
      hash_is = place_hash t k.bin candidates k.of_bin i inside place is h g (hashed ∙ ap (next_hash h) read);
      round_is = drawn;
    }

pub walk-loop-place-init : goal.walk-loop-place-init
walk-loop-place-init t c = record { most = c.requires.can.within; long = c.requires.long; path_is = refl; as_lent = refl; still = refl }

pub walk-returns-then-settings-count-clause-ends : goal.walk-returns-then-settings-count-clause-ends
walk-returns-then-settings-count-clause-ends t c = at_bound c.loop-place.invariant c.if-settings-count.true

pub walk-element-element-requires : goal.walk-element-element-requires
walk-element-element-requires t c =
    let k = c.requires.can in
    place_there c.args.t.now k.bin c.args.candidates.now k.of_bin _ c.loop-place-test.true _ c.wide.ensures.0

pub walk-bounds-path-depth : goal.walk-bounds-path-depth
walk-bounds-path-depth t c = omega (arith, shallow c.requires.can, c.loop-place.invariant.long)

pub walk-visit-requires : goal.walk-visit-requires
walk-visit-requires t c =
    let a = c.args in
    let k = c.requires.can in (
      subst (λ (j : ℕ). 2 * (a.t.now.settings.params.proof_size - (a.depth + 1)) + 1 < j) c.decreases (omega (arith, k.deep)),
      (
        record {
          roomy = omega (arith, k.roomy, ap length c.loop-place.invariant.as_lent);
          id_below = id_below (try_held a.t.now) _ _ (round_drawn (try_held a.t.now) _ _ c.round_of.ensures c.in-Some.is).id_is;
          deep = omega (arith, k.deep);
          within = c.if-settings-count.false;
        },
        length-set c.loop-place.path a.depth _ ∙ c.loop-place.invariant.long,
      ),
    )

pub walk-write_places-requires : goal.walk-write_places-requires
walk-write_places-requires t c =
    let k = c.requires.can in
    let long : length c.visit.new.path ≡ 1024 = c.visit.auto.path ∙ length-set c.loop-place.path _ _ ∙ c.loop-place.invariant.long in
    (omega (arith, proof_size_most c.args.t.now, long), omega (arith, k.roomy, c.visit.auto.places, ap length c.loop-place.invariant.as_lent))

pub walk-returns-then-depth-size-clause-ends : goal.walk-returns-then-depth-size-clause-ends
walk-returns-then-depth-size-clause-ends t c =
    let k = turning c.requires.can c.loop-place.invariant c.loop-place-test.true c.if-settings-count.false c.wide.ensures.0
    c.element-element.ensures c.next_hash.ensures c.round_of.ensures in
    let said = c.visit.ensures in
    let long = c.visit.auto.path ∙ length-set c.loop-place.path _ _ ∙ c.loop-place.invariant.long in
    turn_write k c.in-Some.is _ said.ends said.path_kept long c.in-Break.is c.if-depth-size.true c.write_places.ensures

pub walk-returns-then-depth-size-clause-path_kept : goal.walk-returns-then-depth-size-clause-path_kept
walk-returns-then-depth-size-clause-path_kept t c =
    let k = turning c.requires.can c.loop-place.invariant c.loop-place-test.true c.if-settings-count.false c.wide.ensures.0
    c.element-element.ensures c.next_hash.ensures c.round_of.ensures in
    let said = c.visit.ensures in
    let long = c.visit.auto.path ∙ length-set c.loop-place.path _ _ ∙ c.loop-place.invariant.long in
    path_after k c.in-Some.is _ said.ends said.path_kept long

pub walk-returns-else-depth-size-clause-ends : goal.walk-returns-else-depth-size-clause-ends
walk-returns-else-depth-size-clause-ends t c =
    let k = turning c.requires.can c.loop-place.invariant c.loop-place-test.true c.if-settings-count.false c.wide.ensures.0
    c.element-element.ensures c.next_hash.ensures c.round_of.ensures in
    let said = c.visit.ensures in
    let long = c.visit.auto.path ∙ length-set c.loop-place.path _ _ ∙ c.loop-place.invariant.long in
    turn_found k c.in-Some.is _ said.ends said.path_kept long c.in-Break.is c.requires.can.deep c.if-depth-size.false

pub walk-returns-else-depth-size-clause-path_kept : goal.walk-returns-else-depth-size-clause-path_kept
walk-returns-else-depth-size-clause-path_kept t c =
    let k = turning c.requires.can c.loop-place.invariant c.loop-place-test.true c.if-settings-count.false c.wide.ensures.0
    c.element-element.ensures c.next_hash.ensures c.round_of.ensures in
    let said = c.visit.ensures in
    let long = c.visit.auto.path ∙ length-set c.loop-place.path _ _ ∙ c.loop-place.invariant.long in
    path_after k c.in-Some.is _ said.ends said.path_kept long

-- on by a visit that found nothing, or where the round doesn't exist
pub walk-loop-place-preserved : goal.walk-loop-place-preserved
walk-loop-place-preserved t c =
    let k = turning c.requires.can c.loop-place.invariant c.loop-place-test.true c.if-settings-count.false c.wide.ensures.0
    c.element-element.ensures c.next_hash.ensures c.round_of.ensures in
    elim c.match-round_of.branch [
      | walk-in-Some+in-Continue w ↦
          turn_missing k w.in-Some.is _ w.visit.ensures.ends w.visit.ensures.path_kept
          (w.visit.auto.path ∙ length-set c.loop-place.path _ _ ∙ c.loop-place.invariant.long)
          w.in-Continue.is _ _ _ w.count-is w.path-is w.places-is
      | walk-in_default w ↦ turn_nothing k w.in_default.is _ _ _ w.count-is w.path-is w.places-is
    ]

pub walk-returns-clause-ends : goal.walk-returns-clause-ends
walk-returns-clause-ends t c = at_end c.loop-place.invariant c.loop-place-test.false
