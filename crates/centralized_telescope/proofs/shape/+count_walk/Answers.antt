-- A count from a round above full length goes along its bin, and along a bin it counts from rounds one length deeper. What a turn of the
-- loop knows is said once, over plain values, and each answer cites it.
use Rattle.std.proofs.Common.{◌≡◌, ℕ, Bool, false, ◌+◌, ◌-◌, ◌*◌, ◌<◌, ◌≤◌, List, length, get_or, sym, ap, ◌∙◌, subst, refl, arith}
use Rattle.std.specs.Prelude.{Option as Answer}
use Rattle.centralized_telescope.specs.declared.errors.Refusal.TheVariants as refusal
use Rattle.centralized_telescope.specs.declared.ready.ReadyTry.{ReadyTry}
use Rattle.centralized_telescope.specs.declared.round.Round.{Round}
use Rattle.centralized_telescope.specs.declared.shape.Tally.{Tally}
use Rattle.centralized_telescope.specs.core.Elements.{Element, element_at}
use Rattle.centralized_telescope.specs.core.Rounds.{next_hash}
use Rattle.centralized_telescope.specs.core.Search.{id_of}
use Rattle.centralized_telescope.specs.laws.RefusalsLaws.{handed_on}
use Rattle.centralized_telescope.specs.laws.TryLaws.{id_below}
use Rattle.centralized_telescope.specs.inner.Held.{option_of}
use Rattle.centralized_telescope.specs.inner.Following.{round_with}
use Rattle.centralized_telescope.specs.inner.Source.{meant}
use Rattle.centralized_telescope.specs.inner.SourceHeld.{source_held}
use Rattle.centralized_telescope.specs.inner.Visit.{try_held}
use Rattle.centralized_telescope.specs.inner.Tallies.{CanCountAlong, one_more, Few, Counts}
use Rattle.centralized_telescope.proofs.TableFacts.{proof_size_most, bound_most, place_there, place_hash}
use Rattle.centralized_telescope.proofs.Walked.{round_drawn}
use Rattle.centralized_telescope.proofs.Tallying.{grows, Along, begins, at_end, Turning, turn_nothing, turn_within, turn_past, few_more}
use Rattle.centralized_telescope.proofs.Tallying.{round_past, round_along, round_full}
use Rattle.centralized_telescope.proofs.shape.+count_walk.Goals as goal
use Rattle.centralized_telescope.proofs.shape.+count_walk.Goals.{count_along-in-Some+in_ok-count_from, count_along-in_default}

-- ---- along a bin's places

-- what a turn knows where the id of the next round is drawn
module _ {t : ReadyTry} {candidates : List ℕ} {depth : ℕ} {old : Tally} (k : CanCountAlong t candidates depth old)
    {h : List ℕ} {i : ℕ} {now : Tally}
    (L : Along (try_held t) h depth candidates old i now) (inside : i < length candidates) where
  turning : {place : ℕ} → place ≡ get_or candidates i 0 → {e : Element} → e ≡ element_at (meant (source_held t.source)) place
      → {g : List ℕ} → g ≡ next_hash h e → {d : Answer Round} → option_of d ≡ round_with g (id_of (try_held t) g)
      → Turning (try_held t) h depth candidates old i now g d
  turning {place} is read {g} hashed drawn = record {
    head = L;
    inside = inside;
    hash_is = place_hash t k.bin candidates k.of_bin i inside place is h g (hashed ∙ ap (next_hash h) read);
    round_is = drawn;
  }

pub count_along-loop-place-init : goal.count_along-loop-place-init
count_along-loop-place-init t c = begins c.requires.few c.requires.within

pub count_along-element-element-requires : goal.count_along-element-element-requires
count_along-element-element-requires t c =
    let k = c.requires in
    place_there c.args.t.now k.bin c.args.candidates.now k.of_bin _ c.loop-place-test.true _ c.wide.ensures.0

pub count_along-count_from-requires : goal.count_along-count_from-requires
count_along-count_from-requires t c =
    let a = c.args in
    let k = c.requires in (
      subst (λ (j : ℕ). 2 * (a.t.now.settings.params.proof_size - (a.depth + 1)) + 1 < j) c.decreases (omega (arith, k.deep)),
      record {
        id_below = id_below (try_held a.t.now) _ _ (round_drawn (try_held a.t.now) _ _ c.round_of.ensures c.in-Some.is).id_is;
        deep = omega (arith, k.deep);
        few = c.loop-place.invariant.few;
        within = c.loop-place.invariant.within;
      },
    )

pub count_along-returns-in_err-count_from : goal.count_along-returns-in_err-count_from
count_along-returns-in_err-count_from t c =
    let k = turning c.requires c.loop-place.invariant c.loop-place-test.true c.wide.ensures.0 c.element-element.ensures c.next_hash.ensures
    c.round_of.ensures in
    rw (handed_on _ c.from_residual.result c.from_residual.ensures.1)
    (λ S places e. turn_past k c.in-Some.is c.in_err-count_from.ensures _ refl S places e)

pub count_along-loop-place-preserved : goal.count_along-loop-place-preserved
count_along-loop-place-preserved t c =
    let k = turning c.requires c.loop-place.invariant c.loop-place-test.true c.wide.ensures.0 c.element-element.ensures c.next_hash.ensures
    c.round_of.ensures in
    elim c.match-round_of.branch [
      | count_along-in-Some+in_ok-count_from w ↦ rw w.tally-is (turn_within k w.in-Some.is w.in_ok-count_from.ensures refl)
      | count_along-in_default w ↦ rw w.tally-is (turn_nothing k w.in_default.is)
    ]

pub count_along-returns : goal.count_along-returns
count_along-returns t c = at_end c.loop-place.invariant c.loop-place-test.false

-- ---- from a round on

pub count_from-returns-then-settings-tally : goal.count_from-returns-then-settings-tally
count_from-returns-then-settings-tally t c =
    let a = c.args in
    λ S places e. round_past (try_held a.t.now) S a.round.hash a.round.id places a.depth a.tally.now e c.if-settings-tally.true
    refusal.TreeTooLarge refl

pub count_from-add-requires : goal.count_from-add-requires
count_from-add-requires t c =
    let k = c.requires in
    (k.few, omega (arith, c.if-settings-tally.false, bound_most c.args.t.now), omega (arith, k.deep, proof_size_most c.args.t.now))

pub count_from-count_along-requires : goal.count_from-count_along-requires
count_from-count_along-requires t c =
    let a = c.args in
    let k = c.requires in (
      subst (λ (j : ℕ). 2 * (a.t.now.settings.params.proof_size - a.depth) < j) c.decreases (omega arith),
      record {
        bin = a.round.id;
        of_bin = c.places_in-candidates.ensures;
        deep = c.if-depth-settings.true;
        few = subst Few (sym c.add.ensures) (few_more a.depth false a.tally.now k.few);
        within =
            subst (λ (u : Tally). u.total ≤ a.t.now.settings.params.dfs_bound) (sym c.add.ensures)
            (omega (arith, c.if-settings-tally.false));
      },
    )

pub count_from-returns-then-depth-settings : goal.count_from-returns-then-depth-settings
count_from-returns-then-depth-settings t c =
    let a = c.args in
    λ S places e. round_along (try_held a.t.now) S a.round.hash a.round.id places a.depth a.tally.now e c.if-depth-settings.true _
    c.places_in-candidates.ensures _ _
    (subst
    (λ (u : Tally). Counts (try_held a.t.now) (grows (try_held a.t.now) a.round.hash a.depth S places c.places_in-candidates.result.now) u
    c.count_along.result c.count_along.new.tally) c.add.ensures (c.count_along.ensures S places e))

pub count_from-add-requires-2 : goal.count_from-add-requires-2
count_from-add-requires-2 t c =
    let k = c.requires in
    (k.few, omega (arith, c.if-settings-tally.false, bound_most c.args.t.now), omega (arith, k.deep, proof_size_most c.args.t.now))

pub count_from-returns : goal.count_from-returns
count_from-returns t c =
    let a = c.args in
    λ S places e. round_full (try_held a.t.now) S a.round.hash a.round.id places a.depth a.tally.now e
    (omega (arith, c.if-depth-settings.false, c.requires.deep)) c.if-settings-tally.false _
    (c.add-2.ensures ∙ ap (λ (b : Bool). one_more a.depth b a.tally.now) c.proof_hash.ensures)
