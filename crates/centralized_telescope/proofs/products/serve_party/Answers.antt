-- `serve_party`: the refusals, the table, then the try.
use Rattle.std.proofs.Common.{length, sym, ap, ◌∙◌, subst, arith}
use Rattle.centralized_telescope.specs.declared.params.Params.{Params}
use Rattle.centralized_telescope.specs.core.Demand3.{Served}
use Rattle.centralized_telescope.specs.core.Elements.{elements, Lent}
use Rattle.centralized_telescope.specs.core.LentLists.{lent}
use Rattle.centralized_telescope.specs.inner.Held.{held}
use Rattle.centralized_telescope.specs.laws.ParamsLaws.{lawful}
use Rattle.centralized_telescope.specs.later.TwoProducts.{table_right, by_try}
use Rattle.centralized_telescope.specs.inner.Seeing.{TrueOf}
use Rattle.centralized_telescope.proofs.ProveAnswers.{run_lawful}
use Rattle.centralized_telescope.proofs.PartyAnswers.{early_passed, early_refused, table_refused, party_served}
use Rattle.centralized_telescope.proofs.products.serve_party.Goals as goal
use Rattle.centralized_telescope.proofs.products.serve_party.Goals.{In-Ok}

pub returns-in-Err : goal.returns-in-Err
returns-in-Err c =
    let s = c.args.shared in
    record {
      answer_is =
          sym (early_refused c.args.party.settings (lent s.list) c.args.party.retry.0 s.retry.0 s.table.now c.args.places.now c.in-Err.k
          (sym c.in-Err.ensures.number));
      seen_true = c.requires;
    }

-- nothing is refused before the table is looked at
served : (c : In-Ok) → (let s = c.args.shared in Served c.args.party.settings (lent s.list) c.args.places.now s.table.now)
served c =
    let s = c.args.shared in
    run_lawful c.args.party.settings (lent s.list) c.args.places.now s.table.now
    (early_passed c.args.party.settings (lent s.list) (length c.args.places.now) (length s.table.now) c.args.party.retry.0 s.retry.0
    (sym c.in-Ok.ensures.number)).run_passed

pub look-right-requires : goal.look-right-requires
look-right-requires c =
    let s = c.args.shared in
    let S = served (goal.at.look-right-requires c).In-Ok in (
      (lawful c.args.party.settings S.settings).set_size.1,
      S.table_enough,
      subst (λ (l : Lent). TrueOf l s.retry.0 s.table.now c.args.seen) (sym c.in-Ok.ensures.run.list_is) c.requires,
    )

pub try_alone-requires : goal.try_alone-requires
try_alone-requires c =
    let s = c.args.shared in
    let run = c.in-Ok.ensures.run in
    let S = served (goal.at.try_alone-requires c).In-Ok in (
      omega (arith, S.places_enough, ap (λ (p : Params). p.proof_size) run.settings_are),
      ap (λ (p : Params). table_right p.set_size s.retry.0 (elements (held c.in-Ok.run'.list)) s.table.now) run.settings_are
          ∙ sym c.look-right.ensures
          ∙ c.if-right.true,
    )

pub returns-then-right : goal.returns-then-right
returns-then-right c =
    let s = c.args.shared in
    let p = c.args.party.settings in
    let run = c.in-Ok.ensures.run in
    let right = c.look-right.ensures ∙ ap (λ (l : Lent). table_right p.set_size s.retry.0 (elements l) s.table.now) run.list_is in
    record {
      answer_is =
          c.try_alone.ensures
          ∙ ap (λ (l : Lent). by_try c.in-Ok.run'.settings.params (elements l) s.retry.0 c.args.places.now s.table.now) run.list_is
          ∙ ap (λ (q : Params). by_try q (elements (lent s.list)) s.retry.0 c.args.places.now s.table.now) run.settings_are
          ∙ sym (party_served p (lent s.list) c.args.party.retry.0 s.retry.0 s.table.now c.args.places.now (sym c.in-Ok.ensures.number)
          (sym right ∙ c.if-right.true));
      seen_true = right;
    }

pub returns-else-right : goal.returns-else-right
returns-else-right c =
    let s = c.args.shared in
    let p = c.args.party.settings in
    let right =
    c.look-right.ensures ∙ ap (λ (l : Lent). table_right p.set_size s.retry.0 (elements l) s.table.now) c.in-Ok.ensures.run.list_is in
    record {
      answer_is =
          sym (table_refused p (lent s.list) c.args.party.retry.0 s.retry.0 s.table.now c.args.places.now (sym c.in-Ok.ensures.number)
          (sym right ∙ c.if-right.false));
      seen_true = right;
    }
