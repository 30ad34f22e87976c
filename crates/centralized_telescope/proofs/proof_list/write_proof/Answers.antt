-- `write_proof`: an answer for each refusal, in the order of the tests.
use Rattle.std.proofs.Common.{sym, ap, ◌∙◌}
use Rattle.std.proofs.lemmas.Result.{err_from_is_err_and}
use Rattle.centralized_telescope.specs.core.Elements.{Lent}
use Rattle.centralized_telescope.specs.core.LentLists.{lent}
use Rattle.centralized_telescope.specs.inner.Held.{held}
use Rattle.centralized_telescope.specs.later.ProofList.{proof_list}
use Rattle.centralized_telescope.specs.later.Buffers.{buffers_held}
use Rattle.centralized_telescope.proofs.ProofAnswers.{list_refused, place_past, too_many, too_short, written}
use Rattle.centralized_telescope.proofs.proof_list.write_proof.Goals as goal

pub returns-in_err-accepted-clause-written : goal.returns-in_err-accepted-clause-written
returns-in_err-accepted-clause-written c =
    let p = err_from_is_err_and c.from_residual.result c.from_residual.ensures.1 in
    let refused = list_refused c.args.places.now (lent c.args.list) (buffers_held c.args.out.now) in
    rw (p.1, p.2) (refused c.in_err-accepted.field-0.0 (sym c.in_err-accepted.ensures.number))

pub returns-then-some_place_out-clause-written : goal.returns-then-some_place_out-clause-written
returns-then-some_place_out-clause-written c =
    let ps = c.args.places.now in
    let out = buffers_held c.args.out.now in
    let list = c.in_ok-accepted.accepted in
    let past = rw c.len.ensures at (sym c.if-some_place_out.ensures) in
    place_past ps (held list) out list.accepted past ∙ ap (λ (l : Lent). proof_list ps l out) c.in_ok-accepted.ensures.same

pub returns-then-places-gt-MAX_ELEMENTS-clause-written : goal.returns-then-places-gt-MAX_ELEMENTS-clause-written
returns-then-places-gt-MAX_ELEMENTS-clause-written c =
    let ps = c.args.places.now in
    let out = buffers_held c.args.out.now in
    let list = c.in_ok-accepted.accepted in
    let within = rw c.len.ensures at (sym c.if-some_place_out.ensures) in
    too_many ps (held list) out list.accepted within c.if-places-gt-MAX_ELEMENTS.true
    ∙ ap (λ (l : Lent). proof_list ps l out) c.in_ok-accepted.ensures.same

pub returns-then-is_short-clause-written : goal.returns-then-is_short-clause-written
returns-then-is_short-clause-written c =
    let ps = c.args.places.now in
    let out = buffers_held c.args.out.now in
    let list = c.in_ok-accepted.accepted in
    let within = rw c.len.ensures at (sym c.if-some_place_out.ensures) in
    let short = rw c.data_size.ensures at (sym c.if-is_short.ensures) in
    too_short ps (held list) out list.accepted within c.if-places-gt-MAX_ELEMENTS.false short
    ∙ ap (λ (l : Lent). proof_list ps l out) c.in_ok-accepted.ensures.same

pub returns-clause-written : goal.returns-clause-written
returns-clause-written c =
    let ps = c.args.places.now in
    let out = buffers_held c.args.out.now in
    let list = c.in_ok-accepted.accepted in
    let within = rw c.len.ensures at (sym c.if-some_place_out.ensures) in
    let room = rw c.data_size.ensures at (sym c.if-is_short.ensures) in
    written ps (held list) out list.accepted within c.if-places-gt-MAX_ELEMENTS.false room _ c.write_elements.ensures.written
    ∙ ap (λ (l : Lent). proof_list ps l out) c.in_ok-accepted.ensures.same
