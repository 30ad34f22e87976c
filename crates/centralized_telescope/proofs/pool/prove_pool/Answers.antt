-- `prove_pool`: the settings' refusals, the pool's, and what is too short or too few; then the tries.
use Rattle.std.proofs.Common.{◌≡◌, List, length, sym, ap, ◌∙◌}
use Rattle.centralized_telescope.specs.declared.params.Params.{Params}
use Rattle.centralized_telescope.specs.core.Elements.{Element}
use Rattle.centralized_telescope.specs.core.LentLists.{lent}
use Rattle.centralized_telescope.specs.core.Prover.{by_search}
use Rattle.centralized_telescope.specs.later.Pool.{pool}
use Rattle.centralized_telescope.specs.laws.RefusalsLaws.{handed_on}
use Rattle.centralized_telescope.proofs.ProveAnswers.{roomy}
use Rattle.centralized_telescope.proofs.PoolAnswers.{settings_refused, lists_refused, room_refused, run_served}
use Rattle.centralized_telescope.proofs.pool.prove_pool.Goals as goal

pub returns-in_err-settings : goal.returns-in_err-settings
returns-in_err-settings c =
    let a = c.args in
    rw (handed_on _ c.from_residual.result c.from_residual.ensures.1)
    (sym (settings_refused (lent a.list) (lent a.list2) a.p a.places.now a.table.now _ (sym c.in_err-settings.ensures.number)))

pub returns-in_err-pool : goal.returns-in_err-pool
returns-in_err-pool c =
    let a = c.args in
    rw (handed_on _ c.from_residual-in_err-pool.result c.from_residual-in_err-pool.ensures.1)
    (sym (lists_refused (lent a.list) (lent a.list2) a.p a.places.now a.table.now (sym c.in_ok-settings.ensures.number) _ c.in_err-pool.ensures))

pub returns-in_err-check_room : goal.returns-in_err-check_room
returns-in_err-check_room c =
    let a = c.args in
    let made = c.in_ok-pool.ensures in
    let same = c.in_ok-settings.ensures.same in
    let count : c.len.result ≡ length (pool (lent a.list) (lent a.list2)) = c.len.ensures.exact ∙ ap length made.1 in
    rw (handed_on _ c.from_residual-in_err-check_room.result c.from_residual-in_err-check_room.ensures.1)
    (sym (room_refused (lent a.list) (lent a.list2) a.p a.places.now a.table.now (sym c.in_ok-settings.ensures.number) made.0 _
    (sym (rw (same, count) at c.in_err-check_room.ensures))))

pub prove_routine-requires : goal.prove_routine-requires
prove_routine-requires c =
    let a = c.args in
    let room = roomy c.in_ok-settings.settings.params c.len.result (length a.places.now) (length a.table.now) (sym c.in_ok-check_room.ensures) in
    (room.places_enough, room.table_enough)

pub returns : goal.returns
returns c =
    let a = c.args in
    let made = c.in_ok-pool.ensures in
    let same = c.in_ok-settings.ensures.same in
    let count : c.len.result ≡ length (pool (lent a.list) (lent a.list2)) = c.len.ensures.exact ∙ ap length made.1 in
    c.prove_routine.ensures
    ∙ ap (λ (es : List Element). by_search c.in_ok-settings.settings.params es a.places.now a.table.now) made.1
    ∙ ap (λ (p : Params). by_search p (pool (lent a.list) (lent a.list2)) a.places.now a.table.now) same
    ∙ sym (run_served (lent a.list) (lent a.list2) a.p a.places.now a.table.now (sym c.in_ok-settings.ensures.number) made.0
    (sym (rw (same, count) at c.in_ok-check_room.ensures)))
