-- `alba_prepare`: refused by the length lent or by `prepare`, or its digest copied.
use mathlib.Core.Path.{refl, sym, ap, ◌∙◌}
use Rattle.std.specs.Prelude.{ℕ, length, replicate}
use native.Mathlib.Omega.{arith}
use Rattle.centralized_telescope.specs.core.Elements.{lent_of}
use Rattle.centralized_telescope.specs.core.Refusals.{refusal_number}
use Rattle.centralized_telescope.specs.laws.RefusalsLaws.{refusal_number_lem}
use Rattle.centralized_telescope.specs.later.Prepare.{prepared_by}
use Rattle.centralized_telescope.specs.declared.params.Params.{Params}
use Rattle.harness_exports.specs.Exported.{exported_prepare}
use Rattle.harness_exports.proofs.PrepareNumbers.{not_32_lent, not_prepared, is_prepared}
use Rattle.harness_exports.proofs.alba_prepare.Goals as goal

pub returns-then-out-ne32 : goal.returns-then-out-ne32
returns-then-out-ne32 c = not_32_lent _ _ _ _ c.args.out.now c.if-out-ne32.true

pub returns-in-Ok : goal.returns-in-Ok
returns-in-Ok c =
    let a = c.args in
    let lent = lent_of a.«data».now a.ends.now a.marks.now a.indexes.now in
    let s = c.settings_of-p in
    is_prepared s.result lent (length a.places.now) (length a.table.now) a.out.now 0 c.in-Ok.digest
    (sym (ap prepared_by c.in-Ok.is) ∙ c.prepare.ensures) (omega (arith, c.if-out-ne32)) refl _ c.copy_from_slice.ensures.after
    ∙ ap (λ (p : Params). exported_prepare p lent (length a.places.now) (length a.table.now) a.out.now) s.ensures

pub returns-in-Err : goal.returns-in-Err
returns-in-Err c =
    let a = c.args in
    let lent = lent_of a.«data».now a.ends.now a.marks.now a.indexes.now in
    let s = c.settings_of-p in
    let k = c.in-Err.k in
    ap (λ (n : ℕ). (n, a.out.now)) c.refusal_number.ensures
    ∙ not_prepared s.result lent (length a.places.now) (length a.table.now) a.out.now (refusal_number k) (replicate 32 0)
    (sym (ap prepared_by c.in-Err.is) ∙ c.prepare.ensures) (omega (arith, c.if-out-ne32)) (refusal_number_lem k)
    ∙ ap (λ (p : Params). exported_prepare p lent (length a.places.now) (length a.table.now) a.out.now) s.ensures
