-- `alba_small_case`: refused by the length lent, or by the answer of `param_small_case`.
use mathlib.Core.Path.{sym, ap, ◌∙◌}
use mathlib.Core.List.{List}
use Prim.Native.Nat.{ℕ}
use Rattle.centralized_telescope.specs.core.Refusals.{refusal_number}
use Rattle.centralized_telescope.specs.laws.RefusalsLaws.{refusal_number_lem}
use Rattle.centralized_telescope.specs.later.SmallCase.{small_case_by, no_settings}
use Rattle.harness_exports.proofs.Answer.{not_six, answered, not_settled}
use borrow.Author.Rules.{rules}
use Rattle.harness_exports.proofs.alba_small_case.Goals as goal

pub returns-then-out-ne6 : goal.returns-then-out-ne6
returns-then-out-ne6 c =
    let z = c.args in
    not_six z.u z.c z.out.now c.if-out-ne6.true

pub returns-in-Ok : goal.returns-in-Ok
returns-in-Ok c =
    let z = c.args in
    answered z.u z.c z.out.now 0 c.in-Ok.settings _ (search rules)
    (sym (ap small_case_by c.in-Ok.is) ∙ c.param_small_case.ensures)
    (ap (λ (l : List ℕ). (0, l)) c.put_settings.ensures)

pub returns-in-Err : goal.returns-in-Err
returns-in-Err c =
    let z = c.args in
    let k = c.in-Err.k in
    answered z.u z.c z.out.now (refusal_number k) no_settings _ (search rules)
    (sym (ap small_case_by c.in-Err.is) ∙ c.param_small_case.ensures)
    (ap (λ (n : ℕ). (n, z.out.now)) c.refusal_number.ensures ∙ not_settled (refusal_number k) no_settings z.out.now (refusal_number_lem k))
