-- No refusal has the number 0, and `?` hands on the one that it met.
use Rattle.std.specs.Prelude.{◌≡◌, ◌≢◌, Result, Err}
use Rattle.std.specs.Result.{IsErrAnd}
use Rattle.std.proofs.Common.{ap, ◌∙◌, arith}
use Rattle.std.proofs.lemmas.Result.{err_from_is_err_and}
use Rattle.centralized_telescope.specs.declared.errors.Refusal.{Refusal}
use Rattle.centralized_telescope.specs.declared.errors.Refusal.TheVariants as refusal
use Rattle.centralized_telescope.specs.core.Refusals.{refusal_number}

pub refusal_number_lem : (k : Refusal) → refusal_number k ≢ 0
refusal_number_lem refusal.SetSize e = omega arith
refusal_number_lem refusal.Limit e = omega arith
refusal_number_lem refusal.Malformed e = omega arith
refusal_number_lem refusal.TooLarge e = omega arith
refusal_number_lem refusal.WorkspaceShort e = omega arith
refusal_number_lem refusal.NotEnoughElements e = omega arith
refusal_number_lem refusal.ProofSize e = omega arith
refusal_number_lem refusal.Completeness e = omega arith
refusal_number_lem refusal.DamagedTicket e = omega arith
refusal_number_lem refusal.NoTicket e = omega arith
refusal_number_lem refusal.BufferShort e = omega arith
refusal_number_lem refusal.Figures e = omega arith
refusal_number_lem refusal.NoSize e = omega arith
refusal_number_lem refusal.PoolTooLarge e = omega arith
refusal_number_lem refusal.RunChanged e = omega arith
refusal_number_lem refusal.OtherRetry e = omega arith
refusal_number_lem refusal.OtherTable e = omega arith
refusal_number_lem refusal.CountsShort e = omega arith
refusal_number_lem refusal.TreeTooLarge e = omega arith

pub handed_on : {A : Type 0} (k : Refusal) (r : Result A Refusal) → IsErrAnd r (λ y. y ≡ k) → r ≡ Err k
handed_on k r e = let met = err_from_is_err_and r e in met.1 ∙ ap Err met.2
