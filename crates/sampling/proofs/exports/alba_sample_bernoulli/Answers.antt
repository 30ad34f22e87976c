-- `alba_sample_bernoulli`: 1 or 0, for h of 16 bytes.
use Rattle.std.proofs.Common.{◌≡◌, ℕ, Bool, true, false, cond, List, sym, ap, ◌∙◌}
use Rattle.sampling.specs.core.Sample.{value_of, bernoulli}
use Rattle.sampling.specs.core.Exports.{exported_bernoulli}
use Rattle.sampling.proofs.ExportedAnswers.{chance_h_refused, chance_told}
use Rattle.sampling.proofs.exports.alba_sample_bernoulli.Goals as goal

pub returns-then-h-ne16 : goal.returns-then-h-ne16
returns-then-h-ne16 c = let a = c.args in chance_h_refused a.h.now (record { hi = a.x_high; lo = a.x_low }) c.if-h-ne16.true

answer : (c : goal.Then-sample_bernoulli) (t : Bool) → c.sample_bernoulli.result ≡ t
    → (let a = c.args in
    cond t 1 0 ≡ exported_bernoulli a.h.now (record { hi = a.x_high; lo = a.x_low }))
answer c t e =
    let a = c.args in
    chance_told a.h.now (record { hi = a.x_high; lo = a.x_low }) c.if-h-ne16.false t
    (sym e ∙ c.sample_bernoulli.ensures
    ∙ ap (λ (l : List ℕ). bernoulli l (value_of (record { hi = a.x_high; lo = a.x_low }))) c.seed_of.ensures)

pub returns-then-sample_bernoulli : goal.returns-then-sample_bernoulli
returns-then-sample_bernoulli c = answer c true c.if-sample_bernoulli.true

answer_2 : (c : goal.Else-sample_bernoulli) (t : Bool) → c.sample_bernoulli.result ≡ t
    → (let a = c.args in
    cond t 1 0 ≡ exported_bernoulli a.h.now (record { hi = a.x_high; lo = a.x_low }))
answer_2 c t e =
    let a = c.args in
    chance_told a.h.now (record { hi = a.x_high; lo = a.x_low }) c.if-h-ne16.false t
    (sym e ∙ c.sample_bernoulli.ensures
    ∙ ap (λ (l : List ℕ). bernoulli l (value_of (record { hi = a.x_high; lo = a.x_low }))) c.seed_of.ensures)

pub returns : goal.returns
returns c = answer_2 c false c.if-sample_bernoulli.false
