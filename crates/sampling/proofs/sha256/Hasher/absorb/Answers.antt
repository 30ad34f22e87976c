-- `absorb`: past the limit, or taken.
use Rattle.std.proofs.Common.{sym, ◌∙◌, arith, ltb-false}
use Rattle.sampling.specs.laws.HasherLaws.{absorbed_within, absorbed_over}
use Rattle.sampling.proofs.sha256.Hasher.absorb.Goals as goal
use Rattle.sampling.proofs.sha256.Hasher.absorb.Goals.{
  then-len-gt-MAX_HASHED-via-then-len-gt-MAX_HASHED,
  then-len-gt-MAX_HASHED-via-else-len-gt-MAX_HASHED+then-len-s,
}

pub returns-then-len-gt-MAX_HASHED : goal.returns-then-len-gt-MAX_HASHED
returns-then-len-gt-MAX_HASHED c =
    c.too_long.ensures
    ∙ sym
    (absorbed_over _ _
    (elim c.then-len-gt-MAX_HASHED.branch [
      | then-len-gt-MAX_HASHED-via-then-len-gt-MAX_HASHED w ↦ omega arith
      | then-len-gt-MAX_HASHED-via-else-len-gt-MAX_HASHED+then-len-s w ↦ omega arith
    ]))

pub absorb_all-requires : goal.absorb_all-requires
absorb_all-requires c = omega (arith, ltb-false)

pub returns : goal.returns
returns c = c.absorb_all.ensures ∙ sym (absorbed_within _ _ (omega (arith, ltb-false)))
