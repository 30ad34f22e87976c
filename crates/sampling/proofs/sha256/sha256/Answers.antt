-- `sha256`: four short strings in one piece, or four strings absorbed into an empty hasher.
use Rattle.std.proofs.Common.{ℕ, ◌++◌, List, sym, ap, ◌∙◌, append_assoc, arith, length-append}
use Rattle.sampling.specs.laws.HashLaws.{hashed_within}
use Rattle.sampling.specs.laws.HasherLaws.{absorbed_twice, absorbed_hashes}
use Rattle.sampling.proofs.MessageEnd.{piece_fits}
use Rattle.sampling.proofs.sha256.sha256.Goals as goal

pub hash_short-requires : goal.hash_short-requires
hash_short-requires c = piece_fits _ _ _ _ (sym c.fits.ensures ∙ c.if-fits.true)

pub returns-then-fits : goal.returns-then-fits
returns-then-fits c =
    let z = c.args in
    let short = piece_fits _ _ _ _ (sym c.fits.ensures ∙ c.if-fits.true) in
    ap (λ (digest : List ℕ). (0, digest)) c.hash_short.ensures
    ∙ sym (hashed_within (z.a.now ++ (z.b.now ++ (z.c.now ++ z.d.now))) (simp length-append (omega arith)))

pub returns : goal.returns
returns c =
    c.finish.ensures
    ∙ rw (
      c.absorb-4.ensures,
      c.absorb-3.ensures,
      c.absorb-2.ensures,
      c.absorb.ensures,
      c.new.ensures,
    )
    (simp (absorbed_twice, append_assoc) (absorbed_hashes _))
