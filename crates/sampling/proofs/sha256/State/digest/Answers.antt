-- `digest`: the bytes of the first n words are there.
use Rattle.std.proofs.Common.{◌≡◌, ◌+◌, ◌-◌, ◌*◌, length, take, drop, sym, refl, ◌∙◌, arith, length-drop, length-take, take_all, rules}
use Rattle.sampling.specs.core.Fips180.{word_bytes, digest_of}
use Rattle.sampling.proofs.Written.{put_size, put_word}
use Rattle.sampling.proofs.sha256.State.digest.Goals as goal

pub loop-n-init : goal.loop-n-init
unfolding word_bytes
loop-n-init c = (refl, refl)

pub loop-n-preserved : goal.loop-n-preserved
loop-n-preserved c =
    let l = c.loop-n in
    let w = c.write_number in
    let x = c.wide in
    let k = 4 * l.n + 4 - 4 * l.n in
    let four : length (take k (drop (4 * l.n) l.d)) ≡ 4 = simp (length-take, length-drop) (omega arith) in
    let size : k ≡ 4 = omega arith in (
      put_size l.d w.new.out (take k (drop (4 * l.n) l.d)) (4 * l.n) k 32 x.result l.invariant.0 (omega arith) (omega arith)
          w.ensures,
      put_word _ l.d w.new.out (take k (drop (4 * l.n) l.d)) _ l.n x.result (search rules) (omega arith) four
          w.ensures x.ensures l.invariant.1,
    )

pub returns : goal.returns
unfolding digest_of
returns c =
    let e : c.loop-n.n ≡ 8 = omega arith in
    sym (take_all 32 c.loop-n.d (omega arith)) ∙ rw e at c.loop-n.invariant.1
