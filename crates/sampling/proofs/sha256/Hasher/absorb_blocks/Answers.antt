-- `absorb_blocks`: after k blocks the hash value is that after the first 64 * k bytes of the string.
use Rattle.std.proofs.Common.{◌≡◌, ◌+◌, ◌*◌, length, sym, refl, ap, arith, rules}
use lib.Seq.{take-length}
use Rattle.sampling.specs.later.Hasher.{absorb_bytes}
use Rattle.sampling.specs.laws.HasherLaws.{one_block, whole_blocks}
use Rattle.sampling.specs.declared.sha256.Hasher.{Hasher}
use Rattle.sampling.proofs.sha256.Hasher.absorb_blocks.Goals as goal

pub loop-k-init : goal.loop-k-init
unfolding absorb_bytes
loop-k-init c = λ b l. refl

pub loop-k-preserved : goal.loop-k-preserved
loop-k-preserved c = λ b l.
    let a = c.args in
    let k = c.loop-k.k in
    let e : 64 * (k + 1) ≡ 64 * k + 64 = omega arith in
    rw (c.compress-state.ensures, c.loop-k.invariant b l, e)
    (sym
    (ap (λ (h : Hasher). h.state)
    (one_block (record { state = a.self.state; block = b; len = a.self.len }) a.s.now l c.requires.0 (64 * k) (omega arith) (omega arith))))

pub returns : goal.returns
returns c =
    let a = c.args in
    let l : length a.self.block ≡ 64 = search rules in
    let e : 64 * c.loop-k.k ≡ length a.s.now = omega arith in
    rw (rw (e, take-length a.s.now) at (c.loop-k.invariant a.self.block l))
    (sym (whole_blocks a.self a.s.now l c.requires.0 c.requires.1 c.requires.2))
