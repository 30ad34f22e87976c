-- `seal`: the blocks from the k-th on are made.
use Rattle.std.proofs.Common.{◌≡◌, ◌+◌, ◌-◌, refl, arith}
use Rattle.centralized_telescope.proofs.BlockWriting.{none_sealed, one_sealed}
use Rattle.centralized_telescope.proofs.blocks.seal.Goals as goal

pub loop-k-init : goal.loop-k-init
loop-k-init c = (refl, none_sealed c.args.n c.args.out.now)

pub loop-k-preserved : goal.loop-k-preserved
loop-k-preserved c =
    let l = c.loop-k in
    let e : l.k ≡ l.k - 1 + 1 = omega arith in (
      omega (arith, l.invariant.0, c.seal_one.auto.out),
      one_sealed (l.k - 1) c.args.n c.args.out.now _ _ (omega arith) (omega arith) (rw e at l.invariant.1) c.seal_one.ensures,
    )
