-- `fits`: string by string, and then their sum.
use Rattle.std.proofs.Common.{le-ltb, lt-ltb}
use Rattle.sampling.specs.inner.LastBlocksInner.{in_one_piece}
use Rattle.sampling.proofs.sha256.fits.Goals as goal
use Rattle.sampling.proofs.sha256.fits.Goals.{
  then-a-ge64-via-then-a-ge64,
  then-a-ge64-via-else-a-ge64+then-b-ge64,
  then-a-ge64-via-else-a-ge64+else-b-ge64+then-c-ge64,
  then-a-ge64-via-else-a-ge64+else-b-ge64+else-c-ge64+then-d-ge64,
}

pub returns-then-a-ge64 : goal.returns-then-a-ge64
unfolding in_one_piece
returns-then-a-ge64 c = elim c.then-a-ge64.branch [
  | then-a-ge64-via-then-a-ge64 w ↦ rw (le-ltb _ 64 w.if-a-ge64.true)
  | then-a-ge64-via-else-a-ge64+then-b-ge64 w ↦ rw (lt-ltb _ 64 w.if-a-ge64.false, le-ltb _ 64 w.if-b-ge64.true)
  | then-a-ge64-via-else-a-ge64+else-b-ge64+then-c-ge64 w ↦
      rw (lt-ltb _ 64 w.if-a-ge64.false, lt-ltb _ 64 w.if-b-ge64.false, le-ltb _ 64 w.if-c-ge64.true)
  | then-a-ge64-via-else-a-ge64+else-b-ge64+else-c-ge64+then-d-ge64 w ↦
      rw (
        lt-ltb _ 64 w.if-a-ge64.false,
        lt-ltb _ 64 w.if-b-ge64.false,
        lt-ltb _ 64 w.if-c-ge64.false,
        le-ltb _ 64 w.if-d-ge64.true,
      )
]

pub returns : goal.returns
unfolding in_one_piece
returns c =
    rw (
      lt-ltb _ 64 c.if-a-ge64.false,
      lt-ltb _ 64 c.if-b-ge64.false,
      lt-ltb _ 64 c.if-c-ge64.false,
      lt-ltb _ 64 c.if-d-ge64.false,
    )
