-- `put_index`: the mark, and the index behind it.
use Rattle.std.proofs.Common.{ℕ, length, ap, arith}
use Rattle.std.specs.Prelude.{Option}
use Rattle.sampling.specs.core.BigEndian.{bytes_of}
use Rattle.sampling.specs.laws.BigEndianLaws.{length_bytes_of}
use Rattle.centralized_telescope.specs.inner.Held.{option_of}
use Rattle.centralized_telescope.specs.inner.Gathering.{mark_bytes}
use Rattle.centralized_telescope.proofs.ElementWriting.{puts}
use Rattle.centralized_telescope.proofs.element_bytes.put_index.Goals as goal

pub returns-in-None : goal.returns-in-None
unfolding bytes_of
returns-in-None c = rw c.in-None.is c.put_number.ensures

pub put_number-requires-in-Some : goal.put_number-requires-in-Some
put_number-requires-in-Some c =
    omega (
      arith,
      c.requires,
      ap (λ (i : Option ℕ). length (mark_bytes (option_of i))) c.in-Some.is,
      length_bytes_of 1 1,
      length_bytes_of 8 c.in-Some.number,
      c.put_number-behind.ensures.behind,
      c.put_number-behind.auto.out,
    )

pub returns-in-Some : goal.returns-in-Some
unfolding bytes_of
returns-in-Some c =
    rw c.in-Some.is (puts _ _ _ _ _ _ _ _ (omega (arith, c.requires)) c.put_number-behind.ensures c.put_number-in-Some.ensures)
