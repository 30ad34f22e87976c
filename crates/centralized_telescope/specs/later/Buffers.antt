-- The list that the four buffers of a call hold, and that they are the caller's own afterwards.
use Rattle.std.specs.Prelude.{◌≡◌}
use Rattle.centralized_telescope.specs.core.Elements.{Lent, lent_of}
use Rattle.centralized_telescope.specs.declared.buffers.Buffers.{Buffers}

abbrev pub buffers_held : Buffers → Lent
buffers_held out = lent_of out.data.now out.ends.now out.marks.now out.indexes.now

-- what they hold is what the caller's slices hold
pub record SameBuffers (before after : Buffers) : Type 0 where
  pub bytes : after.data.ghost_name ≡ before.data.ghost_name
  pub ends : after.ends.ghost_name ≡ before.ends.ghost_name
  pub marks : after.marks.ghost_name ≡ before.marks.ghost_name
  pub indexes : after.indexes.ghost_name ≡ before.indexes.ghost_name
