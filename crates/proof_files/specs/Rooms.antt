-- The room that a list of elements is in, which is the caller's own.
use Rattle.std.specs.Prelude.{◌≡◌, length}
use Rattle.centralized_telescope.specs.core.Elements.{Lent, lent_of}
use Rattle.centralized_telescope.specs.declared.buffers.Buffers.{Buffers}
use Rattle.centralized_telescope.specs.later.Buffers.{buffers_held}
use Rattle.proof_files.specs.declared.list.ElementList.{ElementList}

-- all that the room holds, the list's elements and what stands behind them
abbrev pub room_held : ElementList → Lent
room_held list = lent_of list.data.now list.ends.now list.marks.now list.indexes.now

-- a list is in this room, which holds what it held
pub record IsIn (room : Buffers) (list : ElementList) : Type 0 where
  pub bytes : list.data.ghost_name ≡ room.data.ghost_name
  pub ends : list.ends.ghost_name ≡ room.ends.ghost_name
  pub marks : list.marks.ghost_name ≡ room.marks.ghost_name
  pub indexes : list.indexes.ghost_name ≡ room.indexes.ghost_name
  pub held : room_held list ≡ buffers_held room

-- a list is in the room that it was in, of which each slice keeps its length
pub record SameRoom (before after : ElementList) : Type 0 where
  pub bytes : after.data.ghost_name ≡ before.data.ghost_name
  pub ends : after.ends.ghost_name ≡ before.ends.ghost_name
  pub marks : after.marks.ghost_name ≡ before.marks.ghost_name
  pub indexes : after.indexes.ghost_name ≡ before.indexes.ghost_name
  pub bytes_room : length after.data.now ≡ length before.data.now
  pub ends_room : length after.ends.now ≡ length before.ends.now
  pub marks_room : length after.marks.now ≡ length before.marks.now
  pub indexes_room : length after.indexes.now ≡ length before.indexes.now
