use Rattle.std.proofs.Common.{◌-◌, length}
use Rattle.proof_files.specs.Rooms.{SameRoom}
use Rattle.proof_files.proofs.elements_file.add_lines.Given as goal

abbrev pub invariant-loop-list : goal.invariant-loop-list
invariant-loop-list g l = SameRoom l.initial.list l.list

abbrev pub decreases-loop-list : goal.decreases-loop-list
decreases-loop-list g l = length l.list.ends.now - l.list.elements
