-- `read_elements`: the first i elements are passed and written, and the rest stand at the offset.
use Rattle.std.proofs.Common.{arith, rules}
use Rattle.centralized_telescope.specs.later.Buffers.{buffers_held}
use Rattle.centralized_telescope.specs.laws.TestLaws.{not_both}
use Rattle.centralized_telescope.proofs.ProofWriting.{none_written, all_written}
use Rattle.centralized_telescope.proofs.TicketReading.{none_passed, one_passed, inside_passed, none_read, rest_more, room_found}
use Rattle.centralized_telescope.proofs.TicketReading.{in_count, found_rooms, found_fits, one_read, all_read}
use Rattle.centralized_telescope.proofs.ticket.read_elements.Goals as goal
use Rattle.centralized_telescope.proofs.ticket.read_elements.Goals.{in-Some, in_default}

pub loop-i-init : goal.loop-i-init
loop-i-init c =
    (none_passed _ _ c.requires.0, none_read c.args.ticket.now c.args.count, search rules, none_written (buffers_held c.args.out.now))

pub overflow_add-at : goal.overflow_add-at
overflow_add-at c =
    let p = one_passed _ _ _ _ _ c.loop-i.invariant.0 (search rules) _ (rw c.in-Some.is at c.head_at.ensures) in
    omega (arith, p.within)

pub copy_from_bodies-requires : goal.copy_from_bodies-requires
copy_from_bodies-requires c =
    let l = c.loop-i in
    let z = c.args in
    let is = rw c.in-Some.is at c.head_at.ensures in
    let p = one_passed _ _ _ _ _ l.invariant.0 (search rules) _ is in
    let room = room_found z.ticket.now z.count _ c.requires.2 c.requires.3 in (
      omega (arith, p.within),
      found_fits z.ticket.now z.count l.i l.at (search rules) l.invariant.1 _ is _ room _ _ l.invariant.3,
    )

pub overflow_add-at-in-Some : goal.overflow_add-at-in-Some
overflow_add-at-in-Some c =
    let p = one_passed _ _ _ _ _ c.loop-i.invariant.0 (search rules) _ (rw c.in-Some.is at c.head_at.ensures) in
    omega (arith, p.within)

pub overflow_add-at-in-Some-2 : goal.overflow_add-at-in-Some-2
overflow_add-at-in-Some-2 c =
    let p = one_passed _ _ _ _ _ c.loop-i.invariant.0 (search rules) _ (rw c.in-Some.is at c.head_at.ensures) in
    omega (arith, p.within)

pub overflow_add-used : goal.overflow_add-used
overflow_add-used c =
    let p = one_passed _ _ _ _ _ c.loop-i.invariant.0 (search rules) _ (rw c.in-Some.is at c.head_at.ensures) in
    omega (arith, p.small, c.requires.1)

pub put-requires : goal.put-requires
put-requires c =
    let l = c.loop-i in
    let z = c.args in
    let is = rw c.in-Some.is at c.head_at.ensures in
    let p = one_passed _ _ _ _ _ l.invariant.0 (search rules) _ is in
    let room = room_found z.ticket.now z.count _ c.requires.2 c.requires.3 in
    let now = found_rooms z.ticket.now z.count l.i l.at (search rules) l.invariant.1 _ is _ room _ _ l.invariant.3 in
    let there = in_count z.ticket.now z.count l.i l.at (search rules) l.invariant.1 _ is in (
      omega (arith, now.ends_room, there),
      omega (arith, now.marks_room, there),
      omega (arith, now.indexes_room, there),
      omega (arith, p.small, c.requires.1),
    )

pub loop-i-preserved : goal.loop-i-preserved
loop-i-preserved c =
    let l = c.loop-i in
    let z = c.args in
    let room = room_found z.ticket.now z.count _ c.requires.2 c.requires.3 in
    elim c.match-head_at.branch [
      | in-Some w ↦
          let is = rw w.in-Some.is at c.head_at.ensures in
          rw (w.out-is, w.at-is, w.used-is) (
            one_passed _ _ _ _ _ l.invariant.0 (search rules) _ is,
            rest_more z.ticket.now z.count l.i l.at (search rules) l.invariant.1 _ is,
            search rules,
            one_read z.ticket.now z.count l.i l.at (search rules) l.invariant.1 _ is _ room _ _ l.invariant.3 _
                w.copy_from_bodies.ensures _ w.put.ensures.put,
          )
      | in_default w ↦
          absurd (not_both (inside_passed _ _ _ _ _ l.invariant.0 (search rules) c.requires.2) (rw w.in_default.is at c.head_at.ensures))
    ]

pub returns-clause-read : goal.returns-clause-read
returns-clause-read c =
    let z = c.args in
    let l = c.loop-i in
    all_written _ _ _ _ l.i (all_read z.ticket.now z.count l.i (search rules)) l.invariant.3
