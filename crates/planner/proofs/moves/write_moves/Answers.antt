use Rattle.planner.proofs.OneMove.{put_from, put_inside, put_length, put_room}
use Rattle.planner.proofs.Turns.{turn_now, needed_now, above_now, starts, room_below, sum_below, next_below, ended, none_above}
use Rattle.planner.proofs.Choices.{looking}
use Rattle.planner.proofs.Room.{room_words}
use borrow.Author.Rules.{rules}
use Rattle.planner.proofs.moves.write_moves.Goals as goal

pub needed_below-requires : goal.needed_below-requires
needed_below-requires g c = (search (rules, looking), search (rules, looking), search (rules, looking))

pub devices-i-requires : goal.devices-i-requires
devices-i-requires g c = search (rules, looking)

pub loop-i-init : goal.loop-i-init
loop-i-init g c =
    let law = g.met.E.Element in (
      search rules,
      search rules,
      search rules,
      starts _ _ law.long law.joins _ _ _ _ c.requires.0 _ c.devices-i.ensures.0,
      search (rules, none_above),
      search rules,
    )

pub chosen_needs-requires : goal.chosen_needs-requires
chosen_needs-requires g c =
    let given = c.before.before.requires in
    let inv = c.loop-i.invariant in
    turn_now _ _ _ given.0 _ _ c.loop-i-test.true inv.0 inv.3.moving

pub write_move-count-requires : goal.write_move-count-requires
write_move-count-requires g c =
    let given = c.before.before.requires in
    let inv = c.loop-i.invariant in
    let h = c.loop-i-test.true in (
      turn_now _ _ _ given.0 _ _ h inv.0 inv.3.moving,
      room_words _ c.loop-i.buffer inv.5,
      needed_now _ _ _ given.0 _ _ h inv.0 inv.3.moving _ _ _ c.chosen_needs.ensures inv.4 c.union-above.ensures _ _ _
          c.needed_below.ensures c.union-needed.ensures,
    )

pub slice_bounds-buffer-end : goal.slice_bounds-buffer-end
slice_bounds-buffer-end g c =
    put_inside _ _ _ _ _ _ _ _ _ (turn_now _ _ _ c.before.before.requires.0 _ _ c.loop-i-test.true c.loop-i.invariant.0 c.loop-i.invariant.3.moving)
    c.write_move-count.ensures (room_words _ c.loop-i.buffer c.loop-i.invariant.5)

pub slice_bounds-put_words-end : goal.slice_bounds-put_words-end
slice_bounds-put_words-end g c = put_length _ _ _ _ _ _ c.write_move-count.ensures

pub put_words-requires : goal.put_words-requires
put_words-requires g c =
    put_room _ _ _ _ _ _ c.write_move-count.ensures _ _ _
    (room_below _ _ g.met.E.Element.long g.met.E.Element.joins _ _ _ _ c.before.before.requires.0 _ _ _ _ c.loop-i-test.true
    c.loop-i.invariant.0 c.loop-i.invariant.3 c.before.before.requires.1)

pub overflow_add-n : goal.overflow_add-n
overflow_add-n g c =
    let given = c.before.before.requires in
    let law = g.met.E.Element in
    let inv = c.loop-i.invariant in
    sum_below _ _ law.long law.joins _ _ _ _ given.0 _ _ _ _ c.loop-i-test.true inv.0 inv.3 _ c.write_move-count.ensures.count

pub loop-i-preserved : goal.loop-i-preserved
loop-i-preserved g c =
    let given = c.before.before.requires in
    let law = g.met.E.Element in
    let inv = c.loop-i.invariant in
    let h = c.loop-i-test.true in
    let w = c.write_move-count.ensures in
    let put = put_from _ _ _ _ _ _ w _ _ _ _ _ c.put_words.ensures in (
      search rules,
      search rules,
      search rules,
      next_below _ _ law.long law.joins _ _ _ _ given.0 _ _ _ _ h inv.0 inv.3 given.1 _ _ _ put,
      above_now _ _ _ given.0 _ _ h inv.0 inv.3.moving _ _ _ c.chosen_needs.ensures inv.4 c.union-above.ensures _ w.state,
      search rules,
    )

pub returns : goal.returns
returns g c =
    let law = g.met.E.Element in
    ended _ _ law.long law.joins _ _ _ _ c.requires.0 _ _ _ _ c.loop-i.invariant.3 c.loop-i-test.false
