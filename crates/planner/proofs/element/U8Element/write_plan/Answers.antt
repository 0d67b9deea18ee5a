use Rattle.planner.proofs.OneMove.{put_length, put_room, put_from}
use Rattle.planner.proofs.Room.{room_words, words_65, bytes_room, request_room}
use borrow.Author.Rules.{rules}
use Rattle.planner.proofs.element.U8Element.write_plan.Goals as goal

pub write_plan-n-requires : goal.write_plan-n-requires
write_plan-n-requires c = (search rules, search (rules, room_words))

pub slice_bounds-calls-end : goal.slice_bounds-calls-end
slice_bounds-calls-end c =
    words_65 _ _ _ (request_room _ _ _ c.requires.0) _ _ _ _ c.write_plan-n.ensures (search rules)

pub slice_bounds-write_words-end : goal.slice_bounds-write_words-end
slice_bounds-write_words-end c = put_length _ _ _ _ _ _ c.write_plan-n.ensures

pub write_words-requires : goal.write_words-requires
write_words-requires c =
    put_room _ _ _ _ _ _ c.write_plan-n.ensures _ _ _ (bytes_room _ _ (request_room _ _ _ c.before.before.requires.0) _ c.before.before.requires.1)

pub returns : goal.returns
returns c = put_from _ _ _ _ _ _ c.write_plan-n.ensures _ _ _ _ _ c.write_words.ensures
