use Rattle.planner.proofs.OneMove.{put_length, put_room, put_from}
use Rattle.planner.proofs.Room.{words_65, bytes_room}
use Rattle.planner.proofs.Choices.{offs_room}
use borrow.Author.Rules.{rules}
use Rattle.planner.proofs.element.U8Element.write_bring_up.Goals as goal

pub slice_bounds-calls-end : goal.slice_bounds-calls-end
slice_bounds-calls-end c =
    words_65 _ _ _ (offs_room _ _ c.requires.0) _ _ _ _ c.write_bring_up-n.ensures (search rules)

pub slice_bounds-write_words-end : goal.slice_bounds-write_words-end
slice_bounds-write_words-end c = put_length _ _ _ _ _ _ c.write_bring_up-n.ensures

pub write_words-requires : goal.write_words-requires
write_words-requires c =
    put_room _ _ _ _ _ _ c.write_bring_up-n.ensures _ _ _ (bytes_room _ _ (offs_room _ _ c.before.before.requires.0) _ c.before.before.requires.1)

pub returns : goal.returns
returns c = put_from _ _ _ _ _ _ c.write_bring_up-n.ensures _ _ _ _ _ c.write_words.ensures
