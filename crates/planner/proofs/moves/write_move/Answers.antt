use Rattle.planner.proofs.OneMove.{one_move, turn_sized, turn_long, turn_limit, move_asked, switched_first, move_sets, move_switches, move_some}
use borrow.Author.Rules.{rules}
use Rattle.planner.proofs.moves.write_move.Goals as goal

pub stays-requires : goal.stays-requires
stays-requires c = search (rules, one_move)

pub returns-then-stays : goal.returns-then-stays
returns-then-stays c = search (rules, one_move)

pub overflow_cast-q : goal.overflow_cast-q
overflow_cast-q c = search (rules, one_move)

pub entry-e-requires : goal.entry-e-requires
entry-e-requires c = search (rules, one_move)

-- A device that stays leaves all as it is; another has the list of its request. The values are too many for a search: each is named by the
-- call that gave it, from the last one back.
pub own_call-own-requires : goal.own_call-own-requires
own_call-own-requires c =
    let asked = move_asked _ _ _ _ _ c.stays.ensures c.if-stays.false _ c.from.ensures c.requires.0 in
    (asked.ready.sized, asked.device, asked.first, asked.second)

pub on_set-on-requires : goal.on_set-on-requires
on_set-on-requires c = search (rules, one_move)

pub switching-c-requires : goal.switching-c-requires
switching-c-requires c =
    move_sets _ _ c.args.chosen.now _ _ c.stays.ensures c.if-stays.false _ c.from.ensures _ _ c.requires.0
    c.on_set-on.ensures c.requires.2

pub write_own_first-n-requires : goal.write_own_first-n-requires
write_own_first-n-requires c = (
  search (rules, one_move),
  move_switches _ _ c.args.chosen.now _ _ c.stays.ensures c.if-stays.false _ c.from.ensures c.requires.0
      _ _ _ _ _ c.on_set-on.ensures c.entry-e.ensures c.own_call-own.ensures c.switching-c.ensures c.requires.2,
  search rules,
  switched_first _ _ _ _ c.switching-c.ensures,
)

pub set_state-requires : goal.set_state-requires
set_state-requires c =
    let turn = c.before.before.before.requires.0 in
    (turn_sized _ _ _ _ turn, turn_long _ _ _ _ turn, turn_limit _ _ _ _ turn)

pub returns : goal.returns
returns c =
    move_some _ _ c.args.chosen.now _ _ c.stays.ensures c.if-stays.false _ c.from.ensures c.requires.0
    _ _ _ _ _ c.on_set-on.ensures c.entry-e.ensures c.own_call-own.ensures c.switching-c.ensures c.requires.2
    _ _ _ _ c.write_own_first-n.ensures.0 c.write_own_first-n.ensures.1 c.set_state.ensures
