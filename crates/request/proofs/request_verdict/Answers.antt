use Rattle.std.proofs.Common.{rules}
use Rattle.rules.specs.Kinds.{kind_of}
use Rattle.rules.specs.Answers.{passes, first_of, unless}
use Rattle.rules.specs.Request.{request_verdict, kind_verdict}
use Rattle.request.proofs.Rules.{asking, in_range}
use Rattle.request.proofs.request_verdict.Goals as goal

pub returns-in_default : goal.returns-in_default
unfolding request_verdict kind_verdict first_of unless passes kind_of
returns-in_default c = search rules

pub returns-in_default-2 : goal.returns-in_default-2
unfolding request_verdict kind_verdict first_of unless passes kind_of
returns-in_default-2 c = search rules

pub returns-then-not-form_good : goal.returns-then-not-form_good
unfolding request_verdict first_of unless passes
returns-then-not-form_good c = search rules

pub overflow_cast-q : goal.overflow_cast-q
overflow_cast-q c = search in_range

pub move_verdict-requires : goal.move_verdict-requires
move_verdict-requires c = search in_range

pub overflow_cast-q-in-Some-Arm : goal.overflow_cast-q-in-Some-Arm
overflow_cast-q-in-Some-Arm c = search in_range

pub overflow_cast-q-in-Some-Arm-2 : goal.overflow_cast-q-in-Some-Arm-2
overflow_cast-q-in-Some-Arm-2 c = search in_range

pub arm_verdict-requires : goal.arm_verdict-requires
arm_verdict-requires c = search in_range

pub returns-in-Some-Move : goal.returns-in-Some-Move
unfolding kind_of
returns-in-Some-Move c = search (rules, asking)

pub returns-in-Some-Arm : goal.returns-in-Some-Arm
unfolding kind_of
returns-in-Some-Arm c = search (rules, asking)
