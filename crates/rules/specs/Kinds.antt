-- RULES.md 2.8: which kinds of request there are.
use Rattle.std.specs.Prelude.{ℕ, cond, eqb, Option, Some, None}
use Rattle.rules.specs.declared.Kind.{Kind}
use Rattle.rules.specs.declared.Kind.TheVariants.{Move, Arm, Disarm, Sleep}

-- the kind of a number, if there is one
unfoldable pub kind_of : ℕ → Option Kind
kind_of n =
    cond (eqb n 1) (Some Move) (cond (eqb n 2) (Some Arm) (cond (eqb n 3) (Some Disarm) (cond (eqb n 4) (Some Sleep) None)))
