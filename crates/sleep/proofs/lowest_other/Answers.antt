use mathlib.Core.Path.{refl}
use Rattle.std.proofs.Common.{rules}
use Rattle.status.proofs.Keeps.{entry_ready}
use Rattle.request.proofs.Find.{find_below}
use Rattle.sleep.proofs.lowest_other.Goals as goal

pub returns : goal.returns
returns c =
    find_below _ _ _ _ _ _ c.find.ensures.ran c.devices-n.ensures.0
    (λ x b q k. (search rules, λ a l. let own = entry_ready c.args.table.now c.args.devices.now x _ c.requires l refl in search rules))
    refl
