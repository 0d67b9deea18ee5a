use mathlib.Core.Path.{refl}
use Rattle.std.proofs.Common.{rules}
use Rattle.rules.specs.Sleep.{least_state}
use Rattle.request.proofs.Find.{find_or_end}
use Rattle.sleep.proofs.Choosing.{none_shallower, taken_by}
use Rattle.sleep.proofs.choice.least_state.Goals as goal

pub returns : goal.returns
unfolding least_state
returns c =
    let r = c.requires in
    let z = c.device-device.ensures in
    let least = rw (z.table, z.number) at c.shallowest-least.ensures in
    find_or_end _ _ _ _ _ _ c.find.ensures.ran refl
    (λ x b q k. (search rules, λ a l. taken_by _ _ _ _ _ r.0 r.1 _ c.entry-e.ensures _ least x b (rw (← z.table, ← z.number) (search rules)) a))
    (none_shallower _ _ _ _ _ r.0 r.1 _ c.entry-e.ensures _ least) _ c.unwrap_or.ensures
