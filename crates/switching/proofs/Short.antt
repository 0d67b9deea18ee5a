-- A list that conforms, and the list that is planned, fits a plan: at most a word for each resource, and the own call.
use mathlib.Core.Path.{◌≡◌}
use mathlib.Core.Bool.{true, false}
use mathlib.Core.List.{List, []}
use Prim.Native.Nat.{ℕ, ◌≤◌}
use native.Mathlib.Omega.{arith}
use lib.ListN.{length}
use Rattle.rules.specs.declared.Request.{Request}
use Rattle.rules.specs.Answers.{passes}
use Rattle.rules.specs.Station.{width, limit, station_of, station}
use Rattle.rules.specs.Table.{table_verdict}
use Rattle.rules.specs.Status.{status}
use Rattle.rules.specs.Calls.{own_call, own_calls, own_last}
use Rattle.rules.specs.Check.{conforming_to}
use Rattle.rules.specs.Outcomes.{list_room, planned}
use Rattle.rules.specs.BringUp.{bring_up_list, conforming_to_bring_up}
use Rattle.laws.specs.Demand3.{needed_before, needed_after}
use Rattle.laws.proofs.Accepted.{accepted}
use Rattle.laws.proofs.Stages.{Stages, BringUpPassed}
use Rattle.laws.proofs.Conform.{conforming_at}
use Rattle.laws.proofs.Demand3.{able, planner_conforms}
use Rattle.laws.proofs.BringUpLists.{up_able, own_conforms}
use Rattle.switching.proofs.Run.{own_long}
use Rattle.switching.proofs.Long.{conforms_long}

few : (t : List ℕ) → passes (table_verdict t) ≡ true → (station t).resources ≤ limit (width t)
unfolding station_of
few t e = (accepted t e).resources

module _ (t b : List ℕ) (q : Request) (g : Stages t b q) where
  own_one : length (own_calls (station t) (status t b) q) ≤ 1
  own_one = own_long (own_call (station t) ((status t b).entries q.device) q)

  pub list_short : (ws : List ℕ) → conforming_to (station t) (status t b) q ws ≡ true → length ws ≤ list_room (width t)
  list_short ws e =
      let own = own_calls (station t) (status t b) q in
      let l = conforms_long (station t) own (own_last q) (status t b).on (needed_after t b q) (able t b q g) ws
      (conforming_at (station t) own (own_last q) (status t b).on (needed_after t b q) ws e) in
      omega (arith, few t g.table, own_one)

  pub planned_short : length (planned t b q) ≤ list_room (width t)
  planned_short =
      let l = conforms_long (station t) (own_calls (station t) (status t b) q) (own_last q) (status t b).on (needed_after t b q)
      (able t b q g)
      (planned t b q) (planner_conforms t b q g) in
      omega (arith, few t g.table, own_one)

module _ (t b : List ℕ) (g : BringUpPassed t b) where
  pub up_list_short : (ws : List ℕ) → conforming_to_bring_up (station t) (status t b) ws ≡ true → length ws ≤ list_room (width t)
  up_list_short ws e =
      let l = conforms_long (station t) [] false (status t b).on (needed_before t b) (up_able t b g) ws
      (conforming_at (station t) [] false (status t b).on (needed_before t b) ws e) in
      omega (arith, few t g.table)

  pub up_short : length (bring_up_list t b) ≤ list_room (width t)
  up_short =
      let l = conforms_long (station t) [] false (status t b).on (needed_before t b) (up_able t b g)
      (bring_up_list t b) (own_conforms t b g) in
      omega (arith, few t g.table)
