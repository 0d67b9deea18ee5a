-- Two tables that say one station with sets of two widths, and states of them that say the same: all checks give the same answers, and what
-- an accepted request, the moves of sleep entry or bring-up leave says the same again. Once for any two widths.
use mathlib.Core.Path.{◌≡◌, refl, sym, ap, ◌∙◌}
use mathlib.Core.Bool.{Bool, true, ◌&&◌, ◌||◌}
use mathlib.Core.List.{List, [], ◌∷◌}
use Prim.Native.Nat.{ℕ, ◌≤◌}
use native.Mathlib.Omega.{arith}
use borrow.Author.Tests.{eq-eqb, ltb-true, ltb-false}
use lib.Dec.{ltb}
use lib.ListN.{length}
use Rattle.sets.proofs.Laws.{decide}
use Rattle.rules.specs.declared.Entry.{Entry}
use Rattle.rules.specs.declared.Request.{Request}
use Rattle.std.specs.Prelude.{Ok}
use Rattle.rules.specs.Answers.{passes}
use Rattle.rules.specs.Index.{every}
use Rattle.rules.specs.Station.{Station, width, limit, station}
use Rattle.rules.specs.Table.{table_verdict}
use Rattle.rules.specs.Status.{Status, no_entry, image_size, status, entry_good, entry_zero, entries_good, values_good, image_good, values_verdict}
use Rattle.rules.specs.Status.{image_of, fresh_status, state_verdict}
use Rattle.rules.specs.Outcomes.{ready_verdict, request_stage, stages_verdict, sleep_stage, sleep_stages, planned, state_after, planned_each}
use Rattle.rules.specs.Outcomes.{state_after_each}
use Rattle.rules.specs.BringUp.{state_but_power_verdict, bring_up_stages, bring_up_list, state_brought_up}
use Rattle.rules.proofs.Index.{every_at, every_of_lem}
use Rattle.rules.proofs.Answers.{done_passes}
use Rattle.laws.specs.Sleep.{InTurn}
use Rattle.laws.proofs.Tests.{or_right}
use Rattle.laws.proofs.Every.{same_test}
use Rattle.laws.proofs.Image.{image_length}
use Rattle.laws.proofs.States.{fresh_reads, entries_out, after_reads}
use Rattle.laws.proofs.Stages.{stages_of, bring_up_of}
use Rattle.laws.proofs.Lists.{number_passes}
use Rattle.laws.proofs.BringUp.{up_reads}

-- ---- what holds of all from n on need be asked below n only
every_wider : (f : ℕ → Bool) (n m : ℕ) → n ≤ m → ((i : ℕ) → n ≤ i → f i ≡ true) → every f n ≡ every f m
every_wider f n m l h =
    same_test (every f n) (every f m)
    (λ e. every_of_lem f m (λ i u. decide (ltb i n) (λ z. every_at f n i e (ltb-true i n z)) (λ z. h i (ltb-false i n z))))
    (λ e. every_of_lem f n (λ i u. every_at f m i e (omega arith)))

-- so of entries: where they stand for nothing from n on
entries_wider : (s : Station) (entries : ℕ → Entry) (n m : ℕ) → n ≤ m → ((k : ℕ) → n ≤ k → entries k ≡ no_entry)
    → entries_good n s entries ≡ entries_good m s entries
unfolding entries_good entry_good entry_zero
entries_wider s entries n m l out =
    every_wider (λ k. entry_good (entries k) && (ltb k s.devices || entry_zero (entries k))) n m l
    (λ k h. rw (out k h) (or_right (ltb k s.devices) true refl))

-- ---- two good tables of one station
pub record OneStation (t₁ t₂ : List ℕ) : Type 0 where
  pub first : table_verdict t₁ ≡ Ok 0
  pub second : table_verdict t₂ ≡ Ok 0
  pub station : station t₁ ≡ station t₂
  pub wider : width t₁ ≤ width t₂

-- two states of them, each of its size, that say the same
pub record OneStatus (t₁ t₂ b₁ b₂ : List ℕ) : Type 0 where
  pub first : length b₁ ≡ image_size (width t₁)
  pub second : length b₂ ≡ image_size (width t₂)
  pub says : status t₁ b₁ ≡ status t₂ b₂

module _ (t₁ t₂ : List ℕ) (s : OneStation t₁ t₂) where
  first_passes : passes (table_verdict t₁) ≡ true
  first_passes = ap passes s.first ∙ done_passes 0

  second_passes : passes (table_verdict t₂) ≡ true
  second_passes = ap passes s.second ∙ done_passes 0

  -- ---- the checks
  module _ (b₁ b₂ : List ℕ) (z : OneStatus t₁ t₂ b₁ b₂) where
    -- 7: an entry that the first image has no place for stands for nothing
    same_values : values_verdict t₁ b₁ ≡ values_verdict t₂ b₂
    unfolding values_verdict image_good values_good
    same_values =
        let entries = entries_wider (station t₂) (status t₂ b₂).entries (limit (width t₁)) (limit (width t₂)) (omega (arith, s.wider))
        (λ k h. ap (λ (st : Status). st.entries k) (sym z.says) ∙ entries_out (width t₁) b₁ k h) in
        rw (eq-eqb _ _ z.first, eq-eqb _ _ z.second, s.station, z.says, entries) refl

    -- 7 and 8
    same_state : state_verdict t₁ b₁ ≡ state_verdict t₂ b₂
    unfolding state_verdict
    same_state = rw (same_values, s.station, z.says) refl

    -- 1 to 9
    same_ready : (room : Bool) → ready_verdict room t₁ b₁ ≡ ready_verdict room t₂ b₂
    unfolding ready_verdict
    same_ready room = rw (s.first, s.second, same_state) refl

    -- of a request of kinds 1 to 3, of sleep entry, and of bring-up
    pub same_stages : (room : Bool) (q : Request) → stages_verdict room t₁ b₁ q ≡ stages_verdict room t₂ b₂ q
    unfolding stages_verdict request_stage
    same_stages room q = rw (same_ready room, s.station, z.says) refl

    pub same_sleep_stages : (room : Bool) (q : Request) → sleep_stages room t₁ b₁ q ≡ sleep_stages room t₂ b₂ q
    unfolding sleep_stages sleep_stage
    same_sleep_stages room q = rw (same_ready room, s.station, z.says) refl

    pub same_bring_up : (room : Bool) → bring_up_stages room t₁ b₁ ≡ bring_up_stages room t₂ b₂
    unfolding bring_up_stages state_but_power_verdict
    same_bring_up room = rw (s.first, s.second, same_values, s.station, z.says) refl

    -- ---- the lists of calls
    pub same_planned : (q : Request) → planned t₁ b₁ q ≡ planned t₂ b₂ q
    unfolding planned
    same_planned q = rw (s.station, z.says) refl

    pub same_bring_up_list : bring_up_list t₁ b₁ ≡ bring_up_list t₂ b₂
    unfolding bring_up_list
    same_bring_up_list = rw (s.station, z.says) refl

  -- ---- the states afterwards: images that read back as one status
  images : (st₁ st₂ : Status) → status t₁ (image_of (width t₁) st₁) ≡ st₁ → status t₂ (image_of (width t₂) st₂) ≡ st₂ → st₁ ≡ st₂
      → OneStatus t₁ t₂ (image_of (width t₁) st₁) (image_of (width t₂) st₂)
  images st₁ st₂ e f g =
      record { first = image_length (width t₁) st₁; second = image_length (width t₂) st₂; says = e ∙ g ∙ sym f }

  -- fresh ones
  pub same_fresh : OneStatus t₁ t₂ (image_of (width t₁) (fresh_status (station t₁))) (image_of (width t₂) (fresh_status (station t₂)))
  same_fresh = images _ _ (fresh_reads t₁ first_passes) (fresh_reads t₂ second_passes) (ap fresh_status s.station)

  module _ (b₁ b₂ : List ℕ) (z : OneStatus t₁ t₂ b₁ b₂) where
    -- after a request that is permitted
    pub same_after : (q : Request) → passes (stages_verdict true t₁ b₁ q) ≡ true
        → OneStatus t₁ t₂ (state_after t₁ b₁ q) (state_after t₂ b₂ q)
    unfolding state_after
    same_after q e =
        let g = stages_of true t₁ b₁ q e in
        let h = stages_of true t₂ b₂ q (sym (ap passes (same_stages b₁ b₂ z true q)) ∙ e) in
        images _ _ (after_reads t₁ b₁ q g.table g.state g.request) (after_reads t₂ b₂ q h.table h.state h.request)
        (rw (s.station, z.says) refl)

    -- after bring-up
    pub same_brought_up : passes (bring_up_stages true t₁ b₁) ≡ true → OneStatus t₁ t₂ (state_brought_up t₁ b₁) (state_brought_up t₂ b₂)
    unfolding state_brought_up
    same_brought_up e =
        let g = (bring_up_of true t₁ b₁ e).0 in
        let h = (bring_up_of true t₂ b₂ (sym (ap passes (same_bring_up b₁ b₂ z true)) ∙ e)).0 in
        images _ _ (up_reads t₁ b₁ g) (up_reads t₂ b₂ h) (rw (s.station, z.says) refl)

  -- requests of which each is permitted in its turn with the first table: the same lists, and states that say the same
  pub same_each : (qs : List Request) (b₁ b₂ words b' : List ℕ) → OneStatus t₁ t₂ b₁ b₂ → InTurn t₁ b₁ qs words b'
      → (planned_each t₁ b₁ qs ≡ planned_each t₂ b₂ qs) × OneStatus t₁ t₂ (state_after_each t₁ b₁ qs) (state_after_each t₂ b₂ qs)
  unfolding InTurn planned_each state_after_each
  same_each [] b₁ b₂ words b' z i = (refl, z)
  same_each (q ∷ qs) b₁ b₂ words b' z i =
      let after = same_after b₁ b₂ z q (number_passes _ i.1.0.permitted) in
      let rest = same_each qs (state_after t₁ b₁ q) (state_after t₂ b₂ q) i.0 b' after i.1.1 in
      (rw (same_planned b₁ b₂ z q, rest.0) refl, rest.1)
