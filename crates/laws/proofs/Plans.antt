-- The planner by the kind of its request: sleep entry, or what planner and checker have in common.
use mathlib.Core.Path.{◌≡◌, refl}
use mathlib.Core.Bool.{true, false}
use mathlib.Core.List.{List}
use Prim.Native.Nat.{ℕ, ◌*◌}
use lib.Dec.{leb}
use lib.ListN.{length}
use Rattle.words.specs.Words.{word_bytes}
use Rattle.rules.specs.declared.Request.{Request}
use Rattle.rules.specs.Station.{width, limit}
use Rattle.rules.specs.Sleep.{is_sleep}
use Rattle.rules.specs.Outcomes.{list_room, plan_room, stages_verdict, sleep_stages, plan_stages, planned, plan_list, state_after, plan_state}
use Rattle.rules.specs.Outcomes.{state_for_sleep, sleep_list, plan_outcome, plan_words, plan_bytes}

-- the room that sleep entry asks for
pub room_sleep : (w : ℕ) (q : Request) → is_sleep q ≡ true → plan_room w q ≡ limit w * list_room w
unfolding plan_room
room_sleep w q e = rw e refl

module _ (t b : List ℕ) (q : Request) (plan : List ℕ) where
  -- ---- kinds 1 to 3, and what is no kind
  module _ (e : is_sleep q ≡ false) where
    pub words_request : plan_words t b q plan
        ≡ plan_outcome (λ ws. ws) (stages_verdict (leb (list_room (width t)) (length plan)) t b q) b plan (state_after t b q) (planned t b q)
    unfolding plan_words plan_room plan_stages plan_state plan_list
    words_request = rw e refl

    pub bytes_request : plan_bytes t b q plan
        ≡ plan_outcome word_bytes (stages_verdict (leb (4 * list_room (width t)) (length plan)) t b q) b plan (state_after t b q) (planned t b q)
    unfolding plan_bytes plan_room plan_stages plan_state plan_list
    bytes_request = rw e refl

  -- ---- sleep entry
  module _ (e : is_sleep q ≡ true) where
    pub words_sleep : plan_words t b q plan
        ≡ plan_outcome (λ ws. ws) (sleep_stages (leb (limit (width t) * list_room (width t)) (length plan)) t b q) b plan
        (state_for_sleep t b q.a) (sleep_list t b q.a)
    unfolding plan_words plan_room plan_stages plan_state plan_list
    words_sleep = rw e refl

    pub bytes_sleep : plan_bytes t b q plan
        ≡ plan_outcome word_bytes (sleep_stages (leb (4 * (limit (width t) * list_room (width t))) (length plan)) t b q) b plan
        (state_for_sleep t b q.a) (sleep_list t b q.a)
    unfolding plan_bytes plan_room plan_stages plan_state plan_list
    bytes_sleep = rw e refl
