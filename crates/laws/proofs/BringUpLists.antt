-- What the checker of bring-up promises holds of every table, state and list: from the laws of lists and switching, with no own call and
-- the needed set as the target.
use mathlib.Core.Path.{◌≡◌, refl, ap, ◌∙◌}
use mathlib.Core.Bool.{true, false}
use mathlib.Core.List.{List, []}
use mathlib.Core.Logic.{◌↔◌}
use Prim.Native.Nat.{ℕ, ◌*◌, ◌/◌, ◌^◌, ◌<◌}
use lib.Dec.{leb}
use lib.ListN.{length, get_or, take}
use Rattle.words.specs.Words.{word_bytes, byte_words}
use Rattle.rules.specs.Answers.{number_of, count_of, passes}
use Rattle.rules.specs.Station.{width, station}
use Rattle.rules.specs.Status.{status}
use Rattle.rules.specs.Outcomes.{list_room}
use Rattle.rules.specs.BringUp.{bring_up_stages, bring_up_calls, bring_up_list, state_brought_up, bring_up_words, bring_up_bytes}
use Rattle.rules.specs.BringUp.{ConformsToBringUp, conforming_to_bring_up, check_bring_up_words, check_bring_up_bytes}
use Rattle.rules.proofs.Answers.{done_passes}
use Rattle.laws.specs.Carried.{All}
use Rattle.laws.specs.Demand3.{needed_before}
use Rattle.laws.specs.BringUp.{PassedBringUp, BringUpChecked, BringUpCheckedBytes}
use Rattle.laws.proofs.States.{nameable, needed_small, values_of}
use Rattle.laws.proofs.Stages.{BringUpPassed, bring_up_of, bring_up_pass}
use Rattle.laws.proofs.Lists.{number_passes, plan_passes, list_of_lem, list_at, bytes_words, bytes_multiple, own_words_lem, own_bytes}
use Rattle.laws.proofs.Conform.{Switchable, conforming_iff, calls_conform}
use Rattle.laws.proofs.Arrange.{all_fit, conforms_ends, conforms_fits}

-- ---- where the checks pass
module _ (t b : List ℕ) (g : BringUpPassed t b) where
  pub up_able : Switchable (station t) [] (status t b).on (needed_before t b)
  unfolding All
  up_able =
      record {
        nameable = nameable t g.table;
        start = (values_of t b g.values).on;
        end = needed_small t g.table (status t b).entries;
        other = tt;
      }

  up_iff : (ws : List ℕ) → (conforming_to_bring_up (station t) (status t b) ws ≡ true) ↔ ConformsToBringUp (station t) (status t b) ws
  up_iff = conforming_iff (station t) [] false (status t b).on (needed_before t b) up_able

  pub own_conforms : ConformsToBringUp (station t) (status t b) (bring_up_list t b)
  unfolding bring_up_list bring_up_calls
  own_conforms = calls_conform (station t) [] false (status t b).on (needed_before t b) up_able

  own_fit : (i : ℕ) → get_or (bring_up_list t b) i 0 < 2 ^ 32
  unfolding All
  own_fit =
      all_fit (bring_up_list t b)
      (conforms_fits (station t) [] false (status t b).on (needed_before t b) up_able (bring_up_list t b) own_conforms tt)

up_passed : (t b ws : List ℕ) → PassedBringUp t b ws → BringUpPassed t b × (conforming_to_bring_up (station t) (status t b) ws ≡ true)
unfolding check_bring_up_words
up_passed t b ws e = let x = list_at _ _ (number_passes _ e) in ((bring_up_of true t b x.0).0, x.1)

brought_words : (t b plan : List ℕ) → number_of (bring_up_words t b plan).verdict ≡ 0
    → PassedBringUp t b (take (count_of (bring_up_words t b plan).verdict) (bring_up_words t b plan).plan)
unfolding bring_up_words check_bring_up_words
brought_words t b plan e =
    let stages = bring_up_stages (leb (list_room (width t)) (length plan)) t b in
    let g = (bring_up_of _ t b (plan_passes (λ ws. ws) stages b plan (state_brought_up t b) (bring_up_list t b) e)).0 in
    own_words_lem stages (bring_up_stages true t b) (conforming_to_bring_up (station t) (status t b)) b plan (state_brought_up t b) (bring_up_list t b)
    (ap passes (bring_up_pass true t b g refl) ∙ done_passes 0) ((up_iff t b g _).1 (own_conforms t b g)) e

brought_bytes : (t b plan : List ℕ) → number_of (bring_up_bytes t b plan).verdict ≡ 0
    → number_of (check_bring_up_bytes t b (take (4 * count_of (bring_up_bytes t b plan).verdict) (bring_up_bytes t b plan).plan)) ≡ 0
unfolding bring_up_bytes check_bring_up_bytes
brought_bytes t b plan e =
    let stages = bring_up_stages (leb (4 * list_room (width t)) (length plan)) t b in
    let g = (bring_up_of _ t b (plan_passes word_bytes stages b plan (state_brought_up t b) (bring_up_list t b) e)).0 in
    own_bytes stages (bring_up_stages true t b) (conforming_to_bring_up (station t) (status t b)) b plan (state_brought_up t b) (bring_up_list t b)
    (ap passes (bring_up_pass true t b g refl) ∙ done_passes 0) ((up_iff t b g _).1 (own_conforms t b g)) (own_fit t b g) e

pub bring_up_checked : (t b ws : List ℕ) → BringUpChecked t b ws
bring_up_checked t b ws =
    record {
      exactly = λ e. let g = (bring_up_of true t b (number_passes _ e)).0 in (
        λ p. (up_iff t b g ws).0 (up_passed t b ws p).1,
        λ c. unfold check_bring_up_words in ap number_of
            (list_of_lem (bring_up_stages true t b) _ (number_passes _ e) ((up_iff t b g ws).1 c)),
      );
      ends = λ e. let p = up_passed t b ws e in
          conforms_ends (station t) [] false (status t b).on (needed_before t b) (up_able t b p.0) ws ((up_iff t b p.0 ws).0 p.1);
      own = brought_words t b;
    }

pub bring_up_checked_bytes : (t b list : List ℕ) → BringUpCheckedBytes t b list
unfolding check_bring_up_bytes check_bring_up_words
bring_up_checked_bytes t b list =
    let test = conforming_to_bring_up (station t) (status t b) in
    record {
      multiple = λ e. bytes_multiple (bring_up_stages true t b) test list (number_passes _ e);
      words = bytes_words (bring_up_stages true t b) test list;
      checked = bring_up_checked t b (byte_words (length list / 4) list);
      own = brought_bytes t b;
    }
