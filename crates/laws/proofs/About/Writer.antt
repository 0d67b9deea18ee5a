-- The conclusions from the inverse laws.
use Prim.Native.Nat.{ℕ}
use mathlib.Core.Path.{◌≡◌, refl, sym, ap, ◌∙◌}
use mathlib.Core.List.{List, ◌++◌}
use mathlib.Core.Logic.{⊎_elim}
use Rattle.std.proofs.Math.Nat.{lt_of_not-le}
use native.Mathlib.Nat.{zero-add}
use native.Mathlib.Omega.{arith}
use borrow.Author.Tests.{le-leb}
use lib.ListN.{length, take, drop, length-append}
use Rattle.words.specs.Words.{put}
use Rattle.words.proofs.Put.{take_put}
use Rattle.rules.specs.Answers.{number_of, count_of}
use Rattle.rules.specs.Station.{version_good}
use Rattle.rules.specs.Write.{described_counts_good, Written, Described}
use Rattle.laws.specs.Inverse.{Makes, Representable}
use Rattle.laws.specs.About.Writer.{WholeLists, FromDescribes, FromMakes, FromWrittenDescribes, FromDescribedMakes, FromSameVerdict}
use Rattle.laws.specs.About.Writer.{FromAnswersAsReader}

-- at the front of a buffer
put_front : (a l : List ℕ) → put a 0 l ≡ l ++ drop (length l) a
unfolding put
put_front a l = ap (λ (k : ℕ). l ++ drop k a) (zero-add (length l))

pub from_describes : FromDescribes
from_describes t rs ds x a b l u =
    let e = x a b l u in
    record {
      refused = λ k n. omega (arith, ap (λ (o : Described). number_of o.verdict) e);
      miscounted = λ no. no (ap (λ (o : Described). count_of o.verdict) e);
      resources = ap (λ (o : Described). o.resources) e ∙ put_front a rs;
      devices = ap (λ (o : Described). o.devices) e ∙ put_front b ds;
    }

one_table : (version : ℕ) (rs ds t t' : List ℕ) → Makes version rs ds t → Makes version rs ds t' → t' ≡ t
one_table version rs ds t t' x y =
    let a = t ++ t' in
    let long = length-append t t' in
    let same = sym (y a (omega arith)) ∙ x a (omega arith) in
    let n : length t' ≡ length t = ap (λ (o : Written). count_of o.verdict) same in
    sym (take_put a t' (length t) n) ∙ ap (λ (o : Written). take (length t) o.table) same ∙ take_put a t (length t) refl

pub from_makes : FromMakes
from_makes version rs ds t x = (
  λ a l. let e = x a l in record {
    refused = λ k n. omega (arith, ap (λ (o : Written). number_of o.verdict) e);
    miscounted = λ no. no (ap (λ (o : Written). count_of o.verdict) e);
    table = ap (λ (o : Written). o.table) e ∙ put_front a t;
  },
  λ t' y no. no (one_table version rs ds t t' x y),
)

pub from_written_describes : FromWrittenDescribes
from_written_describes rs ds number count table x e = from_describes (take count table) rs ds (x e)

pub from_described_makes : FromDescribedMakes
from_described_makes t number rs ds x e = (
  (from_makes _ _ _ t (x e)).0,
  λ t' rs' ds' y version resources devices. (from_makes _ _ _ t (x e)).1 t' (rw (version, resources, devices) (y refl)),
)

representable : (version : ℕ) (rs ds : List ℕ) → WholeLists version rs ds → Representable version rs ds
unfolding version_good described_counts_good
representable version rs ds x =
    record {
      known = ⊎_elim (λ e. rw e refl) (λ e. rw e refl) x.known;
      resources = omega (arith, x.whole_resources);
      devices = omega (arith, x.whole_devices);
      counts = rw (le-leb _ _ x.resources, le-leb _ _ x.devices) refl;
      sets = x.sets;
    }

pub from_same_verdict : FromSameVerdict
from_same_verdict version rs ds x whole v e other = other (x (representable version rs ds whole) ∙ e)

pub from_answers_as_reader : FromAnswersAsReader
from_answers_as_reader version rs ds room number place x whole = (
  λ no. lt_of_not-le (λ l. no (x (representable version rs ds whole) l).0),
  λ no. lt_of_not-le (λ l. no (x (representable version rs ds whole) l).1),
)
