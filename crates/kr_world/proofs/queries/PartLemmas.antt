-- What a client is told of the pairs of its query.
use Rattle.std.proofs.Common.{◌≡◌, ℕ, ◌≤◌, Bool, true, false, cond, ◌&&◌, eqb, List, length, take, refl, sym, ap, arith}
use Rattle.std.specs.Prelude.{Some, slice_get}
use Rattle.std.proofs.lemmas.Bool.{eqb-true, and_parts}
use Rattle.std.proofs.lemmas.List.{length-take-le}
use Rattle.kr_order.specs.declared.ids.EventId.{EventId}
use Rattle.kr_order.specs.declared.answer.Answer.{Answer}
use Rattle.kr_order.specs.declared.answer.Answer.TheVariants.{Before, After, Same, Concurrent, Unknown, Unsure}
use Rattle.kr_order.specs.declared.answer.ToldPart.{ToldPart}
use Rattle.kr_order.specs.declared.history.Entry.{Entry}
use Rattle.kr_order.specs.Prefix.{IsPrefix}
use Rattle.kr_order.specs.Order.{reach}
use Rattle.kr_order.specs.Pairs.{pairs_of, IsBefore}
use Rattle.kr_order.specs.References.{IsLive}
use Rattle.kr_order.specs.Agreed.{is_live, both_live, agreed_of}
use Rattle.kr_order.specs.Answer.{answer_to}
use Rattle.kr_order.proofs.PrefixLemmas.{IsPrefix-trans, IsPrefix-take, shorter_front}
use Rattle.kr_order.proofs.OrderLemmas.{never_back}
use Rattle.kr_order.proofs.HistoryLemmas.{is_live-true}
use Rattle.kr_order.proofs.PairsLemmas.{order_grows, order_acyclic, answer_to-before, answer_to-after}
use Rattle.kr_world.specs.Step.{Part}
use Rattle.kr_world.specs.Run.{Turn}
use Rattle.kr_world.specs.Lawful.{StaysBefore, KeepsBefore, IsSameLive, IsPartTrue, seen_by, history_after}
use Rattle.kr_world.specs.Facts.{IsToldPart}

-- what is answered of the same event
only_same : (live same ab ba : Bool)
    → cond live (cond same Same (cond ab Before (cond ba After Concurrent))) Unknown ≡ Same → (live && same) ≡ true
only_same true true ab ba is = refl
only_same true false true ba is = cc
only_same true false false true is = cc
only_same true false false false is = cc
only_same false same ab ba is = cc

same_event : (a b : EventId) → a.0 ≡ b.0 → a ≡ b
same_event a b is = let id : ℕ → EventId = λ n. record { 0 = n } in ap id is

answer_to-same : (history : List Entry) (a b : EventId) → answer_to history a.0 b.0 ≡ Same
    → (a ≡ b) × IsLive history a.0
answer_to-same history a b is =
    let agreed = agreed_of history in
    let both = and_parts (both_live agreed a.0 b.0) (eqb a.0 b.0) (only_same (both_live agreed a.0 b.0) (eqb a.0 b.0) (reach (pairs_of history) a.0 b.0) (reach (pairs_of history) b.0 a.0) is) in
    let live = and_parts (is_live agreed a.0) (is_live agreed b.0) both.0 in
    (same_event a b (eqb-true a.0 b.0 both.1), (is_live-true history a.0).0 live.0)

-- a path after an entry is there after each later entry, and never the other way round
path_stays : (history longer : List Entry) (a b : EventId) → reach (pairs_of history) a.0 b.0 ≡ true
    → IsPrefix history longer → IsBefore longer a.0 b.0
path_stays history longer a b path front =
    let now = (order_grows history longer front).before a.0 b.0 path in
    record { before = now; never_back = never_back (pairs_of longer) a.0 b.0 (order_acyclic longer) now }

-- the history after an entry is a front of that after a later one
front_stays : (history longer : List Entry) (n m : ℕ) → IsPrefix history longer → n ≤ length history → n ≤ m
    → m ≤ length longer → IsPrefix (take n history) (take m longer)
front_stays history longer n m front within le within_later =
    let short : length (take n history) ≡ n = length-take-le n history within in
    let long : length (take m longer) ≡ m = length-take-le m longer within_later in
    shorter_front (take n history) (take m longer) longer (IsPrefix-trans (take n history) history longer (IsPrefix-take n history) front) (IsPrefix-take m longer) (omega arith)

-- the histories after later steps begin with this one
pub record IsPassedOn (run : List Turn) (i : ℕ) (history : List Entry) : Type 0 where
  pub grows : (j : ℕ) (later : Turn) → i ≤ j → slice_get run j ≡ Some later → IsPrefix history (history_after later)

stays_before : (run : List Turn) (i : ℕ) (history : List Entry) (n : ℕ) (a b : EventId) → IsPassedOn run i history
    → n ≤ length history → reach (pairs_of (take n history)) a.0 b.0 ≡ true → StaysBefore run i n a b
stays_before run i history n a b on within path j later le is m more within_later =
    path_stays (take n history) (take m (history_after later)) a b path (front_stays history (history_after later) n m (on.grows j later le is) within more within_later)

keeps_before : (run : List Turn) (i : ℕ) (history : List Entry) (part : ToldPart) (answer : Answer)
    → IsPassedOn run i history → part.entry ≤ length history
    → answer_to (take part.entry history) part.a.0 part.b.0 ≡ answer → KeepsBefore run i part answer
keeps_before run i history part Before on within is =
    stays_before run i history part.entry part.a part.b on within (answer_to-before (take part.entry history) part.a.0 part.b.0 is)
keeps_before run i history part After on within is =
    stays_before run i history part.entry part.b part.a on within (answer_to-after (take part.entry history) part.a.0 part.b.0 is)
keeps_before run i history part Same on within is = tt
keeps_before run i history part Concurrent on within is = tt
keeps_before run i history part Unknown on within is = tt
keeps_before run i history part Unsure on within is = tt

is_same_live : (history : List Entry) (part : ToldPart) (answer : Answer)
    → answer_to (take part.entry history) part.a.0 part.b.0 ≡ answer → IsSameLive history part answer
is_same_live history part Before is = tt
is_same_live history part After is = tt
is_same_live history part Same is = answer_to-same (take part.entry history) part.a part.b is
is_same_live history part Concurrent is = tt
is_same_live history part Unknown is = tt
is_same_live history part Unsure is = tt

-- a part that is told is true
pub part_true : (run : List Turn) (i : ℕ) (turn : Turn) (part : Part) → IsPassedOn run i (history_after turn)
    → IsToldPart (history_after turn) (seen_by turn part.client) part.part → IsPartTrue run i turn part
part_true run i turn part on told =
    let history = history_after turn in
    let answer = part.part.answer in
    record {
      within = told.within;
      answer = told.answer;
      before_holds = keeps_before run i history part.part answer on told.within (sym told.answer);
      current = told.current;
      same_is_live = is_same_live history part.part answer (sym told.answer);
    }
