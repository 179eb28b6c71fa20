-- Replies that can be spelt.
use Rattle.std.proofs.Common.{◌≡◌, ℕ, ◌+◌, ◌-◌, ◌^◌, ◌<◌, ◌≤◌, Bool, true, false, cond, ◌&&◌, eqb, ltb, List, [], ◌∷◌, ◌++◌, length, refl, arith}
use Rattle.std.specs.Prelude.{Option, None, Some, not, fold, position, All}
use Rattle.std.specs.List.{position_or_len}
use Rattle.std.proofs.lemmas.Bool.{ltb-true}
use Rattle.std.proofs.lemmas.List.{length-append}
use Rattle.std.proofs.lemmas.List.Elements.{All-nil, All-cons, All-head, All-tail}
use Rattle.std.proofs.lemmas.List.Sums.{sum_by-cons}
use Rattle.kr_order.specs.declared.batch.Pair.{Pair}
use Rattle.kr_order.specs.declared.batch.Outcome.{Outcome}
use Rattle.kr_order.specs.declared.history.Command.{Command}
use Rattle.kr_order.specs.declared.history.Command.TheVariants.{Create, Assign, Acquire, Release}
use Rattle.kr_order.specs.declared.history.Entry.{Entry}
use Rattle.kr_order.specs.declared.history.DoneEntry.{DoneEntry}
use Rattle.kr_order.specs.declared.history.Reply.TheVariants.{Count, Unknown}
use Rattle.kr_order.specs.History.{births_of, born_in}
use Rattle.kr_order.specs.Batch.{is_must, forbids, with_must, with_prefer, contradicts_from, contradicts, outcomes_from, musts_from, outcomes_of}
use Rattle.kr_order.specs.Agreed.{Agreed, nothing_agreed, both_live, first_unknown, count_after, after, agreed_of}
use Rattle.kr_order.specs.References.{count_in}
use Rattle.kr_order.specs.Reply.{checked_reply, known_reply, count_reply, reply_to}
use Rattle.kr_order.specs.Done.{done_after, done_from}
use Rattle.kr_wire.specs.Valid.{AreItems, IsPair, IsOutcome, IsCommand, IsEntry, IsReply, IsPlaced}

-- no more events are made than there are entries
births_few : (command : Command) → births_of command ≤ 1
births_few Create = omega arith
births_few (Assign batch) = omega arith
births_few (Acquire event) = omega arith
births_few (Release event) = omega arith

born_few : (history : List Entry) → born_in history ≤ length history
born_few [] = omega arith
born_few (entry ∷ more) =
    omega (arith, sum_by-cons (λ e. births_of e.command) entry more, births_few entry.command, born_few more)

-- nor has an event more references
count_more : (command : Command) (born event count : ℕ) → count_after command born event count ≤ count + 1
count_more Create born event count = by_test (eqb event (born + 1))
  where
    by_test : (test : Bool) → cond test 1 count ≤ count + 1
    by_test true = omega arith
    by_test false = omega arith
count_more (Assign batch) born event count = omega arith
count_more (Acquire target) born event count = by_test (eqb event target.0 && ltb 0 count)
  where
    by_test : (test : Bool) → cond test (count + 1) count ≤ count + 1
    by_test true = omega arith
    by_test false = omega arith
count_more (Release target) born event count = by_test (eqb event target.0)
  where
    by_test : (test : Bool) → cond test (count - 1) count ≤ count + 1
    by_test true = omega arith
    by_test false = omega arith

count_from : (agreed : Agreed) (history : List Entry) (event : ℕ)
    → (fold after agreed history).count event ≤ agreed.count event + length history
count_from agreed [] event = omega arith
count_from agreed (entry ∷ more) event =
    let rest = count_from (after agreed entry) more event in
    let one = count_more entry.command agreed.born event (agreed.count event) in
    omega arith

count_few : (history : List Entry) (event : ℕ) → count_in history event ≤ length history
count_few history event =
    let all = count_from nothing_agreed history event in omega arith

-- an index, where there is one, that is below a number
abbrev IsWithin : ℕ → Option ℕ → Type 0
IsWithin n None = Unit {0}
IsWithin n (Some i) = i < n

within_more : (m n : ℕ) (index : Option ℕ) → m ≤ n → IsWithin m index → IsWithin n index
within_more m n None le is = tt
within_more m n (Some i) le is = omega arith

contradicts_within : (i n : ℕ) (order : List (ℕ × ℕ)) (batch : List Pair) → i + length batch ≤ n
    → IsWithin n (contradicts_from i order batch)
contradicts_within i n order [] le = tt
contradicts_within i n order (pair ∷ more) le =
    by_test (is_must pair.kind && forbids order pair) (contradicts_within (i + 1) n (with_must order pair) more (omega arith))
  where
    by_test : (test : Bool) → IsWithin n (contradicts_from (i + 1) (with_must order pair) more)
        → IsWithin n (cond test (Some i) (contradicts_from (i + 1) (with_must order pair) more))
    by_test true rest = omega arith
    by_test false rest = rest

position_within : {X : Type 0} (p : X → Bool) (xs : List X) → IsWithin (length xs) (position p xs)
position_within p xs = by_test (ltb (position_or_len p xs) (length xs)) refl
  where
    by_test : (test : Bool) → ltb (position_or_len p xs) (length xs) ≡ test
        → IsWithin (length xs) (cond test (Some (position_or_len p xs)) None)
    by_test true is = ltb-true (position_or_len p xs) (length xs) is
    by_test false is = tt

-- there is an outcome for each pair
outcomes_long : (order : List (ℕ × ℕ)) (batch : List Pair) → length (outcomes_from order batch) ≡ length batch
outcomes_long order [] = refl
outcomes_long order (pair ∷ more) = omega (arith, outcomes_long (with_prefer order pair) more)

outcomes_fit : (order : List (ℕ × ℕ)) (batch : List Pair) → AreItems 0 32 IsPair batch
    → AreItems 0 32 IsOutcome (outcomes_of order batch)
outcomes_fit order batch fits =
    let most = fits.count.most in
    let long = outcomes_long (musts_from order batch) batch in
    record { count = record { least = omega arith; most = omega arith }; each = λ k d lt. tt }

batch_fits : (unknown contradicted : Option ℕ) (outcomes : List Outcome) → IsWithin 32 unknown → IsWithin 32 contradicted
    → AreItems 0 32 IsOutcome outcomes
    → IsReply (known_reply unknown (checked_reply contradicted outcomes))
batch_fits (Some i) contradicted outcomes few few' fit = omega arith
batch_fits None (Some i) outcomes few few' fit = omega arith
batch_fits None None outcomes few few' fit = fit

count_fits : (before now : ℕ) → now < 2 ^ 64 → IsReply (count_reply before now)
count_fits before now lt = by_test (ltb 0 before)
  where
    by_test : (test : Bool) → IsReply (cond test (Count now) (Unknown 0))
    by_test true = lt
    by_test false = omega arith

pub reply_fits : (history : List Entry) (command : Command) → length history + 1 < 2 ^ 64 → IsCommand command
    → IsReply (reply_to history command)
reply_fits history Create room fits =
    let few = born_few history in record { above = omega arith; fits = omega arith }
reply_fits history (Assign batch) room fits =
    let agreed = agreed_of history in
    let most = fits.count.most in
    let unknown = position_within (λ (pair : Pair). not (both_live agreed pair.first.0 pair.second.0)) batch in
    batch_fits (first_unknown agreed batch) (contradicts agreed.pairs batch) (outcomes_of agreed.pairs batch)
    (within_more (length batch) 32 (first_unknown agreed batch) most unknown)
    (contradicts_within 0 32 agreed.pairs batch (omega arith)) (outcomes_fit agreed.pairs batch fits)
reply_fits history (Acquire event) room fits =
    let few = count_few history event.0 in count_fits (count_in history event.0) (count_in history event.0 + 1) (omega arith)
reply_fits history (Release event) room fits =
    let few = count_few history event.0 in count_fits (count_in history event.0) (count_in history event.0 - 1) (omega arith)

-- an entry that is done, whose reply can be spelt
pub record IsDoneFit (done : DoneEntry) : Type 0 where
  pub entry : IsEntry done.entry
  pub placed : IsPlaced (record { place = done.place; reply = done.reply })

done_fits : (history : List Entry) (entry : Entry) → length history + 1 < 2 ^ 64 → IsEntry entry
    → IsDoneFit (done_after history entry)
done_fits history entry room fits =
    record {
      entry = fits;
      placed = record {
        place = record { above = omega arith; fits = room };
        reply = reply_fits history entry.command room fits.command;
      };
    }

pub dones_fit : (history entries : List Entry) → length history + length entries < 2 ^ 64 → All IsEntry entries
    → All IsDoneFit (done_from history entries)
dones_fit history [] room all = All-nil IsDoneFit
dones_fit history (entry ∷ more) room all =
    let long = length-append history (entry ∷ []) in
    All-cons IsDoneFit (done_after history entry) (done_from (history ++ entry ∷ []) more)
    (done_fits history entry (omega arith) (All-head IsEntry entry more all))
    (dones_fit (history ++ entry ∷ []) more (omega arith) (All-tail IsEntry entry more all))
