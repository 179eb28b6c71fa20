-- What the entries of a history come to, one after the other: its events, their references and their order.
use Rattle.std.specs.Prelude.{ℕ, ◌+◌, ◌-◌, Bool, not, ◌&&◌, ◌==◌, nat_lt, if◌then◌else◌, Option, is_none, List, [], fold, position}
use Rattle.kr_order.specs.declared.batch.Pair.{Pair}
use Rattle.kr_order.specs.declared.history.Command.{Command}
use Rattle.kr_order.specs.declared.history.Command.TheVariants.{Create, Assign, Acquire, Release}
use Rattle.kr_order.specs.declared.history.Entry.{Entry}
use Rattle.kr_order.specs.History.{births_of}
use Rattle.kr_order.specs.Batch.{contradicts, pairs_with}

-- how many events were made, how many references each event has, and the pairs of the order
pub record Agreed : Type 0 where
  pub born : ℕ
  pub count : ℕ → ℕ
  pub pairs : List (ℕ × ℕ)

-- what the empty history comes to
abbrev pub nothing_agreed : Agreed
nothing_agreed = record { born = 0; count = λ _. 0; pairs = [] }

-- an event is live while it has a reference
abbrev pub is_live : Agreed → ℕ → Bool
is_live agreed event = nat_lt 0 (agreed.count event)

-- both events are live
abbrev pub both_live : Agreed → ℕ → ℕ → Bool
both_live agreed a b = is_live agreed a && is_live agreed b

-- the index, from 0, of the first pair that names an event that is not live
abbrev pub first_unknown : Agreed → List Pair → Option ℕ
first_unknown agreed batch = position (λ pair. not (both_live agreed pair.first.0 pair.second.0)) batch

-- all events of the batch are live, and no must contradicts
abbrev pub accepts : Agreed → List Pair → Bool
accepts agreed batch = is_none (first_unknown agreed batch) && is_none (contradicts agreed.pairs batch)

-- an event's references after a command, given those before it and how many events were born before it: a create
-- makes the next event with one, and an event without a reference gets none again
abbrev pub count_after : Command → ℕ → ℕ → ℕ → ℕ
count_after Create born event count = if event == born + 1 then 1 else count
count_after (Assign batch) born event count = count
count_after (Acquire target) born event count = if event == target.0 && nat_lt 0 count then count + 1 else count
count_after (Release target) born event count = if event == target.0 then count - 1 else count

-- the order after a command: a batch that is accepted adds its pairs, and nothing is ever taken out
abbrev pub pairs_after : Command → Agreed → List (ℕ × ℕ)
pairs_after Create agreed = agreed.pairs
pairs_after (Assign batch) agreed = if accepts agreed batch then pairs_with agreed.pairs batch else agreed.pairs
pairs_after (Acquire event) agreed = agreed.pairs
pairs_after (Release event) agreed = agreed.pairs

-- what is agreed after one more entry
abbrev pub after : Agreed → Entry → Agreed
after agreed entry =
    record {
      born = births_of entry.command + agreed.born;
      count = λ event. count_after entry.command agreed.born event (agreed.count event);
      pairs = pairs_after entry.command agreed;
    }

-- what is agreed after the history
abbrev pub agreed_of : List Entry → Agreed
agreed_of history = fold after nothing_agreed history
