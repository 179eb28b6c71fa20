-- How many outcomes a reply has.
use Rattle.std.proofs.Common.{◌≡◌, ℕ, ◌+◌, ◌-◌, ◌≤◌, nat_lt, Bool, true, false, if◌then◌else◌, List, [], ◌∷◌, length, Option, None, Some, refl, sym, subst, arith}
use Rattle.kr_order.specs.declared.batch.Pair.{Pair}
use Rattle.kr_order.specs.declared.batch.Outcome.{Outcome}
use Rattle.kr_order.specs.declared.history.Command.{Command}
use Rattle.kr_order.specs.declared.history.Command.TheVariants.{Create, Assign, Acquire, Release}
use Rattle.kr_order.specs.declared.history.Reply.{Reply}
use Rattle.kr_order.specs.declared.history.Reply.TheVariants.{Count, Unknown}
use Rattle.kr_order.specs.declared.history.Entry.{Entry}
use Rattle.kr_order.specs.Batch.{with_prefer, outcomes_from, musts_from, outcomes_of, contradicts}
use Rattle.kr_order.specs.Agreed.{agreed_of, first_unknown}
use Rattle.kr_order.specs.References.{count_in}
use Rattle.kr_order.specs.Reply.{reply_to, count_reply, checked_reply, known_reply}
use Rattle.live_service.specs.Commands.{HasRoom, outcomes_in}

-- one for each pair
length-outcomes_from : (order : List (ℕ × ℕ)) (batch : List Pair) → length (outcomes_from order batch) ≡ length batch
length-outcomes_from order [] = refl
length-outcomes_from order (pair ∷ more) = omega (arith, length-outcomes_from (with_prefer order pair) more)

batch_fits : (unknown contradicted : Option ℕ) (outcomes : List Outcome) (room : ℕ) → length outcomes ≤ room
    → HasRoom room (known_reply unknown (checked_reply contradicted outcomes))
batch_fits (Some i) contradicted outcomes room fits = tt
batch_fits None (Some i) outcomes room fits = tt
batch_fits None None outcomes room fits = fits

count_fits : (before now room : ℕ) → HasRoom room (count_reply before now)
count_fits before now room = by_test (nat_lt 0 before)
  where
    by_test : (test : Bool) → HasRoom room (if test then Count now else Unknown 0)
    by_test true = tt
    by_test false = tt

-- a reply has room where there is room for as many outcomes as the command has pairs
pub reply_fits : (history : List Entry) (command : Command) (room : ℕ) (reply : Reply) → reply ≡ reply_to history command
    → outcomes_in command ≤ room → HasRoom room reply
reply_fits history command room reply is fits = subst (HasRoom room) (sym is) (of_command command fits)
  where
    of_command : (command : Command) → outcomes_in command ≤ room → HasRoom room (reply_to history command)
    of_command Create fits = tt
    of_command (Assign batch) fits =
        batch_fits (first_unknown (agreed_of history) batch) (contradicts (agreed_of history).pairs batch)
        (outcomes_of (agreed_of history).pairs batch) room (omega (
          arith,
          fits,
          length-outcomes_from
              (musts_from (agreed_of history).pairs batch) batch,
        ))
    of_command (Acquire event) fits = count_fits (count_in history event.0) (count_in history event.0 + 1) room
    of_command (Release event) fits = count_fits (count_in history event.0) (count_in history event.0 - 1) room
