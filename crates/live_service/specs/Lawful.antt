-- What is right of the calls that clients make at the same time, and of what they are told.
use Rattle.std.specs.Prelude.{◌≡◌, ◌≤◌, ◌+◌, ◌==◌, ℕ, if◌then◌else◌, List, [], ◌∷◌, ◌++◌, length}
use Rattle.std.specs.List.{flat_map}
use Rattle.kr_order.specs.declared.ids.ClientId.{ClientId}
use Rattle.kr_order.specs.declared.ids.EventId.{EventId}
use Rattle.kr_order.specs.declared.answer.Told.{Told as ToldPairs}
use Rattle.kr_order.specs.declared.history.Command.{Command as Begun}
use Rattle.kr_order.specs.declared.history.Entry.{Entry}
use Rattle.kr_order.specs.declared.history.Placed.{Placed as PlacedReply}
use Rattle.kr_order.specs.Prefix.{IsPrefix}
use Rattle.order_board.specs.Views.{told_of}
use Rattle.script_lang.specs.declared.live.LiveCall.{LiveCall}
use Rattle.script_lang.specs.declared.live.LiveCall.TheVariants.{Command, Query}
use Rattle.script_lang.specs.declared.live.LivePlan.{LivePlan}
use Rattle.script_lang.specs.Number.{IsFromOneTo}
use Rattle.live_service.specs.declared.calls.LiveAnswer.{LiveAnswer}
use Rattle.live_service.specs.declared.calls.LiveAnswer.TheVariants.{Placed, Told}
use Rattle.live_service.specs.Own.{entry_of, entries_of, numbered}
use Rattle.live_service.specs.Commands.{placed_after}

-- the call, where it is the client's
abbrev pub own_call : ClientId → ClientId × LiveCall → List LiveCall
own_call client call = if call.0.0 == client.0 then call.1 ∷ [] else []

-- the calls of one client, in the order of their lines
abbrev pub calls_of : ClientId → List (ClientId × LiveCall) → List LiveCall
calls_of client calls = flat_map (own_call client) calls

-- the command of a call, if it is one
abbrev pub command_in : LiveCall → List Begun
command_in (Command command) = command ∷ []
command_in (Query pairs) = []

-- the commands among these calls
abbrev pub commands_in : List LiveCall → List Begun
commands_in calls = flat_map command_in calls

-- the place or the entry that an answer tells
abbrev pub told_number : LiveAnswer → ℕ
told_number (Placed placed) = placed.place
told_number (Told told) = told.entry

-- a command of a client that made so many commands before, and was told of this place or entry last: it stands in the
-- history past that, and its reply is that of all that stands before it
pub record IsPlaced (history : List Entry) (client : ClientId) (made last : ℕ) (command : Begun) (placed : PlacedReply) : Type 0 where
  pub before : List Entry
  pub past : last ≤ length before
  pub stands : IsPrefix (before ++ entry_of client (made + 1) command ∷ []) history
  pub told : placed ≡ placed_after before (entry_of client (made + 1) command)

-- a query of a client that was told of this place or entry last: its answers are those after a beginning of the history
-- that is no shorter
pub record IsTold (history : List Entry) (last : ℕ) (pairs : List (EventId × EventId)) (told : ToldPairs) : Type 0 where
  pub before : List Entry
  pub past : last ≤ length before
  pub stands : IsPrefix before history
  pub told_is : told ≡ told_of before pairs

-- the answer is right of the call
abbrev pub IsAnswered : List Entry → ClientId → ℕ → ℕ → LiveCall → LiveAnswer → Type 0
IsAnswered history client made last (Command command) (Placed placed) = IsPlaced history client made last command placed
IsAnswered history client made last (Query pairs) (Told told) = IsTold history last pairs told
IsAnswered history client made last (Command command) (Told told) = ⊥
IsAnswered history client made last (Query pairs) (Placed placed) = ⊥

-- each of the calls has an answer, in their order, of a client that made so many commands before them, and was told of this
-- place or entry last; what it is told never falls, so the last is the greatest of all before
abbrev pub AreAnswered : List Entry → ClientId → ℕ → ℕ → List LiveCall → List LiveAnswer → Type 0
AreAnswered history client made last [] [] = Unit {0}
AreAnswered history client made last [] (answer ∷ answers) = ⊥
AreAnswered history client made last (call ∷ calls) [] = ⊥
AreAnswered history client made last (call ∷ calls) (answer ∷ answers) =
    IsAnswered history client made last call answer
    × AreAnswered history client (made + length (command_in call)) (told_number answer) calls answers

-- these are the answers of the clients from this number on
abbrev pub HaveAnswers : List Entry → List (ClientId × LiveCall) → ℕ → List (List LiveAnswer) → Type 0
HaveAnswers history calls number [] = Unit {0}
HaveAnswers history calls number (answers ∷ more) =
    (let client : ClientId = record { 0 = number } in AreAnswered history client 0 0 (calls_of client calls) answers)
    × HaveAnswers history calls (number + 1) more

-- the call is of one of so many clients
abbrev pub IsByOneOf : ℕ → ClientId × LiveCall → Type 0
IsByOneOf clients call = IsFromOneTo clients call.0.0

-- the history and the answers are right of the plan
pub record LiveLawful (plan : LivePlan) (answers : List (List LiveAnswer)) (history : List Entry) : Type 0 where
  -- the entries of each client, also of one that is not in the plan, are its commands in the plan, with the numbers 1, 2, 3
  -- and so on
  pub own : (client : ClientId) → entries_of client history ≡ numbered client 1 (commands_in (calls_of client plan.calls))
  -- one list of answers for each client, in the order of their numbers
  pub many : length answers ≡ plan.clients
  pub told : HaveAnswers history plan.calls 1 answers
