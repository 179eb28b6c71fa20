-- No client is told that the service is unsure.
use Rattle.std.proofs.Common.{ℕ, ◌+◌, length, Bool, true, false, if◌then◌else◌, List, [], ◌∷◌, sym, subst, ◌==◌}
use Rattle.std.specs.Prelude.{All}
use Rattle.std.proofs.lemmas.List.Elements.{All-nil, All-cons}
use Rattle.kr_order.specs.declared.ids.ClientId.{ClientId}
use Rattle.kr_order.specs.declared.ids.EventId.{EventId}
use Rattle.kr_order.specs.declared.answer.Answer.TheVariants.{Before, After, Same, Concurrent, Unknown}
use Rattle.kr_order.specs.declared.answer.Told.{Told as ToldPairs}
use Rattle.kr_order.specs.declared.history.Entry.{Entry}
use Rattle.kr_order.specs.Agreed.{both_live, agreed_of}
use Rattle.kr_order.specs.Answer.{answer_to, answers_after}
use Rattle.kr_order.specs.Order.{reach}
use Rattle.script_lang.specs.declared.live.LiveCall.{LiveCall}
use Rattle.script_lang.specs.declared.live.LiveCall.TheVariants.{Command, Query}
use Rattle.live_service.specs.declared.calls.LiveAnswer.{LiveAnswer}
use Rattle.live_service.specs.declared.calls.LiveAnswer.TheVariants.{Placed, Told}
use Rattle.live_service.specs.Lawful.{IsAnswered, AreAnswered, HaveAnswers, calls_of, command_in, told_number}
use Rattle.script_lang.specs.declared.chain.ChainQuery.{ChainQuery}
use Rattle.live_chain.specs.Lawful.{AreToldAfter}
use Rattle.live_driver.specs.Text.{IsSure, IsSureOf, IsSureOfAll, AreSureTold}

chosen : (live same before after : Bool) → IsSure (if live then (if same then Same else (if before then Before else (if after then After else Concurrent))) else Unknown)
chosen true true before after = λ is. cc
chosen true false true after = λ is. cc
chosen true false false true = λ is. cc
chosen true false false false = λ is. cc
chosen false same before after = λ is. cc

-- an answer after a history is none of those
answer_sure : (history : List Entry) (a b : ℕ) → IsSure (answer_to history a b)
answer_sure history a b =
    let agreed = agreed_of history in
    chosen (both_live agreed a b) (a == b) (reach agreed.pairs a b) (reach agreed.pairs b a)

answers_sure : (history : List Entry) (pairs : List (EventId × EventId)) → All IsSure (answers_after history pairs)
answers_sure history [] = All-nil IsSure
answers_sure history (pair ∷ pairs) =
    All-cons IsSure (answer_to history pair.0.0 pair.1.0) (answers_after history pairs) (answer_sure history pair.0.0 pair.1.0) (answers_sure history pairs)

call_sure : (history : List Entry) (client : ClientId) (made last : ℕ) (call : LiveCall) (answer : LiveAnswer) → IsAnswered history client made last call answer → IsSureOf answer
call_sure history client made last (Command command) (Placed placed) is = tt
call_sure history client made last (Command command) (Told told) never = absurd never
call_sure history client made last (Query pairs) (Placed placed) never = absurd never
call_sure history client made last (Query pairs) (Told told) is =
    subst (λ (t : ToldPairs). All IsSure t.answers) (sym is.told_is) (answers_sure is.before pairs)

calls_sure : (history : List Entry) (client : ClientId) (made last : ℕ) (calls : List LiveCall) (answers : List LiveAnswer) → AreAnswered history client made last calls answers → IsSureOfAll answers
calls_sure history client made last [] [] are = All-nil IsSureOf
calls_sure history client made last [] (answer ∷ answers) never = absurd never
calls_sure history client made last (call ∷ calls) [] never = absurd never
calls_sure history client made last (call ∷ calls) (answer ∷ answers) are =
    All-cons IsSureOf answer answers (call_sure history client made last call answer are.0) (calls_sure history client (made + length (command_in call)) (told_number answer) calls answers are.1)

-- what the clients are told is none of those
pub clients_sure : (history : List Entry) (calls : List (ClientId × LiveCall)) (number : ℕ) (answers : List (List LiveAnswer)) → HaveAnswers history calls number answers → All IsSureOfAll answers
clients_sure history calls number [] have = All-nil IsSureOfAll
clients_sure history calls number (answers ∷ more) have =
    let client : ClientId = record { 0 = number } in
    All-cons IsSureOfAll answers more (calls_sure history client 0 0 (calls_of client calls) answers have.0) (clients_sure history calls (number + 1) more have.1)

-- nor is what a node's reader tells
pub tolds_sure : (history : List Entry) (last : ℕ) (queries : List ChainQuery) (tolds : List ToldPairs) → AreToldAfter history last queries tolds → AreSureTold tolds
tolds_sure history last [] [] are = All-nil (λ (t : ToldPairs). All IsSure t.answers)
tolds_sure history last [] (told ∷ more) never = absurd never
tolds_sure history last (query ∷ queries) [] never = absurd never
tolds_sure history last (query ∷ queries) (told ∷ more) are =
    All-cons (λ (t : ToldPairs). All IsSure t.answers) told more (subst (λ (t : ToldPairs). All IsSure t.answers) (sym are.0.told_is) (answers_sure are.0.before query.pairs)) (tolds_sure history told.entry queries more are.1)
