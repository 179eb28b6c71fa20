-- What is printed of a run on threads: what each client was told, and then the history.
use Rattle.std.specs.Prelude.{◌≢◌, ℕ, ◌+◌, List, [], ◌∷◌, ◌++◌, All, flat_map, codes}
use Rattle.std.specs.Fmt.{decimal}
use Rattle.kr_order.specs.declared.answer.Answer.{Answer}
use Rattle.kr_order.specs.declared.answer.Answer.TheVariants.{Unsure}
use Rattle.kr_order.specs.declared.answer.Told.{Told as ToldPairs}
use Rattle.kr_order.specs.declared.history.Entry.{Entry}
use Rattle.kr_order.specs.Text.{answer_word, reply_text}
use Rattle.script_lang.specs.Line.{line}
use Rattle.kr_world.specs.Lines.{end_lines}
use Rattle.live_service.specs.declared.calls.LiveAnswer.{LiveAnswer}
use Rattle.live_service.specs.declared.calls.LiveAnswer.TheVariants.{Placed, Told}

-- the answers to a query, each with a space before it
abbrev pub answer_words : List Answer → List ℕ
answer_words answers = flat_map (λ answer. codes " " ++ answer_word answer) answers

-- what a client was told of one call
abbrev pub told_text : LiveAnswer → List ℕ
told_text (Placed placed) = codes "placed " ++ decimal placed.place ++ codes " " ++ reply_text placed.reply
told_text (Told told) = codes "seen " ++ decimal told.entry ++ answer_words told.answers

-- what a node's reader told of one query
abbrev pub seen_text : ToldPairs → List ℕ
seen_text told = codes "seen " ++ decimal told.entry ++ answer_words told.answers

-- the client of this number, and what it was told, in the order of its calls
abbrev pub client_lines : ℕ → List LiveAnswer → List ℕ
client_lines number answers =
    line (codes "client " ++ decimal number) ++ flat_map (λ answer. line (told_text answer)) answers

-- the clients from this number on
abbrev pub clients_lines : ℕ → List (List LiveAnswer) → List ℕ
clients_lines number [] = []
clients_lines number (answers ∷ more) = client_lines number answers ++ clients_lines (number + 1) more

-- the whole text
abbrev pub live_text : List (List LiveAnswer) → List Entry → List ℕ
live_text answers history = clients_lines 1 answers ++ end_lines history

-- the node of this number, and what its reader told, in the order of its queries
abbrev pub node_lines : ℕ → List ToldPairs → List ℕ
node_lines number told = line (codes "node " ++ decimal number) ++ flat_map (λ one. line (seen_text one)) told

-- the whole text of a chain: what the readers of the head, the middle and the tail told, and the history
abbrev pub chain_text : List ToldPairs → List ToldPairs → List ToldPairs → List Entry → List ℕ
chain_text head middle tail history = node_lines 1 head ++ node_lines 2 middle ++ node_lines 3 tail ++ end_lines history

-- an answer that is printed
abbrev pub IsSure : Answer → Type 0
IsSure answer = answer ≢ Unsure

-- so is each that the client was told of one call
abbrev pub IsSureOf : LiveAnswer → Type 0
IsSureOf (Placed placed) = Unit {0}
IsSureOf (Told told) = All IsSure told.answers

-- and of all calls
abbrev pub IsSureOfAll : List LiveAnswer → Type 0
IsSureOfAll answers = All IsSureOf answers

-- and each that a node's reader told
abbrev pub AreSureTold : List ToldPairs → Type 0
AreSureTold tolds = All (λ told. All IsSure told.answers) tolds
