-- A client's calls, one after the other.
use Rattle.std.proofs.Common.{◌≡◌, ◌≢◌, ℕ, ◌+◌, ◌≤◌, ◌==◌, Bool, true, false, List, [], ◌∷◌, ◌++◌, length, take, refl, sym, ap, ◌∙◌, subst, arith, eq-eqb}
use Rattle.std.proofs.lemmas.Bool.{eqb-true}
use Rattle.std.proofs.lemmas.Grind.{flat_map-append}
use Rattle.std.proofs.lemmas.List.{append-nil, length-append, length_push}
use Rattle.kr_order.specs.declared.ids.ClientId.{ClientId}
use Rattle.kr_order.specs.declared.ids.EventId.{EventId}
use Rattle.kr_order.specs.declared.answer.Told.{Told as ToldPairs}
use Rattle.kr_order.specs.declared.history.Command.{Command as Begun}
use Rattle.kr_order.specs.declared.history.Entry.{Entry}
use Rattle.kr_order.specs.declared.history.Placed.{Placed as PlacedReply}
use Rattle.kr_order.specs.Prefix.{IsPrefix}
use Rattle.kr_order.proofs.PrefixLemmas.{IsPrefix-refl, IsPrefix-trans, IsPrefix-append, IsPrefix-length}
use Rattle.script_lang.specs.declared.live.LiveCall.{LiveCall}
use Rattle.script_lang.specs.declared.live.LiveCall.TheVariants.{Command, Query}
use Rattle.live_service.specs.declared.calls.LiveAnswer.{LiveAnswer}
use Rattle.live_service.specs.declared.calls.LiveAnswer.TheVariants.{Placed, Told}
use Rattle.live_service.specs.Views.{PassView}
use Rattle.live_service.specs.Own.{entry_of, numbered, AreWithin}
use Rattle.live_service.specs.Commands.{Commands, placed_after, next_of}
use Rattle.live_service.specs.Lawful.{own_call, calls_of, command_in, commands_in, told_number, IsPlaced, IsTold, IsAnswered, AreAnswered}
use Rattle.live_service.specs.Calls.{Answers, Tells, last_told, HasCalled}
use Rattle.live_service.proofs.OwnLemmas.{numbered-push, within_longer, within_push}

-- what is right of a history is right of one that goes on from it
one_longer : (old new : List Entry) (client : ClientId) (made last : ℕ) (call : LiveCall) (answer : LiveAnswer) → IsPrefix old new → IsAnswered old client made last call answer → IsAnswered new client made last call answer
one_longer old new client made last (Command command) (Placed placed) longer is =
    record {
      before = is.before;
      past = is.past;
      stands = IsPrefix-trans (is.before ++ entry_of client (made + 1) command ∷ []) old new is.stands longer;
      told = is.told;
    }
one_longer old new client made last (Query pairs) (Told told) longer is =
    record { before = is.before; past = is.past; stands = IsPrefix-trans is.before old new is.stands longer; told_is = is.told_is }
one_longer old new client made last (Command command) (Told told) longer is = absurd is
one_longer old new client made last (Query pairs) (Placed placed) longer is = absurd is

pub answered_longer : (old new : List Entry) (client : ClientId) (made last : ℕ) (calls : List LiveCall) (answers : List LiveAnswer) → IsPrefix old new → AreAnswered old client made last calls answers → AreAnswered new client made last calls answers
answered_longer old new client made last [] [] longer is = tt
answered_longer old new client made last [] (a ∷ more) longer is = absurd is
answered_longer old new client made last (c ∷ cs) [] longer is = absurd is
answered_longer old new client made last (c ∷ cs) (a ∷ more) longer is = (
  one_longer old new client made last c a longer is.0,
  answered_longer old new client (made + length (command_in c)) (told_number a) cs more longer is.1,
)

-- one call more, with its answer
answered_push : (history : List Entry) (client : ClientId) (made last : ℕ) (calls : List LiveCall) (answers : List LiveAnswer) (call : LiveCall) (answer : LiveAnswer) → AreAnswered history client made last calls answers → IsAnswered history client (made + length (commands_in calls)) (last_told last answers) call answer → AreAnswered history client made last (calls ++ call ∷ []) (answers ++ answer ∷ [])
answered_push history client made last [] [] call answer is next =
    let same : made + 0 ≡ made = omega arith in
    (subst (λ m. IsAnswered history client m last call answer) same next, tt)
answered_push history client made last [] (a ∷ more) call answer is next = absurd is
answered_push history client made last (c ∷ cs) [] call answer is next = absurd is
answered_push history client made last (c ∷ cs) (a ∷ more) call answer is next =
    let own : ℕ = length (command_in c) in
    let same : made + length (commands_in (c ∷ cs)) ≡ made + own + length (commands_in cs) = omega (arith, length-append (command_in c) (commands_in cs)) in
    (is.0, answered_push history client (made + own) (told_number a) cs more call answer is.1 (subst (λ m. IsAnswered history client m (last_told (told_number a) more) call answer) same next))

last_told-push : (last : ℕ) (answers : List LiveAnswer) (answer : LiveAnswer) → last_told last (answers ++ answer ∷ []) ≡ told_number answer
last_told-push last [] answer = refl
last_told-push last (a ∷ more) answer = last_told-push (told_number a) more answer

commands_in-push : (calls : List LiveCall) (call : LiveCall) → commands_in (calls ++ call ∷ []) ≡ commands_in calls ++ command_in call
commands_in-push calls call = flat_map-append command_in calls (call ∷ []) ∙ ap (λ l. commands_in calls ++ l) (append-nil (command_in call))

-- what one call changes of a pass, and what it tells of it
record HasGrown (old new : PassView) (call : LiveCall) (answer : LiveAnswer) : Type 0 where
  client : new.client ≡ old.client
  known : IsPrefix old.known new.known
  made : new.made ≡ old.made + length (command_in call)
  told : told_number answer ≡ length new.known
  within : (commands : List Begun) → length commands ≡ old.made → AreWithin (numbered old.client 1 commands) old.known → AreWithin (numbered old.client 1 (commands ++ command_in call)) new.known

command_within : (client : ClientId) (old before : List Entry) (commands : List Begun) (made : ℕ) (command : Begun) → IsPrefix old before → length commands ≡ made → AreWithin (numbered client 1 commands) old → AreWithin (numbered client 1 (commands ++ command ∷ [])) (before ++ entry_of client (made + 1) command ∷ [])
command_within client old before commands made command longer many within =
    let number : 1 + length commands ≡ made + 1 = omega (arith, many) in
    let entries : numbered client 1 (commands ++ command ∷ []) ≡ numbered client 1 commands ++ entry_of client (made + 1) command ∷ [] = numbered-push client 1 commands command ∙ ap (λ n. numbered client 1 commands ++ entry_of client n command ∷ []) number in
    let kept : AreWithin (numbered client 1 commands) before = subst (AreWithin (numbered client 1 commands)) (sym longer.is) (within_longer (numbered client 1 commands) old longer.more within) in
    subst (λ l. AreWithin l (before ++ entry_of client (made + 1) command ∷ [])) (sym entries) (within_push (numbered client 1 commands) before (entry_of client (made + 1) command) kept)

grown : (old new : PassView) (call : LiveCall) (answer : LiveAnswer) → Answers old new call answer → HasGrown old new call answer
grown old new (Command command) (Placed placed) does =
    let entry : Entry = next_of old command in
    record {
      client = ap (λ p. p.client) does.rest;
      known = subst (IsPrefix old.known) (sym does.known) (IsPrefix-trans old.known does.before (does.before ++ entry ∷ []) does.begins (IsPrefix-append does.before (entry ∷ [])));
      made = does.made;
      told = ap (λ p. p.place) does.told ∙ sym (length_push does.before entry) ∙ sym (ap length does.known);
      within = λ commands many within.
          subst (AreWithin (numbered old.client 1 (commands ++ command ∷ []))) (sym does.known) (command_within old.client old.known does.before commands old.made command does.begins many within);
    }
grown old new (Query pairs) (Told told) does =
    record {
      client = ap (λ p. p.client) does.rest;
      known = does.known;
      made = ap (λ p. p.made) does.rest ∙ (let same : old.made ≡ old.made + 0 = omega arith in same);
      told = ap (λ t. t.entry) does.told_is;
      within = λ commands many within.
          subst (λ l. AreWithin (numbered old.client 1 l) new.known) (sym (append-nil commands)) (subst (AreWithin (numbered old.client 1 commands)) (sym does.known.is) (within_longer (numbered old.client 1 commands) old.known does.known.more within));
    }
grown old new (Command command) (Told told) does = absurd does
grown old new (Query pairs) (Placed placed) does = absurd does

-- the answer of a client that made and was told so much before is right
answer_is_right : (old new : PassView) (last : ℕ) (call : LiveCall) (answer : LiveAnswer) → last ≤ length old.known → Answers old new call answer → IsAnswered new.known old.client old.made last call answer
answer_is_right old new last (Command command) (Placed placed) before does =
    record {
      before = does.before;
      past = (let longer = IsPrefix-length old.known does.before does.begins in omega (arith, before, longer));
      stands = subst (IsPrefix (does.before ++ next_of old command ∷ [])) (sym does.known) (IsPrefix-refl (does.before ++ next_of old command ∷ []));
      told = does.told;
    }
answer_is_right old new last (Query pairs) (Told told) before does =
    record {
      before = new.known;
      past = (let longer = IsPrefix-length old.known new.known does.known in omega (arith, before, longer));
      stands = IsPrefix-refl new.known;
      told_is = does.told_is;
    }
answer_is_right old new last (Command command) (Told told) before does = absurd does
answer_is_right old new last (Query pairs) (Placed placed) before does = absurd does

-- a client that makes one call more
pub called_more : (old new : PassView) (calls : List LiveCall) (answers : List LiveAnswer) (call : LiveCall) (answer : LiveAnswer) → HasCalled old calls answers → Answers old new call answer → HasCalled new (calls ++ call ∷ []) (answers ++ answer ∷ [])
called_more old new calls answers call answer has does =
    let g = grown old new call answer does in
    let right = answer_is_right old new (last_told 0 answers) call answer has.last does in
    let same : old.made ≡ 0 + length (commands_in calls) = (let many = has.many in omega (arith, many)) in
    let next : IsAnswered new.known old.client (0 + length (commands_in calls)) (last_told 0 answers) call answer = subst (λ m. IsAnswered new.known old.client m (last_told 0 answers) call answer) same right in
    let longer = answered_longer old.known new.known old.client 0 0 calls answers g.known has.answered in
    let all : commands_in (calls ++ call ∷ []) ≡ commands_in calls ++ command_in call = commands_in-push calls call in
    record {
      answered = subst (λ c. AreAnswered new.known c 0 0 (calls ++ call ∷ []) (answers ++ answer ∷ [])) (sym g.client) (answered_push new.known old.client 0 0 calls answers call answer longer next);
      last = (let same = last_told-push 0 answers answer in let told = g.told in omega (arith, same, told));
      many = (let made = g.made in let many = has.many in omega (arith, ap length all, length-append (commands_in calls) (command_in call), made, many));
      within = subst (λ c. AreWithin (numbered c 1 (commands_in (calls ++ call ∷ []))) new.known) (sym g.client) (subst (λ l. AreWithin (numbered old.client 1 l) new.known) (sym all) (g.within (commands_in calls) has.many has.within));
    }

-- the call is one of the client, or it is none
pub own_call-own : (client : ClientId) (call : ClientId × LiveCall) → call.0.0 ≡ client.0 → own_call client call ≡ call.1 ∷ []
own_call-own client call same = rw (eq-eqb call.0.0 client.0 same) refl

pub own_call-other : (client : ClientId) (call : ClientId × LiveCall) → call.0.0 ≢ client.0 → own_call client call ≡ []
own_call-other client call apart = by_test (call.0.0 == client.0) refl
  where
    by_test : (test : Bool) → (call.0.0 == client.0) ≡ test → own_call client call ≡ []
    by_test true is = absurd (apart (eqb-true call.0.0 client.0 is))
    by_test false is = rw is refl

-- the calls among one line more
pub calls_of-more : (client : ClientId) (calls : List (ClientId × LiveCall)) (i : ℕ) (call : ClientId × LiveCall) → take (i + 1) calls ≡ take i calls ++ call ∷ [] → calls_of client (take (i + 1) calls) ≡ calls_of client (take i calls) ++ own_call client call
calls_of-more client calls i call more =
    ap (calls_of client) more ∙ flat_map-append (own_call client) (take i calls) (call ∷ []) ∙ ap (λ l. calls_of client (take i calls) ++ l) (append-nil (own_call client call))
