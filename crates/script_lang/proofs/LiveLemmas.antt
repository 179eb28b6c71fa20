-- Calls of live input by their lines: each line is of one call.
use Rattle.std.proofs.Common.{◌≡◌, ◌≢◌, ℕ, ◌≤◌, List, [], ◌++◌, Option, None, Some, refl, sym, ap, ◌∙◌, subst, arith}
use Rattle.std.specs.Prelude.{codes}
use Rattle.std.specs.Fmt.{decimal}
use Rattle.std.proofs.lemmas.List.Elements.{All-nil}
use Rattle.kr_order.specs.declared.ids.ClientId.{ClientId}
use Rattle.kr_order.specs.declared.ids.EventId.{EventId}
use Rattle.kr_order.specs.declared.batch.Pair.{Pair}
use Rattle.kr_order.specs.declared.history.Command.TheVariants.{Create, Assign, Acquire, Release}
use Rattle.kr_order.specs.Text.{pair_word, pair_words, asked_word}
use Rattle.script_lang.specs.declared.script.Event.TheVariants as script
use Rattle.script_lang.specs.declared.live.LiveCall.{LiveCall}
use Rattle.script_lang.specs.declared.live.LiveCall.TheVariants.{Command, Query}
use Rattle.script_lang.specs.Line.{HasNoEnd, HasNoSpace, IsWordCut}
use Rattle.script_lang.specs.Number.{IsFromOneTo, BeginsNo, BeginsNoDigit}
use Rattle.script_lang.specs.Event.{IsNumber, IsEventNumber, IsPair, IsAskedPair, ArePairs, asked_words}
use Rattle.script_lang.specs.Reading.{Spells, ReadsWord, one_word}
use Rattle.script_lang.specs.Live.{AreAsked, IsLiveCall, IsCalled, IsCallOf, live_word, live_words, call_words, live_text}
use Rattle.script_lang.proofs.LineLemmas.{cut_once, no_end_by_test, free_append}
use Rattle.script_lang.proofs.NumberLemmas.{decimal_has_no_end}
use Rattle.script_lang.proofs.WordLemmas.{words-injective, words_have_no_end, words_begin, word_once, one_word-injective}
use Rattle.script_lang.proofs.PairLemmas.{same_event, asked_has_no_end, pairs_once, asked_once}
use Rattle.script_lang.proofs.EventLemmas.{word_key, event_word-has_no_space, event_text-has_no_end}

-- a client of so few is one that a script may name
some_client : (clients n : ℕ) → clients ≤ 16 → IsFromOneTo clients n → IsNumber n
some_client clients n few fit = record { low = fit.low; high = omega (arith, fit.high) }

-- no call's text has an LF in it
pub live_text-has_no_end : (clients : ℕ) → clients ≤ 16 → (call : ClientId × LiveCall) → IsCalled clients call → HasNoEnd (live_text call)
live_text-has_no_end clients few (client, Command command) fit =
    event_text-has_no_end (script.Call client command) (record { client_fits = some_client clients client.0 few fit.client_fits; command_fits = fit.call_fits })
live_text-has_no_end clients few (client, Query pairs) fit =
    free_append (codes "query " ++ decimal client.0) (asked_words pairs) (free_append (codes "query ") (decimal client.0) (no_end_by_test (codes "query ") refl) (decimal_has_no_end client.0 (omega (arith, few, fit.client_fits.high)))) (words_have_no_end asked_word IsAskedPair asked_has_no_end pairs fit.call_fits.pairs_fit.each)

-- the first word of a call's line has no space in it
pub live_word-has_no_space : (call : LiveCall) → HasNoSpace (live_word call)
live_word-has_no_space (Command command) = event_word-has_no_space (script.Call (record { 0 = 1 }) command)
live_word-has_no_space (Query pairs) = event_word-has_no_space (script.Query (record { 0 = 1 }) (record { 0 = 1 }) pairs)

-- the words behind the client begin with no digit
pub live_words-begin : (call : LiveCall) → BeginsNoDigit (live_words call)
live_words-begin (Command Create) = tt
live_words-begin (Command (Assign batch)) = words_begin pair_word batch
live_words-begin (Command (Acquire event)) = λ digit. absurd (omega (arith, digit.0))
live_words-begin (Command (Release event)) = λ digit. absurd (omega (arith, digit.0))
live_words-begin (Query pairs) = words_begin asked_word pairs

-- what stands behind the first word, read from the client on
behind_word : (clients : ℕ) (call : ClientId × LiveCall) (rest : List ℕ) → IsCalled clients call → rest ≡ call_words call → ReadsWord decimal (IsFromOneTo clients) rest call.0.0 (live_words call.1)
behind_word clients call rest fit is = record { fit = fit.client_fits; whole = is; ends = live_words-begin call.1 }

-- a line is cut behind the first word of its call
pub cut_so : (text word rest : List ℕ) (call : ClientId × LiveCall) → IsWordCut text word rest → text ≡ live_text call → (word ≡ live_word call.1) × (rest ≡ call_words call)
cut_so text word rest call cut is =
    cut_once (λ b. b ≢ 32) word rest (live_word call.1) (call_words call) cut.word_has_no_space (live_word-has_no_space call.1) cut.ends (λ other. other refl) (sym cut.whole ∙ is)

-- a call is known by the words of its line
call-by_words : (one other : LiveCall) → IsLiveCall one → IsLiveCall other → live_word one ≡ live_word other → live_words one ≡ live_words other → one ≡ other
call-by_words (Command Create) (Command Create) _ _ _ _ = refl
call-by_words (Command (Assign batch)) (Command (Assign batch')) fit fit' _ same =
    ap (λ b. Command (Assign b)) (words-injective pair_word IsPair pairs_once batch batch' fit.each fit'.each same)
call-by_words (Command (Acquire event)) (Command (Acquire event')) fit fit' _ same =
    ap (λ e. Command (Acquire e)) (same_event event event' (one_word-injective 18446744073709551615 event.0 event'.0 (omega arith) fit fit' same))
call-by_words (Command (Release event)) (Command (Release event')) fit fit' _ same =
    ap (λ e. Command (Release e)) (same_event event event' (one_word-injective 18446744073709551615 event.0 event'.0 (omega arith) fit fit' same))
call-by_words (Query pairs) (Query pairs') fit fit' _ same =
    ap Query (words-injective asked_word IsAskedPair asked_once pairs pairs' fit.pairs_fit.each fit'.pairs_fit.each same)
call-by_words one (Command Create) _ _ named _ = absurd (omega (arith, ap word_key named))
call-by_words one other _ _ named _ = absurd (omega (arith, ap word_key named))

same_client : (one other : ClientId) → one.0 ≡ other.0 → one ≡ other
same_client one other same = ap (λ n. let c : ClientId = record { 0 = n } in c) same

-- and so by its text
pub live_text-injective : (clients : ℕ) → clients ≤ 16 → (one other : ClientId × LiveCall) → IsCalled clients one → IsCalled clients other → live_text one ≡ live_text other → one ≡ other
live_text-injective clients few one other fit fit' same =
    let rest : List ℕ = call_words one in
    let cut = cut_once (λ b. b ≢ 32) (live_word one.1) rest (live_word other.1) (call_words other) (live_word-has_no_space one.1) (live_word-has_no_space other.1) (λ other. other refl) (λ other. other refl) same in
    let firsts = word_once clients clients rest one.0.0 other.0.0 (live_words one.1) (live_words other.1) (omega (arith, few)) (omega (arith, few)) (behind_word clients one rest fit refl) (behind_word clients other rest fit' cut.1) in
    let calls : one.1 ≡ other.1 = call-by_words one.1 other.1 fit.call_fits fit'.call_fits cut.0 firsts.1 in
    let f : ClientId → LiveCall → ClientId × LiveCall = λ client call. (client, call) in
    ap (λ c. f c one.1) (same_client one.0 other.0 firsts.0) ∙ ap (λ c. f other.0 c) calls

-- behind the first word of a line of a call stands the number of its client
pub call_without_client : (clients : ℕ) (text word rest : List ℕ) → IsWordCut text word rest → ((n : ℕ) (after : List ℕ) → ReadsWord decimal (IsFromOneTo clients) rest n after → ⊥) → (call : ClientId × LiveCall) → IsCalled clients call → text ≢ live_text call
call_without_client clients text word rest cut none call fit is =
    none call.0.0 (live_words call.1) (behind_word clients call rest fit (cut_so text word rest call cut is).1)

-- and behind that the words of the call
pub call_without_words : (clients : ℕ) (text word rest : List ℕ) (n : ℕ) (words : List ℕ) → clients ≤ 16 → IsWordCut text word rest → ReadsWord decimal (IsFromOneTo clients) rest n words → ((call : LiveCall) → IsCallOf word call → words ≢ live_words call) → (call : ClientId × LiveCall) → IsCalled clients call → text ≢ live_text call
call_without_words clients text word rest n words few cut read none call fit is =
    let so = cut_so text word rest call cut is in
    let same = word_once clients clients rest n call.0.0 words (live_words call.1) (omega (arith, few)) (omega (arith, few)) read (behind_word clients call rest fit so.1) in
    none call.1 (record { fit = fit.call_fits; named = sym so.0 }) same.1

pub no_query : (words : List ℕ) → ((pairs : List (EventId × EventId)) → AreAsked pairs → words ≢ asked_words pairs) → (call : LiveCall) → IsCallOf (codes "query") call → words ≢ live_words call
no_query words none (Query pairs) fit is = none pairs fit.fit is
no_query words none (Command Create) fit is = absurd (omega (arith, ap word_key fit.named))
no_query words none call fit is = absurd (omega (arith, ap word_key fit.named))
