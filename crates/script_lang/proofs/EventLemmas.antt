-- Events by their lines: each line is of one event.
use Rattle.std.proofs.Common.{◌≡◌, ◌≢◌, ℕ, ◌+◌, ◌*◌, ◌^◌, ◌<◌, List, [], ◌∷◌, ◌++◌, Bool, true, false, eqb, not, ◌&&◌, get_or, drop, None, Some, refl, sym, ap, ◌∙◌, arith, append_assoc, eq-eqb}
use Rattle.std.specs.Prelude.{codes}
use Rattle.std.specs.Fmt.{decimal}
use Rattle.std.proofs.lemmas.Bool.{false≢true}
use Rattle.std.proofs.lemmas.Fmt.{decimal_injective}
use Rattle.std.proofs.lemmas.List.{append-nil}
use Rattle.std.proofs.lemmas.List.Elements.{All-nil, All-cons}
use Rattle.kr_order.specs.declared.ids.ClientId.{ClientId}
use Rattle.kr_order.specs.declared.ids.ServerId.{ServerId}
use Rattle.kr_order.specs.declared.history.Command.TheVariants.{Create, Assign, Acquire, Release}
use Rattle.kr_order.specs.Text.{pair_word, pair_words, asked_word}
use Rattle.script_lang.specs.declared.script.Event.{Event}
use Rattle.script_lang.specs.declared.script.Event.TheVariants.{Call, Query, Retry, Deliver, Lose, Tick, Work, Stop, Notice, Show, Join, Round, Learn}
use Rattle.script_lang.specs.Line.{HasNoEnd, HasNoSpace}
use Rattle.script_lang.specs.Number.{IsFromOneTo, BeginsNo}
use Rattle.script_lang.specs.Event.{IsPair, IsAskedPair, IsEvent, asked_words, event_word, event_words, event_text}
use Rattle.script_lang.specs.Reading.{one_word, two_words}
use Rattle.script_lang.proofs.LineLemmas.{cut_once, no_end_by_test, free_append}
use Rattle.script_lang.proofs.NumberLemmas.{decimal_has_no_end}
use Rattle.script_lang.proofs.WordLemmas.{words-injective, words_have_no_end, word_once, front_reads, both_reads, one_word-injective, two_words-injective}
use Rattle.script_lang.proofs.PairLemmas.{same_event, pair_has_no_end, asked_has_no_end, pairs_once, asked_once}

-- the first word of an event's line has no LF and no space in it
pub event_word-has_no_end : (event : Event) → HasNoEnd (event_word event)
event_word-has_no_end (Call client Create) = no_end_by_test (codes "create") refl
event_word-has_no_end (Call client (Assign batch)) = no_end_by_test (codes "assign") refl
event_word-has_no_end (Call client (Acquire event)) = no_end_by_test (codes "acquire") refl
event_word-has_no_end (Call client (Release event)) = no_end_by_test (codes "release") refl
event_word-has_no_end (Query client server pairs) = no_end_by_test (codes "query") refl
event_word-has_no_end (Retry client server) = no_end_by_test (codes "retry") refl
event_word-has_no_end (Deliver k) = no_end_by_test (codes "deliver") refl
event_word-has_no_end (Lose k) = no_end_by_test (codes "lose") refl
event_word-has_no_end (Tick who) = no_end_by_test (codes "tick") refl
event_word-has_no_end (Work server workers) = no_end_by_test (codes "work") refl
event_word-has_no_end (Stop server) = no_end_by_test (codes "stop") refl
event_word-has_no_end (Notice server) = no_end_by_test (codes "notice") refl
event_word-has_no_end (Show server) = no_end_by_test (codes "show") refl
event_word-has_no_end Join = no_end_by_test (codes "join") refl
event_word-has_no_end Round = no_end_by_test (codes "round") refl
event_word-has_no_end (Learn client) = no_end_by_test (codes "learn") refl

-- whether no byte is a space
abbrev spaced_nowhere : List ℕ → Bool
spaced_nowhere [] = true
spaced_nowhere (x ∷ xs) = not (eqb x 32) && spaced_nowhere xs

no_space_by_test : (xs : List ℕ) → spaced_nowhere xs ≡ true → HasNoSpace xs
no_space_by_test [] _ = All-nil (λ b. b ≢ 32)
no_space_by_test (x ∷ xs) passes = by_first (no_space_by_test xs) (eqb x 32) refl passes
  where
    by_first : (spaced_nowhere xs ≡ true → HasNoSpace xs) → (test : Bool) → eqb x 32 ≡ test → (not test && spaced_nowhere xs) ≡ true → HasNoSpace (x ∷ xs)
    by_first others true is h = absurd (false≢true h)
    by_first others false is h = All-cons (λ b. b ≢ 32) x xs (λ same. false≢true (sym is ∙ eq-eqb x 32 same)) (others h)

pub event_word-has_no_space : (event : Event) → HasNoSpace (event_word event)
event_word-has_no_space (Call client Create) = no_space_by_test (codes "create") refl
event_word-has_no_space (Call client (Assign batch)) = no_space_by_test (codes "assign") refl
event_word-has_no_space (Call client (Acquire event)) = no_space_by_test (codes "acquire") refl
event_word-has_no_space (Call client (Release event)) = no_space_by_test (codes "release") refl
event_word-has_no_space (Query client server pairs) = no_space_by_test (codes "query") refl
event_word-has_no_space (Retry client server) = no_space_by_test (codes "retry") refl
event_word-has_no_space (Deliver k) = no_space_by_test (codes "deliver") refl
event_word-has_no_space (Lose k) = no_space_by_test (codes "lose") refl
event_word-has_no_space (Tick who) = no_space_by_test (codes "tick") refl
event_word-has_no_space (Work server workers) = no_space_by_test (codes "work") refl
event_word-has_no_space (Stop server) = no_space_by_test (codes "stop") refl
event_word-has_no_space (Notice server) = no_space_by_test (codes "notice") refl
event_word-has_no_space (Show server) = no_space_by_test (codes "show") refl
event_word-has_no_space Join = no_space_by_test (codes "join") refl
event_word-has_no_space Round = no_space_by_test (codes "round") refl
event_word-has_no_space (Learn client) = no_space_by_test (codes "learn") refl

-- what follows it begins with a space, where anything does
pub event_words-begin : (event : Event) → BeginsNo (λ b. b ≢ 32) (event_words event)
event_words-begin (Call client Create) = λ other. other refl
event_words-begin (Call client (Assign batch)) = λ other. other refl
event_words-begin (Call client (Acquire event)) = λ other. other refl
event_words-begin (Call client (Release event)) = λ other. other refl
event_words-begin (Query client server pairs) = λ other. other refl
event_words-begin (Retry client server) = λ other. other refl
event_words-begin (Deliver k) = λ other. other refl
event_words-begin (Lose k) = λ other. other refl
event_words-begin (Tick who) = λ other. other refl
event_words-begin (Work server workers) = λ other. other refl
event_words-begin (Stop server) = λ other. other refl
event_words-begin (Notice server) = λ other. other refl
event_words-begin (Show server) = λ other. other refl
event_words-begin Join = tt
event_words-begin Round = tt
event_words-begin (Learn client) = λ other. other refl

-- the first and the fourth letter of a first word, which tell it
abbrev pub word_key : List ℕ → ℕ
word_key word = get_or word 0 0 + 256 * get_or word 3 0

-- numbers behind spaces have no LF in them
one_word-has_no_end : (most n : ℕ) → most < 2 ^ 64 → IsFromOneTo most n → HasNoEnd (one_word n)
one_word-has_no_end most n small fit =
    free_append (codes " ") (decimal n) (no_end_by_test (codes " ") refl) (decimal_has_no_end n (omega (arith, fit.high)))

two_words-has_no_end : (most most' a b : ℕ) → most < 2 ^ 64 → most' < 2 ^ 64 → IsFromOneTo most a → IsFromOneTo most' b → HasNoEnd (two_words (a, b))
two_words-has_no_end most most' a b small small' fit fit' =
    free_append (one_word a ++ codes " ") (decimal b) (free_append (one_word a) (codes " ") (one_word-has_no_end most a small fit) (no_end_by_test (codes " ") refl)) (decimal_has_no_end b (omega (arith, fit'.high)))

event_words-has_no_end : (event : Event) → IsEvent event → HasNoEnd (event_words event)
event_words-has_no_end (Call client Create) fit =
    free_append (one_word client.0) [] (one_word-has_no_end 4294967295 client.0 (omega arith) fit.client_fits) (All-nil (λ b. b ≢ 10))
event_words-has_no_end (Call client (Assign batch)) fit =
    free_append (one_word client.0) (pair_words batch) (one_word-has_no_end 4294967295 client.0 (omega arith) fit.client_fits) (words_have_no_end pair_word IsPair pair_has_no_end batch fit.command_fits.each)
event_words-has_no_end (Call client (Acquire event)) fit =
    free_append (one_word client.0) (one_word event.0) (one_word-has_no_end 4294967295 client.0 (omega arith) fit.client_fits) (one_word-has_no_end 18446744073709551615 event.0 (omega arith) fit.command_fits)
event_words-has_no_end (Call client (Release event)) fit =
    free_append (one_word client.0) (one_word event.0) (one_word-has_no_end 4294967295 client.0 (omega arith) fit.client_fits) (one_word-has_no_end 18446744073709551615 event.0 (omega arith) fit.command_fits)
event_words-has_no_end (Query client server pairs) fit =
    free_append (two_words (client.0, server.0)) (asked_words pairs) (two_words-has_no_end 4294967295 4294967295 client.0 server.0 (omega arith) (omega arith) fit.client_fits fit.server_fits) (words_have_no_end asked_word IsAskedPair asked_has_no_end pairs fit.pairs_fit.each)
event_words-has_no_end (Retry client server) fit = two_words-has_no_end 4294967295 4294967295 client.0 server.0 (omega arith) (omega arith) fit.client_fits fit.server_fits
event_words-has_no_end (Deliver k) fit = one_word-has_no_end 4294967295 k (omega arith) fit
event_words-has_no_end (Lose k) fit = one_word-has_no_end 4294967295 k (omega arith) fit
event_words-has_no_end (Tick None) fit = free_append (codes " ") (decimal 0) (no_end_by_test (codes " ") refl) (decimal_has_no_end 0 (omega arith))
event_words-has_no_end (Tick (Some server)) fit = one_word-has_no_end 4294967295 server.0 (omega arith) fit
event_words-has_no_end (Work server workers) fit = two_words-has_no_end 4294967295 8 server.0 workers (omega arith) (omega arith) fit.server_fits fit.workers_fit
event_words-has_no_end (Stop server) fit = one_word-has_no_end 4294967295 server.0 (omega arith) fit
event_words-has_no_end (Notice server) fit = one_word-has_no_end 4294967295 server.0 (omega arith) fit
event_words-has_no_end (Show server) fit = one_word-has_no_end 4294967295 server.0 (omega arith) fit
event_words-has_no_end Join fit = All-nil (λ b. b ≢ 10)
event_words-has_no_end Round fit = All-nil (λ b. b ≢ 10)
event_words-has_no_end (Learn client) fit = one_word-has_no_end 4294967295 client.0 (omega arith) fit

-- no event's text has an LF in it
pub event_text-has_no_end : (event : Event) → IsEvent event → HasNoEnd (event_text event)
event_text-has_no_end event fit = free_append (event_word event) (event_words event) (event_word-has_no_end event) (event_words-has_no_end event fit)

same_client : (one other : ClientId) → one.0 ≡ other.0 → one ≡ other
same_client one other same = ap (λ n. let c : ClientId = record { 0 = n } in c) same

same_server : (one other : ServerId) → one.0 ≡ other.0 → one ≡ other
same_server one other same = ap (λ n. let s : ServerId = record { 0 = n } in s) same

-- no server is spelt as the manager is
pub no_server_zero : (server : ServerId) → IsFromOneTo 4294967295 server.0 → one_word server.0 ≢ one_word 0
no_server_zero server fit same =
    absurd (omega (arith, fit.low, decimal_injective server.0 0 (omega (arith, fit.high)) (omega arith) (ap (drop 1) same)))

-- an event is known by the words of its line
event-by_words : (one other : Event) → IsEvent one → IsEvent other → event_word one ≡ event_word other → event_words one ≡ event_words other → one ≡ other
event-by_words (Call client Create) (Call client' Create) fit fit' _ same =
    ap (λ c. Call c Create) (same_client client client' (one_word-injective 4294967295 client.0 client'.0 (omega arith) fit.client_fits fit'.client_fits (sym (append-nil (one_word client.0)) ∙ same ∙ append-nil (one_word client'.0))))
event-by_words (Call client (Assign batch)) (Call client' (Assign batch')) fit fit' _ same =
    let firsts = word_once 4294967295 4294967295 (one_word client.0 ++ pair_words batch) client.0 client'.0 (pair_words batch) (pair_words batch') (omega arith) (omega arith) (front_reads pair_word 4294967295 client.0 batch (one_word client.0 ++ pair_words batch) fit.client_fits refl) (front_reads pair_word 4294967295 client'.0 batch' (one_word client.0 ++ pair_words batch) fit'.client_fits same) in
    ap (λ c. Call c (Assign batch)) (same_client client client' firsts.0) ∙ ap (λ b. Call client' (Assign b)) (words-injective pair_word IsPair pairs_once batch batch' fit.command_fits.each fit'.command_fits.each firsts.1)
event-by_words (Call client (Acquire event)) (Call client' (Acquire event')) fit fit' _ same =
    let both = two_words-injective 4294967295 18446744073709551615 client.0 event.0 client'.0 event'.0 (omega arith) (omega arith) fit.client_fits fit.command_fits fit'.client_fits fit'.command_fits (append_assoc (one_word client.0) (codes " ") (decimal event.0) ∙ same ∙ sym (append_assoc (one_word client'.0) (codes " ") (decimal event'.0))) in
    ap (λ c. Call c (Acquire event)) (same_client client client' both.0) ∙ ap (λ e. Call client' (Acquire e)) (same_event event event' both.1)
event-by_words (Call client (Release event)) (Call client' (Release event')) fit fit' _ same =
    let both = two_words-injective 4294967295 18446744073709551615 client.0 event.0 client'.0 event'.0 (omega arith) (omega arith) fit.client_fits fit.command_fits fit'.client_fits fit'.command_fits (append_assoc (one_word client.0) (codes " ") (decimal event.0) ∙ same ∙ sym (append_assoc (one_word client'.0) (codes " ") (decimal event'.0))) in
    ap (λ c. Call c (Release event)) (same_client client client' both.0) ∙ ap (λ e. Call client' (Release e)) (same_event event event' both.1)
event-by_words (Query client server pairs) (Query client' server' pairs') fit fit' _ same =
    let firsts = word_once 4294967295 4294967295 (two_words (client.0, server.0) ++ asked_words pairs) client.0 client'.0 (one_word server.0 ++ asked_words pairs) (one_word server'.0 ++ asked_words pairs') (omega arith) (omega arith) (both_reads asked_word 4294967295 client.0 server.0 pairs (two_words (client.0, server.0) ++ asked_words pairs) fit.client_fits refl) (both_reads asked_word 4294967295 client'.0 server'.0 pairs' (two_words (client.0, server.0) ++ asked_words pairs) fit'.client_fits same) in
    let seconds = word_once 4294967295 4294967295 (one_word server.0 ++ asked_words pairs) server.0 server'.0 (asked_words pairs) (asked_words pairs') (omega arith) (omega arith) (front_reads asked_word 4294967295 server.0 pairs (one_word server.0 ++ asked_words pairs) fit.server_fits refl) (front_reads asked_word 4294967295 server'.0 pairs' (one_word server.0 ++ asked_words pairs) fit'.server_fits firsts.1) in
    ap (λ c. Query c server pairs) (same_client client client' firsts.0) ∙ ap (λ s. Query client' s pairs) (same_server server server' seconds.0) ∙ ap (λ ps. Query client' server' ps) (words-injective asked_word IsAskedPair asked_once pairs pairs' fit.pairs_fit.each fit'.pairs_fit.each seconds.1)
event-by_words (Retry client server) (Retry client' server') fit fit' _ same =
    let both = two_words-injective 4294967295 4294967295 client.0 server.0 client'.0 server'.0 (omega arith) (omega arith) fit.client_fits fit.server_fits fit'.client_fits fit'.server_fits same in
    ap (λ c. Retry c server) (same_client client client' both.0) ∙ ap (λ s. Retry client' s) (same_server server server' both.1)
event-by_words (Deliver k) (Deliver k') fit fit' _ same = ap Deliver (one_word-injective 4294967295 k k' (omega arith) fit fit' same)
event-by_words (Lose k) (Lose k') fit fit' _ same = ap Lose (one_word-injective 4294967295 k k' (omega arith) fit fit' same)
event-by_words (Tick (Some server)) (Tick (Some server')) fit fit' _ same =
    ap (λ s. Tick (Some s)) (same_server server server' (one_word-injective 4294967295 server.0 server'.0 (omega arith) fit fit' same))
event-by_words (Tick None) (Tick None) _ _ _ _ = refl
event-by_words (Tick None) (Tick (Some server)) _ fit _ same = absurd (no_server_zero server fit (sym same))
event-by_words (Tick (Some server)) (Tick None) fit _ _ same = absurd (no_server_zero server fit same)
event-by_words (Work server workers) (Work server' workers') fit fit' _ same =
    let both = two_words-injective 4294967295 8 server.0 workers server'.0 workers' (omega arith) (omega arith) fit.server_fits fit.workers_fit fit'.server_fits fit'.workers_fit same in
    ap (λ s. Work s workers) (same_server server server' both.0) ∙ ap (λ w. Work server' w) both.1
event-by_words (Stop server) (Stop server') fit fit' _ same =
    ap Stop (same_server server server' (one_word-injective 4294967295 server.0 server'.0 (omega arith) fit fit' same))
event-by_words (Notice server) (Notice server') fit fit' _ same =
    ap Notice (same_server server server' (one_word-injective 4294967295 server.0 server'.0 (omega arith) fit fit' same))
event-by_words (Show server) (Show server') fit fit' _ same =
    ap Show (same_server server server' (one_word-injective 4294967295 server.0 server'.0 (omega arith) fit fit' same))
event-by_words Join Join _ _ _ _ = refl
event-by_words Round Round _ _ _ _ = refl
event-by_words (Learn client) (Learn client') fit fit' _ same =
    ap Learn (same_client client client' (one_word-injective 4294967295 client.0 client'.0 (omega arith) fit fit' same))
event-by_words one (Call client' Create) _ _ named _ = absurd (omega (arith, ap word_key named))
event-by_words one other _ _ named _ = absurd (omega (arith, ap word_key named))

-- and so by its text
pub event_text-injective : (one other : Event) → IsEvent one → IsEvent other → event_text one ≡ event_text other → one ≡ other
event_text-injective one other fit fit' same =
    let cut = cut_once (λ b. b ≢ 32) (event_word one) (event_words one) (event_word other) (event_words other) (event_word-has_no_space one) (event_word-has_no_space other) (event_words-begin one) (event_words-begin other) same in
    event-by_words one other fit fit' cut.0 cut.1
