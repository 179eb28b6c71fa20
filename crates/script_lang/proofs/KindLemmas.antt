-- Which lines give an event, by their first word.
use Rattle.std.proofs.Common.{◌≡◌, ◌≢◌, ℕ, ◌≤◌, List, [], ◌++◌, length, Option, None, Some, sym, ap, ◌∙◌, arith, append_assoc}
use Rattle.std.specs.Prelude.{codes}
use Rattle.std.specs.Fmt.{decimal}
use Rattle.kr_order.specs.declared.ids.EventId.{EventId}
use Rattle.kr_order.specs.declared.ids.ClientId.{ClientId}
use Rattle.kr_order.specs.declared.ids.ServerId.{ServerId}
use Rattle.kr_order.specs.declared.batch.Pair.{Pair}
use Rattle.kr_order.specs.declared.history.Command.TheVariants.{Create, Assign, Acquire, Release}
use Rattle.kr_order.specs.Text.{pair_word, pair_words, asked_word}
use Rattle.script_lang.specs.declared.script.Event.{Event}
use Rattle.script_lang.specs.declared.script.Event.TheVariants.{Call, Query, Retry, Tick, Work, Join}
use Rattle.script_lang.specs.Line.{IsWordCut}
use Rattle.script_lang.specs.Number.{IsFromOneTo}
use Rattle.script_lang.specs.Event.{IsPair, IsAskedPair, ArePairs, IsEvent, asked_words, event_word, event_words, event_text}
use Rattle.script_lang.specs.Reading.{Spells, ReadsWord, AreFromOneTo, IsEventOf, one_word, two_words}
use Rattle.script_lang.proofs.LineLemmas.{cut_once}
use Rattle.script_lang.proofs.WordLemmas.{words-injective, word_once, front_reads, both_reads}
use Rattle.script_lang.proofs.PairLemmas.{asked_once}
use Rattle.script_lang.proofs.EventLemmas.{word_key, event_word-has_no_space, event_words-begin}

-- what is read of the words behind the first is read of the line
pub line_spells : (text word words : List ℕ) (read : Option Event) → IsWordCut text word words → Spells event_words (IsEventOf word) words read → Spells event_text IsEvent text read
line_spells text word words None cut none = λ event fit is.
    let same = cut_once (λ b. b ≢ 32) word words (event_word event) (event_words event) cut.word_has_no_space (event_word-has_no_space event) cut.ends (event_words-begin event) (sym cut.whole ∙ is) in
    none event (record { fit = fit; named = sym same.0 }) same.1
line_spells text word words (Some event) cut read =
    (read.0.fit, cut.whole ∙ ap (λ w. w ++ words) (sym read.0.named) ∙ ap (λ ws. event_word event ++ ws) read.1)

-- words that are no two numbers give no acquire, and no release, retry or work
pub no_acquire : (words : List ℕ) → ((pair : ℕ × ℕ) → AreFromOneTo 4294967295 18446744073709551615 pair → words ≢ two_words pair) → (event : Event) → IsEventOf (codes "acquire") event → words ≢ event_words event
no_acquire words none (Call client (Acquire event)) fit is =
    none (client.0, event.0) (record { first = fit.fit.client_fits; second = fit.fit.command_fits }) (is ∙ sym (append_assoc (one_word client.0) (codes " ") (decimal event.0)))
no_acquire words none event fit is = absurd (omega (arith, ap word_key fit.named))

pub no_release : (words : List ℕ) → ((pair : ℕ × ℕ) → AreFromOneTo 4294967295 18446744073709551615 pair → words ≢ two_words pair) → (event : Event) → IsEventOf (codes "release") event → words ≢ event_words event
no_release words none (Call client (Release event)) fit is =
    none (client.0, event.0) (record { first = fit.fit.client_fits; second = fit.fit.command_fits }) (is ∙ sym (append_assoc (one_word client.0) (codes " ") (decimal event.0)))
no_release words none event fit is = absurd (omega (arith, ap word_key fit.named))

pub no_retry : (words : List ℕ) → ((pair : ℕ × ℕ) → AreFromOneTo 4294967295 4294967295 pair → words ≢ two_words pair) → (event : Event) → IsEventOf (codes "retry") event → words ≢ event_words event
no_retry words none (Retry client server) fit is =
    none (client.0, server.0) (record { first = fit.fit.client_fits; second = fit.fit.server_fits }) is
no_retry words none (Call client Create) fit is = absurd (omega (arith, ap word_key fit.named))
no_retry words none event fit is = absurd (omega (arith, ap word_key fit.named))

pub no_work : (words : List ℕ) → ((pair : ℕ × ℕ) → AreFromOneTo 4294967295 8 pair → words ≢ two_words pair) → (event : Event) → IsEventOf (codes "work") event → words ≢ event_words event
no_work words none (Work server workers) fit is =
    none (server.0, workers) (record { first = fit.fit.server_fits; second = fit.fit.workers_fit }) is
no_work words none (Call client Create) fit is = absurd (omega (arith, ap word_key fit.named))
no_work words none event fit is = absurd (omega (arith, ap word_key fit.named))

-- words that are neither 0 nor another number give no tick
pub no_tick : (words : List ℕ) → words ≢ one_word 0 → ((n : ℕ) → IsFromOneTo 4294967295 n → words ≢ one_word n) → (event : Event) → IsEventOf (codes "tick") event → words ≢ event_words event
no_tick words manager none (Tick None) fit is = manager is
no_tick words manager none (Tick (Some server)) fit is = none server.0 fit.fit is
no_tick words manager none (Call client Create) fit is = absurd (omega (arith, ap word_key fit.named))
no_tick words manager none event fit is = absurd (omega (arith, ap word_key fit.named))

-- which words give an assign: a client's number, and then a batch
pub no_assign : (words : List ℕ) → ((client : ClientId) (batch : List Pair) → ReadsWord decimal (IsFromOneTo 4294967295) words client.0 (pair_words batch) → ArePairs IsPair batch → ⊥) → (event : Event) → IsEventOf (codes "assign") event → words ≢ event_words event
no_assign words none (Call client (Assign batch)) fit is =
    none client batch (front_reads pair_word 4294967295 client.0 batch words fit.fit.client_fits is) fit.fit.command_fits
no_assign words none event fit is = absurd (omega (arith, ap word_key fit.named))

pub assign_without_number : (words : List ℕ) → ((n : ℕ) (rest : List ℕ) → ReadsWord decimal (IsFromOneTo 4294967295) words n rest → ⊥) → (event : Event) → IsEventOf (codes "assign") event → words ≢ event_words event
assign_without_number words none = no_assign words (λ client batch read _. none client.0 (pair_words batch) read)

pub assign_without_batch : (words : List ℕ) (n : ℕ) (rest : List ℕ) → ReadsWord decimal (IsFromOneTo 4294967295) words n rest → ((batch : List Pair) → ArePairs IsPair batch → rest ≢ pair_words batch) → (event : Event) → IsEventOf (codes "assign") event → words ≢ event_words event
assign_without_batch words n rest read none = no_assign words (λ client batch other fit. none batch fit ((word_once 4294967295 4294967295 words n client.0 rest (pair_words batch) (omega arith) (omega arith) read other).1))

-- which words give a query: a client's number, a server's, and then at least one pair
pub no_query : (words : List ℕ) → ((client : ClientId) (server : ServerId) (pairs : List (EventId × EventId)) → ReadsWord decimal (IsFromOneTo 4294967295) words client.0 (one_word server.0 ++ asked_words pairs) → ((rest : List ℕ) → rest ≡ one_word server.0 ++ asked_words pairs → ReadsWord decimal (IsFromOneTo 4294967295) rest server.0 (asked_words pairs)) → 1 ≤ length pairs → ArePairs IsAskedPair pairs → ⊥) → (event : Event) → IsEventOf (codes "query") event → words ≢ event_words event
no_query words none (Query client server pairs) fit is =
    none client server pairs (both_reads asked_word 4294967295 client.0 server.0 pairs words fit.fit.client_fits is) (λ rest rest_is. front_reads asked_word 4294967295 server.0 pairs rest fit.fit.server_fits rest_is) fit.fit.some fit.fit.pairs_fit
no_query words none (Call client Create) fit is = absurd (omega (arith, ap word_key fit.named))
no_query words none event fit is = absurd (omega (arith, ap word_key fit.named))

pub query_without_server : (words : List ℕ) (n : ℕ) (rest : List ℕ) → ReadsWord decimal (IsFromOneTo 4294967295) words n rest → ((m : ℕ) (after : List ℕ) → ReadsWord decimal (IsFromOneTo 4294967295) rest m after → ⊥) → (event : Event) → IsEventOf (codes "query") event → words ≢ event_words event
query_without_server words n rest read none = no_query words (λ client server pairs other behind _ _.
    none server.0 (asked_words pairs) (behind rest ((word_once 4294967295 4294967295 words n client.0 rest (one_word server.0 ++ asked_words pairs) (omega arith) (omega arith) read other).1)))

pub query_without_pairs : (words : List ℕ) (n : ℕ) (rest : List ℕ) (m : ℕ) (after : List ℕ) → ReadsWord decimal (IsFromOneTo 4294967295) words n rest → ReadsWord decimal (IsFromOneTo 4294967295) rest m after → ((pairs : List (EventId × EventId)) → 1 ≤ length pairs → ArePairs IsAskedPair pairs → after ≢ asked_words pairs) → (event : Event) → IsEventOf (codes "query") event → words ≢ event_words event
query_without_pairs words n rest m after read read' none = no_query words (λ client server pairs other behind some fit.
    let behind_client = (word_once 4294967295 4294967295 words n client.0 rest (one_word server.0 ++ asked_words pairs) (omega arith) (omega arith) read other).1 in
    none pairs some fit ((word_once 4294967295 4294967295 rest m server.0 after (asked_words pairs) (omega arith) (omega arith) read' (behind rest behind_client)).1))

-- no pairs are spelt as some are
pub no_pairs_alone : (after : List ℕ) (none : List (EventId × EventId)) → ArePairs IsAskedPair none → after ≡ asked_words none → length none ≡ 0 → (pairs : List (EventId × EventId)) → 1 ≤ length pairs → ArePairs IsAskedPair pairs → after ≢ asked_words pairs
no_pairs_alone after none fit is empty pairs some fit' other =
    let same : none ≡ pairs = words-injective asked_word IsAskedPair asked_once none pairs fit.each fit'.each (sym is ∙ other) in
    absurd (omega (arith, ap length same, empty, some))
