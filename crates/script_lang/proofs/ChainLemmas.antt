-- Lines of the input of a chain: each text is of one line.
use Rattle.std.proofs.Common.{◌≡◌, ◌≢◌, ℕ, ◌^◌, ◌<◌, ◌≤◌, List, [], ◌++◌, drop, refl, sym, ap, ◌∙◌, arith}
use Rattle.std.specs.Prelude.{All, codes}
use Rattle.std.specs.Fmt.{decimal}
use Rattle.kr_order.specs.declared.ids.ClientId.{ClientId}
use Rattle.kr_order.specs.declared.ids.EventId.{EventId}
use Rattle.kr_order.specs.declared.history.Command.{Command as Begun}
use Rattle.kr_order.specs.declared.history.Command.TheVariants.{Create}
use Rattle.kr_order.specs.Text.{asked_word, command_word}
use Rattle.script_lang.specs.declared.live.LiveCall.{LiveCall}
use Rattle.script_lang.specs.declared.live.LiveCall.TheVariants.{Command as Calls, Query as Asks}
use Rattle.script_lang.specs.declared.chain.ChainLine.{ChainLine}
use Rattle.script_lang.specs.declared.chain.ChainLine.TheVariants.{Command, Query}
use Rattle.script_lang.specs.declared.chain.ChainQuery.{ChainQuery}
use Rattle.script_lang.specs.Line.{HasNoEnd, HasNoSpace, IsWordCut}
use Rattle.script_lang.specs.Number.{IsFromOneTo, IsDigit, BeginsNoDigit}
use Rattle.script_lang.specs.Event.{IsAskedPair, asked_words}
use Rattle.script_lang.specs.Reading.{ReadsWord, one_word}
use Rattle.script_lang.specs.Live.{AreAsked, IsCalled, live_text}
use Rattle.script_lang.specs.Chain.{IsChainLine, IsChainQuery, chain_text, query_words}
use Rattle.script_lang.proofs.LineLemmas.{cut_once, no_end_by_test, free_append}
use Rattle.script_lang.proofs.NumberLemmas.{decimal_has_no_end, decimal_is_digits, number_once}
use Rattle.script_lang.proofs.WordLemmas.{words-injective, words_have_no_end, words_begin, word_once}
use Rattle.script_lang.proofs.PairLemmas.{asked_has_no_end, asked_once}
use Rattle.script_lang.proofs.EventLemmas.{word_key}
use Rattle.script_lang.proofs.LiveLemmas.{live_text-has_no_end, live_text-injective, live_word-has_no_space, cut_so}

-- a count behind a space: a number from 0 on
abbrev pub ReadsCount : ℕ → List ℕ → ℕ → List ℕ → Type 0
ReadsCount most bytes n rest = ReadsWord decimal (λ k. k ≤ most) bytes n rest

-- digits that spell no count leave none in front
pub no_count : (most : ℕ) (bytes word digits rest : List ℕ) → most < 2 ^ 64 → bytes ≡ codes " " ++ word → word ≡ digits ++ rest → All IsDigit digits
    → BeginsNoDigit rest → ((n : ℕ) → n ≤ most → digits ≢ decimal n) → (n : ℕ) (after : List ℕ) → ReadsCount most bytes n after → ⊥
no_count most bytes word digits rest small is whole each ends none n after read =
    none n read.fit ((cut_once IsDigit digits rest (decimal n) after each (decimal_is_digits n (omega (arith, read.fit))) ends read.ends
    (sym whole ∙ ap (drop 1) (sym is ∙ read.whole))).0)

-- a count is read in one way
pub count_once : (most : ℕ) (bytes : List ℕ) (m n : ℕ) (xs ys : List ℕ) → most < 2 ^ 64 → ReadsCount most bytes m xs
    → ReadsCount most bytes n ys → (m ≡ n) × (xs ≡ ys)
count_once most bytes m n xs ys small one other =
    number_once m n xs ys (omega (arith, one.fit)) (omega (arith, other.fit)) one.ends other.ends (ap (drop 1) (sym one.whole ∙ other.whole))

-- a query begins with its node
node_reads : (above : ℕ) (query : ChainQuery) (words : List ℕ) → IsChainQuery above query → words ≡ query_words query
    → ReadsWord decimal (IsFromOneTo 3) words query.node (one_word query.least ++ asked_words query.pairs)
node_reads above query words fit is = record { fit = fit.node_fits; whole = is; ends = λ digit. absurd (omega (arith, digit.0)) }

-- behind it stands how many entries it asks for
least_reads : (above : ℕ) (query : ChainQuery) (rest : List ℕ) → IsChainQuery above query
    → rest ≡ one_word query.least ++ asked_words query.pairs → ReadsCount above rest query.least (asked_words query.pairs)
least_reads above query rest fit is = record { fit = fit.least_fits; whole = is; ends = words_begin asked_word query.pairs }

pub query_without_node : (above : ℕ) (words : List ℕ) → ((n : ℕ) (after : List ℕ) → ReadsWord decimal (IsFromOneTo 3) words n after → ⊥)
    → (query : ChainQuery) → IsChainQuery above query → words ≢ query_words query
query_without_node above words none query fit is =
    none query.node (one_word query.least ++ asked_words query.pairs) (node_reads above query words fit is)

behind_node : (above : ℕ) (words : List ℕ) (n : ℕ) (rest : List ℕ) → ReadsWord decimal (IsFromOneTo 3) words n rest → (query : ChainQuery)
    → IsChainQuery above query → words ≡ query_words query → rest ≡ one_word query.least ++ asked_words query.pairs
behind_node above words n rest read query fit is =
    (word_once 3 3 words n query.node rest (one_word query.least ++ asked_words query.pairs) (omega arith) (omega arith) read
    (node_reads above query words fit is)).1

pub query_without_least : (above : ℕ) (words : List ℕ) (n : ℕ) (rest : List ℕ) → ReadsWord decimal (IsFromOneTo 3) words n rest
    → ((m : ℕ) (after : List ℕ) → ReadsCount above rest m after → ⊥) → (query : ChainQuery) → IsChainQuery above query → words ≢ query_words query
query_without_least above words n rest read none query fit is =
    none query.least (asked_words query.pairs) (least_reads above query rest fit (behind_node above words n rest read query fit is))

pub query_without_pairs : (above : ℕ) (words : List ℕ) (n : ℕ) (rest : List ℕ) (m : ℕ) (after : List ℕ) → above < 2 ^ 64
    → ReadsWord decimal (IsFromOneTo 3) words n rest → ReadsCount above rest m after
    → ((pairs : List (EventId × EventId)) → AreAsked pairs → after ≢ asked_words pairs)
    → (query : ChainQuery) → IsChainQuery above query → words ≢ query_words query
query_without_pairs above words n rest m after small read count none query fit is =
    none query.pairs fit.asked ((count_once above rest m query.least after (asked_words query.pairs) small count
    (least_reads above query rest fit (behind_node above words n rest read query fit is))).1)

-- two queries with the same words are one
query_words-injective : (above : ℕ) (one other : ChainQuery) → IsChainQuery above one → IsChainQuery above other
    → query_words one ≡ query_words other → one ≡ other
query_words-injective above one other fit fit' same =
    let words : List ℕ = query_words one in
    let rest : List ℕ = one_word one.least ++ asked_words one.pairs in
    let nodes = word_once 3 3 words one.node other.node rest (one_word other.least ++ asked_words other.pairs) (omega arith) (omega arith)
    (node_reads above one words fit refl) (node_reads above other words fit' same) in
    let counts = number_once one.least other.least (asked_words one.pairs) (asked_words other.pairs) (omega (arith, fit.is_number))
    (omega (arith, fit'.is_number)) (words_begin asked_word one.pairs) (words_begin asked_word other.pairs) (ap (drop 1) nodes.1) in
    let pairs : one.pairs ≡ other.pairs = words-injective asked_word IsAskedPair asked_once one.pairs other.pairs fit.asked.pairs_fit.each
    fit'.asked.pairs_fit.each counts.1 in
    let f : ℕ → ℕ → List (EventId × EventId) → ChainQuery = λ n k ps. record { node = n; least = k; pairs = ps } in
    ap (λ n. f n one.least one.pairs) nodes.0 ∙ ap (λ k. f other.node k one.pairs) counts.0 ∙ ap (λ ps. f other.node other.least ps) pairs

command_is_no_query : (command : Begun) → command_word command ≡ codes "query" → ⊥
command_is_no_query Create named = absurd (omega (arith, ap word_key named))
command_is_no_query command named = absurd (omega (arith, ap word_key named))

query_has_no_space : HasNoSpace (codes "query")
query_has_no_space = live_word-has_no_space (Asks [])

-- a line is cut behind the first word of its query
query_cut : (text word rest : List ℕ) (query : ChainQuery) → IsWordCut text word rest → text ≡ chain_text (Query query)
    → (word ≡ codes "query") × (rest ≡ query_words query)
query_cut text word rest query cut is =
    cut_once (λ b. b ≢ 32) word rest (codes "query") (query_words query) cut.word_has_no_space query_has_no_space cut.ends
    (λ other. other refl) (sym cut.whole ∙ is)

-- a line whose first word is that of a query gives no other query than its words do
pub no_query_line : (above : ℕ) (text word rest : List ℕ) → IsWordCut text word rest → word ≡ codes "query"
    → ((query : ChainQuery) → IsChainQuery above query → rest ≢ query_words query) → (one : ChainLine) → IsChainLine above one → text ≢ chain_text one
no_query_line above text word rest cut named none (Query query) fit is = none query fit ((query_cut text word rest query cut is).1)
no_query_line above text word rest cut named none (Command client command) fit is =
    command_is_no_query command (sym ((cut_so text word rest (client, Calls command) cut is).0) ∙ named)

-- another line gives a command, if anything
pub no_command_line : (above : ℕ) (text word rest : List ℕ) → IsWordCut text word rest → word ≢ codes "query"
    → ((client : ClientId) (command : Begun) → IsCalled 16 (client, Calls command) → text ≢ live_text (client, Calls command))
    → (one : ChainLine) → IsChainLine above one → text ≢ chain_text one
no_command_line above text word rest cut other none (Query query) fit is = other ((query_cut text word rest query cut is).0)
no_command_line above text word rest cut other none (Command client command) fit is = none client command fit is

-- and it is no query of live input
pub no_live_query : (text word rest : List ℕ) (client : ClientId) (call : LiveCall) (pairs : List (EventId × EventId)) → IsWordCut text word rest
    → word ≢ codes "query" → call ≡ Asks pairs → text ≡ live_text (client, call) → ⊥
no_live_query text word rest client call pairs cut other asks is =
    other ((cut_so text word rest (client, Asks pairs) cut (is ∙ ap (λ c. live_text (client, c)) asks)).0)

-- no line's text has an LF in it
pub chain_text-has_no_end : (above : ℕ) (one : ChainLine) → IsChainLine above one → HasNoEnd (chain_text one)
chain_text-has_no_end above (Command client command) fit = live_text-has_no_end 16 (omega arith) (client, Calls command) fit
chain_text-has_no_end above (Query query) fit =
    free_append (codes "query") (query_words query) (no_end_by_test (codes "query") refl)
    (free_append (one_word query.node) (one_word query.least ++ asked_words query.pairs) (word_free query.node (omega (arith, fit.node_fits.high)))
    (free_append (one_word query.least) (asked_words query.pairs) (word_free query.least (omega (arith, fit.is_number)))
    (words_have_no_end asked_word IsAskedPair asked_has_no_end query.pairs fit.asked.pairs_fit.each)))
  where
    word_free : (n : ℕ) → n < 2 ^ 64 → HasNoEnd (one_word n)
    word_free n small = free_append (codes " ") (decimal n) (no_end_by_test (codes " ") refl) (decimal_has_no_end n small)

cut_of_query : (query : ChainQuery) → IsWordCut (chain_text (Query query)) (codes "query") (query_words query)
cut_of_query query = record { whole = refl; word_has_no_space = query_has_no_space; ends = λ other. other refl }

-- a line is known by its text
pub chain_text-injective : (above : ℕ) (one other : ChainLine) → IsChainLine above one → IsChainLine above other
    → chain_text one ≡ chain_text other → one ≡ other
chain_text-injective above (Query query) (Query query') fit fit' same =
    ap Query (query_words-injective above query query' fit fit'
    ((query_cut (chain_text (Query query)) (codes "query") (query_words query) query' (cut_of_query query) same).1))
chain_text-injective above (Query query) (Command client command) fit fit' same =
    absurd (command_is_no_query command (sym ((cut_so (chain_text (Query query)) (codes "query") (query_words query) (client, Calls command) (cut_of_query query) same).0)))
chain_text-injective above (Command client command) (Query query) fit fit' same =
    absurd (command_is_no_query command (sym ((cut_so (chain_text (Query query)) (codes "query") (query_words query) (client, Calls command) (cut_of_query query) (sym same)).0)))
chain_text-injective above (Command client command) (Command client' command') fit fit' same =
    as_line (live_text-injective 16 (omega arith) (client, Calls command) (client', Calls command') fit fit' same)
  where
    line_of : ClientId × LiveCall → ChainLine
    line_of (who, Calls begun) = Command who begun
    line_of (who, Asks pairs) = Command who Create

    as_line : (let one : ClientId × LiveCall = (client, Calls command) in let other : ClientId × LiveCall = (client', Calls command') in one ≡ other) → Command client command ≡ Command client' command'
    as_line is = ap line_of is
