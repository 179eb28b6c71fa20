-- The longest of a history and what the servers have acknowledged.
use Rattle.std.proofs.Common.{zero, suc, ◌≡◌, ℕ, ◌<◌, ◌≤◌, Bool, true, false, cond, ltb, List, [], ◌∷◌, length, refl, sym, ap, ◌∙◌, arith}
use Rattle.std.specs.Prelude.{slice_set, All}
use Rattle.std.proofs.lemmas.Bool.{ltb-true, ltb-false}
use Rattle.std.proofs.lemmas.List.{take_all}
use Rattle.std.proofs.lemmas.List.Elements.{All-head, All-tail, All-weaker}
use Rattle.kr_order.specs.declared.history.Entry.{Entry}
use Rattle.kr_order.specs.Prefix.{IsPrefix}
use Rattle.kr_order.proofs.PrefixLemmas.{take_front}
use Rattle.kr_protocol.specs.Server.{Server, acknowledged}
use Rattle.kr_world.specs.World.{longer, longest}

-- a history with more behind it is the longer one
pub longer_front : (history log : List Entry) → IsPrefix history log → longer history log ≡ log
longer_front history log front = by_test (ltb (length history) (length log)) refl
  where
    by_test : (test : Bool) → ltb (length history) (length log) ≡ test → cond test log history ≡ log
    by_test true is = refl
    by_test false is =
        let same : length log ≤ length history = ltb-false (length history) (length log) is in
        sym (take_front history log front) ∙ take_all (length history) log same

-- and one that is no shorter stays
pub longer_same : (history log : List Entry) → length log ≤ length history → longer history log ≡ history
longer_same history log le = by_test (ltb (length history) (length log)) refl
  where
    by_test : (test : Bool) → ltb (length history) (length log) ≡ test → cond test log history ≡ history
    by_test true is = absurd (omega (arith, ltb-true (length history) (length log) is))
    by_test false is = refl

-- what the server has acknowledged is not more than so much
abbrev pub IsWithin : ℕ → Server → Type 0
IsWithin n server = length (acknowledged server) ≤ n

pub longest_same :
    (history : List Entry) (servers : List Server)
    → All (IsWithin (length history)) servers
    → longest history servers ≡ history
longest_same history [] within = refl
longest_same history (server ∷ servers) within =
    let same : longer history (acknowledged server) ≡ history =
    longer_same history (acknowledged server) (All-head (IsWithin (length history)) server servers within) in
    ap (λ h. longest h servers) same ∙ longest_same history servers (All-tail (IsWithin (length history)) server servers within)

longer_length : (history log : List Entry) → length history ≤ length (longer history log)
longer_length history log = by_test (ltb (length history) (length log)) refl
  where
    by_test : (test : Bool) → ltb (length history) (length log) ≡ test → length history ≤ length (cond test log history)
    by_test true is = omega (arith, ltb-true (length history) (length log) is)
    by_test false is = omega arith

-- where one server goes on, the history is at most what this one has acknowledged
pub longest_set :
    (history : List Entry) (servers : List Server) (i : ℕ) (after : Server)
    → i < length servers
    → All (IsWithin (length history)) servers
    → longest history (slice_set servers i after) ≡ longer history (acknowledged after)
longest_set history [] i after lt within = absurd (omega arith)
longest_set history (server ∷ servers) zero after lt within =
    let now = longer history (acknowledged after) in
    let rest = All-tail (IsWithin (length history)) server servers within in
    let long = longer_length history (acknowledged after) in
    longest_same now servers (All-weaker (IsWithin (length history)) (IsWithin (length now)) (λ s le. omega arith) servers rest)
longest_set history (server ∷ servers) (suc i) after lt within =
    let same : longer history (acknowledged server) ≡ history =
    longer_same history (acknowledged server) (All-head (IsWithin (length history)) server servers within) in
    ap (λ h. longest h (slice_set servers i after)) same ∙ longest_set history servers i after (omega arith) (All-tail (IsWithin (length history)) server servers within)
