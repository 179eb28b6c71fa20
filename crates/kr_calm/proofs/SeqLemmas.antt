-- The numbers of a client's entries in a log, where they are in order.
use Rattle.kr_protocol.specs.Server.{Server, acknowledged, is_first, is_member, requested, after_request, enters, enters_new, may_enter, sends, reply_packet}
use Rattle.kr_protocol.specs.Reaction.{ignored}
use Rattle.std.proofs.Common.{Bool, List, [], ap, append_assoc, arith, cond, eqb, false, length, ltb, refl, subst, suc, sym, true, ℕ, ◌&&◌, ◌++◌, ◌∙◌, ◌∷◌, ◌≡◌, ◌≢◌, ◌≤◌}
use Rattle.std.specs.Prelude.{None, Option, Some, max, slice_get}
use Rattle.std.proofs.lemmas.Bool.{cond-true, eq-eqb, eqb-true, false≢true, ltb-false}
use Rattle.std.proofs.lemmas.List.{append-nil, length_push}
use Rattle.std.proofs.lemmas.Option.{slice_get_within}
use Rattle.kr_order.proofs.HistoryLemmas.{done_of-push, last_of-push}
use Rattle.kr_order.proofs.PrefixLemmas.{IsPrefix-append, IsPrefix-take}
use Rattle.kr_order.specs.Done.{done_after, done_of, last_of, seq_of}
use Rattle.kr_order.specs.History.{highest_seq}
use Rattle.kr_order.specs.Prefix.{IsPrefix}
use Rattle.kr_order.specs.declared.history.Command.{Command}
use Rattle.kr_order.specs.declared.history.DoneEntry.{DoneEntry}
use Rattle.kr_order.specs.declared.history.Entry.{Entry}
use Rattle.kr_order.specs.declared.ids.ClientId.{ClientId}
use Rattle.kr_protocol.proofs.Repeats.{entered_log, highest_seq-append}
use Rattle.kr_world.proofs.packets.EntryLemmas.{count_within, entries_front, entries_of-other, entries_of-own, numbered_at, numbered_front}
use Rattle.kr_world.specs.Lawful.{IsNumbered, entries_of}

-- no entry of the client has a number past this, so the greatest has not
highest_most : (caller : ClientId) (log : List Entry) (n : ℕ) → ((k : ℕ) (entry : Entry) → slice_get (entries_of caller log) k ≡ Some entry → entry.seq ≤ n) → highest_seq caller log ≤ n
highest_most caller [] n each = omega arith
highest_most caller (first ∷ more) n each = by_test (highest_most caller more n) (eqb first.client.0 caller.0) each
  where
    by_test : (((k : ℕ) (entry : Entry) → slice_get (entries_of caller more) k ≡ Some entry → entry.seq ≤ n) → highest_seq caller more ≤ n) → (own : Bool)
        → ((k : ℕ) (entry : Entry) → slice_get (cond own (first ∷ entries_of caller more) (entries_of caller more)) k ≡ Some entry → entry.seq ≤ n)
        → max (cond own first.seq 0) (highest_seq caller more) ≤ n
    by_test rest true each =
        let one : first.seq ≤ n = each 0 first refl in
        let others : highest_seq caller more ≤ n = rest (λ k entry is. each (suc k) entry is) in
        omega arith
    by_test rest false each = let others : highest_seq caller more ≤ n = rest each in omega arith

-- the greatest number is how many entries the client has
pub highest_count : (begun : List Command) (caller : ClientId) (log : List Entry) → IsNumbered begun (entries_of caller log) → highest_seq caller log ≡ length (entries_of caller log)
highest_count begun caller log numbered =
    let own = entries_of caller log in
    let most : highest_seq caller log ≤ length own = highest_most caller log (length own) (λ k entry is. let seq = (numbered k entry is).0 in omega (arith, slice_get_within own k entry is)) in
    omega (arith, count_within begun caller log numbered)

-- the greatest number does not fall
pub highest_grows : (caller : ClientId) (log longer : List Entry) → IsPrefix log longer → highest_seq caller log ≤ highest_seq caller longer
highest_grows caller log longer front = omega (arith, ap (highest_seq caller) front.is, highest_seq-append caller log front.more)

-- the number of a client's last applied entry is how many of its entries are applied
last_one : (begun : List Command) (caller : ClientId) (history : List Entry) (entry : Entry) → IsNumbered begun (entries_of caller (history ++ entry ∷ [])) → (own : Bool) → eqb entry.client.0 caller.0 ≡ own
    → seq_of (last_of caller (done_of history)) ≡ length (entries_of caller history)
    → seq_of (cond own (Some (done_after history entry)) (last_of caller (done_of history))) ≡ length (entries_of caller (history ++ entry ∷ []))
last_one begun caller history entry numbered true is known =
    let own = eqb-true entry.client.0 caller.0 is in
    let order = numbered_at begun caller history entry [] own numbered in
    let seq = order.seq in
    omega (arith, ap length (entries_of-own caller history entry [] own), length_push (entries_of caller history) entry)
last_one begun caller history entry numbered false is known =
    let other : entry.client.0 ≢ caller.0 = λ same. false≢true (sym is ∙ eq-eqb entry.client.0 caller.0 same) in
    known ∙ sym (ap length (entries_of-other caller history entry other))

last_more : (begun : List Command) (caller : ClientId) (history more : List Entry) → IsNumbered begun (entries_of caller (history ++ more))
    → seq_of (last_of caller (done_of history)) ≡ length (entries_of caller history)
    → seq_of (last_of caller (done_of (history ++ more))) ≡ length (entries_of caller (history ++ more))
last_more begun caller history [] numbered known =
    subst (λ (h : List Entry). seq_of (last_of caller (done_of h)) ≡ length (entries_of caller h)) (sym (append-nil history)) known
last_more begun caller history (entry ∷ more) numbered known =
    let longer = history ++ entry ∷ [] in
    let whole = append_assoc history (entry ∷ []) more in
    let numbered' : IsNumbered begun (entries_of caller (longer ++ more)) = subst (λ (h : List Entry). IsNumbered begun (entries_of caller h)) (sym whole) numbered in
    let front : IsNumbered begun (entries_of caller longer) = numbered_front begun caller longer (longer ++ more) (IsPrefix-append longer more) numbered' in
    let is : last_of caller (done_of longer) ≡ cond (eqb entry.client.0 caller.0) (Some (done_after history entry)) (last_of caller (done_of history)) = ap (last_of caller) (done_of-push history entry) ∙ last_of-push caller (done_of history) (done_after history entry) in
    let one = last_one begun caller history entry front (eqb entry.client.0 caller.0) refl known in
    let next : seq_of (last_of caller (done_of longer)) ≡ length (entries_of caller longer) = ap seq_of is ∙ one in
    subst (λ (h : List Entry). seq_of (last_of caller (done_of h)) ≡ length (entries_of caller h)) whole (last_more begun caller longer more numbered' next)

pub last_count : (begun : List Command) (caller : ClientId) (history : List Entry) → IsNumbered begun (entries_of caller history) → seq_of (last_of caller (done_of history)) ≡ length (entries_of caller history)
last_count begun caller history numbered = last_more begun caller [] history numbered refl

-- after its request the first member has an entry of that number
enters_so : (server : Server) (entry : Entry) → is_first server ≡ true → entry.seq ≤ highest_seq entry.client (enters_new server entry).after.log
enters_so server entry first = by_test (may_enter server entry) refl
  where
    by_test : (may : Bool) → may_enter server entry ≡ may → entry.seq ≤ highest_seq entry.client (cond may (enters server entry) (ignored server)).after.log
    by_test true may =
        let own : cond (eqb entry.client.0 entry.client.0) entry.seq 0 ≡ entry.seq = cond-true (eqb entry.client.0 entry.client.0) entry.seq 0 (eq-eqb entry.client.0 entry.client.0 refl) in
        omega (arith, ap (highest_seq entry.client) (entered_log server entry), highest_seq-append entry.client server.log (entry ∷ []), own)
    by_test false may =
        let test : ltb (highest_seq entry.client server.log) entry.seq ≡ false = sym (ap (λ b. b && ltb (highest_seq entry.client server.log) entry.seq) first) ∙ may in
        ltb-false (highest_seq entry.client server.log) entry.seq test

requested_so : (server : Server) (entry : Entry) (last : Option DoneEntry) → is_first server ≡ true → seq_of last ≤ highest_seq entry.client server.log → entry.seq ≤ highest_seq entry.client (requested server entry last).after.log
requested_so server entry None first within = enters_so server entry first
requested_so server entry (Some last) first within = by_test (eqb last.entry.seq entry.seq) refl
  where
    by_test : (same : Bool) → eqb last.entry.seq entry.seq ≡ same → entry.seq ≤ highest_seq entry.client (cond same (sends server (reply_packet server.id last ∷ [])) (enters_new server entry)).after.log
    by_test true is = omega (arith, eqb-true last.entry.seq entry.seq is)
    by_test false is = enters_so server entry first

pub request_enters : (server : Server) (begun : List Command) (client : ClientId) (seq : ℕ) (command : Command) → IsNumbered begun (entries_of client server.log) → is_member server ≡ true → is_first server ≡ true
    → seq ≤ highest_seq client (after_request server client seq command).after.log
request_enters server begun client seq command numbered member first =
    let entry : Entry = record { client = client; seq = seq; command = command } in
    let applied = acknowledged server in
    let front : IsPrefix applied server.log = IsPrefix-take server.done server.log in
    let count = last_count begun client applied (numbered_front begun client applied server.log front numbered) in
    let fewer = entries_front client applied server.log front in
    let within : seq_of (last_of client (done_of applied)) ≤ highest_seq client server.log = omega (arith, highest_count begun client server.log numbered) in
    subst (λ test. seq ≤ highest_seq client (cond test (requested server entry (last_of client (done_of applied))) (ignored server)).after.log) (sym member) (requested_so server entry (last_of client (done_of applied)) first within)
