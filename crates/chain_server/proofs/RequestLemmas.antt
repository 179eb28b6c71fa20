-- Which requests are of new commands.
use Rattle.std.proofs.Common.{◌≡◌, ℕ, ◌<◌, ◌≤◌, Bool, true, false, ◌&&◌, cond, eqb, ltb, List, [], ◌∷◌, ◌++◌, drop, refl, ap, sym, ◌∙◌, subst, append_assoc, arith}
use Rattle.std.specs.Prelude.{Option, None, Some}
use Rattle.std.specs.Option.{option_to_list}
use Rattle.std.proofs.lemmas.Bool.{cond-true, cond-false, le-ltb}
use Rattle.std.proofs.lemmas.Bool.Decides.{nat_tests}
use Rattle.std.proofs.lemmas.List.{append-nil, take-append-drop}
use Rattle.kr_order.specs.declared.ids.ClientId.{ClientId}
use Rattle.kr_order.specs.declared.history.Command.{Command}
use Rattle.kr_order.specs.declared.history.Entry.{Entry}
use Rattle.kr_order.specs.declared.history.DoneEntry.{DoneEntry}
use Rattle.kr_order.specs.History.{highest_seq}
use Rattle.kr_order.specs.Done.{done_after, done_of, last_of, seq_of}
use Rattle.kr_order.proofs.HistoryLemmas.{done_of-push, last_of-push}
use Rattle.kr_protocol.specs.Reaction.{ignored}
use Rattle.kr_protocol.specs.Server.{Server, acknowledged, is_first, is_member, sends, reply_packet, enters, enters_new, requested, after_request}
use Rattle.kr_protocol.proofs.Repeats.{highest_seq-append}
use Rattle.chain_server.specs.Parts.{entry_of, replies_again}

-- one entry more, of the client or of another
within_one : (client : ClientId) (history : List Entry) (entry : Entry) (last : Option DoneEntry) (own : Bool) → eqb entry.client.0 client.0 ≡ own → seq_of last ≤ highest_seq client history → seq_of (cond own (Some (done_after history entry)) last) ≤ highest_seq client (history ++ entry ∷ [])
within_one client history entry last true is known =
    let seq : cond (eqb entry.client.0 client.0) entry.seq 0 ≡ entry.seq = cond-true (eqb entry.client.0 client.0) entry.seq 0 is in
    omega (arith, highest_seq-append client history (entry ∷ []), seq)
within_one client history entry last false is known =
    omega (arith, highest_seq-append client history (entry ∷ []))

within_more : (client : ClientId) (history more : List Entry) → seq_of (last_of client (done_of history)) ≤ highest_seq client history → seq_of (last_of client (done_of (history ++ more))) ≤ highest_seq client (history ++ more)
within_more client history [] known =
    subst (λ (h : List Entry). seq_of (last_of client (done_of h)) ≤ highest_seq client h) (sym (append-nil history)) known
within_more client history (entry ∷ more) known =
    let longer = history ++ entry ∷ [] in
    let is : last_of client (done_of longer) ≡ cond (eqb entry.client.0 client.0) (Some (done_after history entry)) (last_of client (done_of history)) = ap (last_of client) (done_of-push history entry) ∙ last_of-push client (done_of history) (done_after history entry) in
    let one = within_one client history entry (last_of client (done_of history)) (eqb entry.client.0 client.0) refl known in
    let next : seq_of (last_of client (done_of longer)) ≤ highest_seq client longer = subst (λ o. seq_of o ≤ highest_seq client longer) (sym is) one in
    subst (λ (h : List Entry). seq_of (last_of client (done_of h)) ≤ highest_seq client h) (append_assoc history (entry ∷ []) more) (within_more client longer more next)

-- the number of a client's last applied entry is at most the highest of the client's in the log
pub last_within : (client : ClientId) (server : Server) → seq_of (last_of client (done_of (acknowledged server))) ≤ highest_seq client server.log
last_within client server =
    let applied = acknowledged server in
    let first : seq_of (last_of client (done_of applied)) ≤ highest_seq client applied = within_more client [] applied (omega arith) in
    omega (arith, ap (highest_seq client) (take-append-drop server.done server.log), highest_seq-append client applied (drop server.done server.log))

-- a command of greater number is none that was applied
newer_enters : (server : Server) (entry : Entry) (last : Option DoneEntry) → seq_of last < entry.seq → requested server entry last ≡ enters_new server entry
newer_enters server entry None newer = refl
newer_enters server entry (Some last) newer =
    let other : eqb last.entry.seq entry.seq ≡ false = grind (arith, nat_tests) in
    cond-false (eqb last.entry.seq entry.seq) (sends server (reply_packet server.id last ∷ [])) (enters_new server entry) other

-- one of no greater number does not enter
older_stays : (server : Server) (entry : Entry) → entry.seq ≤ highest_seq entry.client server.log → enters_new server entry ≡ ignored server
older_stays server entry older = by_first (is_first server)
  where
    test : ltb (highest_seq entry.client server.log) entry.seq ≡ false
    test = le-ltb (highest_seq entry.client server.log) entry.seq older

    by_first : (first : Bool) → cond (first && ltb (highest_seq entry.client server.log) entry.seq) (enters server entry) (ignored server) ≡ ignored server
    by_first true = cond-false (ltb (highest_seq entry.client server.log) entry.seq) (enters server entry) (ignored server) test
    by_first false = refl

older_replies : (server : Server) (entry : Entry) (last : Option DoneEntry) → entry.seq ≤ highest_seq entry.client server.log → requested server entry last ≡ replies_again server entry.seq last
older_replies server entry None older = older_stays server entry older
older_replies server entry (Some last) older =
    ap (λ r. cond (eqb last.entry.seq entry.seq) (sends server (reply_packet server.id last ∷ [])) r) (older_stays server entry older) ∙ by_test (eqb last.entry.seq entry.seq)
  where
    by_test : (same : Bool) → cond same (sends server (reply_packet server.id last ∷ [])) (ignored server) ≡ sends server (option_to_list (cond same (Some (reply_packet server.id last)) None))
    by_test true = refl
    by_test false = refl

-- a member's request of a greater number than all in its log
pub request_is_new : (server : Server) (client : ClientId) (seq : ℕ) (command : Command) → is_member server ≡ true → highest_seq client server.log < seq → enters_new server (entry_of client seq command) ≡ after_request server client seq command
request_is_new server client seq command member newer =
    let last = last_of client (done_of (acknowledged server)) in
    let entry = entry_of client seq command in
    let within : seq_of last ≤ highest_seq client server.log = last_within client server in
    sym (cond-true (is_member server) (requested server entry last) (ignored server) member ∙ newer_enters server entry last (omega arith))

-- and any other
pub request_is_old : (server : Server) (client : ClientId) (seq : ℕ) (command : Command) → is_member server ≡ true → seq ≤ highest_seq client server.log → replies_again server seq (last_of client (done_of (acknowledged server))) ≡ after_request server client seq command
request_is_old server client seq command member older =
    let last = last_of client (done_of (acknowledged server)) in
    let entry = entry_of client seq command in
    sym (cond-true (is_member server) (requested server entry last) (ignored server) member ∙ older_replies server entry last older)
