-- What a server does when more entries are acknowledged.
use Rattle.std.proofs.Common.{◌≡◌, Bool, false, cond, ℕ, ◌≤◌, List, [], ◌++◌, length, map, take, drop, ap, sym, ◌∙◌}
use Rattle.std.specs.Prelude.{Option}
use Rattle.std.proofs.lemmas.List.{drop_at, length-take-le}
use Rattle.kr_order.specs.declared.ids.ServerId.{ServerId}
use Rattle.kr_order.specs.declared.answer.Query.{Query}
use Rattle.kr_order.specs.declared.history.Entry.{Entry}
use Rattle.kr_order.specs.declared.history.DoneEntry.{DoneEntry}
use Rattle.kr_order.specs.declared.message.Packet.{Packet}
use Rattle.kr_order.specs.declared.view.View.{View}
use Rattle.kr_order.specs.Done.{done_of}
use Rattle.kr_order.proofs.HistoryLemmas.{length-done_from}
use Rattle.kr_order.proofs.PrefixLemmas.{take_front}
use Rattle.kr_protocol.specs.Server.{is_at_tail, advances, lasts, reply_packet}
use Rattle.chain_server.specs.ServerStanding.{ServerStanding, server_of}
use Rattle.kr_order.specs.Prefix.{IsPrefix}
use Rattle.chain_server.specs.Calls.{Heeds}

-- a server that has not failed, with so many entries acknowledged
abbrev standing_at : ServerId → Option View → List Entry → ℕ → ℕ → ℕ → List Query → ServerStanding
standing_at id view log done fed need waiting =
    record { server = record { id = id; log = log; done = done; view = view; fed = fed; need = need; waiting = waiting }; failed = false }

-- its board stands for so much of the log, and the entries between are committed
pub advances-heeds : (id : ServerId) (view : Option View) (log history new : List Entry) (fed need : ℕ) (waiting : List Query) (was : Bool) (upto : ℕ) (committed : List DoneEntry) (packets : List Packet) → was ≡ false → IsPrefix history log → upto ≤ length log → new ≡ take upto log → done_of (take upto log) ≡ done_of history ++ committed → packets ≡ cond (is_at_tail (server_of id view log history fed need waiting)) (map (reply_packet id) (lasts committed)) [] → Heeds (record { server = server_of id view log history fed need waiting; failed = was }) (advances (server_of id view log history fed need waiting) upto) (record { committed = committed; packets = packets }) (record { server = server_of id view log new fed need waiting; failed = false })
advances-heeds id view log history new fed need waiting was upto committed packets whole prefix high is done sent =
    let size : length new ≡ upto = ap length is ∙ length-take-le upto log high in
    let newest : drop (length history) (done_of (take upto log)) ≡ committed = ap (drop (length history)) done ∙ drop_at (done_of history) committed (length history) (length-done_from [] history) in
    record {
      whole = whole;
      after = ap (λ n. standing_at id view log n fed need waiting) size;
      sent = sent ∙ ap (λ dones. cond (is_at_tail (server_of id view log history fed need waiting)) (map (reply_packet id) (lasts dones)) []) (sym newest);
      committed = done ∙ ap (λ h. done_of h ++ committed) (sym (take_front history log prefix));
    }
