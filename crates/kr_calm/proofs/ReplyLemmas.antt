-- Once the first member has applied all that was begun, every command is replied within two rounds.
use Rattle.kr_order.specs.declared.message.Node.TheVariants.{Client as ToClient, Server as ToServer}
use Rattle.kr_protocol.specs.Server.{Server, server_takes, acknowledged, is_member, requested, enters_new, sends, reply_packet, after_request}
use Rattle.kr_protocol.specs.Reaction.{Reaction, ignored}
use Rattle.kr_protocol.specs.Client.{Client, client_takes, message_to, after_reply, closes, unheard, retries, tried_again, learns}
use Rattle.kr_order.specs.History.{highest_seq}
use Rattle.std.proofs.Common.{Bool, List, [], ap, arith, cond, eqb, false, inl, inr, length, refl, subst, sym, true, ℕ, ◌-◌, ◌∙◌, ◌∷◌, ◌≡◌, ◌≢◌, ◌≤◌, ◌⊎◌}
use Rattle.std.specs.Prelude.{None, Option, Some, find, reverse}
use Rattle.std.proofs.lemmas.Bool.{eq-eqb, eqb-true}
use Rattle.std.proofs.lemmas.List.{take_all}
use Rattle.std.proofs.lemmas.Option.{none-some, same_Some}
use Rattle.kr_order.specs.Done.{done_of, last_of, seq_of}
use Rattle.kr_order.specs.declared.history.Command.{Command}
use Rattle.kr_order.specs.declared.history.DoneEntry.{DoneEntry}
use Rattle.kr_order.specs.declared.history.Entry.{Entry}
use Rattle.kr_order.specs.declared.history.Placed.{Placed}
use Rattle.kr_order.specs.declared.ids.ClientId.{ClientId}
use Rattle.kr_order.specs.declared.ids.ServerId.{ServerId}
use Rattle.kr_order.specs.declared.message.Message.TheVariants.{Replied, Request}
use Rattle.kr_order.specs.declared.message.Packet.{Packet}
use Rattle.kr_order.specs.declared.view.View.{View}
use Rattle.script_lang.specs.declared.script.Event.TheVariants.{Deliver, Retry}
use Rattle.kr_world.proofs.steps.BagLemmas.{delivered_sound}
use Rattle.kr_world.proofs.packets.EntryLemmas.{numbered_count}
use Rattle.kr_world.proofs.packets.PacketLemmas.{same_client}
use Rattle.kr_world.specs.Lawful.{IsNumbered, begun_by, entries_of}
use Rattle.kr_world.specs.Round.{aim, round_events}
use Rattle.kr_world.specs.Step.{deliver_refusal, refusal_of, server_reacts, step}
use Rattle.kr_world.specs.World.{World, has_stopped, packet_at, with_packets}
use Rattle.kr_world.specs.declared.refusal.Refusal.TheVariants.{BagFull}
use Rattle.kr_calm.proofs.DoesLemmas.{taken}
use Rattle.kr_calm.proofs.EnteredLemmas.{aim_head, busy_call, client_is, client_true, retry_in, server_lawful}
use Rattle.kr_calm.proofs.GoLemmas.{ClientGoes, Has, HasClient}
use Rattle.kr_calm.proofs.HeadLemmas.{InLog, log_lasts}
use Rattle.kr_calm.proofs.InLemmas.{IsIn}
use Rattle.kr_calm.proofs.MemberLemmas.{IsAt, at_runs, member_is, member_so, member_there, raised}
use Rattle.kr_calm.proofs.ReachedLemmas.{InCalm, IsRoundStep}
use Rattle.kr_calm.proofs.RoomLemmas.{next}
use Rattle.kr_calm.proofs.SeqLemmas.{highest_count, last_count}
use Rattle.kr_calm.proofs.StayLemmas.{both_stable, client_stable, has_stable, round_lasts, round_stays}
use Rattle.kr_calm.proofs.TakeLemmas.{has_heard, reacts_send, retries_now, takes_now}
use Rattle.kr_calm.proofs.WayLemmas.{Comes, IsBrought, IsComing, Lasts, Stable, comes_stable, round_arrives, round_brings, sent_under_way}
use Rattle.kr_calm.specs.Calm.{HaveRoom}

-- what is found passes the test
pub found_passes : {X : Type 0} (p : X → Bool) (xs : List X) (x : X) → find p xs ≡ Some x → p x ≡ true
found_passes p [] x is = absurd (none-some x is)
found_passes p (y ∷ xs) x is = by_test (p y) refl (found_passes p xs x) is
  where
    by_test : (test : Bool) → p y ≡ test → (find p xs ≡ Some x → p x ≡ true) → cond test (Some y) (find p xs) ≡ Some x → p x ≡ true
    by_test true passes rest is = ap p (sym (same_Some y x is)) ∙ passes
    by_test false fails rest is = rest is

-- a reply of this number closes the call
reply_closes : (client : Client) (call : Option Command) (placed : Placed) → client.call ≡ call → (after_reply client call client.seq placed).after.call ≡ None
reply_closes client None placed is = is
reply_closes client (Some command) placed is = ap (λ test. (cond test (closes client placed) (unheard client)).after.call) (eq-eqb client.seq client.seq refl)

reply_leaves : (client : Client) (call : Option Command) (seq : ℕ) (placed : Placed) → (after_reply client call seq placed).after.seq ≡ client.seq
reply_leaves client None seq placed = refl
reply_leaves client (Some command) seq placed = by_test (eqb seq client.seq)
  where
    by_test : (test : Bool) → (cond test (closes client placed) (unheard client)).after.seq ≡ client.seq
    by_test true = refl
    by_test false = refl

-- what the first member does with a command that is its client's last applied one
record IsReplied (server : Server) (id : ClientId) (n : ℕ) (reaction : Reaction Server) : Type 0 where
  last : DoneEntry
  is : reaction ≡ sends server (reply_packet server.id last ∷ [])
  seq : last.entry.seq ≡ n
  client : last.entry.client ≡ id

replies_to : (server : Server) (begun : List Command) (id : ClientId) (n : ℕ) (command : Command) → IsNumbered begun (entries_of id server.log) → is_member server ≡ true → acknowledged server ≡ server.log
    → length (entries_of id server.log) ≡ n → 1 ≤ n → IsReplied server id n (after_request server id n command)
replies_to server begun id n command numbered member whole count low =
    subst (λ test. IsReplied server id n (cond test (requested server entry (last_of id (done_of (acknowledged server)))) (ignored server))) (sym member) (by_last (last_of id (done_of (acknowledged server))) refl)
  where
    entry : Entry
    entry = record { client = id; seq = n; command = command }

    seq_is : seq_of (last_of id (done_of (acknowledged server))) ≡ n
    seq_is = ap (λ l. seq_of (last_of id (done_of l))) whole ∙ last_count begun id server.log numbered ∙ count

    by_last : (found : Option DoneEntry) → last_of id (done_of (acknowledged server)) ≡ found → IsReplied server id n (requested server entry found)
    by_last None none = absurd (omega (arith, sym seq_is ∙ ap seq_of none, low))
    by_last (Some last) some =
        let seq : last.entry.seq ≡ n = sym (ap seq_of some) ∙ seq_is in
        let own = found_passes (λ done. eqb done.entry.client.0 id.0) (reverse (done_of (acknowledged server))) last some in
        record {
          last = last;
          is = ap (λ test. cond test (sends server (reply_packet server.id last ∷ [])) (enters_new server entry)) (eq-eqb last.entry.seq n seq);
          seq = seq;
          client = same_client last.entry.client id (eqb-true last.entry.client.0 id.0 own);
        }

module _ (view : View) (first : ServerId) (at : IsAt view 0 first) (log : List Entry) where
  abbrev In : World → Type 0
  In = InLog view first at log

  module _ (id : ClientId) (low : 1 ≤ id.0) (n : ℕ) where
    -- no command is open
    abbrev pub Idle : World → Type 0
    Idle world = HasClient world id (λ client. (client.seq ≡ n) × (client.call ≡ None))

    abbrev pub Counts : World → Type 0
    Counts world = HasClient world id (λ client. client.seq ≡ n)

    idle_goes : (old new : Client) → ClientGoes old new → (old.seq ≡ n) × (old.call ≡ None) → (new.seq ≡ n) × (new.call ≡ None)
    idle_goes old new goes both = (goes.seq ∙ both.0, by_call goes.call)
      where
        by_call : (new.call ≡ old.call) ⊎ (new.call ≡ None) → new.call ≡ None
        by_call (inl same) = same ∙ both.1
        by_call (inr none) = none

    pub idle_stable : (I : World → Type 0) (lasts : Lasts view I) → Stable view I lasts Idle
    idle_stable I lasts = client_stable view I lasts id (λ client. (client.seq ≡ n) × (client.call ≡ None)) idle_goes

    counts_stable : (I : World → Type 0) (lasts : Lasts view I) → Stable view I lasts Counts
    counts_stable I lasts = client_stable view I lasts id (λ client. client.seq ≡ n) (λ old new goes is. goes.seq ∙ is)

    -- its reply
    pub record Replying (packet : Packet) (world : World) : Type 0 where
      pub placed : Placed
      pub to : packet.to ≡ ToClient id
      pub message : packet.message ≡ Replied n placed
      pub counts : Counts world

    reply_brings : (world : World) (k : ℕ) (packet : Packet) → InLog view first at log world → Replying packet world → packet_at world k ≡ Some packet → IsRoundStep (Deliver k) → deliver_refusal world k (Some packet) ≡ None → Idle (step world (Deliver k)).after
    reply_brings world k packet inv good there is none =
        let client = good.counts.client in
        let seq = good.counts.holds in
        let takes : client_takes client packet ≡ after_reply client client.call n good.placed = ap (λ m. message_to client packet.from m) good.message in
        let closed : (after_reply client client.call n good.placed).after.call ≡ None = subst (λ m. (after_reply client client.call m good.placed).after.call ≡ None) seq (reply_closes client client.call good.placed refl) in
        let kept = reply_leaves client client.call n good.placed in
        has_heard world k packet id client (λ c. (c.seq ≡ n) × (c.call ≡ None)) there none good.to good.counts.at (ap (λ h. h.after.seq) takes ∙ kept ∙ seq, ap (λ h. h.after.call) takes ∙ closed)

    reply_brought : IsBrought view (InLog view first at log) (log_lasts view first at log) Idle Replying
    reply_brought = record {
      stable = idle_stable (InLog view first at log) (log_lasts view first at log);
      stays = λ packet world event is inv good. record { placed = good.placed; to = good.to; message = good.message; counts = counts_stable (InLog view first at log) (log_lasts view first at log) world event is inv good.counts };
      brings = reply_brings;
    }

    -- no command is open, or its reply is on its way
    abbrev pub Answers : World → Type 0
    Answers = Comes view (InLog view first at log) (log_lasts view first at log) Idle Replying

    pub answers_stable : Stable view (InLog view first at log) (log_lasts view first at log) Answers
    answers_stable = comes_stable view (InLog view first at log) (log_lasts view first at log) Idle Replying reply_brought

    abbrev pub AppliesAll : World → Type 0
    AppliesAll world = Has world first (λ server. length log ≤ server.done)

    applies_stable : (I : World → Type 0) (lasts : Lasts view I) → Stable view I lasts AppliesAll
    applies_stable I lasts = has_stable view I lasts first (λ server. length log ≤ server.done) (λ old new goes le. let more = goes.done in omega arith)

    -- its request once more
    record Again (packet : Packet) (world : World) : Type 0 where
      command : Command
      is : packet ≡ record { from = ToClient id; to = ToServer first; message = Request n command }
      some : 1 ≤ n
      counts : Counts world
      all : AppliesAll world

    again_brings : (world : World) (k : ℕ) (packet : Packet) → InLog view first at log world → Again packet world → packet_at world k ≡ Some packet → IsRoundStep (Deliver k) → deliver_refusal world k (Some packet) ≡ None → Answers (step world (Deliver k)).after
    again_brings world k packet inv good there is none =
        let calm = inv.inv.calm in
        let reached = calm.reached in
        let has = inv.head in
        let server = has.server in
        let viewed = inv.inv.viewed 0 first at in
        let adopted : server.view ≡ Some view = subst (λ (s : Server). s.view ≡ Some view) (same_Some viewed.server server (sym viewed.at ∙ has.at)) viewed.holds in
        let own = member_is view world calm 0 first at server has.at in
        let member = member_so view (raised view world calm) calm.alone 0 first at server own adopted in
        let done : length log ≤ server.done = subst (λ (s : Server). length log ≤ s.done) (same_Some good.all.server server (sym good.all.at ∙ has.at)) good.all.holds in
        let whole : acknowledged server ≡ server.log = take_all server.done server.log (omega (arith, done, ap length has.holds)) in
        let numbered = (server_lawful world reached (first.0 - 1) server has.at).numbered id in
        let client = good.counts.client in
        let entered = inv.entered id client low good.counts.at in
        let enters : client.seq ≤ highest_seq id server.log = subst (λ (s : Server). client.seq ≤ highest_seq id s.log) (same_Some entered.server server (sym entered.at ∙ has.at)) entered.holds in
        let itself = client_is world reached id client low good.counts.at in
        let counted : client.seq ≡ length (begun_by id reached.past) = (client_true world reached id client good.counts.at).seq ∙ ap (λ c. length (begun_by c reached.past)) itself in
        let within = numbered_count (begun_by id reached.past) (entries_of id server.log) numbered in
        let seq = good.counts.holds in
        let count : length (entries_of id server.log) ≡ n = omega (arith, highest_count (begun_by id reached.past) id server.log numbered) in
        let replied = replies_to server (begun_by id reached.past) id n good.command numbered member whole count good.some in
        let reply = reply_packet server.id replied.last in
        let takes : server_takes server packet ≡ sends server (reply ∷ []) = ap (server_takes server) good.is ∙ replied.is in
        let now = taken world k in
        let after : (step world (Deliver k)).after ≡ (server_reacts now first (sends server (reply ∷ []))).after = takes_now world k packet first server there none (ap (λ (p : Packet). p.to) good.is) has.at ∙ ap (λ reaction. (server_reacts now first reaction).after) takes in
        let to : reply.to ≡ ToClient id = ap ToClient replied.client in
        let runs : has_stopped now reply.to ≡ false = refl in
        let way = reacts_send now first server (reply ∷ []) reply (delivered_sound world k reached.sound) runs (inl refl) in
        let still = subst Counts after (counts_stable (InLog view first at log) (log_lasts view first at log) world (Deliver k) is inv good.counts) in
        inr (subst (λ w. (j : ℕ) × IsComing Replying w j) (sym after) (
          way.k,
          record {
            packet = reply;
            good = record { placed = record { place = replied.last.place; reply = replied.last.reply }; to = to; message = ap (λ m. Replied m (record { place = replied.last.place; reply = replied.last.reply })) replied.seq; counts = still };
            under = way.under;
          },
        ))

    again_brought : IsBrought view (InLog view first at log) (log_lasts view first at log) Answers Again
    again_brought = record {
      stable = answers_stable;
      stays = λ packet world event is inv good. record {
        command = good.command;
        is = good.is;
        some = good.some;
        counts = counts_stable (InLog view first at log) (log_lasts view first at log) world event is inv good.counts;
        all = applies_stable (InLog view first at log) (log_lasts view first at log) world event is inv good.all;
      };
      brings = again_brings;
    }

    again_sends : (world : World) → InLog view first at log world → IsRoundStep (Retry id first) → refusal_of world (Retry id first) ≢ Some BagFull → Counts world × AppliesAll world
        → Comes view (InLog view first at log) (log_lasts view first at log) Answers Again (step world (Retry id first)).after
    again_sends world inv is room holds = by_call holds.0.client.call refl
      where
        client : Client
        client = holds.0.client

        calm : InCalm view world
        calm = inv.inv.calm

        by_call : (call : Option Command) → client.call ≡ call → Comes view (InLog view first at log) (log_lasts view first at log) Answers Again (step world (Retry id first)).after
        by_call None none =
            inl (inl (idle_stable (InLog view first at log) (log_lasts view first at log) world (Retry id first) is inv (record { client = client; at = holds.0.at; holds = (holds.0.holds, none) })))
        by_call (Some command) called =
            let packet : Packet = record { from = ToClient id; to = ToServer first; message = Request n command } in
            let own = client_is world calm.reached id client low holds.0.at in
            let sent : retries client first ≡ packet ∷ [] = ap (tried_again client first) called ∙ ap (λ c. record { from = ToClient c; to = ToServer first; message = Request client.seq command } ∷ []) own ∙ ap (λ m. record { from = ToClient id; to = ToServer first; message = Request m command } ∷ []) holds.0.holds in
            let sound = calm.reached.sound in
            let its = member_there view world calm 0 first at in
            let after = retries_now world id first client its.server holds.0.at its.at (at_runs view world calm 0 first at) (busy_call client command called) room in
            let way = sent_under_way world world (retries client first) packet refl sound.delivered sound.lost (at_runs view world calm 0 first at) (subst (IsIn packet) (sym sent) (inl refl)) in
            let known = (client_true world calm.reached id client holds.0.at).command command called in
            let some : 1 ≤ n = subst (λ m. 1 ≤ m) holds.0.holds known.seq_low in
            let now = with_packets world (retries client first) in
            let counts = subst Counts after (counts_stable (InLog view first at log) (log_lasts view first at log) world (Retry id first) is inv holds.0) in
            let all = subst AppliesAll after (applies_stable (InLog view first at log) (log_lasts view first at log) world (Retry id first) is inv holds.1) in
            inr (subst (λ w. (k : ℕ) × IsComing Again w k) (sym after) (way.k, record { packet = packet; good = record { command = command; is = refl; some = some; counts = counts; all = all }; under = way.under }))

    -- within one round its reply is on its way
    round_answers : (world : World) → HaveRoom world (round_events world) → InLog view first at log world → Counts world → AppliesAll world → Answers (next world)
    round_answers world room inv counts all = by_call counts.client.call refl
      where
        client : Client
        client = counts.client

        by_call : (call : Option Command) → client.call ≡ call → Answers (next world)
        by_call None none =
            inl (round_stays view (InLog view first at log) (log_lasts view first at log) Idle (idle_stable (InLog view first at log) (log_lasts view first at log)) world inv (record { client = client; at = counts.at; holds = (counts.holds, none) }))
        by_call (Some command) called =
            let calm = inv.inv.calm in
            let aims : aim (learns client world.manager.current) ≡ first = ap (λ v. aim (learns client v)) calm.current ∙ aim_head client command view first called at in
            let is = retry_in world id client first counts.at low aims (busy_call client command called) (at_runs view world calm 0 first at) in
            round_brings view (InLog view first at log) (log_lasts view first at log) Answers Again again_brought (λ w. Counts w × AppliesAll w)
            (both_stable view (InLog view first at log) (log_lasts view first at log) Counts AppliesAll (counts_stable (InLog view first at log) (log_lasts view first at log)) (applies_stable (InLog view first at log) (log_lasts view first at log)))
            (Retry id first) again_sends world room is inv (counts, all)

    -- and within two it has come
    pub rounds_reply : (world : World) → HaveRoom world (round_events world) → HaveRoom (next world) (round_events (next world)) → InLog view first at log world → Counts world → AppliesAll world → Idle (next (next world))
    rounds_reply world room room' inv counts all =
        let inv' = round_lasts view (InLog view first at log) (log_lasts view first at log) world inv in
        round_arrives view (InLog view first at log) (log_lasts view first at log) Idle Replying reply_brought (next world) room' inv' (round_answers world room inv counts all)
