-- A client's query keeps the facts, and what it remembers is told truly.
use Rattle.std.proofs.Common.{◌≡◌, ℕ, ◌+◌, ◌-◌, List, [], ◌∷◌, ◌++◌, length, refl, sym, ap, ◌∙◌, arith}
use Rattle.std.specs.Prelude.{None, Some}
use Rattle.std.proofs.lemmas.List.Elements.{All-nil, All-map}
use Rattle.kr_order.specs.declared.ids.ClientId.{ClientId}
use Rattle.kr_order.specs.declared.ids.ServerId.{ServerId}
use Rattle.kr_order.specs.declared.ids.EventId.{EventId}
use Rattle.kr_order.specs.declared.answer.ToldPart.{ToldPart}
use Rattle.kr_order.specs.declared.history.Entry.{Entry}
use Rattle.kr_protocol.specs.Client.{Client, looks_all, asks}
use Rattle.kr_world.specs.World.{World, client_at}
use Rattle.kr_world.specs.Step.{Part, client_hears}
use Rattle.kr_world.specs.Run.{Turn}
use Rattle.kr_world.specs.Lawful.{seen_of}
use Rattle.kr_world.specs.Facts.{IsTrueClient}
use Rattle.kr_world.proofs.packets.PastLemmas.{IsApart, begun_same}
use Rattle.kr_world.proofs.packets.PacketLemmas.{begun_later}
use Rattle.kr_world.proofs.queries.QueryLemmas.{asks_next, queries_move}
use Rattle.kr_world.proofs.queries.RememberLemmas.{looks_true}
use Rattle.kr_world.proofs.facts.KeepLemmas.{IsNewReply, IsNewPart, GoesOn}
use Rattle.kr_world.proofs.clients.ClientLemmas.{IsPresent, its_facts}
use Rattle.kr_world.proofs.clients.HeardLemmas.{says_again, heard_goes_on}

-- the client with its query
asker_true : (past : List Turn) (turn : Turn) (history : List Entry) (i : ℕ) (client : Client) (server : ServerId)
    (pairs : List (EventId × EventId)) → client.call ≡ None → IsApart turn client.id
    → client_at turn.outcome.after client.id ≡ Some (asks client server pairs).after
    → IsTrueClient past history i client → IsTrueClient (past ++ turn ∷ []) history i (asks client server pairs).after
asker_true past turn history i client server pairs idle apart at known =
    let after = (asks client server pairs).after in
    let id = known.id in
    record {
      id = known.id;
      seq = known.seq ∙ sym (ap length (begun_same client.id past turn apart));
      command = λ command is. begun_later past (turn ∷ []) client.id client.seq command (known.command command is);
      idle = known.idle;
      within = known.within;
      old = known.old;
      queries = queries_move past turn client after refl (omega arith) (asks_next (omega arith)) at (λ left asking. idle) known.queries;
      cache = (looks_true history client.seen client.seen (client.q + 1) client.cache pairs known.within known.cache).cache;
    }

pub query_goes_on : (past : List Turn) (world : World) (id : ClientId) (server : ServerId)
    (pairs : List (EventId × EventId)) (client : Client) → IsPresent past world id client → client.call ≡ None
    → GoesOn past world (client_hears world id (asks client server pairs))
query_goes_on past world id server pairs client here idle =
    let history = world.history in
    let known = its_facts past world id client here in
    let now = seen_of (client_at world id) in
    let told = looks_true history now client.seen (client.q + 1) client.cache pairs known.within known.cache in
    let for : ToldPart → Part = λ part. record { client = id; part = part } in
    heard_goes_on past world id client (asks client server pairs) here (record {
      same = refl;
      known = λ turn apart at. asker_true past turn history (id.0 - 1) client server pairs idle apart at known;
      says = says_again server;
      told = All-nil (IsNewReply world history);
      parts = All-map (IsNewPart world history) for (looks_all (client.q + 1) client.cache pairs).parts told.parts;
    })
