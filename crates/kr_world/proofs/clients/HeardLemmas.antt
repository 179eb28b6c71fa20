-- A client that hears something, or asks, keeps the facts, where it stays true itself and is told the truth.
use Rattle.std.proofs.Common.{◌≡◌, ℕ, ◌-◌, List, [], ◌∷◌, ◌++◌, refl, sym, ap, subst}
use Rattle.std.specs.Prelude.{Some, slice_get, slice_set, All}
use Rattle.std.proofs.lemmas.List.Elements.{All-nil}
use Rattle.kr_order.specs.declared.ids.ClientId.{ClientId}
use Rattle.kr_order.specs.declared.ids.ServerId.{ServerId}
use Rattle.kr_order.specs.declared.history.Entry.{Entry}
use Rattle.kr_order.specs.declared.message.Packet.{Packet}
use Rattle.kr_order.proofs.PrefixLemmas.{IsPrefix-refl}
use Rattle.kr_protocol.specs.Client.{Client, Hearing, asked_again, unheard}
use Rattle.kr_world.specs.World.{World, client_at}
use Rattle.kr_world.specs.Step.{Outcome, told_to, parts_to, client_hears}
use Rattle.kr_world.specs.Run.{Turn}
use Rattle.kr_world.specs.Facts.{IsTruePacket, IsTrueClient}
use Rattle.kr_world.proofs.packets.PastLemmas.{IsApart}
use Rattle.kr_world.proofs.facts.FactLemmas.{client_stays, in_step_later, one_facts, sent_facts}
use Rattle.kr_world.proofs.facts.KeepLemmas.{IsNewReply, IsNewPart, GoesOn}
use Rattle.kr_world.proofs.clients.ClientLemmas.{IsPresent, its_facts, set_own}
use Rattle.kr_world.proofs.clients.RetryLemmas.{asked_true}

-- what the client sends: nothing, or what it has open
pub data Says (after : Client) : List Packet → Type 0 where
  says_nothing : Says after []
  says_again : (server : ServerId) → Says after (asked_again after server after.asking)

-- what a client of the world hears
pub record IsHeard (past : List Turn) (world : World) (id : ClientId) (client : Client) (hearing : Hearing) : Type 0 where
  pub same : hearing.after.id ≡ client.id
  -- the client is true after any step that leaves it so and begins nothing
  pub known :
      (turn : Turn)
      → IsApart turn client.id
      → client_at turn.outcome.after hearing.after.id ≡ Some hearing.after
      → IsTrueClient (past ++ turn ∷ []) world.history (id.0 - 1) hearing.after
  pub says : Says hearing.after hearing.sent
  pub told : All (IsNewReply world world.history) (told_to id hearing.told)
  pub parts : All (IsNewPart world world.history) (parts_to id hearing.parts)

-- what it sends is true
said_true : (past : List Turn) (history : List Entry) (i : ℕ) (after : Client) (sent : List Packet)
    → IsTrueClient past history i after → Says after sent → All (IsTruePacket past history) sent
said_true past history i after sent known says_nothing = All-nil (IsTruePacket past history)
said_true past history i after sent known (says_again server) = asked_true past history i after server after.asking refl known

pub heard_goes_on : (past : List Turn) (world : World) (id : ClientId) (client : Client) (hearing : Hearing)
    → IsPresent past world id client → IsHeard past world id client hearing
    → GoesOn past world (client_hears world id hearing)
heard_goes_on past world id client hearing here heard =
    let i = id.0 - 1 in
    let after = hearing.after in
    let clients = slice_set world.clients i after in
    let facts = here.facts in
    record {
      taken = refl;
      facts = λ turn is none.
          let now : turn.outcome.after.clients ≡ clients = ap (λ (o : Outcome). o.after.clients) is in
          let at = subst (λ cs. slice_get cs (after.id.0 - 1) ≡ Some after) (sym now) (set_own past world id client after here heard.same) in
          let known = heard.known turn (none.apart client.id) at in
          let later = past ++ turn ∷ [] in
          let one = one_facts past turn world i after now (in_step_later past turn world.history none facts.in_step).one_open (λ j other different there. none.apart other.id) known facts in
          sent_facts later (record world { clients = clients }) hearing.sent (said_true later world.history i after hearing.sent known heard.says) one;
      tells = record { grows = IsPrefix-refl world.history; told = heard.told; parts = heard.parts };
    }

-- the client takes no notice
pub unheard_goes_on : (past : List Turn) (world : World) (id : ClientId) (client : Client)
    → IsPresent past world id client
    → GoesOn past world (client_hears world id (unheard client))
unheard_goes_on past world id client here =
    heard_goes_on past world id client (unheard client) here (record {
      same = refl;
      known = λ turn apart at. client_stays past turn world.history (id.0 - 1) client apart at (its_facts past world id client here);
      says = says_nothing;
      told = All-nil (IsNewReply world world.history);
      parts = All-nil (IsNewPart world world.history);
    })
