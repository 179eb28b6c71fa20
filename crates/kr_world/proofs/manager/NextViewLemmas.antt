-- The manager has made the next view, and tells of it: servers and packets stay sound.
use Rattle.std.proofs.Common.{◌≡◌, ◌≢◌, ℕ, ◌-◌, ◌<◌, true, List, ◌++◌, length, sym, ap, ◌∙◌, arith, inl, inr}
use Rattle.std.specs.Prelude.{Some, slice_get, All}
use Rattle.std.proofs.lemmas.Bool.{cases_eq, false≢true}
use Rattle.std.proofs.lemmas.List.{length-map}
use Rattle.std.proofs.lemmas.List.Elements.{All-weaker, All-map}
use Rattle.kr_order.specs.declared.ids.ServerId.{ServerId}
use Rattle.kr_order.specs.declared.message.Node as nodes
use Rattle.kr_order.specs.declared.message.Node.TheVariants.{Manager as AtManager, Client as AtClient, Server as AtServer}
use Rattle.kr_order.specs.declared.message.Message.{Message}
use Rattle.kr_order.specs.declared.message.Message.TheVariants.{Append, Ack, NewView, Joined}
use Rattle.kr_order.specs.declared.view.View.{View}
use Rattle.kr_protocol.specs.Manager.{Manager, members_but, views_of, named_by, view_packet, announces}
use Rattle.kr_protocol.specs.Server.{Server}
use Rattle.kr_protocol.proofs.ListLemmas.{slice_get_left}
use Rattle.kr_protocol.proofs.NameLemmas.{member, member-but, gone-member, same_server}
use Rattle.kr_protocol.proofs.TimelineLemmas.{IsListed, listed_current, named_few}
use Rattle.kr_world.specs.World.{World, is_stopped}
use Rattle.kr_world.specs.Step.{bag_limit, manager_tells}
use Rattle.kr_world.specs.Sound.{IsSound, IsSoundServer, IsViewed, IsSoundJoined, IsSoundPacket, IsSoundMessage, WasBeside}
use Rattle.kr_world.proofs.steps.ListFacts.{all_of}
use Rattle.kr_world.proofs.steps.BagLemmas.{packets_sound}

-- who is a member beside another is one of the chain without that one
pub among_others : (chain : List ServerId) (gone id : ServerId) → member (members_but chain gone) id ≡ true → (gone.0 ≢ id.0) × (member chain id ≡ true)
among_others chain gone id is =
    elim (cases_eq gone.0 id.0) [
      | inl same ↦ absurd (false≢true (sym (gone-member chain gone) ∙ ap (member (members_but chain gone)) (same_server gone id same) ∙ is))
      | inr other ↦ (other, sym (member-but chain gone id other) ∙ is)
    ]

-- the manager tells all whom its current view names
told_listed : (manager : Manager) (servers : List Server) → IsListed manager manager.current → All (IsSoundPacket (views_of manager) servers) (announces manager.current)
told_listed manager servers listed =
    let Said = IsSoundPacket (views_of manager) servers in
    All-map Said (view_packet manager.current) (named_by manager.current) (all_of (λ id. Said (view_packet manager.current id)) (λ id. listed) (named_by manager.current))

-- and the world stays sound
pub told_sound : (world : World) → length world.bag < bag_limit → IsSound world → IsSound (manager_tells world world.manager).after
told_sound world room sound =
    let listed = listed_current (is_stopped world) world.manager sound.evolves in
    let few = sound.few in
    let made = sound.made in
    let long = length-map (named_by world.manager.current) (view_packet world.manager.current) in
    packets_sound world (announces world.manager.current) (told_listed world.manager world.servers listed)
    (omega (arith, long, named_few (is_stopped world) world.manager sound.evolves)) sound

-- a server's view is one of more views
pub viewed_more : (views more : List View) (server : Server) → IsViewed views server → IsViewed (views ++ more) server
viewed_more views more server (inl own) =
    inl (record { view = own.view; adopted = own.adopted; listed = slice_get_left views more (own.view.number - 1) own.view own.listed; named = own.named })
viewed_more views more server (inr blank) = inr blank

-- and a server that stood beside a joiner did so
pub beside_more : (views more : List View) (server : Server) (joiner : ServerId) → WasBeside views server joiner → WasBeside (views ++ more) server joiner
beside_more views more server joiner beside =
    record {
      heard = beside.heard;
      listed = slice_get_left views more (beside.heard.number - 1) beside.heard beside.listed;
      no_newer = beside.no_newer;
      last = beside.last;
      joins = beside.joins;
    }

-- packets stay true where there are more views
joined_viewed : (views more : List View) (servers : List Server) (from : nodes.Node) (joiner : ServerId) → IsSoundJoined views servers from joiner → IsSoundJoined (views ++ more) servers from joiner
joined_viewed views more servers AtManager joiner said = said
joined_viewed views more servers (AtClient client) joiner said = said
joined_viewed views more servers (AtServer server) joiner said =
    record { sender = said.sender; from_low = said.from_low; there = said.there; beside = beside_more views more said.sender joiner said.beside; covered = said.covered }

message_viewed : (views more : List View) (servers : List Server) (from : nodes.Node) (message : Message) → IsSoundMessage views servers from message → IsSoundMessage (views ++ more) servers from message
message_viewed views more servers from (NewView view) said = slice_get_left views more (view.number - 1) view said
message_viewed views more servers from (Append first entries) said = said
message_viewed views more servers from (Ack done len) said = said
message_viewed views more servers from (Joined joiner) said = joined_viewed views more servers from joiner said
message_viewed views more servers from other said = said

-- servers stay sound where there are more views
pub more_views : (world : World) (more : List View) → IsSound world → (i : ℕ) (server : Server) → slice_get world.servers i ≡ Some server
    → IsSoundServer (views_of world.manager ++ more) world.servers world.history (length world.bag) i server
more_views world more sound i server there =
    let own = sound.servers i server there in
    record {
      id = own.id;
      own_view = viewed_more (views_of world.manager) more server own.own_view;
      done = own.done;
      fed = own.fed;
      below = own.below;
      agreed = own.agreed;
      full = own.full;
      waiting = own.waiting;
      entries = own.entries;
    }

-- and so do packets
pub more_packets : (world : World) (more : List View) → IsSound world → All (IsSoundPacket (views_of world.manager ++ more) world.servers) world.bag
more_packets world more sound =
    All-weaker (IsSoundPacket (views_of world.manager) world.servers) (IsSoundPacket (views_of world.manager ++ more) world.servers)
    (λ packet said. message_viewed (views_of world.manager) more world.servers packet.from packet.message said) world.bag sound.packets
