-- Stops, views and who learns them, in the parts of a cluster.
use Rattle.std.proofs.Common.{◌≡◌, ◌≢◌, ℕ, ◌-◌, ◌<◌, Bool, true, false, not, cond, ◌&&◌, ◌||◌, eqb, List, [], ◌∷◌, ◌++◌, length, map, get_or, refl, sym, ap, ◌∙◌, subst, arith}
use Rattle.std.specs.Prelude.{Option, None, Some, Result, IfOk, IsNone, ◌↔◌, slice_get, slice_set, All}
use Rattle.std.specs.declared.vec.Vec.{Vec}
use Rattle.std.specs.declared.alloc.Global.{Global}
use Rattle.std.proofs.lemmas.Bool.{eqb-true, false≢true}
use Rattle.std.proofs.lemmas.List.{append-nil, length-map, map-append}
use Rattle.std.proofs.lemmas.List.Elements.{All-push}
use Rattle.std.proofs.lemmas.Option.{none-some, slice_get_read, slice_get_within}
use Rattle.kr_order.specs.declared.ids.ClientId.{ClientId}
use Rattle.kr_order.specs.declared.ids.ServerId.{ServerId}
use Rattle.kr_order.specs.declared.message.Packet.{Packet}
use Rattle.kr_order.specs.declared.view.View.{View}
use Rattle.kr_order.specs.View.{names}
use Rattle.kr_protocol.specs.Manager.{Manager, members_but, may_promote, next_server, removes, adds, promotes, views_of}
use Rattle.kr_protocol.specs.Server.{Server, newcomer}
use Rattle.kr_protocol.specs.Client.{Client, learns}
use Rattle.kr_protocol.proofs.NameLemmas.{member, in_chain-member, same_server}
use Rattle.chain_server.specs.ServerStanding.{ServerStanding}
use Rattle.client_session.specs.ClientStanding.{ClientStanding}
use Rattle.kr_world.specs.World.{World, client_at, server_at, is_stopped}
use Rattle.kr_world.specs.declared.refusal.Refusal.TheVariants.{NoSuchClient, NoSuchServer}
use Rattle.kr_world.specs.Step.{Outcome, quiet, have_stopped, notice_refusal, join_refusal, learn_refusal, manager_tells, joined_at_manager, notices, joins, learns_view}
use Rattle.kr_world.specs.Sound.{IsSound, SomeMemberRuns, HasJoined}
use Rattle.kr_world.proofs.chain.SeatLemmas.{mark_of}
use Rattle.kr_world.proofs.manager.NoticeLemmas.{may_notice, removed_sound}
use Rattle.kr_world.proofs.manager.JoinLemmas.{with_newcomer, with_newcomer_sound, may_join}
use Rattle.kr_world.proofs.manager.PromotionLemmas.{may_promote_so, with_member_sound}
use Rattle.kr_order.specs.declared.ids.NoMemory.{NoMemory}
use Rattle.cluster_parts.specs.declared.parts.Noted.{Noted}
use Rattle.cluster_parts.specs.declared.parts.Parts.{Parts}
use Rattle.kr_order.specs.declared.history.DoneEntry.{DoneEntry}
use Rattle.kr_order.specs.Done.{done_of}
use Rattle.cluster_parts.specs.BagStanding.{BagStanding}
use Rattle.kr_wire.specs.Valid.{IsPacket}
use Rattle.cluster_parts.specs.PartsStanding.{history_of, world_of}
use Rattle.cluster_sim.specs.Parts.{IsWhole, Makes}
use Rattle.cluster_sim.proofs.PartsLemmas.{nothing_noted, client_there, server_there, clients_after, clients_whole, client_within}

and_assoc : (a b c : Bool) → (a && (b && c)) ≡ ((a && b) && c)
and_assoc true b c = refl
and_assoc false b c = refl

-- whether these but one have stopped, with one more of them
pub others_more : (world : World) (xs : List ServerId) (one id : ServerId)
    → have_stopped world (members_but (xs ++ one ∷ []) id) ≡ (have_stopped world (members_but xs id) && (eqb one.0 id.0 || is_stopped world one))
others_more world [] one id = by_test (eqb one.0 id.0) (is_stopped world one) refl
  where
    by_test : (same stopped : Bool) → is_stopped world one ≡ stopped → have_stopped world (cond (not same) (one ∷ []) []) ≡ (true && (same || stopped))
    by_test true stopped is = refl
    by_test false true is = ap (λ b. b && true) is
    by_test false false is = ap (λ b. b && true) is
others_more world (x ∷ xs) one id = by_test (eqb x.0 id.0) (others_more world xs one id)
  where
    rest : Bool
    rest = eqb one.0 id.0 || is_stopped world one

    by_test : (same : Bool) → have_stopped world (members_but (xs ++ one ∷ []) id) ≡ (have_stopped world (members_but xs id) && rest)
        → have_stopped world (cond (not same) (x ∷ members_but (xs ++ one ∷ []) id) (members_but (xs ++ one ∷ []) id)) ≡ (have_stopped world (cond (not same) (x ∷ members_but xs id) (members_but xs id)) && rest)
    by_test true more = more
    by_test false more = ap (λ b. is_stopped world x && b) more ∙ and_assoc (is_stopped world x) (have_stopped world (members_but xs id)) rest

-- the world of parts in whose bag nothing has come
nothing_sent : (world : World) → world ≡ record world { bag = world.bag ++ []; lost = world.lost ++ map (λ (packet : Packet). false) []; delivered = world.delivered ++ map (λ (packet : Packet). false) [] }
nothing_sent world =
    let f : List Packet → List Bool → List Bool → World = λ ps ls ds. record world { bag = ps; lost = ls; delivered = ds } in
    sym (ap (λ ps. f ps (world.lost ++ []) (world.delivered ++ [])) (append-nil world.bag) ∙ ap (λ ls. f world.bag ls (world.delivered ++ [])) (append-nil world.lost) ∙ ap (f world.bag world.lost) (append-nil world.delivered))

-- a client has learnt the current view
pub client_learnt : (parts : Parts) (clients : Vec ClientStanding Global) (client : ClientId) (old new : ClientStanding) → IsWhole parts
    → slice_get parts.clients.items (client.0 - 1) ≡ Some old → clients.items ≡ slice_set parts.clients.items (client.0 - 1) new
    → new ≡ record { client = learns old.client parts.manager.current; failed = false }
    → Makes (learns_view (world_of parts) client (client_at (world_of parts) client)) parts.bag.before (record parts { clients = clients }) nothing_noted
client_learnt parts clients client old new whole there is learnt =
    let w = world_of parts in
    let after = learns old.client parts.manager.current in
    let nodes = clients_after parts clients (client.0 - 1) new after is (ap (λ (s : ClientStanding). s.client) learnt) in
    let now : world_of (record parts { clients = clients }) ≡ record w { clients = slice_set w.clients (client.0 - 1) after } = ap (λ cs. record w { clients = cs }) nodes in
    subst (λ found. Makes (learns_view w client found) parts.bag.before (record parts { clients = clients }) nothing_noted) (sym (client_there parts client old there)) (record {
      after = now ∙ nothing_sent (record w { clients = slice_set w.clients (client.0 - 1) after });
      told = refl;
      parts = refl;
      shown = refl;
      refused = refl;
      servers = whole.servers;
      clients = clients_whole parts.clients.items clients.items (client.0 - 1) new is (ap (λ (s : ClientStanding). s.failed) learnt) whole.clients;
      journal = whole.journal;
      since = refl;
    })

-- a client that may learn is there
pub learner_there : (parts : Parts) (client : ClientId) (found : Option Client) → client_at (world_of parts) client ≡ found → learn_refusal found ≡ None → client.0 - 1 < length parts.clients.items
learner_there parts client None is none = absurd (none-some NoSuchClient (sym none))
learner_there parts client (Some node) is none = client_within parts client node is

-- a server that the manager may hear of is there
pub noticed_there : (parts : Parts) (server : ServerId) (found : Option Server) → server_at (world_of parts) server ≡ found → notice_refusal (world_of parts) server found ≡ None → server.0 - 1 < length parts.servers.items
noticed_there parts server None is none = absurd (none-some NoSuchServer (sym none))
noticed_there parts server (Some node) is none =
    omega (arith, slice_get_within (world_of parts).servers (server.0 - 1) node is, length-map parts.servers.items (λ (s : ServerStanding). s.server))

-- what is known of it: it has stopped and is named, and another member has not
pub record IsNoticed (parts : Parts) (id : ServerId) : Type 0 where
  pub stopped : is_stopped (world_of parts) id ≡ true
  pub named : names parts.manager.current id ≡ true
  pub others : parts.manager.current.chain ≢ id ∷ []

-- the node that was read at its index
pub read_at : (nodes : List ServerStanding) (k i : ℕ) (node : ServerStanding) → k ≡ i → i < length nodes → node ≡ get_or nodes k node → slice_get nodes i ≡ Some node
read_at nodes k i node same within is = slice_get_read nodes (length nodes) i node refl within (is ∙ ap (λ n. get_or nodes n node) same)

pub noticed_of : (parts : Parts) (server : ServerId) (k : ℕ) (node : ServerStanding) → IsWhole parts → k ≡ server.0 - 1 → node ≡ get_or parts.servers.items k node
    → notice_refusal (world_of parts) server (server_at (world_of parts) server) ≡ None → IsNoticed parts node.server.id
noticed_of parts server k node whole same is none =
    let w = world_of parts in
    let within = noticed_there parts server (server_at w server) refl none in
    let at = server_there parts server node (read_at parts.servers.items k (server.0 - 1) node same within is) in
    let may = may_notice w server node.server (ap (notice_refusal w server) (sym at) ∙ none) in
    let stopped = mark_of w server node.server at whole.sound ∙ may.stopped in
    record {
      stopped = stopped;
      named = may.named;
      others = λ alone. not_alone whole.sound.served stopped alone;
    }
  where
    not_alone : SomeMemberRuns (is_stopped (world_of parts)) parts.manager.current → is_stopped (world_of parts) node.server.id ≡ true → parts.manager.current.chain ≡ node.server.id ∷ [] → ⊥
    not_alone served stopped alone =
        let among : member (node.server.id ∷ []) served.member ≡ true = ap (λ chain. member chain served.member) (sym alone) ∙ sym (in_chain-member parts.manager.current served.member) ∙ served.in_it in
        let same = same_server node.server.id served.member (eqb-true node.server.id.0 served.member.0 (or_false (eqb node.server.id.0 served.member.0) ∙ among)) in
        false≢true (sym served.runs ∙ ap (is_stopped (world_of parts)) (sym same) ∙ stopped)
      where
        or_false : (b : Bool) → b ≡ (b || false)
        or_false true = refl
        or_false false = refl

-- the parts are whole once the manager has made the view without it
pub removed_whole : (parts : Parts) (id : ServerId) → IsWhole parts → IsNoticed parts id → IsWhole (record parts { manager = removes parts.manager id })
removed_whole parts id whole noticed =
    record {
      servers = whole.servers;
      clients = whole.clients;
      journal = whole.journal;
      sound = removed_sound (world_of parts) id whole.sound noticed.stopped noticed.named;
    }

-- what a notice does is that the manager tells then
pub noticed_as : (parts : Parts) (server : ServerId) (k : ℕ) (node : ServerStanding) (manager : Manager) (id : ServerId) → k ≡ server.0 - 1
    → node ≡ get_or parts.servers.items k node → notice_refusal (world_of parts) server (server_at (world_of parts) server) ≡ None
    → id ≡ node.server.id → manager ≡ removes parts.manager id
    → notices (world_of parts) (server_at (world_of parts) server) ≡ manager_tells (world_of (record parts { manager = manager })) manager
noticed_as parts server k node manager id same is none its removed =
    let w = world_of parts in
    let within = noticed_there parts server (server_at w server) refl none in
    let at = server_there parts server node (read_at parts.servers.items k (server.0 - 1) node same within is) in
    let m : manager ≡ removes parts.manager node.server.id = removed ∙ ap (removes parts.manager) its in
    ap (notices w) at ∙ ap (manager_tells w) (sym m)

-- so it makes what that makes
pub tells_so : (before : ℕ) (made : Parts) (outcome told : Outcome) (result : Result Noted NoMemory) → outcome ≡ told → IfOk result (Makes told before made) → IfOk result (Makes outcome before made)
tells_so before made outcome told result same tells = subst (λ o. IfOk result (Makes o before made)) (sym same) tells

-- and its packets fit
pub tells_fit : (outcome told : Outcome) → outcome ≡ told → All IsPacket outcome.after.bag → All IsPacket told.after.bag
tells_fit outcome told same fit = subst (λ (o : Outcome). All IsPacket o.after.bag) same fit

-- what the parts are once a new server is among them, and the manager has made the view with it
pub record HasAdded (parts made : Parts) : Type 0 where
  pub manager : made.manager ≡ adds parts.manager
  pub nodes : made.servers.items ≡ parts.servers.items ++ record { server = newcomer (next_server parts.manager); failed = false } ∷ []
  pub marks : made.stopped.items ≡ parts.stopped.items ++ false ∷ []
  pub callers : made.clients ≡ parts.clients
  pub bag : made.bag ≡ parts.bag
  pub journal : made.journal ≡ parts.journal

added_world : (parts made : Parts) → HasAdded parts made → world_of made ≡ with_newcomer (world_of parts)
added_world parts made added =
    let f : Manager → List Server → List Bool → Vec ClientStanding Global → BagStanding → List DoneEntry → World =
    λ m ns marks cs bag journal. record { manager = m; servers = ns; stopped = marks; clients = map (λ (c : ClientStanding). c.client) cs.items; bag = bag.packets; lost = bag.lost; delivered = bag.delivered; history = history_of journal } in
    let nodes : map (λ (s : ServerStanding). s.server) made.servers.items ≡ (world_of parts).servers ++ newcomer (next_server parts.manager) ∷ [] =
    ap (map (λ (s : ServerStanding). s.server)) added.nodes ∙ map-append (λ (s : ServerStanding). s.server) parts.servers.items (record { server = newcomer (next_server parts.manager); failed = false } ∷ []) in
    let its = map (λ (s : ServerStanding). s.server) made.servers.items in
    let ns = (world_of parts).servers ++ newcomer (next_server parts.manager) ∷ [] in
    let ms = parts.stopped.items ++ false ∷ [] in
    ap (λ m. f m its made.stopped.items made.clients made.bag made.journal) added.manager
    ∙ ap (λ xs. f (adds parts.manager) xs made.stopped.items made.clients made.bag made.journal) nodes
    ∙ ap (λ xs. f (adds parts.manager) ns xs made.clients made.bag made.journal) added.marks
    ∙ ap (λ cs. f (adds parts.manager) ns ms cs made.bag made.journal) added.callers
    ∙ ap (λ b. f (adds parts.manager) ns ms parts.clients b made.journal) added.bag
    ∙ ap (f (adds parts.manager) ns ms parts.clients parts.bag) added.journal

pub added_whole : (parts made : Parts) → IsWhole parts → join_refusal (world_of parts) ≡ None → HasAdded parts made → IsWhole made
added_whole parts made whole none added =
    let may = may_join (world_of parts) none in
    let new : ServerStanding = record { server = newcomer (next_server parts.manager); failed = false } in
    record {
      servers = subst (All (λ s. s.failed ≡ false)) (sym added.nodes) (All-push (λ s. s.failed ≡ false) parts.servers.items new whole.servers refl);
      clients = subst (λ (cs : Vec ClientStanding Global). All (λ c. c.failed ≡ false) cs.items) (sym added.callers) whole.clients;
      journal = subst (λ j. j ≡ done_of (history_of j)) (sym added.journal) whole.journal;
      sound = subst IsSound (sym (added_world parts made added)) (with_newcomer_sound (world_of parts) whole.sound may.none may.few);
    }

-- what a join does is that the manager tells then
pub added_as : (parts added : Parts) → HasAdded parts added → joins (world_of parts) ≡ manager_tells (world_of added) added.manager
added_as parts added has =
    ap (manager_tells (with_newcomer (world_of parts))) (sym has.manager) ∙ ap (λ w. manager_tells w added.manager) (sym (added_world parts added has))

-- a view was made exactly where the manager may promote
pub may_of_some : (current : View) (from joiner : ServerId) (view : Option View) (made : View) → view ≡ Some made
    → (IsNone view ↔ (may_promote current from joiner ≡ false)) → may_promote current from joiner ≡ true
may_of_some current from joiner view made is exactly = by_test (may_promote current from joiner) refl
  where
    by_test : (test : Bool) → may_promote current from joiner ≡ test → may_promote current from joiner ≡ true
    by_test true may = may
    by_test false may = absurd (false≢true (sym (subst IsNone is (exactly.1 may))))

-- the parts are whole once the joiner is a member
pub member_whole : (parts : Parts) (from joiner : ServerId) → IsWhole parts → HasJoined (views_of parts.manager) (world_of parts).servers from joiner
    → may_promote parts.manager.current from joiner ≡ true → IsWhole (record parts { manager = promotes parts.manager joiner })
member_whole parts from joiner whole said may =
    record {
      servers = whole.servers;
      clients = whole.clients;
      journal = whole.journal;
      sound = with_member_sound (world_of parts) whole.sound from joiner said (may_promote_so parts.manager.current from joiner may);
    }

-- what a joiner's promotion does is that the manager tells then
pub member_as : (parts : Parts) (from joiner : ServerId) (manager : Manager) → may_promote parts.manager.current from joiner ≡ true → manager ≡ promotes parts.manager joiner
    → joined_at_manager (world_of parts) from joiner ≡ manager_tells (world_of (record parts { manager = manager })) manager
member_as parts from joiner manager may is =
    ap (λ test. cond test (manager_tells (world_of parts) (promotes parts.manager joiner)) (quiet (world_of parts))) may ∙ ap (manager_tells (world_of parts)) (sym is)
