-- The nodes that a cluster begins with, one more of them.
use Rattle.std.proofs.Common.{◌≡◌, ℕ, ◌+◌, ◌≤◌, Bool, false, List, [], ◌∷◌, ◌++◌, length, map, refl, sym, ap, ◌∙◌, subst, arith}
use Rattle.std.specs.Prelude.{All}
use Rattle.std.proofs.lemmas.List.{map-append}
use Rattle.std.proofs.lemmas.List.Elements.{All-map}
use Rattle.kr_order.specs.View.{first_view}
use Rattle.kr_order.specs.Numbers.{numbers_to}
use Rattle.kr_order.specs.Done.{done_of}
use Rattle.kr_protocol.specs.Manager.{Manager, new_manager}
use Rattle.kr_protocol.specs.Server.{Server, founder}
use Rattle.kr_protocol.specs.Client.{Client, new_client}
use Rattle.chain_server.specs.ServerStanding.{ServerStanding}
use Rattle.client_session.specs.ClientStanding.{ClientStanding}
use Rattle.kr_world.specs.World.{World, first_world}
use Rattle.kr_world.specs.Sound.{IsSound}
use Rattle.kr_world.proofs.steps.ListFacts.{all_of}
use Rattle.kr_world.proofs.rounds.RoundLoopLemmas.{numbers_to-next}
use Rattle.kr_world.proofs.sound.SoundLemmas.{worlds_sound}
use Rattle.kr_world.proofs.chain.ViewLemmas.{length-made}
use Rattle.cluster_parts.specs.declared.parts.Parts.{Parts}
use Rattle.kr_order.specs.declared.history.Entry.{Entry}
use Rattle.kr_order.specs.declared.message.Packet.{Packet}
use Rattle.cluster_parts.specs.BagStanding.{BagStanding}
use Rattle.cluster_parts.specs.PartsStanding.{history_of, world_of}
use Rattle.cluster_sim.specs.Parts.{IsWhole, IsAtRest, IsReady}
use Rattle.wire_fit.specs.Spoken.{IsSpoken}
use Rattle.wire_fit.proofs.SpokenLemmas.{worlds_spoken}
use Rattle.script_lang.specs.Script.{IsSize}
use Rattle.cluster_sim.proofs.RoundLemmas.{none_settled}

abbrev new_servers : ℕ → List ServerStanding
new_servers n = map (λ m. record { server = founder (first_view n) (record { 0 = m }); failed = false }) (numbers_to n)

abbrev new_callers : ℕ → ℕ → List ClientStanding
new_callers servers n = map (λ m. record { client = new_client (first_view servers) (record { 0 = m }); failed = false }) (numbers_to n)

-- what is made of each, item by item
map_map : {X Y Z : Type 0} (f : Y → Z) (g : X → Y) (xs : List X) → map f (map g xs) ≡ map (λ x. f (g x)) xs
map_map f g [] = refl
map_map f g (x ∷ xs) = ap (λ ys. f (g x) ∷ ys) (map_map f g xs)

-- the parts of a cluster before its first step
pub record IsStart (servers clients : ℕ) (parts : Parts) : Type 0 where
  pub manager : parts.manager ≡ new_manager servers
  pub marks : parts.stopped.items ≡ map (λ n. false) (numbers_to servers)
  pub nodes : parts.servers.items ≡ new_servers servers
  pub callers : parts.clients.items ≡ new_callers servers clients
  pub bag : parts.bag ≡ record { packets = []; lost = []; delivered = []; before = 0 }
  pub journal : parts.journal ≡ []

pub started : (servers clients : ℕ) (parts : Parts) → IsStart servers clients parts → world_of parts ≡ first_world servers clients
started servers clients parts start =
    let manager = start.manager in
    let packets : parts.bag.packets ≡ [] = ap (λ (b : BagStanding). b.packets) start.bag in
    let lost : parts.bag.lost ≡ [] = ap (λ (b : BagStanding). b.lost) start.bag in
    let delivered : parts.bag.delivered ≡ [] = ap (λ (b : BagStanding). b.delivered) start.bag in
    let journal : history_of parts.journal ≡ [] = ap history_of start.journal in
    let ss : map (λ (s : ServerStanding). s.server) parts.servers.items ≡ map (λ m. founder (first_view servers) (record { 0 = m })) (numbers_to servers) = ap (map (λ (s : ServerStanding). s.server)) start.nodes ∙ map_map (λ (s : ServerStanding). s.server) (λ m. record { server = founder (first_view servers) (record { 0 = m }); failed = false }) (numbers_to servers) in
    let cs : map (λ (c : ClientStanding). c.client) parts.clients.items ≡ map (λ m. new_client (first_view servers) (record { 0 = m })) (numbers_to clients) = ap (map (λ (c : ClientStanding). c.client)) start.callers ∙ map_map (λ (c : ClientStanding). c.client) (λ m. record { client = new_client (first_view servers) (record { 0 = m }); failed = false }) (numbers_to clients) in
    let w = first_world servers clients in
    let f : Manager → List Bool → List Server → List Client → World = λ m marks ns cs. record (world_of parts) { manager = m; stopped = marks; servers = ns; clients = cs } in
    let g : List Packet → List Bool → List Bool → List Entry → World = λ ps ls ds h. record w { bag = ps; lost = ls; delivered = ds; history = h } in
    ap (λ m. f m (world_of parts).stopped (world_of parts).servers (world_of parts).clients) manager ∙ ap (λ marks. f w.manager marks (world_of parts).servers (world_of parts).clients) start.marks ∙ ap (λ ns. f w.manager w.stopped ns (world_of parts).clients) ss ∙ ap (f w.manager w.stopped w.servers) cs ∙ ap (λ ps. g ps (world_of parts).lost (world_of parts).delivered (world_of parts).history) packets ∙ ap (λ ls. g [] ls (world_of parts).delivered (world_of parts).history) lost ∙ ap (λ ds. g [] [] ds (world_of parts).history) delivered ∙ ap (g [] [] []) journal

started_whole : (servers clients : ℕ) (parts : Parts) → 1 ≤ servers → servers ≤ 8 → IsStart servers clients parts → IsWhole parts
started_whole servers clients parts some few start =
    record {
      servers = subst (All (λ s. s.failed ≡ false)) (sym start.nodes) (All-map (λ (s : ServerStanding). s.failed ≡ false) (λ m. record { server = founder (first_view servers) (record { 0 = m }); failed = false }) (numbers_to servers) (all_of (λ m. false ≡ false) (λ m. refl) (numbers_to servers)));
      clients = subst (All (λ c. c.failed ≡ false)) (sym start.callers) (All-map (λ (c : ClientStanding). c.failed ≡ false) (λ m. record { client = new_client (first_view servers) (record { 0 = m }); failed = false }) (numbers_to clients) (all_of (λ m. false ≡ false) (λ m. refl) (numbers_to clients)));
      journal = start.journal ∙ ap (λ j. done_of (history_of j)) (sym start.journal);
      sound = subst IsSound (sym (started servers clients parts start)) (worlds_sound.first servers clients some (omega arith));
    }

pub started_rest : (servers clients : ℕ) (parts : Parts) → IsSize servers clients → IsStart servers clients parts → IsAtRest parts
started_rest servers clients parts size start =
    record {
      whole = started_whole servers clients parts size.servers_fit.low size.servers_fit.high start;
      spoken = subst IsSpoken (sym (started servers clients parts start)) (worlds_spoken.first servers clients size);
    }

-- it has few clients, and no packets that a round could deliver
pub started_ready : (servers clients : ℕ) (parts : Parts) → IsSize servers clients → IsStart servers clients parts → IsReady parts 0
started_ready servers clients parts size start =
    let f : ℕ → ClientStanding = λ m. record { client = new_client (first_view servers) (record { 0 = m }); failed = false } in
    let count : length parts.clients.items ≡ clients = ap length start.callers ∙ length-made f clients in
    record {
      rest = started_rest servers clients parts size start;
      callers = omega (arith, count, size.clients_fit.high);
      settled = none_settled (world_of parts);
    }
