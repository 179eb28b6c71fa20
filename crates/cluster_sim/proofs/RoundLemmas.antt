-- The steps of a round as the parts give them, and the packets that are settled.
use Rattle.std.proofs.Common.{zero, suc, ◌≡◌, ℕ, ◌+◌, ◌-◌, ◌<◌, ◌≤◌, Bool, false, not, [], ◌∷◌, length, map, get_or, cond, ◌&&◌, refl, sym, ap, ◌∙◌, arith}
use Rattle.std.specs.Prelude.{Some, filter, slice_get}
use Rattle.std.proofs.lemmas.Option.{slice_get_read}
use Rattle.kr_order.specs.declared.ids.ClientId.{ClientId}
use Rattle.kr_order.specs.declared.ids.ServerId.{ServerId}
use Rattle.kr_order.specs.Numbers.{numbers_to}
use Rattle.kr_protocol.specs.Client.{is_busy, learns}
use Rattle.client_session.specs.ClientStanding.{ClientStanding}
use Rattle.script_lang.specs.declared.script.Event.TheVariants.{Deliver, Retry}
use Rattle.kr_world.specs.World.{World, is_stopped}
use Rattle.kr_world.specs.Round.{aim, retry_at, learnt, learnt_retry_of, is_under_way, AreSettled}
use Rattle.kr_world.proofs.rounds.RoundLoopLemmas.{left_out}
use Rattle.cluster_parts.specs.declared.parts.Parts.{Parts}
use Rattle.cluster_parts.specs.PartsStanding.{world_of}
use Rattle.cluster_sim.proofs.PartsLemmas.{client_there}

-- where a client that knows the view tries again, or does not
pub retry_is : (parts : Parts) (i : ℕ) (client : ClientStanding) (server : ServerId) (result test : Bool) → i < length parts.clients.items → client ≡ get_or parts.clients.items i client → server ≡ aim (learns client.client parts.manager.current)
    → result ≡ (is_busy client.client && not (is_stopped (world_of parts) server)) → result ≡ test → cond test (Retry (record { 0 = i + 1 }) server ∷ []) [] ≡ learnt_retry_of (world_of parts) (i + 1)
retry_is parts i client server result test within is same tries tested =
    let w = world_of parts in
    let id : ClientId = record { 0 = i + 1 } in
    let now = learns client.client parts.manager.current in
    let index : (i + 1) - 1 ≡ i = omega arith in
    let there : slice_get parts.clients.items ((i + 1) - 1) ≡ Some client = ap (slice_get parts.clients.items) index ∙ slice_get_read parts.clients.items (length parts.clients.items) i client refl within is in
    ap (λ t. cond t (Retry id server ∷ []) []) (sym tested ∙ tries)
    ∙ ap (λ s. cond (is_busy now && not (is_stopped w s)) (Retry id s ∷ []) []) same
    ∙ ap (λ found. retry_at w id (learnt w found)) (sym (client_there parts id client there))

-- no packet is settled at the least
pub none_settled : (world : World) → AreSettled world 0
none_settled world = record { within = omega arith; none = λ k low high. absurd (omega (arith, low, high)) }

-- what is settled is not delivered
none_of : (world : World) (n : ℕ) → ((k : ℕ) → 1 ≤ k → k ≤ n → is_under_way world k ≡ false) → map Deliver (filter (is_under_way world) (numbers_to n)) ≡ []
none_of world zero none = refl
none_of world (suc n) none =
    let same : suc n ≡ n + 1 = omega arith in
    ap (λ m. map Deliver (filter (is_under_way world) (numbers_to m))) same ∙ sym (left_out Deliver (is_under_way world) n (none (n + 1) (omega arith) (omega arith))) ∙ none_of world n (λ k low high. none k low (omega (arith, high)))

pub none_delivered : (world : World) (n : ℕ) → AreSettled world n → map Deliver (filter (is_under_way world) (numbers_to n)) ≡ []
none_delivered world n settled = none_of world n settled.none
