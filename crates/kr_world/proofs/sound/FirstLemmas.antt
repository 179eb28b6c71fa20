-- The first world is sound.
use Rattle.std.proofs.Common.{zero, suc, ◌≡◌, ℕ, ◌+◌, ◌-◌, ◌<◌, ◌≤◌, false, List, [], ◌∷◌, map, refl, sym, ◌∙◌, subst, arith, inl}
use Rattle.std.specs.Prelude.{Some, slice_get, slice_index_or}
use Rattle.std.proofs.lemmas.Option.{none-some, same_Some, slice_get_past}
use Rattle.kr_order.specs.declared.ids.ServerId.{ServerId}
use Rattle.kr_order.specs.declared.view.View.{View}
use Rattle.std.proofs.lemmas.List.Elements.{All-nil, All-map}
use Rattle.kr_order.specs.View.{first_view, last_member}
use Rattle.kr_order.specs.Numbers.{numbers_to}
use Rattle.kr_order.proofs.PrefixLemmas.{IsPrefix-nil}
use Rattle.kr_protocol.specs.Server.{Server, founder}
use Rattle.kr_protocol.specs.Client.{Client, new_client}
use Rattle.kr_protocol.specs.Evolves.{begins}
use Rattle.kr_protocol.proofs.NeighbourLemmas.{member_is_named}
use Rattle.kr_world.specs.World.{first_world, is_stopped}
use Rattle.kr_world.specs.Sound.{IsSound, IsSoundServer, IsSoundPacket}
use Rattle.kr_world.proofs.steps.ListFacts.{all_of}
use Rattle.kr_world.proofs.chain.ChainLemmas.{server_id}
use Rattle.kr_world.proofs.chain.ViewLemmas.{length-made, made_at, in_first_view}

abbrev founders : ℕ → List Server
founders n = map (λ m. founder (first_view n) (record { 0 = m })) (numbers_to n)

-- a server of the first view, with nothing in its log
founder_sound :
    (n i : ℕ)
    → i < n
    → IsSoundServer (first_view n ∷ []) (founders n) [] 0 i (founder (first_view n) (server_id (i + 1)))
founder_sound n i lt =
    record {
      id = refl;
      own_view = inl (record { view = first_view n; adopted = refl; listed = refl; named = member_is_named (first_view n) (server_id (i + 1)) (in_first_view n i lt) });
      done = omega arith;
      fed = omega arith;
      below = λ j before there is. IsPrefix-nil before.log;
      agreed = IsPrefix-nil [];
      full = λ tail. refl;
      waiting = omega arith;
      entries = omega arith;
    }

-- nobody has stopped
none_stopped : (servers clients : ℕ) (id : ServerId) → is_stopped (first_world servers clients) id ≡ false
none_stopped servers clients id = unmarked (numbers_to servers) (id.0 - 1)
  where
    unmarked : (ns : List ℕ) (k : ℕ) → slice_index_or (map (λ n. false) ns) k false ≡ false
    unmarked [] k = refl
    unmarked (n ∷ ns) zero = refl
    unmarked (n ∷ ns) (suc k) = unmarked ns k

-- there is one view
only_view : (n k : ℕ) (view : View) → slice_get (first_view n ∷ []) k ≡ Some view → first_view n ≡ view
only_view n zero view is = same_Some (first_view n) view is
only_view n (suc k) view is = absurd (none-some view (sym (slice_get_past {X = View} [] k (omega arith)) ∙ is))

pub first_is_sound : (servers clients : ℕ) → 1 ≤ servers → servers ≤ 64 → IsSound (first_world servers clients)
first_is_sound servers clients some few =
    let found : ℕ → Server = λ m. founder (first_view servers) (record { 0 = m }) in
    let count = length-made found servers in
    let view = first_view servers in
    let make : ℕ → Client = λ m. new_client view (record { 0 = m }) in
    record {
      evolves = begins servers some;
      made = sym count;
      few = omega arith;
      served = record { member = server_id 1; in_it = in_first_view servers 0 (omega arith); runs = none_stopped servers clients (server_id 1) };
      servers = λ i server there.
          let at = made_at found servers i server there in
          subst (IsSoundServer (view ∷ []) (founders servers) [] 0 i) at.1 (founder_sound servers i at.0);
      last_holds = λ id server is there. IsPrefix-nil server.log;
      old_tails = λ k old tail server listed none last there. inl (subst (λ v. last_member v ≡ Some tail) (sym (only_view servers k old listed)) last);
      need_covers = λ joiner last server joins ends there stands. absurd (none-some joiner joins);
      packets = All-nil (IsSoundPacket (view ∷ []) (founders servers));
      calls = All-map (λ c. c.seq ≤ 0) make (numbers_to clients) (all_of (λ m. (make m).seq ≤ 0) (λ m. omega arith) (numbers_to clients));
      bag = omega arith;
      stopped = length-made (λ n. false) servers ∙ sym count;
      lost = refl;
      delivered = refl;
    }
