-- The first world has the facts.
use Rattle.std.proofs.Common.{◌≡◌, ℕ, ◌+◌, ◌≤◌, [], map, refl, subst, arith}
use Rattle.std.specs.Prelude.{Some, slice_get}
use Rattle.std.proofs.lemmas.List.Elements.{All-nil, All-map}
use Rattle.std.proofs.lemmas.Option.{none-some}
use Rattle.kr_order.specs.declared.view.View.{View}
use Rattle.kr_order.specs.View.{first_view}
use Rattle.kr_order.specs.Numbers.{numbers_to}
use Rattle.kr_protocol.specs.Client.{Client, new_client}
use Rattle.kr_protocol.specs.Server.{Server, founder}
use Rattle.kr_world.specs.World.{first_world}
use Rattle.kr_world.specs.Facts.{IsTrueQuery, IsTrueServer, IsTruePacket, WasNoLater, IsTrueItem, IsTrueClient, AreFacts}
use Rattle.kr_world.proofs.steps.ListFacts.{all_of}
use Rattle.kr_world.proofs.chain.ViewLemmas.{made_at}

new_client_true : (view : View) (i : ℕ) → IsTrueClient [] [] i (new_client view (record { 0 = i + 1 }))
new_client_true view i =
    record {
      id = refl;
      seq = refl;
      command = λ command is. absurd (none-some command is);
      idle = λ none. refl;
      within = omega arith;
      old = omega arith;
      queries = record {
        alone = λ pairs asking. refl;
        asked = λ pairs asking. absurd (none-some pairs asking);
        last = All-nil (WasNoLater (new_client view (record { 0 = i + 1 })));
      };
      cache = All-nil (IsTrueItem [] 0);
    }

new_client_at : (view : View) (n i : ℕ) (client : Client)
    → slice_get (map (λ m. new_client view (record { 0 = m })) (numbers_to n)) i ≡ Some client
    → IsTrueClient [] [] i client
new_client_at view n i client there =
    let make : ℕ → Client = λ m. new_client view (record { 0 = m }) in
    subst (IsTrueClient [] [] i) (made_at make n i client there).1 (new_client_true view i)

founder_true : (view : View) (m : ℕ) → IsTrueServer [] [] (founder view (record { 0 = m }))
founder_true view m =
    record {
      waiting = All-nil (IsTrueQuery [] []);
      log = record { callers = All-nil (λ entry. 1 ≤ entry.client.0); numbered = λ caller k entry is. absurd (none-some entry is) };
    }

pub first_facts : (servers clients : ℕ) → AreFacts [] (first_world servers clients)
first_facts servers clients =
    let view = first_view servers in
    let make : ℕ → Server = λ m. founder view (record { 0 = m }) in
    record {
      packets = All-nil (IsTruePacket [] []);
      in_step = record { numbered = λ caller k entry is. absurd (none-some entry is); one_open = λ caller. omega arith };
      clients = new_client_at view clients;
      servers = All-map (IsTrueServer [] []) make (numbers_to servers) (all_of (λ m. IsTrueServer [] [] (make m)) (founder_true view) (numbers_to servers));
    }
