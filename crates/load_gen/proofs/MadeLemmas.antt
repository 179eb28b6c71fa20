-- How many packets a load sends, and that it is a script.
use Rattle.std.proofs.Common.{◌≡◌, ℕ, zero, suc, ◌+◌, ◌-◌, ◌*◌, ◌%◌, ◌≤◌, Bool, true, false, cond, leb, eqb, List, [], ◌∷◌, map, refl, ap, ◌∙◌, arith}
use Rattle.std.specs.Prelude.{All}
use Rattle.std.proofs.lemmas.Bool.{leb-true, eqb-true}
use Rattle.std.proofs.lemmas.List.Sums.{sum_by-append, sum_by-cons}
use Rattle.std.proofs.lemmas.List.Elements.{All-nil, All-cons, All-append, All-push, All-map}
use Rattle.kr_order.specs.declared.ids.ClientId.{ClientId}
use Rattle.kr_order.specs.declared.ids.EventId.{EventId}
use Rattle.kr_order.specs.declared.ids.ServerId.{ServerId}
use Rattle.kr_order.specs.declared.batch.Pair.{Pair}
use Rattle.kr_order.specs.declared.batch.Kind.TheVariants.{Must}
use Rattle.kr_order.specs.declared.history.Command.{Command}
use Rattle.kr_order.specs.declared.history.Command.TheVariants.{Create, Release}
use Rattle.kr_order.specs.Numbers.{numbers_to}
use Rattle.script_lang.specs.declared.script.Event.{Event}
use Rattle.script_lang.specs.declared.script.Event.TheVariants.{Call, Query, Deliver, Work}
use Rattle.script_lang.specs.Event.{IsNumber, IsEventNumber, IsPair, IsAskedPair, IsCommand, IsEvent}
use Rattle.script_lang.specs.Script.{IsScript}
use Rattle.kr_world.specs.Round.{IsStep}
use Rattle.load_gen.specs.Made.{packets_by, sent_by, deliveries, with_command, with_query, client_of, server_of, must_pair, creates, assigns, asks, releases, with_round, made_events, made}

-- deliveries bring no packets of their own: those that they lead to are their call's
no_packets : (sent : ℕ) (ks : List ℕ) → sent_by (map (λ k. Deliver (sent + k)) ks) ≡ 0
no_packets sent [] = refl
no_packets sent (k ∷ ks) =
    sum_by-cons packets_by (Deliver (sent + k)) (map (λ j. Deliver (sent + j)) ks) ∙ ap (λ n. 0 + n) (no_packets sent ks)

sent_by-command : (events : List Event) (client : ClientId) (command : Command) → sent_by (with_command events client command) ≡ sent_by events + 7
sent_by-command events client command =
    let sent = sent_by events in
    let rest = deliveries sent 7 in
    let none : sent_by rest ≡ 0 = no_packets sent (numbers_to 7) in
    let call : sent_by (Call client command ∷ rest) ≡ 7 + sent_by rest = sum_by-cons packets_by (Call client command) rest in
    let whole : sent_by (with_command events client command) ≡ sent + sent_by (Call client command ∷ rest) = sum_by-append packets_by events (Call client command ∷ rest) in
    omega (arith, none, call, whole)

sent_by-query : (events : List Event) (client : ClientId) (server : ServerId) (pair : EventId × EventId) → sent_by (with_query events client server pair) ≡ sent_by events + 2
sent_by-query events client server pair =
    sum_by-append packets_by events (Query client server (pair ∷ []) ∷ Deliver (sent_by events + 1) ∷ Work server 2 ∷ Deliver (sent_by events + 2) ∷ [])

-- a line may give each of the events, each is one step, and so many packets are sent in them at the most
record IsFine (most : ℕ) (events : List Event) : Type 0 where
  each : All IsEvent events
  steps : All IsStep events
  few : sent_by events ≤ most

-- the deliveries of so many packets can be given by lines
deliveries_fit : (sent count : ℕ) → sent + count ≤ 4294967295 → All IsEvent (deliveries sent count)
deliveries_fit sent count few = All-map IsEvent (λ k. Deliver (sent + k)) (numbers_to count) (up_to count few)
  where
    up_to : (n : ℕ) → sent + n ≤ 4294967295 → All (λ k. IsNumber (sent + k)) (numbers_to n)
    up_to zero few = All-nil (λ k. IsNumber (sent + k))
    up_to (suc n) few =
        let next : IsNumber (sent + (n + 1)) = record { low = omega arith; high = omega arith } in
        All-push (λ k. IsNumber (sent + k)) (numbers_to n) (n + 1) (up_to n (omega arith)) next

deliveries_alone : (sent count : ℕ) → All IsStep (deliveries sent count)
deliveries_alone sent count = All-map IsStep (λ k. Deliver (sent + k)) (numbers_to count) (each (numbers_to count))
  where
    each : (ks : List ℕ) → All (λ k. IsStep (Deliver (sent + k))) ks
    each [] = All-nil (λ k. IsStep (Deliver (sent + k)))
    each (k ∷ ks) = All-cons (λ j. IsStep (Deliver (sent + j))) k ks refl (each ks)

command_fine : (most : ℕ) (events : List Event) (client : ClientId) (command : Command) → IsNumber client.0 → IsCommand command → most ≤ 100000 → IsFine most events → IsFine (most + 7) (with_command events client command)
command_fine most events client command client_fits command_fits small fine =
    let sent = sent_by events in
    let le : sent ≤ most = fine.few in
    let call : IsEvent (Call client command) = record { client_fits = client_fits; command_fits = command_fits } in
    record {
      each = All-append IsEvent events (Call client command ∷ deliveries sent 7) fine.each (All-cons IsEvent (Call client command) (deliveries sent 7) call (deliveries_fit sent 7 (omega arith)));
      steps = All-append IsStep events (Call client command ∷ deliveries sent 7) fine.steps (All-cons IsStep (Call client command) (deliveries sent 7) refl (deliveries_alone sent 7));
      few = omega (arith, sent_by-command events client command);
    }

one_pair : {pair : Type 0} (Fits : pair → Type 0) (p : pair) → Fits p → All Fits (p ∷ [])
one_pair Fits p fits = All-cons Fits p [] fits (All-nil Fits)

query_fine : (most : ℕ) (events : List Event) (client : ClientId) (server : ServerId) (pair : EventId × EventId) → IsNumber client.0 → IsNumber server.0 → IsAskedPair pair → most ≤ 100000 → IsFine most events → IsFine (most + 7) (with_query events client server pair)
query_fine most events client server pair client_fits server_fits pair_fits small fine =
    let sent = sent_by events in
    let le : sent ≤ most = fine.few in
    let first : IsEvent (Deliver (sent + 1)) = record { low = omega arith; high = omega arith } in
    let last : IsEvent (Deliver (sent + 2)) = record { low = omega arith; high = omega arith } in
    let work : IsEvent (Work server 2) = record { server_fits = server_fits; workers_fit = record { low = omega arith; high = omega arith } } in
    let query : IsEvent (Query client server (pair ∷ [])) = record {
      client_fits = client_fits;
      server_fits = server_fits;
      some = omega arith;
      pairs_fit = record { most = omega arith; each = one_pair IsAskedPair pair pair_fits };
    } in
    let rest = Deliver (sent + 1) ∷ Work server 2 ∷ Deliver (sent + 2) ∷ [] in
    let rest_fit : All IsEvent rest = All-cons IsEvent (Deliver (sent + 1)) (Work server 2 ∷ Deliver (sent + 2) ∷ []) first (All-cons IsEvent (Work server 2) (Deliver (sent + 2) ∷ []) work (one_pair IsEvent (Deliver (sent + 2)) last)) in
    let rest_alone : All IsStep (Query client server (pair ∷ []) ∷ rest) =
    All-cons IsStep (Query client server (pair ∷ [])) rest refl (All-cons IsStep (Deliver (sent + 1)) (Work server 2 ∷ Deliver (sent + 2) ∷ []) refl (All-cons IsStep (Work server 2) (Deliver (sent + 2) ∷ []) refl (one_pair IsStep (Deliver (sent + 2)) refl))) in
    record {
      each = All-append IsEvent events (Query client server (pair ∷ []) ∷ rest) fine.each (All-cons IsEvent (Query client server (pair ∷ [])) rest query rest_fit);
      steps = All-append IsStep events (Query client server (pair ∷ []) ∷ rest) fine.steps rest_alone;
      few = omega (arith, sent_by-query events client server pair);
    }

client_fits : (round : ℕ) → IsNumber (client_of round).0
client_fits round = record { low = omega arith; high = omega arith }

server_fits : (round : ℕ) → IsNumber (server_of round).0
server_fits round = record { low = omega arith; high = omega arith }

assigns_fine : (most round : ℕ) (events : List Event) → round ≤ 2000 → most ≤ 100000 → IsFine most events → IsFine (most + 7) (assigns round events)
assigns_fine most round events last small fine = by_test (leb 2 round) refl
  where
    by_test : (test : Bool) → leb 2 round ≡ test → IsFine (most + 7) (cond test (with_command events (client_of round) (must_pair (round - 1) round)) events)
    by_test true is =
        let low = leb-true 2 round is in
        let pair : Pair = record { first = record { 0 = round - 1 }; second = record { 0 = round }; kind = Must } in
        let fits : IsPair pair = record { first = record { low = omega arith; high = omega arith }; second = record { low = omega arith; high = omega arith } } in
        let command : IsCommand (must_pair (round - 1) round) = record { most = omega arith; each = one_pair IsPair pair fits } in
        command_fine most events (client_of round) (must_pair (round - 1) round) (client_fits round) command small fine
    by_test false is = record { each = fine.each; steps = fine.steps; few = omega (arith, fine.few) }

asks_fine : (most round : ℕ) (events : List Event) → 1 ≤ round → round ≤ 2000 → most ≤ 100000 → IsFine most events → IsFine (most + 7) (asks round events)
asks_fine most round events first last small fine = by_test (eqb (round % 5) 0) refl
  where
    pair : EventId × EventId
    pair = (record { 0 = round - 4 }, record { 0 = round })

    by_test : (test : Bool) → eqb (round % 5) 0 ≡ test → IsFine (most + 7) (cond test (with_query events (client_of round) (server_of round) (record { 0 = round - 4 }, record { 0 = round })) events)
    by_test true is =
        let fifth : round % 5 ≡ 0 = eqb-true (round % 5) 0 is in
        let low : 5 ≤ round = omega arith in
        let fits : IsAskedPair (record { 0 = round - 4 }, record { 0 = round }) = record { first = record { low = omega arith; high = omega arith }; second = record { low = omega arith; high = omega arith } } in
        query_fine most events (client_of round) (server_of round) (record { 0 = round - 4 }, record { 0 = round }) (client_fits round) (server_fits round) fits small fine
    by_test false is = record { each = fine.each; steps = fine.steps; few = omega (arith, fine.few) }

releases_fine : (most round : ℕ) (events : List Event) → round ≤ 2000 → most ≤ 100000 → IsFine most events → IsFine (most + 7) (releases round events)
releases_fine most round events last small fine = by_test (leb 11 round) refl
  where
    by_test : (test : Bool) → leb 11 round ≡ test → IsFine (most + 7) (cond test (with_command events (client_of round) (Release (record { 0 = round - 10 }))) events)
    by_test true is =
        let low = leb-true 11 round is in
        let fits : IsEventNumber (round - 10) = record { low = omega arith; high = omega arith } in
        command_fine most events (client_of round) (Release (record { 0 = round - 10 })) (client_fits round) fits small fine
    by_test false is = record { each = fine.each; steps = fine.steps; few = omega (arith, fine.few) }

round_fine : (most round : ℕ) (events : List Event) → 1 ≤ round → round ≤ 2000 → most ≤ 90000 → IsFine most events → IsFine (most + 28) (with_round round events)
round_fine most round events first last small fine =
    let created = command_fine most events (client_of round) Create (client_fits round) tt (omega arith) fine in
    let assigned = assigns_fine (most + 7) round (creates round events) last (omega arith) created in
    let asked = asks_fine (most + 7 + 7) round (assigns round (creates round events)) first last (omega arith) assigned in
    let released = releases_fine (most + 7 + 7 + 7) round (asks round (assigns round (creates round events))) last (omega arith) asked in
    record { each = released.each; steps = released.steps; few = omega (arith, released.few) }

made_fine : (n : ℕ) → n ≤ 2000 → IsFine (28 * n) (made_events n)
made_fine zero most = record { each = All-nil IsEvent; steps = All-nil IsStep; few = omega arith }
made_fine (suc n) most =
    let fine = round_fine (28 * n) (n + 1) (made_events n) (omega arith) (omega arith) (omega arith) (made_fine n (omega arith)) in
    record { each = fine.each; steps = fine.steps; few = omega (arith, fine.few) }

-- a load is a script
pub made_fits : (n : ℕ) → n ≤ 2000 → IsScript (made n)
made_fits n most = record {
  size = record {
    servers_fit = record { low = omega arith; high = omega arith };
    clients_fit = record { low = omega arith; high = omega arith };
  };
  each = (made_fine n most).each;
}

-- none of whose lines is a round of the network
pub made_alone : (n : ℕ) → n ≤ 2000 → All IsStep (made_events n)
made_alone n most = (made_fine n most).steps
