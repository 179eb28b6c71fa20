-- The reply of its open call, which closes it, is true, and new to its client.
use Rattle.std.proofs.Common.{◌≡◌, ℕ, ◌+◌, ◌-◌, ◌<◌, ◌≤◌, List, [], ◌∷◌, ◌++◌, length, take, drop, refl, sym, ap, ◌∙◌, subst, arith, inl, inr}
use Rattle.std.specs.Prelude.{max, Some}
use Rattle.std.proofs.lemmas.Bool.{cases_lt}
use Rattle.std.proofs.lemmas.List.{length-append, length_push}
use Rattle.std.proofs.lemmas.List.Elements.{All-nil, All-cons}
use Rattle.std.proofs.lemmas.Option.{none-some, slice_get_within}
use Rattle.kr_order.specs.declared.ids.ClientId.{ClientId}
use Rattle.kr_order.specs.declared.history.Command.{Command}
use Rattle.kr_order.specs.declared.history.Entry.{Entry}
use Rattle.kr_order.specs.declared.history.Placed.{Placed}
use Rattle.kr_protocol.specs.Client.{Client, closes}
use Rattle.kr_world.specs.World.{World, client_at}
use Rattle.kr_world.specs.Step.{client_hears}
use Rattle.kr_world.specs.Run.{Turn}
use Rattle.kr_world.specs.Lawful.{IsNumbered, seen_of, begun_by, entries_of}
use Rattle.kr_world.specs.Facts.{StandsAt, IsTrueClient, open_calls}
use Rattle.kr_world.proofs.steps.ListFacts.{split_at, take_with}
use Rattle.kr_world.proofs.packets.EntryLemmas.{entries_of-own, entries_of-front, numbered_at, numbered_count}
use Rattle.kr_world.proofs.packets.PacketLemmas.{told_truly}
use Rattle.kr_world.proofs.packets.PastLemmas.{IsApart, begun_same}
use Rattle.kr_world.proofs.queries.QueryLemmas.{ends, queries_move, no_asking}
use Rattle.kr_world.proofs.queries.RememberLemmas.{items_seen}
use Rattle.kr_world.proofs.clients.HeardLemmas.{says_nothing, heard_goes_on}
use Rattle.kr_world.proofs.facts.KeepLemmas.{IsNewReply, IsNewPart, GoesOn}
use Rattle.kr_world.proofs.clients.ClientLemmas.{IsPresent, its_facts, own_id}

-- a reply to the last command that the client began: it is past all that the client has seen, where none of its entries is that one
record IsNews (history : List Entry) (caller : ClientId) (seq seen place : ℕ) : Type 0 where
  past_seen : seen < place
  within : place ≤ length history
  all : length (entries_of caller history) ≡ seq
  now : length (entries_of caller (take place history)) ≡ seq

is_news : (begun : List Command) (history : List Entry) (caller : ClientId) (seq seen : ℕ) (placed : Placed)
    → StandsAt history caller seq placed → IsNumbered begun (entries_of caller history) → seq ≡ length begun
    → length (entries_of caller (take seen history)) < seq → IsNews history caller seq seen placed.place
is_news begun history caller seq seen placed stands numbered counted old =
    let i = placed.place - 1 in
    let entry = stands.entry in
    let low = stands.place_low in
    let seq_is = stands.seq_is in
    let before = take i history in
    let after = drop (i + 1) history in
    let within = slice_get_within history i entry stands.stands in
    let cut : history ≡ before ++ entry ∷ after = split_at history i entry stands.stands in
    let own : entry.client.0 ≡ caller.0 = ap (λ (c : ClientId). c.0) stands.client in
    let order = numbered_at begun caller before entry after own (subst (λ h. IsNumbered begun (entries_of caller h)) cut numbered) in
    let order_seq = order.seq in
    let parts : entries_of caller history ≡ entries_of caller before ++ entry ∷ entries_of caller after = ap (entries_of caller) cut ∙ entries_of-own caller before entry after own in
    let bound = numbered_count begun (entries_of caller history) numbered in
    let front : take placed.place history ≡ before ++ entry ∷ [] = ap (λ n. take n history) (omega arith) ∙ take_with history i entry stands.stands in
    let now_parts : entries_of caller (take placed.place history) ≡ entries_of caller before ++ entry ∷ [] = ap (entries_of caller) front ∙ entries_of-own caller before entry [] own in
    let now : length (entries_of caller (take placed.place history)) ≡ seq = omega (arith, ap length now_parts, length_push (entries_of caller before) entry) in
    record {
      past_seen = elim (cases_lt seen placed.place) [ inl lt ↦ lt | inr le ↦ absurd (omega (arith, entries_of-front caller history placed.place seen le)) ];
      within = omega arith;
      all = omega (arith, ap length parts, length-append (entries_of caller before) (entry ∷ entries_of caller after));
      now = now;
    }

-- a client with the reply of its open call, which closes it
closed_true : (past : List Turn) (turn : Turn) (history : List Entry) (i : ℕ) (client : Client) (command : Command)
    (placed : Placed) → client.call ≡ Some command
    → IsNews history client.id client.seq client.seen placed.place → IsApart turn client.id
    → client_at turn.outcome.after client.id ≡ Some (closes client placed).after → IsTrueClient past history i client
    → IsTrueClient (past ++ turn ∷ []) history i (closes client placed).after
closed_true past turn history i client command placed called news apart at known =
    let after = (closes client placed).after in
    let id = known.id in
    let past_seen = news.past_seen in
    let within = news.within in
    let now = news.now in
    let seq : client.seq ≡ length (begun_by client.id (past ++ turn ∷ [])) = known.seq ∙ sym (ap length (begun_same client.id past turn apart)) in
    let last : placed.place ≡ max client.seen placed.place = omega arith in
    let none = no_asking past client known.queries (λ is. none-some command (sym is ∙ called)) in
    record {
      id = known.id;
      seq = seq;
      command = λ other none. absurd (none-some other none);
      idle = λ none. news.all;
      within = omega arith;
      old = subst (λ n. length (entries_of client.id (take n history)) + 0 ≤ client.seq) last (omega arith);
      queries = queries_move past turn client after refl (omega arith) (ends refl none) at (λ pairs asking. refl) known.queries;
      cache = items_seen history client.seen after.seen client.cache (omega arith) known.cache;
    }

pub closes_goes_on : (past : List Turn) (world : World) (id : ClientId) (client : Client) (command : Command)
    (placed : Placed) → IsPresent past world id client → client.call ≡ Some command
    → StandsAt world.history id client.seq placed → GoesOn past world (client_hears world id (closes client placed))
closes_goes_on past world id client command placed here called stands =
    let history = world.history in
    let known = its_facts past world id client here in
    let count = length (entries_of client.id (take client.seen history)) in
    let old : count + 1 ≤ client.seq = subst (λ call. count + open_calls call ≤ client.seq) called known.old in
    let its : StandsAt history client.id client.seq placed = subst (λ c. StandsAt history c client.seq placed) (sym (own_id past world id client here stands.caller_low)) stands in
    let numbered = here.facts.in_step.numbered client.id in
    let news = is_news (begun_by client.id past) history client.id client.seq client.seen placed its numbered known.seq (omega arith) in
    let unseen : seen_of (client_at world id) < placed.place = subst (λ found. seen_of found < placed.place) (sym here.at) news.past_seen in
    let New = IsNewReply world history in
    heard_goes_on past world id client (closes client placed) here (record {
      same = refl;
      known = λ turn apart at. closed_true past turn history (id.0 - 1) client command placed called news apart at known;
      says = says_nothing;
      told = All-cons New _ [] (told_truly history (seen_of (client_at world id)) id client.seq placed stands unseen) (All-nil New);
      parts = All-nil (IsNewPart world history);
    })
