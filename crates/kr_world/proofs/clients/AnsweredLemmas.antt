-- The answers to its open query are true, and current for its client.
use Rattle.std.proofs.Common.{◌≡◌, ℕ, ◌+◌, ◌-◌, ◌≤◌, Bool, true, List, [], ◌∷◌, ◌++◌, length, take, refl, sym, ap, ◌∙◌, subst, arith, inl, inr}
use Rattle.std.specs.Prelude.{max, Some, All}
use Rattle.std.proofs.lemmas.List.{take_all}
use Rattle.std.proofs.lemmas.List.Elements.{All-nil, All-map}
use Rattle.kr_order.specs.declared.ids.ClientId.{ClientId}
use Rattle.kr_order.specs.declared.ids.EventId.{EventId}
use Rattle.kr_order.specs.declared.answer.Teller.{Teller}
use Rattle.kr_order.specs.declared.answer.Told.{Told}
use Rattle.kr_order.specs.declared.answer.ToldPart.{ToldPart}
use Rattle.kr_order.specs.declared.history.Entry.{Entry}
use Rattle.kr_order.specs.Answer.{answers_after}
use Rattle.kr_protocol.specs.Server.{told_by}
use Rattle.kr_protocol.specs.Client.{Client, last, may_answer_all, remaining, parts_of, answered}
use Rattle.kr_world.specs.World.{World, client_at}
use Rattle.kr_world.specs.Step.{Part, client_hears}
use Rattle.kr_world.specs.Run.{Turn}
use Rattle.kr_world.specs.Lawful.{seen_of, entries_of}
use Rattle.kr_world.specs.Facts.{AreAnswers, IsToldPart, IsTrueClient, open_calls}
use Rattle.kr_world.proofs.packets.EntryLemmas.{entries_of-front}
use Rattle.kr_world.proofs.packets.PastLemmas.{IsApart, begun_same}
use Rattle.kr_world.proofs.packets.PacketLemmas.{begun_later}
use Rattle.kr_world.proofs.queries.QueryLemmas.{Moves, ends, goes_further, queries_move, asked_is_open}
use Rattle.kr_world.proofs.queries.RememberLemmas.{items_seen}
use Rattle.kr_world.proofs.queries.SureLemmas.{parts_told, all_remembered, left_of_first}
use Rattle.kr_world.proofs.facts.KeepLemmas.{IsNewReply, IsNewPart, GoesOn}
use Rattle.kr_world.proofs.clients.ClientLemmas.{IsPresent, its_facts, own_id}
use Rattle.kr_world.proofs.clients.HeardLemmas.{says_again, heard_goes_on}

-- answers to what a client has open, of which each can be given
pub record AnswersOpen (history : List Entry) (client : Client) (pairs : List (EventId × EventId)) (told : Told) : Type 0 where
  pub asking : client.asking ≡ Some pairs
  pub may : may_answer_all client.part pairs told.answers ≡ true
  pub within : told.entry ≤ length history
  pub tail : Bool
  pub answers : told.answers ≡ told_by tail (answers_after (take told.entry history) pairs)
  pub current : tail ≡ true → client.seen ≤ told.entry

-- the query is closed, or its second part is open
answered_moves : (client : Client) (pairs : List (EventId × EventId)) (by : Teller) (told : Told) → client.asking ≡ Some pairs
    → may_answer_all client.part pairs told.answers ≡ true → Moves client (answered client pairs by told).after
answered_moves client pairs by told asking may =
    elim (left_of_first client.part pairs told.answers may) [
      | inl none ↦ ends refl (ap remaining none)
      | inr first ↦ goes_further pairs refl asking (omega arith)
    ]

-- a client with the answers to its open query
answered_true : (past : List Turn) (turn : Turn) (history : List Entry) (i : ℕ) (client : Client)
    (pairs : List (EventId × EventId)) (by : Teller) (told : Told) → AnswersOpen history client pairs told
    → IsApart turn client.id → client_at turn.outcome.after client.id ≡ Some (answered client pairs by told).after
    → IsTrueClient past history i client
    → IsTrueClient (past ++ turn ∷ []) history i (answered client pairs by told).after
answered_true past turn history i client pairs by told answers apart at known =
    let after = (answered client pairs by told).after in
    let id = known.id in
    let seen = max client.seen told.entry in
    let idle = known.queries.alone pairs answers.asking in
    let within_before = known.within in
    let within = answers.within in
    let all : length (entries_of client.id history) ≡ client.seq = known.idle idle in
    let few = entries_of-front client.id history seen (length history) (omega arith) in
    let whole = ap (λ h. length (entries_of client.id h)) (take_all (length history) history (omega arith)) in
    record {
      id = known.id;
      seq = known.seq ∙ sym (ap length (begun_same client.id past turn apart));
      command = λ command is. begun_later past (turn ∷ []) client.id client.seq command (known.command command is);
      idle = known.idle;
      within = omega arith;
      old = subst (λ call. length (entries_of client.id (take seen history)) + open_calls call ≤ client.seq) (sym idle) (omega arith);
      queries = queries_move past turn client after refl (omega arith) (answered_moves client pairs by told answers.asking answers.may) at (λ left asking. idle) known.queries;
      cache = all_remembered answers.tail history seen told.entry client.cache pairs told.answers answers.answers (omega arith) (items_seen history client.seen seen client.cache (omega arith) known.cache);
    }

-- answers to what it asked as the part that is open are to what it has open
pub answers_open : (past : List Turn) (world : World) (id : ClientId) (client : Client) (pairs : List (EventId × EventId))
    (told : Told) → IsPresent past world id client → client.asking ≡ Some pairs
    → may_answer_all client.part pairs told.answers ≡ true
    → AreAnswers past world.history id client.q client.part told → AnswersOpen world.history client pairs told
answers_open past world id client pairs told here asking may said =
    let same_id = own_id past world id client here said.asked.caller_low in
    let known = its_facts past world id client here in
    let its : AreAnswers past world.history client.id client.q client.part told = subst (λ c. AreAnswers past world.history c client.q client.part told) (sym same_id) said in
    let same = asked_is_open past client its.pairs pairs its.seen known.queries asking its.asked in
    record {
      asking = asking;
      may = may;
      within = its.within;
      tail = its.tail;
      answers = its.answers ∙ ap (λ ps. told_by its.tail (answers_after (take told.entry world.history) ps)) same.0;
      current = λ tail. let le = its.current tail in omega (arith, same.1);
    }

pub answered_goes_on : (past : List Turn) (world : World) (id : ClientId) (client : Client)
    (pairs : List (EventId × EventId)) (by : Teller) (told : Told) → IsPresent past world id client
    → AnswersOpen world.history client pairs told
    → GoesOn past world (client_hears world id (answered client pairs by told))
answered_goes_on past world id client pairs by told here answers =
    let history = world.history in
    let known = its_facts past world id client here in
    let now = seen_of (client_at world id) in
    let current = λ (tail : answers.tail ≡ true). subst (λ found. seen_of found ≤ told.entry) (sym here.at) (answers.current tail) in
    let parts : All (IsToldPart history now) (parts_of client.q told.entry by pairs told.answers) = parts_told answers.tail history now client.q told.entry by pairs told.answers answers.answers answers.within current in
    let for : ToldPart → Part = λ part. record { client = id; part = part } in
    heard_goes_on past world id client (answered client pairs by told) here (record {
      same = refl;
      known = λ turn apart at. answered_true past turn history (id.0 - 1) client pairs by told answers apart at known;
      says = says_again (last client);
      told = All-nil (IsNewReply world history);
      parts = All-map (IsNewPart world history) for (parts_of client.q told.entry by pairs told.answers) parts;
    })
