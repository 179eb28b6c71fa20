-- What a client hears, and has seen by that.
use Rattle.std.proofs.Common.{◌≡◌, ℕ, ◌+◌, ◌≤◌, Bool, true, false, cond, not, ◌&&◌, eqb, List, [], ◌∷◌, ◌++◌, length, map, refl, sym, ap, ◌∙◌, subst, arith}
use Rattle.std.specs.Prelude.{max, Option, None, Some, All, AllPairs, find}
use Rattle.std.proofs.lemmas.Bool.{false≢true, and_parts}
use Rattle.std.proofs.lemmas.List.Elements.{All-nil, All-cons, All-head, All-tail, All-map, All-weaker, All-filter}
use Rattle.std.proofs.lemmas.List.Kept.{AllPairs-cons}
use Rattle.std.proofs.lemmas.Option.{none-some, same_Some}
use Rattle.kr_order.specs.declared.ids.ClientId.{ClientId}
use Rattle.kr_order.specs.declared.ids.ServerId.{ServerId}
use Rattle.kr_order.specs.declared.ids.EventId.{EventId}
use Rattle.kr_order.specs.declared.answer.Answer.{Answer}
use Rattle.kr_order.specs.declared.answer.Answer.TheVariants.{Before, After, Same, Concurrent, Unknown, Unsure}
use Rattle.kr_order.specs.declared.answer.Teller.{Teller}
use Rattle.kr_order.specs.declared.answer.Teller.TheVariants as teller
use Rattle.kr_order.specs.declared.answer.Told.{Told}
use Rattle.kr_order.specs.declared.answer.ToldPart.{ToldPart}
use Rattle.kr_order.specs.declared.history.Command.{Command}
use Rattle.kr_order.specs.declared.history.Entry.{Entry}
use Rattle.kr_order.specs.declared.history.Placed.{Placed}
use Rattle.kr_order.specs.declared.message.Node as nodes
use Rattle.kr_order.specs.declared.message.Node.TheVariants.{Manager, Client as AtClient, Server as AtServer}
use Rattle.kr_protocol.specs.Cache.{CacheItem, is_of, finds, others, looks_at}
use Rattle.kr_protocol.specs.Client.{Client, Hearing, unheard, closes, after_reply, is_unsure, may_answer, may_answer_all, parts_of, looked_first, looks_all, asks, answered, after_answers, answers_from}
use Rattle.kr_world.specs.Step.{Part, told_to, parts_to}
use Rattle.kr_world.specs.Lawful.{IsCurrent, AreInOrder}
use Rattle.kr_world.specs.Facts.{IsToldPart, IsTrueItem}
use Rattle.kr_world.specs.Seen.{Telling, a_reply, a_part, named, greatest, are_unsure, unsure_answers, unsure_from}
use Rattle.kr_world.proofs.steps.ListFacts.{all_of}
use Rattle.kr_world.proofs.queries.RememberLemmas.{looks_true}
use Rattle.kr_world.proofs.seen.TellingLemmas.{greatest-append, greatest_within, AllPairs-nil, each_to_each}

-- what a hearing tells the client of this number
abbrev pub tellings_to : ClientId → Hearing → List Telling
tellings_to id hearing = map a_reply (told_to id hearing.told) ++ map a_part (parts_to id hearing.parts)

-- what the client has seen then is the greatest of what it had seen, of what it is told of, and of these entries of which
-- it is told nothing; and what it is told is in order
pub record IsHeardRight (id : ClientId) (client : Client) (hearing : Hearing) (unsure : List ℕ) : Type 0 where
  pub seen : hearing.after.seen ≡ max client.seen (greatest (map named (tellings_to id hearing) ++ unsure))
  pub order : AllPairs AreInOrder (tellings_to id hearing)

pub unheard_right : (id : ClientId) (client : Client) → IsHeardRight id client (unheard client) []
unheard_right id client = record { seen = omega arith; order = AllPairs-nil AreInOrder }

-- what the parts name are their entries
entries_named : (id : ClientId) (parts : List ToldPart) → map named (map a_part (parts_to id parts)) ≡ map (λ (p : ToldPart). p.entry) parts
entries_named id [] = refl
entries_named id (part ∷ parts) = ap (λ ns. part.entry ∷ ns) (entries_named id parts)

-- what holds of each part told holds of each telling
each_part : (P : Telling → Type 0) (id : ClientId) (parts : List ToldPart) → All (λ p. P (a_part (record { client = id; part = p }))) parts
    → All P (map a_part (parts_to id parts))
each_part P id parts all =
    let for : ToldPart → Part = λ part. record { client = id; part = part } in
    All-map P a_part (parts_to id parts) (All-map (λ part. P (a_part part)) for parts all)

-- a sure answer of an entry is current for who has seen no more
part_sure : (n : ℕ) (part : ToldPart) (answer : Answer) → is_unsure answer ≡ false → n ≤ part.entry → IsCurrent n part answer
part_sure n part Before sure le = tt
part_sure n part After sure le = tt
part_sure n part Same sure le = tt
part_sure n part Concurrent sure le = le
part_sure n part Unknown sure le = le
part_sure n part Unsure sure le = absurd (false≢true (sym sure))

-- a part of this entry
record IsOfEntry (n : ℕ) (part : ToldPart) : Type 0 where
  entry : part.entry ≡ n
  current : IsCurrent n part part.answer

parts_of_entry : (q n : ℕ) (by : Teller) (pairs : List (EventId × EventId)) (answers : List Answer) → All (IsOfEntry n) (parts_of q n by pairs answers)
parts_of_entry q n by [] answers = All-nil (IsOfEntry n)
parts_of_entry q n by (pair ∷ pairs) [] = All-nil (IsOfEntry n)
parts_of_entry q n by (pair ∷ pairs) (answer ∷ answers) = by_test (is_unsure answer) refl (parts_of_entry q n by pairs answers)
  where
    part : ToldPart
    part = record { q = q; a = pair.0; b = pair.1; answer = answer; entry = n; by = by }

    by_test : (unsure : Bool) → is_unsure answer ≡ unsure
        → (let rest = parts_of q n by pairs answers in All (IsOfEntry n) rest → All (IsOfEntry n) (cond unsure rest (part ∷ rest)))
    by_test true is rest = rest
    by_test false is rest =
        All-cons (IsOfEntry n) part _ (record { entry = refl; current = part_sure n part answer is (omega arith) }) rest

entries_within : (n : ℕ) (parts : List ToldPart) → All (IsOfEntry n) parts → greatest (map (λ (p : ToldPart). p.entry) parts) ≤ n
entries_within n parts all =
    let entry : ToldPart → ℕ = λ p. p.entry in
    greatest_within n (map entry parts) (All-map (λ m. m ≤ n) entry parts (All-weaker (IsOfEntry n) (λ p. entry p ≤ n) (λ p is. omega (arith, is.entry)) parts all))

-- the greatest entry of answers, also where they tell nothing, is theirs
answers_greatest : (part q n : ℕ) (by : Teller) (pairs : List (EventId × EventId)) (answers : List Answer) → may_answer_all part pairs answers ≡ true
    → greatest (map (λ (p : ToldPart). p.entry) (parts_of q n by pairs answers) ++ cond (are_unsure answers) (n ∷ []) []) ≡ n
answers_greatest part q n by [] [] may = omega arith
answers_greatest part q n by [] (answer ∷ answers) may = absurd (false≢true may)
answers_greatest part q n by (pair ∷ pairs) [] may = absurd (false≢true may)
answers_greatest part q n by (pair ∷ pairs) (answer ∷ answers) may =
    by_test (is_unsure answer) (answers_greatest part q n by pairs answers (and_parts (may_answer part (eqb pair.0.0 pair.1.0) answer) (may_answer_all part pairs answers) may).1)
  where
    first : ToldPart
    first = record { q = q; a = pair.0; b = pair.1; answer = answer; entry = n; by = by }

    by_test : (unsure : Bool) → greatest (map (λ (p : ToldPart). p.entry) (parts_of q n by pairs answers) ++ cond (are_unsure answers) (n ∷ []) []) ≡ n
        → (let rest = parts_of q n by pairs answers in
        greatest (map (λ (p : ToldPart). p.entry) (cond unsure rest (first ∷ rest)) ++ cond (unsure && are_unsure answers) (n ∷ []) []) ≡ n)
    by_test true rest = rest
    by_test false rest =
        let entries = map (λ (p : ToldPart). p.entry) (parts_of q n by pairs answers) in
        omega (arith, greatest-append entries [], entries_within n (parts_of q n by pairs answers) (parts_of_entry q n by pairs answers))

-- parts of one entry are in order
parts_in_order : (id : ClientId) (n : ℕ) (parts : List ToldPart) → All (IsOfEntry n) parts → AllPairs AreInOrder (map a_part (parts_to id parts))
parts_in_order id n parts all =
    let tellings = map a_part (parts_to id parts) in
    each_to_each AreInOrder tellings (each_part (λ x. All (AreInOrder x) tellings) id parts (All-weaker (IsOfEntry n) _ one parts all))
  where
    one : (x : ToldPart) → IsOfEntry n x → All (AreInOrder (a_part (record { client = id; part = x }))) (map a_part (parts_to id parts))
    one x is =
        let from = a_part (record { client = id; part = x }) in
        each_part (AreInOrder from) id parts (All-weaker (IsOfEntry n) (λ y. AreInOrder from (a_part (record { client = id; part = y }))) (λ y its same. subst (λ m. IsCurrent m y y.answer) (sym is.entry) its.current) parts all)

answered_right : (id : ClientId) (client : Client) (pairs : List (EventId × EventId)) (by : Teller) (part : ℕ) (told : Told)
    → may_answer_all part pairs told.answers ≡ true
    → IsHeardRight id client (answered client pairs by told) (cond (are_unsure told.answers) (told.entry ∷ []) [])
answered_right id client pairs by part told may =
    let parts = parts_of client.q told.entry by pairs told.answers in
    let unsure = cond (are_unsure told.answers) (told.entry ∷ []) [] in
    let most : greatest (map named (map a_part (parts_to id parts)) ++ unsure) ≡ told.entry =
    ap (λ ns. greatest (ns ++ unsure)) (entries_named id parts) ∙ answers_greatest part client.q told.entry by pairs told.answers may in
    record {
      seen = ap (λ n. max client.seen n) (sym most);
      order = parts_in_order id told.entry parts (parts_of_entry client.q told.entry by pairs told.answers);
    }

answers_right : (id : ClientId) (client : Client) (asking : Option (List (EventId × EventId))) (by : Teller) (q part : ℕ) (told : Told)
    → IsHeardRight id client (after_answers client asking by q part told) (unsure_answers client asking q part told)
answers_right id client None by q part told = unheard_right id client
answers_right id client (Some pairs) by q part told = by_test (eqb q client.q && (eqb part client.part && may_answer_all part pairs told.answers)) refl
  where
    by_test : (test : Bool) → (eqb q client.q && (eqb part client.part && may_answer_all part pairs told.answers)) ≡ test
        → IsHeardRight id client (cond test (answered client pairs by told) (unheard client)) (cond test (cond (are_unsure told.answers) (told.entry ∷ []) []) [])
    by_test true is =
        let both = and_parts (eqb q client.q) (eqb part client.part && may_answer_all part pairs told.answers) is in
        answered_right id client pairs by part told (and_parts (eqb part client.part) (may_answer_all part pairs told.answers) both.1).1
    by_test false is = unheard_right id client

pub from_right : (id : ClientId) (client : Client) (from : nodes.Node) (q part : ℕ) (told : Told)
    → IsHeardRight id client (answers_from client from q part told) (unsure_from client from q part told)
from_right id client Manager q part told = unheard_right id client
from_right id client (AtClient other) q part told = unheard_right id client
from_right id client (AtServer server) q part told = answers_right id client client.asking (teller.Server server) q part told

pub reply_right : (id : ClientId) (client : Client) (call : Option Command) (seq : ℕ) (placed : Placed)
    → IsHeardRight id client (after_reply client call seq placed) []
reply_right id client None seq placed = unheard_right id client
reply_right id client (Some command) seq placed = by_test (eqb seq client.seq)
  where
    by_test : (test : Bool) → IsHeardRight id client (cond test (closes client placed) (unheard client)) []
    by_test true =
        let told = a_reply (record { client = id; reply = record { seq = client.seq; placed = placed } }) in
        record { seen = omega arith; order = AllPairs-cons AreInOrder told [] (All-nil (AreInOrder told)) (AllPairs-nil AreInOrder) }
    by_test false = unheard_right id client

-- what is found in a list
found_in : {X : Type 0} (p : X → Bool) (P : X → Type 0) (xs : List X) (x : X) → All P xs → find p xs ≡ Some x → P x
found_in p P [] x all is = absurd (none-some x is)
found_in p P (y ∷ ys) x all is = by_test (p y) is (λ rest. found_in p P ys x (All-tail P y ys all) rest)
  where
    by_test : (test : Bool) → cond test (Some y) (find p ys) ≡ Some x → (find p ys ≡ Some x → P x) → P x
    by_test true is rest = subst P (same_Some y x is) (All-head P y ys all)
    by_test false is rest = rest is

-- what a client remembers is of an entry that it has seen
looks_seen : (seen q : ℕ) (cache : List CacheItem) (pairs : List (EventId × EventId)) → All (λ (item : CacheItem). item.entry ≤ seen) cache
    → All (λ (part : ToldPart). part.entry ≤ seen) (looks_all q cache pairs).parts
looks_seen seen q cache [] known = All-nil (λ (part : ToldPart). part.entry ≤ seen)
looks_seen seen q cache (pair ∷ pairs) known =
    by_found (finds cache pair.0.0 pair.1.0) refl (λ later all. looks_seen seen q later pairs all)
  where
    by_found : (item : Option CacheItem) → finds cache pair.0.0 pair.1.0 ≡ item
        → ((later : List CacheItem) → All (λ (i : CacheItem). i.entry ≤ seen) later → All (λ (part : ToldPart). part.entry ≤ seen) (looks_all q later pairs).parts)
        → (let look = looks_at cache pair.0.0 pair.1.0 item in All (λ (part : ToldPart). part.entry ≤ seen) (looked_first q pair look.told (looks_all q look.after pairs)).parts)
    by_found None is rest = rest cache known
    by_found (Some item) is rest =
        let its = found_in (is_of pair.0.0 pair.1.0) (λ (i : CacheItem). i.entry ≤ seen) cache item known is in
        let left = others cache pair.0.0 pair.1.0 in
        let all = All-cons (λ (i : CacheItem). i.entry ≤ seen) item left its (All-filter (λ i. not (is_of pair.0.0 pair.1.0 i)) (λ (i : CacheItem). i.entry ≤ seen) cache known) in
        All-cons (λ (part : ToldPart). part.entry ≤ seen) _ _ its (rest (item ∷ left) all)

-- what it remembers is in order, whatever it was told before
pub asks_right : (history : List Entry) (id : ClientId) (client : Client) (server : ServerId) (pairs : List (EventId × EventId))
    → client.seen ≤ length history → All (IsTrueItem history client.seen) client.cache
    → IsHeardRight id client (asks client server pairs) []
asks_right history id client server pairs within known =
    let looked = looks_all (client.q + 1) client.cache pairs in
    let Old : CacheItem → Type 0 = λ item. item.entry ≤ client.seen in
    let old = looks_seen client.seen (client.q + 1) client.cache pairs (All-weaker (IsTrueItem history client.seen) Old (λ item is. is.within) client.cache known) in
    let entry : ToldPart → ℕ = λ p. p.entry in
    let few = greatest_within client.seen (map entry looked.parts) (All-map (λ n. n ≤ client.seen) entry looked.parts old) in
    let same = ap greatest (entries_named id looked.parts) in
    let tellings = map a_part (parts_to id looked.parts) in
    record {
      seen = omega (arith, few, same, greatest-append (map named tellings) []);
      order = each_to_each AreInOrder tellings (all_of (λ x. All (AreInOrder x) tellings) (one looked.parts (λ now. (looks_true history now client.seen (client.q + 1) client.cache pairs within known).parts)) tellings);
    }
  where
    one : (parts : List ToldPart) → ((now : ℕ) → All (IsToldPart history now) parts) → (x : Telling) → All (AreInOrder x) (map a_part (parts_to id parts))
    one parts all x =
        each_part (AreInOrder x) id parts (All-weaker (IsToldPart history (named x)) (λ y. AreInOrder x (a_part (record { client = id; part = y }))) (λ y is same. is.current) parts (all (named x)))
