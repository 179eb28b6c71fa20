-- How births, references, the order and last entries grow with a history.
use Rattle.std.proofs.Common.{◌≡◌, ℕ, ◌+◌, ◌-◌, ◌^◌, ◌<◌, ◌≤◌, Bool, true, false, cond, eqb, ltb, ◌&&◌, List, [], ◌∷◌, ◌++◌, length, refl, ap, sym, subst, ◌∙◌, arith}
use Rattle.std.specs.Prelude.{nat_eq, fold, Option, None, Some}
use Rattle.std.specs.Option.{option_map}
use Rattle.std.specs.declared.hash.FoldHasher.{FoldHasher}
use Rattle.std.specs.declared.hash.BuildHasherDefault.{BuildHasherDefault}
use Rattle.std.specs.HashMap.{get, HashMap, Updates}
use Rattle.std.proofs.lemmas.List.{append-nil}
use Rattle.std.proofs.lemmas.List.Sums.{sum_by-cons}
use Rattle.kr_order.specs.declared.ids.ClientId.{ClientId}
use Rattle.kr_order.specs.declared.ids.EventId.{EventId}
use Rattle.kr_order.specs.declared.batch.Pair.{Pair}
use Rattle.kr_order.specs.declared.history.Entry.{Entry}
use Rattle.kr_order.specs.declared.history.Command.{Command}
use Rattle.kr_order.specs.declared.history.Command.TheVariants.{Create, Assign, Acquire, Release}
use Rattle.kr_order.specs.History.{births_of, born_in}
use Rattle.kr_order.specs.Done.{done_after, done_of, last_of}
use Rattle.kr_order.specs.declared.history.Reply.{Reply}
use Rattle.kr_order.specs.declared.history.Reply.TheVariants.{Created}
use Rattle.kr_order.specs.References.{count_in}
use Rattle.kr_order.specs.Agreed.{Agreed, nothing_agreed, count_after, pairs_after, after, agreed_of}
use Rattle.kr_order.specs.Pairs.{pairs_of}
use Rattle.kr_order.specs.Reply.{count_reply, reply_to}
use Rattle.kr_order.proofs.HistoryLemmas.{born-agreed, done_of-push, last_of-push}
use Rattle.ref_collect.specs.Counts.{count_of}
use Rattle.batch_assign.specs.declared.adds.Plan.{Plan}
use Rattle.order_state.specs.declared.kept.Kept.{Kept}
use Rattle.order_state.specs.declared.kept.Prepared.{Prepared}
use Rattle.order_state.specs.declared.kept.Decision.{Decision}
use Rattle.order_state.specs.Standing.{Standing}
use Rattle.order_state.specs.Ordered.{Ordered, agreed_in, Becomes, CanCountOn, IsOrderOf}
use Rattle.order_state.specs.Decision.{adds_of, reply_from, IsDecision}
use Rattle.order_state.specs.Kept.{kept_of, IsReady, IsKeptOf}
use Rattle.order_state.proofs.TellLemmas.{batch_reply-held, adds-whole, IsOrderOf-push}

-- a command makes at most one event
pub births_of-le : (command : Command) → births_of command ≤ 1
births_of-le Create = omega arith
births_of-le (Assign batch) = omega arith
births_of-le (Acquire event) = omega arith
births_of-le (Release event) = omega arith

-- a history makes at most one event an entry
pub born_in-le : (history : List Entry) → born_in history ≤ length history
born_in-le [] = omega arith
born_in-le (entry ∷ more) =
    omega (arith, sum_by-cons (λ e. births_of e.command) entry more, births_of-le entry.command, born_in-le more)

-- a command gives an event at most one reference more
count_after-le : (command : Command) (born event count : ℕ) → count_after command born event count ≤ count + 1
count_after-le Create born event count = elim (eqb event (born + 1)) as (λ b. cond b 1 count ≤ count + 1) [ true ↦ omega arith | false ↦ omega arith ]
count_after-le (Assign batch) born event count = omega arith
count_after-le (Acquire target) born event count = elim (eqb event target.0 && ltb 0 count) as (λ b. cond b (count + 1) count ≤ count + 1) [ true ↦ omega arith | false ↦ omega arith ]
count_after-le (Release target) born event count = elim (eqb event target.0) as (λ b. cond b (count - 1) count ≤ count + 1) [ true ↦ omega arith | false ↦ omega arith ]

-- an event has at most one reference for each entry
count_in-le : (history : List Entry) (event : ℕ) → count_in history event ≤ length history
count_in-le history event = omega (arith, from nothing_agreed history)
  where
    from : (agreed : Agreed) (history : List Entry) →
        (fold after agreed history).count event ≤ agreed.count event + length history
    from agreed [] = omega arith
    from agreed (entry ∷ more) = omega (arith, from (after agreed entry) more, count_after-le entry.command agreed.born event (agreed.count event))

-- so it can be counted on
pub CanCountOn-history : (history : List Entry) (order : Ordered) → IsOrderOf history order → length history < 2 ^ 58 →
    CanCountOn order
CanCountOn-history history order stands few event = omega (arith, stands.count event, count_in-le history event, few)

-- what is kept of one of two
option_map-cond : {A B : Type 0} (f : A → B) (test : Bool) (x : A) (other : Option A) →
    option_map f (cond test (Some x) other) ≡ cond test (Some (f x)) (option_map f other)
option_map-cond f true x other = refl
option_map-cond f false x other = refl

-- what a state keeps of one more entry
pub IsKeptOf-push :
    (history : List Entry) (order order' : Ordered) (old new : HashMap ℕ Kept (BuildHasherDefault FoldHasher)) (entry : Entry) (kept : Kept) →
    IsKeptOf history order old → kept ≡ kept_of (done_after history entry) → Becomes entry.command order order' →
    Updates nat_eq old new entry.client.0 (Some kept) → IsKeptOf (history ++ entry ∷ []) order' new
IsKeptOf-push history order order' old new entry kept was is becomes updates =
    let done = done_after history entry in
    record {
      order = IsOrderOf-push history entry order order' was.order becomes;
      found = λ client.
          let id : ClientId = record { 0 = client } in
          let changed : get nat_eq new client ≡ cond (eqb entry.client.0 client) (Some kept) (get nat_eq old client) = updates.0 client in
          let same = ap (λ ds. option_map kept_of (last_of id ds)) (done_of-push history entry) in
          let last = ap (option_map kept_of) (last_of-push id (done_of history) done) in
          let parts = option_map-cond kept_of (eqb entry.client.0 client) done (last_of id (done_of history)) in
          let before = was.found client in
          cc;
    }

-- the reply of a command after a history, by what the history comes to
pub reply_from-agreed : (history : List Entry) (command : Command) →
    reply_from (agreed_of history) command ≡ reply_to history command
reply_from-agreed history Create = ap (λ born. Created (record { 0 = born + 1 })) (born-agreed history)
reply_from-agreed history (Assign batch) = refl
reply_from-agreed history (Acquire event) = refl
reply_from-agreed history (Release event) = refl

-- what a create is to do
pub IsDecision-create : (history : List Entry) (command : Command) (next : ℕ) → command ≡ Create →
    next ≡ born_in history + 1 →
    IsDecision (agreed_of history) command (record { reply = Created (record { 0 = next }); plan = None })
IsDecision-create history command next create is =
    record {
      reply = ap (λ n. Created (record { 0 = n })) (is ∙ sym (ap (λ n. n + 1) (born-agreed history))) ∙
          ap (reply_from (agreed_of history)) (sym create);
      adds = ap (λ (c : Command). pairs_after c (agreed_of history)) create ∙ sym (append-nil (pairs_of history));
    }

-- what a batch is to do, by the order that is held
pub IsDecision-batch :
    (history : List Entry) (order : Ordered) (command : Command) (batch : List Pair) (decision : Decision) →
    IsOrderOf history order → command ≡ Assign batch → IsDecision (agreed_in order) (Assign batch) decision →
    IsDecision (agreed_of history) command decision
IsDecision-batch history order command batch decision stands is decided =
    subst (λ c. IsDecision (agreed_of history) c decision) (sym is) (record {
      reply = decided.reply ∙ batch_reply-held history order batch stands;
      adds = adds-whole history order batch (adds_of decision.plan) stands decided.adds;
    })

-- what is prepared of a decision is ready
pub IsReady-decided :
    (standing : Standing) (before : List Entry) (entry : Entry) (decision : Decision) (place : ℕ) (reply : Reply) →
    standing.history ≡ before → IsDecision (agreed_of before) entry.command decision →
    place ≡ length standing.history + 1 → reply ≡ decision.reply → 1 ≤ standing.room →
    births_of entry.command ≤ standing.event_room → length (adds_of decision.plan) ≤ standing.pair_room →
    IsReady standing (record { entry = entry; kept = record { seq = entry.seq; place = place; reply = reply }; reply = decision.reply; plan = decision.plan })
IsReady-decided standing before entry decision place reply same is is_place is_reply room event_room pair_room =
    let decided : IsDecision (agreed_of standing.history) entry.command decision = subst (λ h. IsDecision (agreed_of h) entry.command decision) (sym same) is in
    let replies : decision.reply ≡ reply_to standing.history entry.command = decided.reply ∙
    reply_from-agreed standing.history entry.command in
    record {
      reply = replies;
      kept =
          let copied : reply ≡ reply_to standing.history entry.command = is_reply ∙ replies in
          ap (λ n. record { seq = entry.seq; place = n; reply = reply }) is_place ∙
          ap (λ r. record { seq = entry.seq; place = length standing.history + 1; reply = r }) copied;
      adds = decided.adds;
      room = room;
      event_room = event_room;
      pair_room = pair_room;
    }
