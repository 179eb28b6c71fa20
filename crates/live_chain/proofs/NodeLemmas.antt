-- The ring to the next node, where there is one; and a node that applies one entry more.
use Rattle.std.proofs.Common.{◌≡◌, ℕ, ◌+◌, ◌-◌, ◌<◌, ◌≤◌, Option, None, Some, List, [], ◌∷◌, ◌++◌, length, refl, sym, ap, ◌∙◌, subst, arith}
use Rattle.std.proofs.lemmas.List.{length_push}
use Rattle.kr_order.specs.declared.history.Entry.{Entry}
use Rattle.kr_order.specs.declared.history.DoneEntry.{DoneEntry}
use Rattle.kr_order.specs.declared.history.Reply.{Reply}
use Rattle.kr_order.specs.Done.{done_of, done_after}
use Rattle.kr_order.specs.Reply.{reply_to}
use Rattle.kr_order.proofs.HistoryLemmas.{done_of-push}
use Rattle.live_chain.specs.declared.node.Node.{Node}
use Rattle.live_chain.specs.declared.ring.Counted.TheVariants.{Applied}
use Rattle.live_chain.specs.Nodes.{HasPopped, IsAt}
use Rattle.live_chain.proofs.RingLemmas.{passed-push, counts_to-more}
use Rattle.live_chain.specs.declared.ring.Passed.{Passed}
use Rattle.live_chain.specs.declared.ring.Passed.TheVariants.{Next, End}
use Rattle.rtrb.specs.Ring.{sent, received, known_free, SameProducer, SameConsumer, IsPair}
use Rattle.live_chain.specs.Rings.{Into, From, passed, counts_to, HasPlace, HasPlaces, WasSent, IsCopyFor, PassesOn, SameNext, LeadsTo}

-- one place fewer
places_less : (a b : Option Into) (item : Option Passed) (n k : ℕ) → PassesOn a item b → HasPlaces n a → k + 1 ≤ n → HasPlaces k b
places_less None None item n k on has less = tt
places_less None (Some q) item n k on has less = absurd on
places_less (Some p) None None n k on has less = absurd on
places_less (Some p) None (Some item) n k on has less = absurd on
places_less (Some p) (Some q) None n k on has less = subst (λ (r : Into). k ≤ known_free r) (sym on) (omega (arith, has, less))
places_less (Some p) (Some q) (Some item) n k on has less = omega (arith, has, less, on.2)

-- one entry more was pushed
sent_more : (a b : Option Into) (entry : Entry) (copy : Option Passed) (items : List Passed) → IsCopyFor a entry copy → PassesOn a copy b
    → WasSent items a → WasSent (items ++ Next entry ∷ []) b
sent_more None None entry copy items is on was = tt
sent_more None (Some q) entry copy items is on was = absurd on
sent_more (Some p) None entry None items is on was = absurd on
sent_more (Some p) None entry (Some item) items is on was = absurd on
sent_more (Some p) (Some q) entry None items is on was = absurd (cc)
sent_more (Some p) (Some q) entry (Some item) items is on was =
    let same : item ≡ Next entry = cc in
    on.1 ∙ ap (λ l. l ++ item ∷ []) was ∙ ap (λ i. items ++ i ∷ []) same

-- a node that has applied, noted, passed on and counted the entry that it was passed
pub node_takes : (old new : Node) (entry : Entry) (copy : Option Passed) (place : ℕ) (reply : Reply) (reserved : List DoneEntry) → HasPopped old entry
    → length old.writer.list < old.most → new.most ≡ old.most → new.from ≡ old.from → new.writer.list ≡ old.writer.list ++ entry ∷ []
    → reserved ≡ old.journal.items → new.journal.items ≡ reserved ++ record { place = place; entry = entry; reply = reply } ∷ []
    → place ≡ length old.writer.list + 1 → reply ≡ reply_to old.writer.list entry.command → IsCopyFor old.next entry copy
    → PassesOn old.next copy new.next → sent new.counts ≡ sent old.counts ++ Applied place ∷ [] → known_free old.counts ≡ known_free new.counts + 1
    → IsAt new
node_takes old new entry copy place reply reserved popped few most from list room noted place_is reply_is is_copy passes counted free =
    let before : List Entry = old.writer.list in
    let len : length new.writer.list ≡ length before + 1 = ap length list ∙ length_push before entry in
    let made : ℕ → Reply → DoneEntry = λ p r. record { place = p; entry = entry; reply = r } in
    let done : made place reply ≡ done_after before entry = ap (λ p. made p reply) place_is ∙ ap (λ r. made (length before + 1) r) reply_is in
    let items : passed before ++ Next entry ∷ [] ≡ passed new.writer.list = sym (passed-push before entry) ∙ ap passed (sym list) in
    record {
      room = record {
        few = omega (arith, len, few, most);
        next = places_less old.next new.next copy (old.most + 1 - length before) (new.most + 1 - length new.writer.list) passes popped.room.next (omega (arith, len, few, most));
        counts = omega (arith, popped.room.counts, free, len, few, most);
      };
      does = record {
        journal = noted ∙ ap (λ js. js ++ made place reply ∷ []) (room ∙ popped.does.journal) ∙ ap (λ d. done_of before ++ d ∷ []) done
            ∙ sym (done_of-push before entry) ∙ ap done_of (sym list);
        next = subst (λ all. WasSent all new.next) items (sent_more old.next new.next entry copy (passed before) is_copy passes popped.does.next);
        counts = counted ∙ ap (λ l. l ++ Applied place ∷ []) popped.does.counts ∙ ap (λ k. counts_to (length before) ++ Applied k ∷ []) place_is
            ∙ sym (counts_to-more (length before)) ∙ ap counts_to (sym len);
      };
      got = ap received from ∙ popped.got ∙ items;
    }
