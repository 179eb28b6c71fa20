-- An order that holds what is held of a history tells what the history tells, and does so after one more command.
use Rattle.std.proofs.Common.{◌≡◌, ◌≢◌, ℕ, ◌+◌, ◌<◌, Bool, true, false, cond, eqb, ltb, not, ◌&&◌, List, [], ◌∷◌, ◌++◌, refl, sym, ap, ◌∙◌, subst, arith}
use Rattle.std.specs.Prelude.{Option, None, Some, is_none}
use Rattle.std.specs.List.{AllByRecursion, filter}
use Rattle.std.proofs.lemmas.Bool.{and_parts, eqb-false, ltb-true, not-false}
use Rattle.std.proofs.lemmas.Iterator.Adapters.{position_from-zero}
use Rattle.std.proofs.lemmas.List.{append-nil, append_cancel_left}
use Rattle.kr_order.specs.declared.ids.EventId.{EventId}
use Rattle.kr_order.specs.declared.batch.Pair.{Pair}
use Rattle.kr_order.specs.declared.history.Command.{Command}
use Rattle.kr_order.specs.declared.history.Command.TheVariants.{Create, Assign, Acquire, Release}
use Rattle.kr_order.specs.declared.history.Entry.{Entry}
use Rattle.kr_order.specs.declared.history.Reply.{Reply}
use Rattle.kr_order.specs.declared.answer.Answer.TheVariants.{Before, After, Same, Concurrent, Unknown}
use Rattle.kr_order.specs.History.{births_of, born_in}
use Rattle.kr_order.specs.Order.{reach}
use Rattle.kr_order.specs.Batch.{contradicts, pairs_with, outcomes_of}
use Rattle.kr_order.specs.References.{count_in, IsLive}
use Rattle.kr_order.specs.Agreed.{Agreed, is_live, both_live, first_unknown, accepts, count_after, pairs_after, agreed_of}
use Rattle.kr_order.specs.Pairs.{pairs_of}
use Rattle.kr_order.specs.Held.{held_events, held_pairs}
use Rattle.kr_order.specs.Reply.{checked_reply, known_reply, batch_reply}
use Rattle.kr_order.specs.Answer.{answer_over, answer_from, answer_to}
use Rattle.kr_order.proofs.HistoryLemmas.{count_in-push}
use Rattle.kr_order.proofs.PairsLemmas.{none_by_test, pairs_of-push}
use Rattle.kr_order.proofs.BornLemmas.{no_position}
use Rattle.kr_order.proofs.HeldLemmas.{is_held-live, reach-held_pairs}
use Rattle.batch_assign.proofs.KnownLemmas.{first_unknown-same}
use Rattle.ref_collect.specs.Counts.{count_of}
use Rattle.ref_collect.specs.Needed.{is_needed, needed_events, needed_pairs}
use Rattle.order_state.specs.Ordered.{Ordered, agreed_in, Becomes, IsOrderOf}
use Rattle.order_state.proofs.TwinLemmas.{Agree, IsOver, IsPairOver, contradicts-same, outcomes_of-same, GrowAlike-pairs_with}
use Rattle.order_state.proofs.HeldLemmas.{StayLive, StayLive-by, Leaves, IsRelease, born_in-push, held_events-stay, held_pairs-stay, held_pairs-adds, held_events-create, held_events-release, held_pairs-release}

-- the events of a batch that names no unknown one are live
known-live : (agreed : Agreed) (batch : List Pair) → first_unknown agreed batch ≡ None →
    AllByRecursion (IsPairOver (is_live agreed)) batch
known-live agreed batch none = each batch (no_position unknown 0 batch (sym (position_from-zero unknown batch) ∙ none))
  where
    unknown : Pair → Bool
    unknown pair = not (both_live agreed pair.first.0 pair.second.0)

    one : (pair : Pair) → unknown pair ≡ false → IsPairOver (is_live agreed) pair
    one pair known =
        let both = and_parts (is_live agreed pair.first.0) (is_live agreed pair.second.0) (not-false (both_live agreed pair.first.0 pair.second.0) known) in
        record { first = both.0; second = both.1 }

    each : (pairs : List Pair) → AllByRecursion (λ pair. unknown pair ≡ false) pairs →
        AllByRecursion (IsPairOver (is_live agreed)) pairs
    each [] all = tt
    each (pair ∷ more) all = (one pair all.0, each more all.1)

-- the held pairs have all paths between live events
agree-held : (history : List Entry) (order : Ordered) → IsOrderOf history order →
    Agree (is_live (agreed_of history)) order.pairs (pairs_of history)
agree-held history order stands =
    record {
      paths = λ a b live _. ap (λ l. reach l a b) stands.pairs ∙
          reach-held_pairs history a b (is_held-live history a (ltb-true 0 (count_in history a) live));
    }

-- the order names the same first unknown event
unknown-same : (history : List Entry) (order : Ordered) (batch : List Pair) → IsOrderOf history order →
    first_unknown (agreed_in order) batch ≡ first_unknown (agreed_of history) batch
unknown-same history order batch stands = first_unknown-same (agreed_in order) (agreed_of history) batch stands.count

-- the order after a batch, and the held order after it: both are longer by the same pairs, which begin at live events
record GrowTogether (history : List Entry) (order : Ordered) (batch : List Pair) : Type 0 where
  adds : List (ℕ × ℕ)
  held : pairs_after (Assign batch) (agreed_in order) ≡ order.pairs ++ adds
  all : pairs_after (Assign batch) (agreed_of history) ≡ pairs_of history ++ adds
  live : AllByRecursion (λ pair. IsLive history pair.0) adds

firsts-live : (history : List Entry) (pairs : List (ℕ × ℕ)) →
    AllByRecursion (IsOver (is_live (agreed_of history))) pairs → AllByRecursion (λ pair. IsLive history pair.0) pairs
firsts-live history [] over = tt
firsts-live history (pair ∷ pairs) over = (ltb-true 0 (count_in history pair.0) over.0.first, firsts-live history pairs over.1)

grow_together : (history : List Entry) (order : Ordered) (batch : List Pair) → IsOrderOf history order →
    GrowTogether history order batch
grow_together history order batch stands =
    by_unknown (first_unknown (agreed_of history) batch) refl (unknown-same history order batch stands)
  where
    agreed : Agreed
    agreed = agreed_of history

    none : accepts (agreed_in order) batch ≡ false → accepts agreed batch ≡ false → GrowTogether history order batch
    none held all =
        record {
          adds = [];
          held = ap (λ b. cond b (pairs_with order.pairs batch) order.pairs) held ∙ sym (append-nil order.pairs);
          all = ap (λ b. cond b (pairs_with agreed.pairs batch) agreed.pairs) all ∙ sym (append-nil agreed.pairs);
          live = tt;
        }

    by_contradiction : (found : Option ℕ) → first_unknown (agreed_in order) batch ≡ None →
        first_unknown agreed batch ≡ None → contradicts order.pairs batch ≡ found →
        contradicts agreed.pairs batch ≡ found → GrowTogether history order batch
    by_contradiction (Some i) known known' held all =
        none (ap (λ u. is_none u && is_none (contradicts order.pairs batch)) known ∙ ap is_none held) (ap (λ u. is_none u && is_none (contradicts agreed.pairs batch)) known' ∙ ap is_none all)
    by_contradiction None known known' held all =
        let grown = GrowAlike-pairs_with (is_live agreed) order.pairs agreed.pairs batch (known-live agreed batch known') (agree-held history order stands) in
        let taken : accepts (agreed_in order) batch ≡ true = ap (λ u. is_none u && is_none (contradicts order.pairs batch)) known ∙
        ap is_none held in
        let taken' : accepts agreed batch ≡ true = ap (λ u. is_none u && is_none (contradicts agreed.pairs batch)) known' ∙
        ap is_none all in
        record {
          adds = grown.adds;
          held = ap (λ b. cond b (pairs_with order.pairs batch) order.pairs) taken ∙ grown.first;
          all = ap (λ b. cond b (pairs_with agreed.pairs batch) agreed.pairs) taken' ∙ grown.second;
          live = firsts-live history grown.adds grown.over;
        }

    by_unknown : (found : Option ℕ) → first_unknown agreed batch ≡ found →
        first_unknown (agreed_in order) batch ≡ first_unknown agreed batch → GrowTogether history order batch
    by_unknown (Some i) is same =
        none (ap (λ u. is_none u && is_none (contradicts order.pairs batch)) (same ∙ is)) (ap (λ u. is_none u && is_none (contradicts agreed.pairs batch)) is)
    by_unknown None is same =
        by_contradiction (contradicts agreed.pairs batch) (same ∙ is) is (contradicts-same (is_live agreed) order.pairs agreed.pairs batch (known-live agreed batch is) (agree-held history order stands)) refl

-- the reply to a batch over the held order is that over the whole
pub batch_reply-held : (history : List Entry) (order : Ordered) (batch : List Pair) → IsOrderOf history order →
    batch_reply (agreed_in order) batch ≡ batch_reply (agreed_of history) batch
batch_reply-held history order batch stands =
    ap (λ u. known_reply u (checked_reply (contradicts order.pairs batch) (outcomes_of order.pairs batch))) (unknown-same history order batch stands) ∙
    by_unknown (first_unknown (agreed_of history) batch) refl
  where
    agreed : Agreed
    agreed = agreed_of history

    by_unknown : (found : Option ℕ) → first_unknown agreed batch ≡ found →
        known_reply found (checked_reply (contradicts order.pairs batch) (outcomes_of order.pairs batch)) ≡ known_reply found (checked_reply (contradicts agreed.pairs batch) (outcomes_of agreed.pairs batch))
    by_unknown (Some i) is = refl
    by_unknown None is =
        let live = known-live agreed batch is in
        let agree = agree-held history order stands in
        ap (λ c. checked_reply c (outcomes_of order.pairs batch)) (contradicts-same (is_live agreed) order.pairs agreed.pairs batch live agree) ∙
        ap (checked_reply (contradicts agreed.pairs batch)) (outcomes_of-same (is_live agreed) order.pairs agreed.pairs batch live agree)

-- a command that adds some pairs to the whole order adds the same to the held one
pub adds-held : (history : List Entry) (order : Ordered) (command : Command) (adds : List (ℕ × ℕ)) →
    IsOrderOf history order → pairs_after command (agreed_of history) ≡ pairs_of history ++ adds →
    pairs_after command (agreed_in order) ≡ order.pairs ++ adds
adds-held history order (Assign batch) adds stands is =
    let grown = grow_together history order batch stands in
    grown.held ∙ ap (λ l. order.pairs ++ l) (append_cancel_left (pairs_of history) grown.adds adds (sym grown.all ∙ is))
adds-held history order Create adds stands is =
    sym (append-nil order.pairs) ∙
    ap (λ l. order.pairs ++ l) (append_cancel_left (pairs_of history) [] adds (append-nil (pairs_of history) ∙ is))
adds-held history order (Acquire event) adds stands is =
    sym (append-nil order.pairs) ∙
    ap (λ l. order.pairs ++ l) (append_cancel_left (pairs_of history) [] adds (append-nil (pairs_of history) ∙ is))
adds-held history order (Release event) adds stands is =
    sym (append-nil order.pairs) ∙
    ap (λ l. order.pairs ++ l) (append_cancel_left (pairs_of history) [] adds (append-nil (pairs_of history) ∙ is))

-- and a batch that adds some to the held one adds the same to the whole
pub adds-whole : (history : List Entry) (order : Ordered) (batch : List Pair) (adds : List (ℕ × ℕ)) →
    IsOrderOf history order → pairs_after (Assign batch) (agreed_in order) ≡ order.pairs ++ adds →
    pairs_after (Assign batch) (agreed_of history) ≡ pairs_of history ++ adds
adds-whole history order batch adds stands is =
    let grown = grow_together history order batch stands in
    grown.all ∙ ap (λ l. pairs_of history ++ l) (append_cancel_left order.pairs grown.adds adds (sym grown.held ∙ is))

-- the answer over the held order is that over the whole
pub answer-held : (history : List Entry) (order : Ordered) (a b : ℕ) → IsOrderOf history order →
    answer_from (agreed_in order) a b ≡ answer_to history a b
answer-held history order a b stands =
    ap (λ n. cond (ltb 0 n && is_live (agreed_in order) b) (answer_over order.pairs a b) Unknown) (stands.count a) ∙
    ap (λ n. cond (is_live (agreed_of history) a && ltb 0 n) (answer_over order.pairs a b) Unknown) (stands.count b) ∙
    by_test (both_live (agreed_of history) a b) refl
  where
    by_test : (live : Bool) → both_live (agreed_of history) a b ≡ live →
        cond live (answer_over order.pairs a b) Unknown ≡ cond live (answer_over (pairs_of history) a b) Unknown
    by_test true is =
        let both = and_parts (is_live (agreed_of history) a) (is_live (agreed_of history) b) is in
        let agree = agree-held history order stands in
        ap (λ t. cond (eqb a b) Same (cond t Before (cond (reach order.pairs b a) After Concurrent))) (agree.paths a b both.0 both.1) ∙
        ap (λ t. cond (eqb a b) Same (cond (reach (pairs_of history) a b) Before (cond t After Concurrent))) (agree.paths b a both.1 both.0)
    by_test false is = refl

-- the whole order after one more command
pairs_of-command : (history : List Entry) (entry : Entry) (command : Command) → entry.command ≡ command →
    pairs_of (history ++ entry ∷ []) ≡ pairs_after command (agreed_of history)
pairs_of-command history entry command is = pairs_of-push history entry ∙ ap (λ c. pairs_after c (agreed_of history)) is

-- the order's references are those of the longer history
abbrev CountsPush : List Entry → Entry → Ordered → Type 0
CountsPush history entry new = (event : ℕ) → count_of new.counts event ≡ count_in (history ++ entry ∷ []) event

-- a release that is not of the last reference leaves each event its last one
not_last : (history : List Entry) (old : Ordered) (target : EventId) → IsOrderOf history old →
    eqb (count_of old.counts target.0) 1 ≡ false → (event : ℕ) → Leaves (Release target) event (count_in history event)
not_last history old target stands more event same one =
    eqb-false (count_of old.counts target.0) 1 more (stands.count target.0 ∙ ap (count_in history) (sym same) ∙ one)

-- the held events after one more command
events-push : (history : List Entry) (entry : Entry) (old new : Ordered) (command : Command) → entry.command ≡ command →
    IsOrderOf history old → Becomes command old new → CountsPush history entry new →
    new.events ≡ held_events (history ++ entry ∷ [])
events-push history entry old new Create is stands becomes counted =
    becomes.events ∙ ap (λ l. l ++ (old.born + 1) ∷ []) stands.events ∙
    ap (λ n. held_events history ++ (n + 1) ∷ []) stands.born ∙ sym (held_events-create history entry is)
events-push history entry old new (Assign batch) is stands becomes counted =
    let stay = StayLive-by history entry (Assign batch) is (λ event. tt) in
    becomes.events ∙ stands.events ∙ sym (held_events-stay history entry stay (ap births_of is))
events-push history entry old new (Acquire event) is stands becomes counted =
    let stay = StayLive-by history entry (Acquire event) is (λ e. tt) in
    becomes.events ∙ stands.events ∙ sym (held_events-stay history entry stay (ap births_of is))
events-push history entry old new (Release event) is stands becomes counted =
    becomes.events ∙ by_test (eqb (count_of old.counts event.0) 1) refl
  where
    by_test : (last : Bool) → eqb (count_of old.counts event.0) 1 ≡ last →
        cond last (needed_events new.counts old.pairs old.events) old.events ≡ held_events (history ++ entry ∷ [])
    by_test true last =
        let by_pairs = ap (λ l. filter (is_needed new.counts l old.events) old.events) stands.pairs in
        let by_events = ap (λ l. filter (is_needed new.counts (held_pairs history) l) l) stands.events in
        by_pairs ∙ by_events ∙
        sym (held_events-release history entry event.0 new.counts (record { is = is; counted = counted }))
    by_test false more =
        let stay = StayLive-by history entry (Release event) is (not_last history old event stands more) in
        stands.events ∙ sym (held_events-stay history entry stay (ap births_of is))

-- and the held pairs
pairs-push : (history : List Entry) (entry : Entry) (old new : Ordered) (command : Command) → entry.command ≡ command →
    IsOrderOf history old → Becomes command old new → CountsPush history entry new →
    new.pairs ≡ held_pairs (history ++ entry ∷ [])
pairs-push history entry old new Create is stands becomes counted =
    let stay = StayLive-by history entry Create is (λ event. tt) in
    becomes.pairs ∙ stands.pairs ∙ sym (held_pairs-stay history entry stay (pairs_of-command history entry Create is))
pairs-push history entry old new (Assign batch) is stands becomes counted =
    let stay = StayLive-by history entry (Assign batch) is (λ event. tt) in
    let grown = grow_together history old batch stands in
    let adds = held_pairs-adds history entry grown.adds stay (pairs_of-command history entry (Assign batch) is ∙ grown.all) grown.live in
    becomes.pairs ∙ grown.held ∙ ap (λ l. l ++ grown.adds) stands.pairs ∙ sym adds
pairs-push history entry old new (Acquire event) is stands becomes counted =
    let stay = StayLive-by history entry (Acquire event) is (λ e. tt) in
    becomes.pairs ∙ stands.pairs ∙
    sym (held_pairs-stay history entry stay (pairs_of-command history entry (Acquire event) is))
pairs-push history entry old new (Release event) is stands becomes counted =
    becomes.pairs ∙ by_test (eqb (count_of old.counts event.0) 1) refl
  where
    by_test : (last : Bool) → eqb (count_of old.counts event.0) 1 ≡ last →
        cond last (needed_pairs new.counts old.pairs old.events) old.pairs ≡ held_pairs (history ++ entry ∷ [])
    by_test true last =
        let by_events = ap (λ l. filter (λ pair. is_needed new.counts old.pairs l pair.0) old.pairs) stands.events in
        let by_pairs = ap (λ l. filter (λ pair. is_needed new.counts l (held_events history) pair.0) l) stands.pairs in
        by_events ∙ by_pairs ∙
        sym (held_pairs-release history entry event.0 new.counts (record { is = is; counted = counted }))
    by_test false more =
        let stay = StayLive-by history entry (Release event) is (not_last history old event stands more) in
        stands.pairs ∙ sym (held_pairs-stay history entry stay (pairs_of-command history entry (Release event) is))

-- an order of a history is one of the longer history after one more command
pub IsOrderOf-push : (history : List Entry) (entry : Entry) (old new : Ordered) → IsOrderOf history old →
    Becomes entry.command old new → IsOrderOf (history ++ entry ∷ []) new
IsOrderOf-push history entry old new stands becomes =
    record {
      born = omega (arith, becomes.born, stands.born, born_in-push history entry);
      count = counted;
      events = events-push history entry old new entry.command refl stands becomes counted;
      pairs = pairs-push history entry old new entry.command refl stands becomes counted;
    }
  where
    counted : CountsPush history entry new
    counted event =
        let by_born = ap (λ born. count_after entry.command born event (count_of old.counts event)) stands.born in
        let by_count = ap (count_after entry.command (born_in history) event) (stands.count event) in
        becomes.count event ∙ by_born ∙ by_count ∙ sym (count_in-push history entry event)
