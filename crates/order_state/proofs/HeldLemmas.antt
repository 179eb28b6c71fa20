-- What is held after a history, and after one more command.
use Rattle.std.proofs.Common.{◌≡◌, ◌≢◌, ◌⊎◌, ℕ, zero, suc, ◌+◌, ◌-◌, ◌<◌, ◌≤◌, Bool, true, false, cond, eqb, ltb, ◌&&◌, ◌||◌, List, [], ◌∷◌, ◌++◌, refl, sym, ap, ◌∙◌, subst, arith, inl, inr, zero-add}
use Rattle.std.specs.Prelude.{None, is_none}
use Rattle.std.specs.List.{AllByRecursion, filter, list_any}
use Rattle.std.proofs.lemmas.Bool.{and_parts, and_right, both_ways, cases_Bool, eq-eqb, eqb-true, eqb-false, false_from_ne_true, lt-ltb, ltb-true}
use Rattle.std.proofs.lemmas.List.{append-nil}
use Rattle.std.proofs.lemmas.List.Elements.{filter-append, filter_agree}
use Rattle.std.proofs.lemmas.List.Sums.{sum_by-cons}
use Rattle.kr_order.specs.declared.batch.Pair.{Pair}
use Rattle.kr_order.specs.declared.history.Command.{Command}
use Rattle.kr_order.specs.declared.history.Command.TheVariants.{Create, Assign, Acquire, Release}
use Rattle.kr_order.specs.declared.history.Entry.{Entry}
use Rattle.kr_order.specs.History.{births_of, born_in}
use Rattle.kr_order.specs.Numbers.{numbers_to}
use Rattle.kr_order.specs.Order.{reach}
use Rattle.kr_order.specs.References.{count_in, IsLive}
use Rattle.kr_order.specs.Agreed.{Agreed, count_after, pairs_after, agreed_of}
use Rattle.kr_order.specs.Pairs.{pairs_of}
use Rattle.kr_order.specs.Held.{holds, is_held, held_events, held_pairs}
use Rattle.kr_order.proofs.PrefixLemmas.{IsPrefix-append}
use Rattle.kr_order.proofs.HistoryLemmas.{IsUpTo, born-agreed, born_in-append, count_in-push, live-born}
use Rattle.kr_order.proofs.PairsLemmas.{pairs_of-push, order_grows}
use Rattle.kr_order.proofs.BornLemmas.{IsBornPair, IsBornOrder, over_born}
use Rattle.kr_order.proofs.HeldLemmas.{IsHeldBy, is_held-true, is_held-live, reach-held_pairs, never_held_again}
use Rattle.ref_collect.specs.Counts.{count_of}
use Rattle.ref_collect.specs.Needed.{holds as needs, is_needed, needed_events, needed_pairs}

-- the pairs whose first event passes the test
abbrev pub those_from : (ℕ → Bool) → List (ℕ × ℕ) → List (ℕ × ℕ)
those_from test pairs = filter (λ pair. test pair.0) pairs

-- tests that agree on each item find alike
list_any-same : {X : Type 0} (p q : X → Bool) → ((x : X) → p x ≡ q x) → (xs : List X) → list_any p xs ≡ list_any q xs
list_any-same p q same [] = refl
list_any-same p q same (x ∷ xs) = let here = same x in let rest = list_any-same p q same xs in cc

-- what is found among what passes a test is what passes both
list_any-filter : {X : Type 0} (p q : X → Bool) (xs : List X) → list_any p (filter q xs) ≡ list_any (λ x. q x && p x) xs
list_any-filter p q [] = refl
list_any-filter p q (x ∷ xs) = by_test (q x) (list_any-filter p q xs)
  where
    by_test : (b : Bool) → list_any p (filter q xs) ≡ list_any (λ y. q y && p y) xs →
        list_any p (cond b (x ∷ filter q xs) (filter q xs)) ≡ ((b && p x) || list_any (λ y. q y && p y) xs)
    by_test true rest = ap (λ r. p x || r) rest
    by_test false rest = rest

-- of what passes a test, what passes another is what passes both
filter-filter : {X : Type 0} (p q : X → Bool) (xs : List X) → filter p (filter q xs) ≡ filter (λ x. q x && p x) xs
filter-filter p q [] = refl
filter-filter p q (x ∷ xs) = by_test (q x) (filter-filter p q xs)
  where
    by_test : (b : Bool) → filter p (filter q xs) ≡ filter (λ y. q y && p y) xs →
        filter p (cond b (x ∷ filter q xs) (filter q xs)) ≡ cond (b && p x) (x ∷ filter (λ y. q y && p y) xs) (filter (λ y. q y && p y) xs)
    by_test true rest = ap (λ l. cond (p x) (x ∷ l) l) rest
    by_test false rest = rest

-- tests that agree on the numbers up to one pass the same of these
filter-numbers : (p q : ℕ → Bool) (n : ℕ) → ((number : ℕ) → IsUpTo number n → p number ≡ q number) →
    filter p (numbers_to n) ≡ filter q (numbers_to n)
filter-numbers p q zero same = refl
filter-numbers p q (suc n) same =
    let front = filter-numbers p q n (λ number up. same number (up.0, omega arith)) in
    let last : filter p ((n + 1) ∷ []) ≡ filter q ((n + 1) ∷ []) = ap (λ b. cond b ((n + 1) ∷ []) []) (same (n + 1) (omega arith, omega arith)) in
    filter-append p (numbers_to n) ((n + 1) ∷ []) ∙ ap (λ l. l ++ filter p ((n + 1) ∷ [])) front ∙
    ap (λ l. filter q (numbers_to n) ++ l) last ∙ sym (filter-append q (numbers_to n) ((n + 1) ∷ []))

-- so it is with the first events of pairs of events that were made
those_from-same : (p q : ℕ → Bool) (born : ℕ) (pairs : List (ℕ × ℕ)) → IsBornOrder born pairs →
    ((number : ℕ) → IsUpTo number born → p number ≡ q number) → those_from p pairs ≡ those_from q pairs
those_from-same p q born [] all same = refl
those_from-same p q born (pair ∷ pairs) all same =
    ap (λ b. cond b (pair ∷ those_from p pairs) (those_from p pairs)) (same pair.0 all.0.first) ∙
    ap (λ l. cond (q pair.0) (pair ∷ l) l) (those_from-same p q born pairs all.1 same)

-- what passes wholly is left as it is
those_from-all : (test : ℕ → Bool) (pairs : List (ℕ × ℕ)) → AllByRecursion (λ pair. test pair.0 ≡ true) pairs →
    those_from test pairs ≡ pairs
those_from-all test [] all = refl
those_from-all test (pair ∷ pairs) all =
    ap (λ b. cond b (pair ∷ those_from test pairs) (those_from test pairs)) all.0 ∙
    ap (λ l. pair ∷ l) (those_from-all test pairs all.1)

-- a test that is as true and as false as another is the same
same_test : (a b : Bool) → (a ≡ true → b ≡ true) → (a ≡ false → b ≡ false) → b ≡ a
same_test true b on off = on refl
same_test false b on off = off refl

-- the pairs of the history are of events that it made
born_pairs : (history : List Entry) → IsBornOrder (born_in history) (pairs_of history)
born_pairs history = subst (λ born. IsBornOrder born (pairs_of history)) (born-agreed history) (over_born history).pairs

-- each event that was live stays so
abbrev pub StayLive : List Entry → Entry → Type 0
StayLive history entry = (event : ℕ) → IsLive history event → IsLive (history ++ entry ∷ []) event

-- then what is held of the events that were made stays the same
is_held-stays : (history : List Entry) (entry : Entry) (event : ℕ) → StayLive history entry → event ≤ born_in history →
    is_held (history ++ entry ∷ []) event ≡ is_held history event
is_held-stays history entry event stay old =
    same_test (is_held history event) (is_held longer event) on (λ unheld. never_held_again history longer event (IsPrefix-append history (entry ∷ [])) old unheld)
  where
    longer : List Entry
    longer = history ++ entry ∷ []

    to : (root : ℕ) → (root ≡ event) ⊎ (reach (pairs_of history) root event ≡ true) →
        (root ≡ event) ⊎ (reach (pairs_of longer) root event ≡ true)
    to root (inl same) = inl same
    to root (inr path) = inr ((order_grows history longer (IsPrefix-append history (entry ∷ []))).before root event path)

    on : is_held history event ≡ true → is_held longer event ≡ true
    on held =
        let by = (is_held-true history event).0 held in
        (is_held-true longer event).1 (record { root = by.root; live = stay by.root by.live; holds = to by.root by.holds })

-- the events made after one more entry
pub born_in-push : (history : List Entry) (entry : Entry) →
    born_in (history ++ entry ∷ []) ≡ born_in history + births_of entry.command
born_in-push history entry = omega (arith, born_in-append history (entry ∷ []), sum_by-cons (λ e. births_of e.command) entry [])

-- the held events, of those that the history made
events_of-born : (history : List Entry) → held_events history ≡ filter (is_held history) (numbers_to (born_in history))
events_of-born history = ap (λ n. filter (is_held history) (numbers_to n)) (born-agreed history)

-- of the events that were made before, those that are held after one more entry
events-stay : (history : List Entry) (entry : Entry) → StayLive history entry →
    filter (is_held (history ++ entry ∷ [])) (numbers_to (born_in history)) ≡ held_events history
events-stay history entry stay =
    filter-numbers (is_held (history ++ entry ∷ [])) (is_held history) (born_in history) (λ number up. is_held-stays history entry number stay up.1) ∙
    sym (events_of-born history)

-- the held events after an entry that makes none, and by which none dies
pub held_events-stay : (history : List Entry) (entry : Entry) → StayLive history entry → births_of entry.command ≡ 0 →
    held_events (history ++ entry ∷ []) ≡ held_events history
held_events-stay history entry stay none =
    let same : born_in (history ++ entry ∷ []) ≡ born_in history = omega (arith, born_in-push history entry) in
    events_of-born (history ++ entry ∷ []) ∙ ap (λ n. filter (is_held (history ++ entry ∷ [])) (numbers_to n)) same ∙
    events-stay history entry stay

-- the held pairs after an entry by which no event dies, and which adds these between live events
pub held_pairs-adds : (history : List Entry) (entry : Entry) (adds : List (ℕ × ℕ)) → StayLive history entry →
    pairs_of (history ++ entry ∷ []) ≡ pairs_of history ++ adds → AllByRecursion (λ pair. IsLive history pair.0) adds →
    held_pairs (history ++ entry ∷ []) ≡ held_pairs history ++ adds
held_pairs-adds history entry adds stay grown live =
    ap (those_from held) grown ∙ filter-append (λ (pair : ℕ × ℕ). held pair.0) (pairs_of history) adds ∙
    ap (λ l. l ++ those_from held adds) old ∙
    ap (λ l. held_pairs history ++ l) (those_from-all held adds (each adds live))
  where
    longer : List Entry
    longer = history ++ entry ∷ []

    held : ℕ → Bool
    held event = is_held longer event

    old : those_from held (pairs_of history) ≡ held_pairs history
    old = those_from-same held (is_held history) (born_in history) (pairs_of history) (born_pairs history) (λ number up. is_held-stays history entry number stay up.1)

    each : (pairs : List (ℕ × ℕ)) → AllByRecursion (λ pair. IsLive history pair.0) pairs →
        AllByRecursion (λ pair. held pair.0 ≡ true) pairs
    each [] all = tt
    each (pair ∷ pairs) all = (is_held-live longer pair.0 (stay pair.0 all.0), each pairs all.1)

-- the held pairs after an entry by which no event dies, and which adds none
pub held_pairs-stay : (history : List Entry) (entry : Entry) → StayLive history entry →
    pairs_of (history ++ entry ∷ []) ≡ pairs_of history → held_pairs (history ++ entry ∷ []) ≡ held_pairs history
held_pairs-stay history entry stay same =
    held_pairs-adds history entry [] stay (same ∙ sym (append-nil (pairs_of history))) tt ∙
    append-nil (held_pairs history)

-- the command leaves an event with so many references its last one
abbrev pub Leaves : Command → ℕ → ℕ → Type 0
Leaves Create event count = Unit {0}
Leaves (Assign batch) event count = Unit {0}
Leaves (Acquire target) event count = Unit {0}
Leaves (Release target) event count = event ≡ target.0 → count ≢ 1

-- such an event stays live
live_stays : (command : Command) (born event count : ℕ) → Leaves command event count → 0 < count →
    0 < count_after command born event count
live_stays Create born event count leaves live = elim (eqb event (born + 1)) as (λ b. 0 < cond b 1 count) [ true ↦ omega arith | false ↦ live ]
live_stays (Assign batch) born event count leaves live = live
live_stays (Acquire target) born event count leaves live = elim (eqb event target.0 && ltb 0 count) as (λ b. 0 < cond b (count + 1) count) [ true ↦ omega arith | false ↦ live ]
live_stays (Release target) born event count leaves live = by_test (eqb event target.0) refl
  where
    by_test : (same : Bool) → eqb event target.0 ≡ same → 0 < cond same (count - 1) count
    by_test true is = let other = leaves (eqb-true event target.0 is) in omega arith
    by_test false is = live

-- so it is after a command that leaves each event its last reference
pub StayLive-by : (history : List Entry) (entry : Entry) (command : Command) → entry.command ≡ command →
    ((event : ℕ) → Leaves command event (count_in history event)) → StayLive history entry
StayLive-by history entry command is leaves event live =
    let counted = count_in-push history entry event ∙
    ap (λ c. count_after c (born_in history) event (count_in history event)) is in
    subst (λ n. 0 < n) (sym counted) (live_stays command (born_in history) event (count_in history event) (leaves event) live)

-- the held events after a create: one more, which comes last
pub held_events-create : (history : List Entry) (entry : Entry) → entry.command ≡ Create →
    held_events (history ++ entry ∷ []) ≡ held_events history ++ (born_in history + 1) ∷ []
held_events-create history entry create =
    events_of-born longer ∙ ap (λ n. filter held (numbers_to n)) more ∙
    filter-append held (numbers_to (born_in history)) ((born_in history + 1) ∷ []) ∙
    ap (λ l. l ++ filter held ((born_in history + 1) ∷ [])) (events-stay history entry stay) ∙
    ap (λ b. held_events history ++ cond b ((born_in history + 1) ∷ []) []) (is_held-live longer (born_in history + 1) lives)
  where
    longer : List Entry
    longer = history ++ entry ∷ []

    held : ℕ → Bool
    held event = is_held longer event

    stay : StayLive history entry
    stay = StayLive-by history entry Create create (λ event. tt)

    more : born_in longer ≡ suc (born_in history)
    more = omega (arith, born_in-push history entry, ap births_of create)

    lives : IsLive longer (born_in history + 1)
    lives =
        let counted : count_in longer (born_in history + 1) ≡ 1 = count_in-push history entry (born_in history + 1) ∙
        ap (λ c. count_after c (born_in history) (born_in history + 1) (count_in history (born_in history + 1))) create ∙
        ap (λ b. cond b 1 (count_in history (born_in history + 1))) (eq-eqb (born_in history + 1) (born_in history + 1) refl) in
        omega arith

-- after a release
pub record IsRelease (history : List Entry) (entry : Entry) (event : ℕ) (counts : List (ℕ × ℕ)) : Type 0 where
  pub is : entry.command ≡ Release (record { 0 = event })
  pub counted : (e : ℕ) → count_of counts e ≡ count_in (history ++ entry ∷ []) e

-- what is live after it was so before
was_live : (history : List Entry) (entry : Entry) (event : ℕ) (counts : List (ℕ × ℕ)) (root : ℕ) →
    IsRelease history entry event counts → IsLive (history ++ entry ∷ []) root → IsLive history root
was_live history entry event counts root released live =
    by_test (eqb root event) (subst (λ n. 0 < n) (count_in-push history entry root ∙ ap (λ c. count_after c (born_in history) root (count_in history root)) released.is) live)
  where
    by_test : (same : Bool) → 0 < cond same (count_in history root - 1) (count_in history root) →
        0 < count_in history root
    by_test true live = omega arith
    by_test false live = live

-- it leaves the pairs as they are
same_pairs : (history : List Entry) (entry : Entry) (event : ℕ) (counts : List (ℕ × ℕ)) →
    IsRelease history entry event counts → pairs_of (history ++ entry ∷ []) ≡ pairs_of history
same_pairs history entry event counts released = pairs_of-push history entry ∙
    ap (λ c. pairs_after c (agreed_of history)) released.is

same_born : (history : List Entry) (entry : Entry) (event : ℕ) (counts : List (ℕ × ℕ)) →
    IsRelease history entry event counts → born_in (history ++ entry ∷ []) ≡ born_in history
same_born history entry event counts released = omega (arith, born_in-push history entry, ap births_of released.is)

-- a held event is needed by a live one exactly where it stays held
is_needed-held : (history : List Entry) (entry : Entry) (event : ℕ) (counts : List (ℕ × ℕ)) →
    IsRelease history entry event counts → (e : ℕ) →
    is_needed counts (held_pairs history) (held_events history) e ≡ is_held (history ++ entry ∷ []) e
is_needed-held history entry event counts released e =
    list_any-filter (needs counts (held_pairs history) e) (is_held history) (numbers_to (agreed_of history).born) ∙
    list_any-same both (holds (agreed_of longer) e) each (numbers_to (agreed_of history).born) ∙
    ap (λ n. list_any (holds (agreed_of longer) e) (numbers_to n)) (born-agreed history ∙ sym (same_born history entry event counts released) ∙ sym (born-agreed longer))
  where
    longer : List Entry
    longer = history ++ entry ∷ []

    both : ℕ → Bool
    both root = is_held history root && needs counts (held_pairs history) e root

    by_test : (root : ℕ) (live : Bool) → ltb 0 (count_in longer root) ≡ live →
        (is_held history root && (live && (eqb root e || reach (held_pairs history) root e))) ≡ (live && (eqb root e || reach (pairs_of longer) root e))
    by_test root true is =
        let was : is_held history root ≡ true = is_held-live history root (was_live history entry event counts root released (ltb-true 0 (count_in longer root) is)) in
        let paths : reach (held_pairs history) root e ≡ reach (pairs_of history) root e = reach-held_pairs history root e was in
        let pairs : reach (pairs_of longer) root e ≡ reach (pairs_of history) root e = ap (λ l. reach l root e) (same_pairs history entry event counts released) in
        ap (λ b. b && (eqb root e || reach (held_pairs history) root e)) was ∙
        ap (λ b. eqb root e || b) (paths ∙ sym pairs)
    by_test root false is = and_right (is_held history root) false refl

    each : (root : ℕ) → both root ≡ holds (agreed_of longer) e root
    each root =
        ap (λ n. is_held history root && (ltb 0 n && (eqb root e || reach (held_pairs history) root e))) (released.counted root) ∙
        by_test root (ltb 0 (count_in longer root)) refl

-- the event was held, and a live event needs it
abbrev was_needed : List Entry → List (ℕ × ℕ) → ℕ → Bool
was_needed history counts e = is_held history e && is_needed counts (held_pairs history) (held_events history) e

-- the event was held, and is after one more entry
abbrev stays_held : List Entry → Entry → ℕ → Bool
stays_held history entry e = is_held history e && is_held (history ++ entry ∷ []) e

was_needed-stays : (history : List Entry) (entry : Entry) (event : ℕ) (counts : List (ℕ × ℕ)) →
    IsRelease history entry event counts → (e : ℕ) → was_needed history counts e ≡ stays_held history entry e
was_needed-stays history entry event counts released e =
    ap (λ b. is_held history e && b) (is_needed-held history entry event counts released e)

-- of the events that were made, those that are held after an entry were held before
stays_held-is : (history : List Entry) (entry : Entry) (e : ℕ) → e ≤ born_in history →
    stays_held history entry e ≡ is_held (history ++ entry ∷ []) e
stays_held-is history entry e old = by_test (is_held history e) refl
  where
    longer : List Entry
    longer = history ++ entry ∷ []

    by_test : (was : Bool) → is_held history e ≡ was → (was && is_held longer e) ≡ is_held longer e
    by_test true is = refl
    by_test false is = sym (never_held_again history longer e (IsPrefix-append history (entry ∷ [])) old is)

-- a release leaves held what a live event needs
pub held_events-release : (history : List Entry) (entry : Entry) (event : ℕ) (counts : List (ℕ × ℕ)) →
    IsRelease history entry event counts →
    held_events (history ++ entry ∷ []) ≡
    needed_events counts (held_pairs history) (held_events history)
held_events-release history entry event counts released =
    let longer = history ++ entry ∷ [] in
    let made = numbers_to (agreed_of history).born in
    let needed : ℕ → Bool = is_needed counts (held_pairs history) (held_events history) in
    let known = filter-filter needed (is_held history) made in
    let same = filter_agree (was_needed history counts) (stays_held history entry) (was_needed-stays history entry event counts released) made in
    let born = ap (λ n. filter (stays_held history entry) (numbers_to n)) (born-agreed history) in
    let still = filter-numbers (stays_held history entry) (is_held longer) (born_in history) (λ number up. stays_held-is history entry number up.1) in
    let more = ap (λ n. filter (is_held longer) (numbers_to n)) (same_born history entry event counts released) in
    events_of-born longer ∙ more ∙ sym still ∙ sym born ∙ sym same ∙ sym known

-- and the pairs that begin there
pub held_pairs-release : (history : List Entry) (entry : Entry) (event : ℕ) (counts : List (ℕ × ℕ)) →
    IsRelease history entry event counts →
    held_pairs (history ++ entry ∷ []) ≡
    needed_pairs counts (held_pairs history) (held_events history)
held_pairs-release history entry event counts released =
    let longer = history ++ entry ∷ [] in
    let needed : ℕ → Bool = is_needed counts (held_pairs history) (held_events history) in
    let pairs = pairs_of history in
    let known = filter-filter (λ (pair : ℕ × ℕ). needed pair.0) (λ pair. is_held history pair.0) pairs in
    let same = filter_agree (λ (pair : ℕ × ℕ). was_needed history counts pair.0) (λ pair. stays_held history entry pair.0) (λ pair. was_needed-stays history entry event counts released pair.0) pairs in
    let still = those_from-same (stays_held history entry) (is_held longer) (born_in history) pairs (born_pairs history) (λ number up. stays_held-is history entry number up.1) in
    ap (those_from (is_held longer)) (same_pairs history entry event counts released) ∙ sym still ∙ sym same ∙ sym known
