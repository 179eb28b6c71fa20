-- How a history's births, references and done entries grow.
use Rattle.std.proofs.Common.{eq-eqb, ◌≡◌, ℕ, ◌+◌, ◌-◌, ◌<◌, ◌≤◌, Bool, true, false, cond, eqb, ltb, ◌&&◌, List, [], ◌∷◌, ◌++◌, length, refl, sym, ap, ◌∙◌, subst, arith, rules, append_assoc}
use Rattle.kr_order.specs.declared.ids.ClientId.{ClientId}
use Rattle.kr_order.specs.declared.history.DoneEntry.{DoneEntry}
use Rattle.std.specs.Prelude.{find, fold, Some, ◌↔◌}
use Rattle.std.proofs.lemmas.Bool.{eqb-true, lt-ltb, ltb-true}
use Rattle.std.proofs.lemmas.List.Sums.{fold-append, sum_by-append, sum_by-cons}
use Rattle.std.proofs.lemmas.List.{reverse-append}
use Rattle.kr_order.specs.declared.history.Entry.{Entry}
use Rattle.kr_order.specs.declared.history.Command.{Command}
use Rattle.kr_order.specs.declared.history.Command.TheVariants.{Create, Assign, Acquire, Release}
use Rattle.kr_order.specs.History.{births_of, born_in}
use Rattle.kr_order.specs.declared.history.Reply.{Reply}
use Rattle.kr_order.specs.declared.history.Reply.TheVariants.{Created, Assigned, Count, Unknown, Contradicts}
use Rattle.kr_order.specs.Reply.{reply_to}
use Rattle.kr_order.specs.Laws.{LiveEventsAreBorn, CreatedEventIsNew}
use Rattle.kr_order.specs.Agreed.{Agreed, nothing_agreed, is_live, count_after, after, agreed_of}
use Rattle.kr_order.specs.Prefix.{IsPrefix}
use Rattle.kr_order.specs.References.{count_in, IsLive}
use Rattle.kr_order.specs.Done.{done_after, done_from, done_of, last_of}

-- births of both parts are births of the whole
pub born_in-append : (xs ys : List Entry) → born_in (xs ++ ys) ≡ born_in xs + born_in ys
born_in-append xs ys = sum_by-append (λ entry. births_of entry.command) xs ys

-- what is agreed after one more entry
pub agreed_of-push : (history : List Entry) (entry : Entry) → agreed_of (history ++ entry ∷ []) ≡ after (agreed_of history) entry
agreed_of-push history entry = fold-append after nothing_agreed history (entry ∷ [])

-- what every entry keeps is so after the history
pub agreed_keeps : (P : Agreed → Type 0) → P nothing_agreed → ((agreed : Agreed) (entry : Entry) → P agreed → P (after agreed entry)) → (history : List Entry) → P (agreed_of history)
agreed_keeps P none each history = from nothing_agreed history none
  where
    from : (agreed : Agreed) (history : List Entry) → P agreed → P (fold after agreed history)
    from agreed [] holds = holds
    from agreed (entry ∷ more) holds = from (after agreed entry) more (each agreed entry holds)

born_from : (agreed : Agreed) (history : List Entry) → (fold after agreed history).born ≡ born_in history + agreed.born
born_from agreed [] = omega arith
born_from agreed (entry ∷ more) =
    omega (arith, born_from (after agreed entry) more, sum_by-cons (λ e. births_of e.command) entry more)

-- the events agreed are those that the history's creates made
pub born-agreed : (history : List Entry) → (agreed_of history).born ≡ born_in history
born-agreed history = omega (arith, born_from nothing_agreed history)

-- the references of an event after one more entry
pub count_in-push : (history : List Entry) (entry : Entry) (event : ℕ) → count_in (history ++ entry ∷ []) event ≡ count_after entry.command (born_in history) event (count_in history event)
count_in-push history entry event =
    ap (λ (agreed : Agreed). agreed.count event) (agreed_of-push history entry) ∙ ap (λ born. count_after entry.command born event (count_in history event)) (born-agreed history)

-- a fact that holds exactly for the events up to a number
abbrev pub IsUpTo : ℕ → ℕ → Type 0
IsUpTo event born = (1 ≤ event) × (event ≤ born)

-- an acquire or a release leaves an event without references as it is
acquired-some : (same positive : Bool) (count : ℕ) → ltb 0 count ≡ positive → 0 < cond (same && positive) (count + 1) count → 0 < count
acquired-some true true count is some = ltb-true 0 count is
acquired-some true false count is some = some
acquired-some false positive count is some = some

released-some : (same : Bool) (count : ℕ) → 0 < cond same (count - 1) count → 0 < count
released-some true count some = omega arith
released-some false count some = some

-- the events that are live after a command are among those that were live, and the one that it makes
pub count_after-live : (command : Command) (born event count : ℕ) → (0 < count → IsUpTo event born) → 0 < count_after command born event count → IsUpTo event (births_of command + born)
count_after-live Create born event count known live = by_test (eqb event (born + 1)) refl live
  where
    by_test : (test : Bool) → eqb event (born + 1) ≡ test → 0 < cond test 1 count → IsUpTo event (1 + born)
    by_test true is live = let same = eqb-true event (born + 1) is in (omega arith, omega arith)
    by_test false is live = let up = known live in (up.0, omega arith)
count_after-live (Assign batch) born event count known live = let up = known live in (up.0, omega arith)
count_after-live (Acquire target) born event count known live =
    let up = known (acquired-some (eqb event target.0) (ltb 0 count) count refl live) in (up.0, omega arith)
count_after-live (Release target) born event count known live =
    let up = known (released-some (eqb event target.0) count live) in (up.0, omega arith)

-- a live event is one that was made
pub live-born : LiveEventsAreBorn
live-born history event =
    subst (λ born. IsLive history event → IsUpTo event born) (born-agreed history) (agreed_keeps (λ agreed. 0 < agreed.count event → IsUpTo event agreed.born) none (λ agreed entry known. count_after-live entry.command agreed.born event (agreed.count event) known) history)
  where
    none : 0 < 0 → IsUpTo event 0
    none some = absurd (omega arith)

-- the test for a live event
pub is_live-true : (history : List Entry) (event : ℕ) → (is_live (agreed_of history) event ≡ true) ↔ IsLive history event
is_live-true history event = (λ is. ltb-true 0 (count_in history event) is, λ live. lt-ltb 0 (count_in history event) live)

-- a longer history has made at least as many events
pub born_in_grows : (history longer : List Entry) → IsPrefix history longer → born_in history ≤ born_in longer
born_in_grows history longer front = omega (arith, ap born_in front.is, born_in-append history front.more)

-- done entries of both parts are those of the whole
pub done_from-append : (before xs ys : List Entry) → done_from before (xs ++ ys) ≡ done_from before xs ++ done_from (before ++ xs) ys
done_from-append before [] ys = ap (λ h. done_from h ys) (search rules)
done_from-append before (x ∷ xs) ys =
    ap (λ ds. done_after before x ∷ ds) (done_from-append (before ++ x ∷ []) xs ys ∙ ap (λ h. done_from (before ++ x ∷ []) xs ++ done_from h ys) (append_assoc before (x ∷ []) xs))

-- one more entry is one more done entry
pub done_of-push : (history : List Entry) (entry : Entry) → done_of (history ++ entry ∷ []) ≡ done_of history ++ done_after history entry ∷ []
done_of-push history entry = done_from-append [] history (entry ∷ [])

-- each entry is done once
pub length-done_from : (before xs : List Entry) → length (done_from before xs) ≡ length xs
length-done_from before [] = refl
length-done_from before (x ∷ xs) = omega (arith, length-done_from (before ++ x ∷ []) xs)

abbrev created_id : Reply → ℕ
created_id (Created event) = event.0
created_id (Assigned outcomes) = 0
created_id (Count count) = 0
created_id (Unknown index) = 0
created_id (Contradicts index) = 0

created-is : (history : List Entry) (command : Command) (event : ℕ) → command ≡ Create → reply_to history command ≡ Created (record { 0 = event }) → event ≡ born_in history + births_of command
created-is history Create event _ is = sym (ap created_id is)
created-is history (Assign batch) event create _ = cc
created-is history (Acquire target) event create _ = cc
created-is history (Release target) event create _ = cc

-- a create's event is the next one
pub created-new : CreatedEventIsNew
created-new history entry event create replied =
    let is = created-is history entry.command event create replied in
    let made : births_of entry.command ≡ 1 = subst (λ c. births_of c ≡ 1) (sym create) refl in
    let next : eqb event (born_in history + 1) ≡ true = eq-eqb event (born_in history + 1) (omega arith) in
    let counted : count_in (history ++ entry ∷ []) event ≡ 1 = count_in-push history entry event ∙ ap (λ c. count_after c (born_in history) event (count_in history event)) create ∙ ap (λ b. cond b 1 (count_in history event)) next in
    record {
      not_before = λ live. let before = live-born history event live in absurd (omega arith);
      after = omega arith;
    }

-- the last entry of a client, one entry later
pub last_of-push : (client : ClientId) (dones : List DoneEntry) (done : DoneEntry) → last_of client (dones ++ done ∷ []) ≡ cond (eqb done.entry.client.0 client.0) (Some done) (last_of client dones)
last_of-push client dones done = ap (find (λ d. eqb d.entry.client.0 client.0)) (reverse-append dones (done ∷ []))
