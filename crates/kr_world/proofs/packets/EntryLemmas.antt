-- Each client's entries in a history: their numbers, and the last of them.
use Rattle.std.proofs.Common.{zero, suc, ℕ, max, ◌≡◌, ◌≢◌, ◌+◌, ◌<◌, ◌≤◌, Bool, true, false, cond, eqb, List, [], ◌∷◌, ◌++◌, length, take, get_or, refl, sym, ap, ◌∙◌, subst, arith, inl, inr}
use Rattle.std.specs.Prelude.{Some, slice_get}
use Rattle.std.proofs.lemmas.Bool.{cases_eq, cond-true, cond-false, eq-eqb, ne_eqb}
use Rattle.std.proofs.lemmas.List.{append-nil, take-take, length-append, length_push}
use Rattle.std.proofs.lemmas.List.Elements.{filter-append}
use Rattle.std.proofs.lemmas.Option.{none-some, same_Some, slice_get_within, slice_get-get_or}
use Rattle.kr_order.specs.declared.ids.ClientId.{ClientId}
use Rattle.kr_order.specs.declared.history.Command.{Command}
use Rattle.kr_order.specs.declared.history.Entry.{Entry}
use Rattle.kr_order.specs.Prefix.{IsPrefix}
use Rattle.kr_order.proofs.PrefixLemmas.{IsPrefix-take}
use Rattle.kr_order.specs.History.{highest_seq}
use Rattle.kr_world.specs.Lawful.{entries_of, IsNumbered}
use Rattle.kr_protocol.proofs.ListLemmas.{slice_get_left, slice_get_front, slice_get_at}

pub entries_of-append : (caller : ClientId) (xs ys : List Entry)
    → entries_of caller (xs ++ ys) ≡ entries_of caller xs ++ entries_of caller ys
entries_of-append caller xs ys = filter-append (λ entry. eqb entry.client.0 caller.0) xs ys

-- an entry of the client is one of its entries
pub entries_of-own : (caller : ClientId) (before : List Entry) (entry : Entry) (after : List Entry)
    → entry.client.0 ≡ caller.0
    → entries_of caller (before ++ entry ∷ after) ≡ entries_of caller before ++ entry ∷ entries_of caller after
entries_of-own caller before entry after own =
    let rest = entries_of caller after in
    let first = cond-true (eqb entry.client.0 caller.0) (entry ∷ rest) rest (eq-eqb entry.client.0 caller.0 own) in
    entries_of-append caller before (entry ∷ after) ∙ ap (λ es. entries_of caller before ++ es) first

-- an entry of another client is not
pub entries_of-other : (caller : ClientId) (before : List Entry) (entry : Entry) → entry.client.0 ≢ caller.0
    → entries_of caller (before ++ entry ∷ []) ≡ entries_of caller before
entries_of-other caller before entry other =
    let none = cond-false (eqb entry.client.0 caller.0) (entry ∷ []) [] (ne_eqb entry.client.0 caller.0 other) in
    entries_of-append caller before (entry ∷ []) ∙ ap (λ es. entries_of caller before ++ es) none ∙ append-nil (entries_of caller before)

-- what is known of an entry, by what stands before it
pub record IsInOrder (begun : List Command) (earlier : List Entry) (entry : Entry) : Type 0 where
  pub seq : entry.seq ≡ length earlier + 1
  pub command : slice_get begun (length earlier) ≡ Some entry.command

pub numbered_at : (begun : List Command) (caller : ClientId) (before : List Entry) (entry : Entry)
    (after : List Entry) → entry.client.0 ≡ caller.0 → IsNumbered begun (entries_of caller (before ++ entry ∷ after))
    → IsInOrder begun (entries_of caller before) entry
numbered_at begun caller before entry after own numbered =
    let earlier = entries_of caller before in
    let n = length earlier in
    let at = ap (λ es. slice_get es n) (entries_of-own caller before entry after own) ∙ slice_get_at earlier entry (entries_of caller after) n refl in
    let known = numbered (length earlier) entry at in
    record { seq = known.0; command = known.1 }

pub numbered_count : (begun : List Command) (entries : List Entry) → IsNumbered begun entries
    → length entries ≤ length begun
numbered_count begun [] numbered = omega arith
numbered_count begun (entry ∷ more) numbered =
    let last = get_or (entry ∷ more) (length more) entry in
    let is : slice_get (entry ∷ more) (length more) ≡ Some last = slice_get-get_or (entry ∷ more) (length more) entry (omega arith) in
    let lt = slice_get_within begun (length more) last.command (numbered (length more) last is).1 in
    omega arith

-- more may have begun
pub numbered_more : (begun more : List Command) (entries : List Entry) → IsNumbered begun entries
    → IsNumbered (begun ++ more) entries
numbered_more begun more entries numbered k entry is =
    let known = numbered k entry is in
    (known.0, slice_get_left begun more k entry.command known.1)

-- the next command may be entered
pub numbered_push : (begun : List Command) (entries : List Entry) (entry : Entry) → IsNumbered begun entries
    → IsInOrder begun entries entry → IsNumbered begun (entries ++ entry ∷ [])
numbered_push begun entries entry numbered next k found is =
    elim (cases_eq k (length entries)) [
      | inl last ↦
          let same : entry ≡ found = same_Some entry found (sym (slice_get_at entries entry [] k (sym last)) ∙ is) in
          let here = subst (λ n. (entry.seq ≡ n + 1) × (slice_get begun n ≡ Some entry.command)) (sym last) (next.seq, next.command) in
          subst (λ e. (e.seq ≡ k + 1) × (slice_get begun k ≡ Some e.command)) same here
      | inr before ↦
          let within = slice_get_within (entries ++ entry ∷ []) k found is in
          let lt : k < length entries = omega (arith, length_push entries entry) in
          numbered k found (slice_get_front entries (entry ∷ []) k found lt is)
    ]

-- of a front of a log each client's entries are in order too
pub numbered_front : (begun : List Command) (caller : ClientId) (history log : List Entry) → IsPrefix history log
    → IsNumbered begun (entries_of caller log) → IsNumbered begun (entries_of caller history)
numbered_front begun caller history log front numbered k entry is =
    let parts : entries_of caller log ≡ entries_of caller history ++ entries_of caller front.more = ap (entries_of caller) front.is ∙ entries_of-append caller history front.more in
    numbered k entry (ap (λ es. slice_get es k) parts ∙ slice_get_left (entries_of caller history) (entries_of caller front.more) k entry is)

-- and there are no more of them
pub entries_front : (caller : ClientId) (history log : List Entry) → IsPrefix history log
    → length (entries_of caller history) ≤ length (entries_of caller log)
entries_front caller history log front =
    let parts : entries_of caller log ≡ entries_of caller history ++ entries_of caller front.more = ap (entries_of caller) front.is ∙ entries_of-append caller history front.more in
    omega (arith, ap length parts, length-append (entries_of caller history) (entries_of caller front.more))

-- no entry of the client has a greater number than the greatest
own_within : (caller : ClientId) (log : List Entry) (k : ℕ) (entry : Entry)
    → slice_get (entries_of caller log) k ≡ Some entry → entry.seq ≤ highest_seq caller log
own_within caller [] k entry is = absurd (none-some entry is)
own_within caller (first ∷ more) k entry is = by_test (own_within caller more) (eqb first.client.0 caller.0) k is
  where
    by_test : ((j : ℕ) (other : Entry) → slice_get (entries_of caller more) j ≡ Some other → other.seq ≤ highest_seq caller more)
        → (own : Bool) → (k : ℕ)
        → slice_get (cond own (first ∷ entries_of caller more) (entries_of caller more)) k ≡ Some entry
        → entry.seq ≤ max (cond own first.seq 0) (highest_seq caller more)
    by_test rest true zero is = let same = ap (λ (e : Entry). e.seq) (same_Some first entry is) in omega arith
    by_test rest true (suc k) is = let le = rest k entry is in omega arith
    by_test rest false k is = let le = rest k entry is in omega arith

-- entries in order are no more than the greatest number of them
pub count_within : (begun : List Command) (caller : ClientId) (log : List Entry)
    → IsNumbered begun (entries_of caller log) → length (entries_of caller log) ≤ highest_seq caller log
count_within begun caller log numbered = from (entries_of caller log) (length (entries_of caller log)) refl (own_within caller log) numbered
  where
    from : (own : List Entry) (n : ℕ) → length own ≡ n
        → ((k : ℕ) (entry : Entry) → slice_get own k ≡ Some entry → entry.seq ≤ highest_seq caller log)
        → IsNumbered begun own → length own ≤ highest_seq caller log
    from [] n count within numbered = omega arith
    from (first ∷ more) n count within numbered =
        let last = get_or (first ∷ more) (length more) first in
        let is : slice_get (first ∷ more) (length more) ≡ Some last = slice_get-get_or (first ∷ more) (length more) first (omega arith) in
        let le = within (length more) last is in
        let seq = (numbered (length more) last is).0 in
        omega arith

-- a longer front has no fewer entries of the client
pub entries_of-front : (caller : ClientId) (history : List Entry) (m n : ℕ) → m ≤ n
    → length (entries_of caller (take m history)) ≤ length (entries_of caller (take n history))
entries_of-front caller history m n le =
    let longer = take n history in
    subst (λ front. length (entries_of caller front) ≤ length (entries_of caller longer)) (take-take m n history le) (entries_front caller (take m longer) longer (IsPrefix-take m longer))
