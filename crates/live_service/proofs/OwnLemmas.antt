-- A client's entries in a history.
use Rattle.std.proofs.Common.{◌≡◌, inl, inr, ℕ, ◌+◌, ◌≤◌, ◌==◌, Bool, true, false, List, [], ◌∷◌, ◌++◌, length, refl, sym, ap, ◌∙◌, subst, arith}
use Rattle.std.proofs.Common.{eq-eqb}
use Rattle.std.proofs.lemmas.List.{length_push}
use Rattle.kr_order.specs.declared.ids.ClientId.{ClientId}
use Rattle.kr_order.specs.declared.history.Command.{Command}
use Rattle.kr_order.specs.declared.history.Entry.{Entry}
use Rattle.kr_order.specs.Prefix.{IsPrefix}
use Rattle.live_service.specs.Own.{entry_of, entries_of, numbered, AreWithin, HasAtLeast, HasJust}

-- one command more is numbered behind the others
pub numbered-push : (client : ClientId) (seq : ℕ) (commands : List Command) (command : Command)
    → numbered client seq (commands ++ command ∷ []) ≡ numbered client seq commands ++ entry_of client (seq + length commands) command ∷
    []
numbered-push client seq [] command =
    let same : seq ≡ seq + 0 = omega arith in
    ap (λ n. entry_of client n command ∷ []) same
numbered-push client seq (c ∷ cs) command =
    let tail = numbered-push client (seq + 1) cs command in
    let number : seq + 1 + length cs ≡ seq + length (c ∷ cs) = omega arith in
    ap (λ l. entry_of client seq c ∷ l) (tail ∙ ap (λ n. numbered client (seq + 1) cs ++ entry_of client n command ∷ []) number)

-- as many entries as commands
pub length-numbered : (client : ClientId) (seq : ℕ) (commands : List Command) → length (numbered client seq commands) ≡ length commands
length-numbered client seq [] = refl
length-numbered client seq (c ∷ cs) = omega (arith, length-numbered client (seq + 1) cs)

-- what stands in a list stands in a longer one
pub within_longer : (entries list more : List Entry) → AreWithin entries list → AreWithin entries (list ++ more)
within_longer [] list more within = tt
within_longer (e ∷ es) [] more within = absurd within
within_longer (e ∷ es) (x ∷ xs) more (inl here) = inl (here.0, within_longer es xs more here.1)
within_longer (e ∷ es) (x ∷ xs) more (inr later) = inr (within_longer (e ∷ es) xs more later)

-- an entry stands in a list that ends with it
within_last : (before : List Entry) (entry : Entry) → AreWithin (entry ∷ []) (before ++ entry ∷ [])
within_last [] entry = inl (refl, tt)
within_last (x ∷ xs) entry = inr (within_last xs entry)

-- and so does what stands before it
pub within_push : (entries list : List Entry) (entry : Entry) → AreWithin entries list
    → AreWithin (entries ++ entry ∷ []) (list ++ entry ∷ [])
within_push [] list entry within = within_last list entry
within_push (e ∷ es) [] entry within = absurd within
within_push (e ∷ es) (x ∷ xs) entry (inl here) = inl (here.0, within_push es xs entry here.1)
within_push (e ∷ es) (x ∷ xs) entry (inr later) = inr (within_push (e ∷ es) xs entry later)

-- what stands in a list has no more entries
pub within_few : (entries list : List Entry) → AreWithin entries list → length entries ≤ length list
within_few [] list within = omega arith
within_few (e ∷ es) [] within = absurd within
within_few (e ∷ es) (x ∷ xs) (inl here) = let few = within_few es xs here.1 in omega (arith, few)
within_few (e ∷ es) (x ∷ xs) (inr later) = let few = within_few (e ∷ es) xs later in omega (arith, few)

-- and where it has as many it is the list
pub within_whole : (entries list : List Entry) → AreWithin entries list → length list ≤ length entries → list ≡ entries
within_whole [] [] within short = refl
within_whole [] (x ∷ xs) within short = absurd (omega (arith, short))
within_whole (e ∷ es) [] within short = absurd within
within_whole (e ∷ es) (x ∷ xs) (inl here) short =
    ap (λ y. y ∷ xs) (sym here.0) ∙ ap (λ ys. e ∷ ys) (within_whole es xs here.1 (omega (arith, short)))
within_whole (e ∷ es) (x ∷ xs) (inr later) short =
    absurd (let few = within_few (e ∷ es) xs later in omega (arith, few, short))

-- the client's entries that stand in a list stand among those of the client
pub within_own : (client : ClientId) (seq : ℕ) (commands : List Command) (list : List Entry)
    → AreWithin (numbered client seq commands) list → AreWithin (numbered client seq commands) (entries_of client list)
within_own client seq [] list within = tt
within_own client seq (c ∷ cs) [] within = absurd within
within_own client seq (c ∷ cs) (x ∷ xs) (inl here) =
    let own : (x.client.0 == client.0) ≡ true = subst (λ (e : Entry). (e.client.0 == client.0) ≡ true) here.0
    (eq-eqb client.0 client.0 refl) in
    rw own (inl (here.0, within_own client (seq + 1) cs xs here.1))
within_own client seq (c ∷ cs) (x ∷ xs) (inr later) = by_test (within_own client seq (c ∷ cs) xs later) (x.client.0 == client.0) refl
  where
    by_test : AreWithin (numbered client seq (c ∷ cs)) (entries_of client xs) → (test : Bool) → (x.client.0 == client.0) ≡ test
        → AreWithin (numbered client seq (c ∷ cs)) (entries_of client (x ∷ xs))
    by_test rest true is = rw is (inr rest)
    by_test rest false is = rw is rest

-- what stands in the beginning of a history stands in it
pub at_least_longer : (client : ClientId) (made : ℕ) (old new : List Entry) → IsPrefix old new → HasAtLeast client made old
    → HasAtLeast client made new
at_least_longer client made old new front has =
    record {
      commands = has.commands;
      many = has.many;
      within = subst (λ l. AreWithin (numbered client 1 has.commands) l) (sym front.is)
          (within_longer (numbered client 1 has.commands) old front.more has.within);
    }

-- one command more
pub at_least_push : (client : ClientId) (made : ℕ) (before : List Entry) (command : Command) → HasAtLeast client made before
    → HasAtLeast client (made + 1) (before ++ entry_of client (made + 1) command ∷ [])
at_least_push client made before command has =
    let number : 1 + length has.commands ≡ made + 1 = omega (arith, has.many) in
    let entries : numbered client 1 (has.commands ++ command ∷ []) ≡ numbered client 1 has.commands ++ entry_of client (made + 1) command
    ∷ [] = numbered-push client 1 has.commands command ∙ ap (λ n. numbered client 1 has.commands ++ entry_of client n command ∷ [])
    number in
    record {
      commands = has.commands ++ command ∷ [];
      many = omega (arith, length_push has.commands command, has.many);
      within = subst (λ l. AreWithin l (before ++ entry_of client (made + 1) command ∷ [])) (sym entries)
          (within_push (numbered client 1 has.commands) before (entry_of client (made + 1) command) has.within);
    }

-- at least so many, and no more: just so many
pub just_of : (client : ClientId) (made : ℕ) (history : List Entry) → HasAtLeast client made history
    → length (entries_of client history) ≤ made → HasJust client made history
just_of client made history has few =
    record {
      commands = has.commands;
      many = has.many;
      own = within_whole (numbered client 1 has.commands) (entries_of client history)
          (within_own client 1 has.commands history has.within) (omega (arith, few, has.many, length-numbered client 1 has.commands));
    }

-- at least so many entries
pub at_least_many : (client : ClientId) (made : ℕ) (history : List Entry) → HasAtLeast client made history
    → made ≤ length (entries_of client history)
at_least_many client made history has =
    let few = within_few (numbered client 1 has.commands) (entries_of client history)
    (within_own client 1 has.commands history has.within) in
    omega (arith, few, has.many, length-numbered client 1 has.commands)
