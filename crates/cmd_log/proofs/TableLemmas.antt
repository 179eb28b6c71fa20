-- How the table grows with a log.
use Rattle.std.proofs.Common.{◌≡◌, ℕ, Bool, true, false, cond, eqb, List, [], ◌∷◌, ◌++◌, ◌<◌, ◌≤◌, ◌-◌, ◌^◌, length, length-append, max, refl, ap, ◌∙◌, arith}
use Rattle.std.specs.Prelude.{nat_eq, Some, unwrap_or}
use Rattle.std.specs.declared.hash.FoldHasher.{FoldHasher}
use Rattle.std.specs.declared.hash.BuildHasherDefault.{BuildHasherDefault}
use Rattle.std.specs.HashMap.{get, HashMap, Updates}
use Rattle.std.proofs.lemmas.Bool.{eqb-true}
use Rattle.kr_order.specs.declared.ids.ClientId.{ClientId}
use Rattle.kr_order.specs.declared.history.Entry.{Entry}
use Rattle.kr_order.specs.History.{highest_seq}
use Rattle.cmd_log.specs.Table.{seq_for, IsTabled, IsTold}

-- two parts of a log
pub highest_seq-append : (client : ClientId) (xs ys : List Entry) → highest_seq client (xs ++ ys) ≡ max (highest_seq client xs) (highest_seq client ys)
highest_seq-append client [] ys = omega arith
highest_seq-append client (first ∷ xs) ys = omega (arith, highest_seq-append client xs ys)

-- the table of one more entry
pub IsTabled-push : (log : List Entry) (old new : HashMap ℕ ℕ (BuildHasherDefault FoldHasher)) (entry : Entry) (highest : ℕ) → length log < 2 ^ 58 → IsTabled log old → highest ≡ max (highest_seq entry.client log) entry.seq → Updates nat_eq old new entry.client.0 (Some highest) → IsTabled (log ++ entry ∷ []) new
IsTabled-push log old new entry highest room was is updates =
    record {
      found = λ client.
          let changed : get nat_eq new client ≡ cond (eqb entry.client.0 client) (Some highest) (get nat_eq old client) = updates.0 client in
          ap (λ o. unwrap_or o 0) changed ∙ by_test client (eqb entry.client.0 client) refl ∙ omega (arith, highest_seq-append (record { 0 = client }) log (entry ∷ []));
      few = omega (arith, length-append log (entry ∷ []));
    }
  where
    by_test : (client : ℕ) (test : Bool) → eqb entry.client.0 client ≡ test → unwrap_or (cond test (Some highest) (get nat_eq old client)) 0 ≡ max (highest_seq (record { 0 = client }) log) (cond test entry.seq 0)
    by_test client true same = is ∙ ap (λ k. max (highest_seq (record { 0 = k }) log) entry.seq) (eqb-true entry.client.0 client same)
    by_test client false other = omega (arith, was.found client)

-- a table that is told of two parts, one after the other
pub IsTold-append : (xs ys : List Entry) (old mid new : HashMap ℕ ℕ (BuildHasherDefault FoldHasher)) → IsTold xs old mid → IsTold ys mid new → IsTold (xs ++ ys) old new
IsTold-append xs ys old mid new one two client =
    omega (arith, one client, two client, highest_seq-append (record { 0 = client }) xs ys)

-- the table of a log with more entries, once it is told of these
pub IsTabled-told : (log entries : List Entry) (old mid new : HashMap ℕ ℕ (BuildHasherDefault FoldHasher)) → IsTabled log old → ((client : ℕ) → get nat_eq mid client ≡ get nat_eq old client) → IsTold entries mid new → length entries ≤ 2 ^ 58 - length log → IsTabled (log ++ entries) new
IsTabled-told log entries old mid new was same told room =
    record {
      found = λ client.
          let before : seq_for mid client ≡ highest_seq (record { 0 = client }) log = ap (λ o. unwrap_or o 0) (same client) ∙ was.found client in
          omega (arith, told client, before, highest_seq-append (record { 0 = client }) log entries);
      few = omega (arith, length-append log entries, was.few);
    }
