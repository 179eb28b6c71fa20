-- How many entries a log has of clients that have few each.
use Rattle.std.proofs.Common.{Bool, List, [], ap, arith, cond, eqb, false, length, not, refl, suc, sym, true, zero, ℕ, ◌+◌, ◌∙◌, ◌∷◌, ◌≡◌, ◌≢◌, ◌≤◌}
use Rattle.std.specs.Prelude.{All, filter}
use Rattle.std.proofs.lemmas.Bool.{eq-eqb, false≢true}
use Rattle.std.proofs.lemmas.List.Elements.{All-cons, All-head, All-nil, All-tail}
use Rattle.kr_order.specs.declared.history.Entry.{Entry}
use Rattle.kr_order.specs.declared.ids.ClientId.{ClientId}
use Rattle.kr_world.specs.Lawful.{entries_of}

-- the entry is of another client than this
abbrev not_of : ℕ → Entry → Bool
not_of n entry = not (eqb entry.client.0 n)

abbrev client_id : ℕ → ClientId
client_id n = record { 0 = n }

-- those of a client, and the others
split_off : (n : ℕ) (entries : List Entry) → length entries ≡ length (entries_of (client_id n) entries) + length (filter (not_of n) entries)
split_off n [] = refl
split_off n (entry ∷ entries) = by_test (eqb entry.client.0 n) (split_off n entries)
  where
    by_test : (own : Bool) → length entries ≡ length (entries_of (client_id n) entries) + length (filter (not_of n) entries)
        → length (entry ∷ entries) ≡ length (cond own (entry ∷ entries_of (client_id n) entries) (entries_of (client_id n) entries)) + length (cond (not own) (entry ∷ filter (not_of n) entries) (filter (not_of n) entries))
    by_test true known = omega arith
    by_test false known = omega arith

-- without those of one client another has no more
without : (n m : ℕ) (entries : List Entry) → length (entries_of (client_id m) (filter (not_of n) entries)) ≤ length (entries_of (client_id m) entries)
without n m [] = omega arith
without n m (entry ∷ entries) = by_tests (eqb entry.client.0 n) (eqb entry.client.0 m) refl (without n m entries)
  where
    rest : List Entry
    rest = filter (not_of n) entries

    by_tests : (own other : Bool) → eqb entry.client.0 m ≡ other → length (entries_of (client_id m) rest) ≤ length (entries_of (client_id m) entries)
        → length (entries_of (client_id m) (cond (not own) (entry ∷ rest) rest)) ≤ length (cond other (entry ∷ entries_of (client_id m) entries) (entries_of (client_id m) entries))
    by_tests true true is known = omega arith
    by_tests true false is known = known
    by_tests false true is known = omega (arith, ap (λ b. length (cond b (entry ∷ entries_of (client_id m) rest) (entries_of (client_id m) rest))) is)
    by_tests false false is known = omega (arith, ap (λ b. length (cond b (entry ∷ entries_of (client_id m) rest) (entries_of (client_id m) rest))) is)

-- the clients of entries that remain are of those numbers that do
smaller : (n : ℕ) (entries : List Entry) → All (λ entry. (1 ≤ entry.client.0) × (entry.client.0 ≤ suc n)) entries → All (λ entry. (1 ≤ entry.client.0) × (entry.client.0 ≤ n)) (filter (not_of (suc n)) entries)
smaller n [] all = All-nil (λ (entry : Entry). (1 ≤ entry.client.0) × (entry.client.0 ≤ n))
smaller n (entry ∷ entries) all =
    by_test (eqb entry.client.0 (suc n)) refl (All-head (λ (e : Entry). (1 ≤ e.client.0) × (e.client.0 ≤ suc n)) entry entries all) (smaller n entries (All-tail (λ (e : Entry). (1 ≤ e.client.0) × (e.client.0 ≤ suc n)) entry entries all))
  where
    Small : Entry → Type 0
    Small e = (1 ≤ e.client.0) × (e.client.0 ≤ n)

    by_test : (own : Bool) → eqb entry.client.0 (suc n) ≡ own → (1 ≤ entry.client.0) × (entry.client.0 ≤ suc n) → All (λ (e : Entry). (1 ≤ e.client.0) × (e.client.0 ≤ n)) (filter (not_of (suc n)) entries)
        → All (λ (e : Entry). (1 ≤ e.client.0) × (e.client.0 ≤ n)) (cond (not own) (entry ∷ filter (not_of (suc n)) entries) (filter (not_of (suc n)) entries))
    by_test true is both rest = rest
    by_test false is both rest =
        let other : entry.client.0 ≢ suc n = λ same. false≢true (sym is ∙ eq-eqb entry.client.0 (suc n) same) in
        let low = both.0 in
        let high = both.1 in
        All-cons (λ (e : Entry). (1 ≤ e.client.0) × (e.client.0 ≤ n)) entry (filter (not_of (suc n)) entries) (low, omega arith) rest

-- entries of so many clients, of which each has one at the most, are no more
pub few_entries : (n : ℕ) (entries : List Entry) → All (λ entry. (1 ≤ entry.client.0) × (entry.client.0 ≤ n)) entries → ((m : ℕ) → 1 ≤ m → m ≤ n → length (entries_of (record { 0 = m }) entries) ≤ 1) → length entries ≤ n
few_entries zero [] all each = omega arith
few_entries zero (entry ∷ entries) all each =
    let both = All-head (λ (e : Entry). (1 ≤ e.client.0) × (e.client.0 ≤ 0)) entry entries all in
    let low = both.0 in
    let high = both.1 in
    absurd (omega arith)
few_entries (suc n) entries all each =
    let rest = filter (not_of (suc n)) entries in
    let fewer = few_entries n rest (smaller n entries all) (λ m low high. let one = each m low (omega arith) in omega (arith, without (suc n) m entries)) in
    let one = each (suc n) (omega arith) (omega arith) in
    omega (arith, split_off (suc n) entries)
