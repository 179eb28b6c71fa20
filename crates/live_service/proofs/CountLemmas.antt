-- Where the passes were answered as many commands as a history has entries, it has those of each and no others.
use Rattle.std.proofs.Common.{◌≡◌, ◌≢◌, ◌+◌, ◌≤◌, ◌==◌, Bool, true, false, not, List, [], ◌∷◌, length, refl, sym, ap, ◌∙◌, arith}
use Rattle.std.specs.Prelude.{filter, All}
use Rattle.std.proofs.lemmas.Bool.{eqb-true}
use Rattle.std.proofs.lemmas.List.{nil_from_length}
use Rattle.std.proofs.lemmas.List.Filters.{length-filter_both}
use Rattle.std.proofs.lemmas.List.Sums.{sum_by-cons}
use Rattle.std.proofs.lemmas.List.Elements.{All-nil, All-cons, All-head, All-tail}
use Rattle.kr_order.specs.declared.ids.ClientId.{ClientId}
use Rattle.kr_order.specs.declared.history.Entry.{Entry}
use Rattle.live_service.specs.Views.{PassView}
use Rattle.live_service.specs.Own.{entries_of}
use Rattle.live_service.specs.Close.{IsApart, AreApart, IsKept, IsClosed, IsHistory, made_by_all}
use Rattle.live_service.proofs.OwnLemmas.{just_of, at_least_many}

-- the entries of all other clients
abbrev others_of : ClientId → List Entry → List Entry
others_of client history = filter (λ entry. not (entry.client.0 == client.0)) history

-- among them stand all those of another client
own-others : (client other : ClientId) → other.0 ≢ client.0 → (history : List Entry)
    → entries_of other (others_of client history) ≡ entries_of other history
own-others client other apart [] = refl
own-others client other apart (e ∷ es) = by_test (own-others client other apart es) (e.client.0 == client.0) refl
  where
    Tail : Type 0
    Tail = entries_of other (others_of client es) ≡ entries_of other es

    keep : Tail → (test : Bool) → (e.client.0 == other.0) ≡ test → entries_of other (e ∷ others_of client es) ≡ entries_of other (e ∷ es)
    keep tail true is = rw is (ap (λ l. e ∷ l) tail)
    keep tail false is = rw is tail

    skip : Tail → (test : Bool) → (e.client.0 == client.0) ≡ true → (e.client.0 == other.0) ≡ test
        → entries_of other (others_of client es) ≡ entries_of other (e ∷ es)
    skip tail true of_client is = absurd (apart (sym (eqb-true e.client.0 other.0 is) ∙ eqb-true e.client.0 client.0 of_client))
    skip tail false of_client is = rw is tail

    by_test : Tail → (test : Bool) → (e.client.0 == client.0) ≡ test
        → entries_of other (others_of client (e ∷ es)) ≡ entries_of other (e ∷ es)
    by_test tail true is = rw is (skip tail (e.client.0 == other.0) is refl)
    by_test tail false is = rw is (keep tail (e.client.0 == other.0) refl)

-- the client's entries and all others are the history
own_and_others : (client : ClientId) (history : List Entry)
    → length (entries_of client history) + length (others_of client history) ≡ length history
own_and_others client history = length-filter_both (λ (e : Entry). e.client.0 == client.0) (λ (e : Entry). not (e.client.0 == client.0))
    (λ e. refl) history

-- the history has at least, or at most, as many entries of the client as its pass was answered commands
abbrev HasMany : List Entry → PassView → Type 0
HasMany history pass = pass.made ≤ length (entries_of pass.client history)

abbrev HasFew : List Entry → PassView → Type 0
HasFew history pass = length (entries_of pass.client history) ≤ pass.made

many_in_others : (client : ClientId) (history : List Entry) (passes : List PassView) → All (IsApart client) passes
    → All (HasMany history) passes → All (HasMany (others_of client history)) passes
many_in_others client history [] apart many = All-nil (HasMany (others_of client history))
many_in_others client history (p ∷ ps) apart many =
    All-cons (HasMany (others_of client history)) p ps (rw (own-others client p.client (All-head (IsApart client) p ps apart) history)
    (All-head (HasMany history) p ps many)) (many_in_others client history ps (All-tail (IsApart client) p ps apart)
    (All-tail (HasMany history) p ps many))

few_with_others : (client : ClientId) (history : List Entry) (passes : List PassView) → All (IsApart client) passes
    → All (HasFew (others_of client history)) passes → All (HasFew history) passes
few_with_others client history [] apart few = All-nil (HasFew history)
few_with_others client history (p ∷ ps) apart few =
    All-cons (HasFew history) p ps (rw (← own-others client p.client (All-head (IsApart client) p ps apart) history)
    (All-head (HasFew (others_of client history)) p ps few)) (few_with_others client history ps (All-tail (IsApart client) p ps apart)
    (All-tail (HasFew (others_of client history)) p ps few))

-- one pass and the others
made_by_all-cons : (p : PassView) (ps : List PassView) → made_by_all (p ∷ ps) ≡ p.made + made_by_all ps
made_by_all-cons p ps = sum_by-cons (λ (pass : PassView). pass.made) p ps

-- the passes were answered no more commands than there are entries
made_fits : (passes : List PassView) (history : List Entry) → AreApart passes → All (HasMany history) passes
    → made_by_all passes ≤ length history
made_fits [] history apart many = omega arith
made_fits (p ∷ ps) history apart many =
    let rest = made_fits ps (others_of p.client history) apart.1 (many_in_others p.client history ps apart.0
    (All-tail (HasMany history) p ps many)) in
    let own : p.made ≤ length (entries_of p.client history) = All-head (HasMany history) p ps many in
    omega (arith, rest, own, own_and_others p.client history, made_by_all-cons p ps)

-- where they were answered as many, there are no more of any client
pub record AreExact (passes : List PassView) (history : List Entry) : Type 0 where
  pub few : All (HasFew history) passes
  pub others : (client : ClientId) → All (IsApart client) passes → entries_of client history ≡ []

exact : (passes : List PassView) (history : List Entry) → AreApart passes → All (HasMany history) passes
    → length history ≤ made_by_all passes → AreExact passes history
exact [] history apart many short =
    let none : history ≡ [] = nil_from_length history (omega (arith, short)) in
    record { few = All-nil (HasFew history); others = λ client _. ap (entries_of client) none }
exact (p ∷ ps) history apart many short =
    let rest : List Entry = others_of p.client history in
    let own : p.made ≤ length (entries_of p.client history) = All-head (HasMany history) p ps many in
    let many_rest = many_in_others p.client history ps apart.0 (All-tail (HasMany history) p ps many) in
    let whole = own_and_others p.client history in
    let fits = made_fits ps rest apart.1 many_rest in
    let all = made_by_all-cons p ps in
    let tail = exact ps rest apart.1 many_rest (omega (arith, own, whole, short, all)) in
    record {
      few = All-cons (HasFew history) p ps (omega (arith, whole, short, fits, all)) (few_with_others p.client history ps apart.0 tail.few);
      others = λ client all.
          let p_apart : p.client.0 ≢ client.0 = All-head (IsApart client) p ps all in
          sym (own-others p.client client (λ same. p_apart (sym same)) history) ∙ tail.others client (All-tail (IsApart client) p ps all);
    }

all_many : (passes : List PassView) (history : List Entry) → All (IsKept history) passes → All (HasMany history) passes
all_many [] history kept = All-nil (HasMany history)
all_many (p ∷ ps) history kept =
    All-cons (HasMany history) p ps (at_least_many p.client p.made history (All-head (IsKept history) p ps kept).own)
    (all_many ps history (All-tail (IsKept history) p ps kept))

all_closed : (passes : List PassView) (history : List Entry) → All (IsKept history) passes → All (HasFew history) passes
    → All (IsClosed history) passes
all_closed [] history kept few = All-nil (IsClosed history)
all_closed (p ∷ ps) history kept few =
    let one = All-head (IsKept history) p ps kept in
    All-cons (IsClosed history) p ps (record {
      known = one.known;
      own = just_of p.client p.made history one.own
          (All-head (HasFew history) p ps few);
    }) (all_closed ps history (All-tail (IsKept history) p ps kept)
    (All-tail (HasFew history) p ps few))

-- a history that has the commands of all passes, and as many entries, is that of the service
pub closes : (passes : List PassView) (history : List Entry) → AreApart passes → All (IsKept history) passes
    → length history ≡ made_by_all passes → IsHistory passes history
closes passes history apart kept many =
    let all = exact passes history apart (all_many passes history kept) (omega (arith, many)) in
    record { each = all_closed passes history kept all.few; others = all.others; many = many }
