-- What a client remembers is true, and so is what is told of it.
use Rattle.std.proofs.Common.{◌≡◌, ℕ, ◌≤◌, Bool, true, false, cond, not, eqb, leb, List, [], ◌∷◌, length, take, refl, sym, ap, ◌∙◌, subst, arith, inl, inr}
use Rattle.std.specs.Prelude.{Option, None, Some, min, max, find, All}
use Rattle.std.proofs.Math.Bool.{and_comm}
use Rattle.std.proofs.lemmas.Bool.{eqb-true, eq-eqb, ne_eqb, cases_eq, leb-true, leb-false, and_parts, false≢true}
use Rattle.std.proofs.lemmas.Option.{none-some, same_Some}
use Rattle.std.proofs.lemmas.List.Elements.{All-nil, All-cons, All-head, All-tail, All-take, All-filter, All-weaker}
use Rattle.kr_order.specs.declared.ids.EventId.{EventId}
use Rattle.kr_order.specs.declared.answer.Answer.{Answer}
use Rattle.kr_order.specs.declared.answer.Answer.TheVariants.{Before, After, Same, Concurrent, Unknown, Unsure}
use Rattle.kr_order.specs.declared.answer.ToldPart.{ToldPart}
use Rattle.kr_order.specs.declared.history.Entry.{Entry}
use Rattle.kr_order.specs.Order.{reach}
use Rattle.kr_order.specs.Agreed.{is_live, both_live, agreed_of}
use Rattle.kr_order.specs.Pairs.{pairs_of}
use Rattle.kr_order.specs.Answer.{answer_to}
use Rattle.kr_order.proofs.OrderLemmas.{never_back}
use Rattle.kr_order.proofs.PairsLemmas.{order_acyclic}
use Rattle.kr_protocol.specs.Cache.{CacheItem, mirror, is_lasting, is_of, finds, others, seen_from, looks_at, item_of, remembers}
use Rattle.kr_protocol.specs.Client.{Looked, cached_part, looked_first, looks_all}
use Rattle.kr_world.specs.Lawful.{IsCurrent}
use Rattle.kr_world.specs.Facts.{IsToldPart, IsTrueItem}

-- an answer the other way round, where of two events not both are before the other
mirrored : (live same ab ba : Bool) → (ab ≡ true → ba ≡ false)
    → cond live (cond same Same (cond ba Before (cond ab After Concurrent))) Unknown ≡ mirror (cond live (cond same Same (cond ab Before (cond ba After Concurrent))) Unknown)
mirrored false same ab ba one = refl
mirrored true true ab ba one = refl
mirrored true false true ba one = ap (λ b. cond b Before After) (one refl)
mirrored true false false true one = refl
mirrored true false false false one = refl

eqb_mirror : (a b : ℕ) → eqb b a ≡ eqb a b
eqb_mirror a b =
    elim (cases_eq a b) [
      | inl same ↦ eq-eqb b a (sym same) ∙ sym (eq-eqb a b same)
      | inr other ↦ ne_eqb b a (λ is. other (sym is)) ∙ sym (ne_eqb a b other)
    ]

-- the answer to two events, the other way round
answer_mirror : (history : List Entry) (a b : ℕ) → answer_to history b a ≡ mirror (answer_to history a b)
answer_mirror history a b =
    let agreed = agreed_of history in
    let pairs = pairs_of history in
    let live : both_live agreed b a ≡ both_live agreed a b = and_comm (is_live agreed b) (is_live agreed a) in
    let turned : answer_to history b a ≡ cond (both_live agreed a b) (cond (eqb a b) Same (cond (reach pairs b a) Before (cond (reach pairs a b) After Concurrent))) Unknown =
    ap (λ l. cond l (cond (eqb b a) Same (cond (reach pairs b a) Before (cond (reach pairs a b) After Concurrent))) Unknown) live ∙ ap (λ s. cond (both_live agreed a b) (cond s Same (cond (reach pairs b a) Before (cond (reach pairs a b) After Concurrent))) Unknown) (eqb_mirror a b) in
    turned ∙ mirrored (both_live agreed a b) (eqb a b) (reach pairs a b) (reach pairs b a) (never_back pairs a b (order_acyclic history))

-- two events stand in an item in their order, or the other way round
lesser_first : (P : ℕ → ℕ → Bool → Type 0) (a b : ℕ) → P a b true → P b a false → P (min a b) (max a b) (leb a b)
lesser_first P a b own turned = by_test (leb a b) refl
  where
    by_test : (test : Bool) → leb a b ≡ test → P (min a b) (max a b) (leb a b)
    by_test true is =
        let le = leb-true a b is in
        let first : a ≡ min a b = omega arith in
        let second : b ≡ max a b = omega arith in
        subst (λ t. P (min a b) (max a b) t) (sym is) (subst (λ x. P x (max a b) true) first (subst (λ y. P a y true) second own))
    by_test false is =
        let gt = leb-false a b is in
        let first : b ≡ min a b = omega arith in
        let second : a ≡ max a b = omega arith in
        subst (λ t. P (min a b) (max a b) t) (sym is) (subst (λ x. P x (max a b) false) first (subst (λ y. P b y false) second turned))

-- the answer to the pair that an item has, seen from two events
seen_answer : (history : List Entry) (a b : ℕ) → seen_from a b (answer_to history (min a b) (max a b)) ≡ answer_to history a b
seen_answer history a b =
    lesser_first (λ x y test. cond test (answer_to history x y) (mirror (answer_to history x y)) ≡ answer_to history a b) a b refl (sym (answer_mirror history b a))

-- and the other way
item_answer : (history : List Entry) (a b : ℕ) → seen_from a b (answer_to history a b) ≡ answer_to history (min a b) (max a b)
item_answer history a b =
    lesser_first (λ x y test. cond test (answer_to history a b) (mirror (answer_to history a b)) ≡ answer_to history x y) a b refl (sym (answer_mirror history a b))

mirror_lasts : (a b : ℕ) (answer : Answer) → is_lasting a b answer ≡ true → is_lasting b a (mirror answer) ≡ true
mirror_lasts a b Before lasts = ap not (eqb_mirror a b) ∙ lasts
mirror_lasts a b After lasts = ap not (eqb_mirror a b) ∙ lasts
mirror_lasts a b Same lasts = eqb_mirror a b ∙ lasts
mirror_lasts a b Concurrent lasts = lasts
mirror_lasts a b Unknown lasts = lasts
mirror_lasts a b Unsure lasts = lasts

-- what can never change is put into the cache, where it is true
item_true : (history : List Entry) (seen a b : ℕ) (answer : Answer) (entry : ℕ) → entry ≤ seen
    → answer ≡ answer_to (take entry history) a b → is_lasting a b answer ≡ true
    → IsTrueItem history seen (item_of a b answer entry)
item_true history seen a b answer entry within is lasts =
    record {
      within = within;
      answer = ap (seen_from a b) is ∙ item_answer (take entry history) a b;
      lasts = lesser_first (λ x y test. is_lasting x y (cond test answer (mirror answer)) ≡ true) a b lasts (mirror_lasts a b answer lasts);
    }

pub remembers_true : (history : List Entry) (seen capacity : ℕ) (cache : List CacheItem) (a b : ℕ) (answer : Answer) (entry : ℕ)
    → entry ≤ seen → answer ≡ answer_to (take entry history) a b → is_lasting a b answer ≡ true
    → All (IsTrueItem history seen) cache
    → All (IsTrueItem history seen) (remembers capacity cache a b answer entry)
remembers_true history seen capacity cache a b answer entry within is lasts known =
    let True = IsTrueItem history seen in
    let item = item_of a b answer entry in
    All-take True capacity (item ∷ others cache a b) (All-cons True item (others cache a b) (item_true history seen a b answer entry within is lasts) (All-filter (λ i. not (is_of a b i)) True cache known))

-- more has been seen
pub items_seen : (history : List Entry) (seen more : ℕ) (cache : List CacheItem) → seen ≤ more → All (IsTrueItem history seen) cache
    → All (IsTrueItem history more) cache
items_seen history seen more cache le known =
    All-weaker (IsTrueItem history seen) (IsTrueItem history more) (λ item was. let within = was.within in record { within = omega arith; answer = was.answer; lasts = was.lasts }) cache known

-- what is found passes the test, and what holds of all holds of it
record IsFound {X : Type 0} (p : X → Bool) (P : X → Type 0) (x : X) : Type 0 where
  passes : p x ≡ true
  holds : P x

found : {X : Type 0} (p : X → Bool) (P : X → Type 0) (xs : List X) (x : X) → All P xs → find p xs ≡ Some x → IsFound p P x
found p P [] x all is = absurd (none-some x is)
found p P (y ∷ ys) x all is = by_test (p y) refl is (found p P ys x (All-tail P y ys all))
  where
    by_test : (test : Bool) → p y ≡ test → cond test (Some y) (find p ys) ≡ Some x → (find p ys ≡ Some x → IsFound p P x) → IsFound p P x
    by_test true passes is rest =
        let same = same_Some y x is in record { passes = ap p (sym same) ∙ passes; holds = subst P same (All-head P y ys all) }
    by_test false fails is rest = rest is

-- what can never change is current
lasting_current : (seen : ℕ) (part : ToldPart) (a b : ℕ) (answer : Answer) → is_lasting a b answer ≡ true → IsCurrent seen part answer
lasting_current seen part a b Before lasts = tt
lasting_current seen part a b After lasts = tt
lasting_current seen part a b Same lasts = tt
lasting_current seen part a b Concurrent lasts = absurd (false≢true lasts)
lasting_current seen part a b Unknown lasts = absurd (false≢true lasts)
lasting_current seen part a b Unsure lasts = absurd (false≢true lasts)

-- what an item of the pair tells of it
told_of : (history : List Entry) (now seen q : ℕ) (pair : EventId × EventId) (item : CacheItem) → seen ≤ length history
    → is_of pair.0.0 pair.1.0 item ≡ true → IsTrueItem history seen item
    → IsToldPart history now (cached_part q pair (record { answer = seen_from pair.0.0 pair.1.0 item.answer; entry = item.entry }))
told_of history now seen q pair item within is known =
    let a = pair.0.0 in
    let b = pair.1.0 in
    let le = known.within in
    let sides = and_parts (eqb (min a b) item.first) (eqb (max a b) item.second) is in
    let first = eqb-true (min a b) item.first sides.0 in
    let second = eqb-true (max a b) item.second sides.1 in
    let answer : item.answer ≡ answer_to (take item.entry history) (min a b) (max a b) =
    known.answer ∙ ap (λ x. answer_to (take item.entry history) x item.second) (sym first) ∙ ap (λ y. answer_to (take item.entry history) (min a b) y) (sym second) in
    let lasts : is_lasting (min a b) (max a b) item.answer ≡ true =
    ap (λ x. is_lasting x (max a b) item.answer) first ∙ ap (λ y. is_lasting item.first y item.answer) second ∙ known.lasts in
    record {
      within = omega arith;
      answer = ap (seen_from a b) answer ∙ seen_answer (take item.entry history) a b;
      current = by_test (leb a b) lasts;
    }
  where
    part : ToldPart
    part = cached_part q pair (record { answer = seen_from pair.0.0 pair.1.0 item.answer; entry = item.entry })

    by_test : (test : Bool) → is_lasting (min pair.0.0 pair.1.0) (max pair.0.0 pair.1.0) item.answer ≡ true
        → IsCurrent now part (cond test item.answer (mirror item.answer))
    by_test true lasts = lasting_current now part (min pair.0.0 pair.1.0) (max pair.0.0 pair.1.0) item.answer lasts
    by_test false lasts = lasting_current now part (max pair.0.0 pair.1.0) (min pair.0.0 pair.1.0) (mirror item.answer) (mirror_lasts (min pair.0.0 pair.1.0) (max pair.0.0 pair.1.0) item.answer lasts)

-- what is told of pairs that were looked up is true, and so is the cache then
pub record IsLookedTrue (history : List Entry) (now seen : ℕ) (looked : Looked) : Type 0 where
  pub parts : All (IsToldPart history now) looked.parts
  pub cache : All (IsTrueItem history seen) looked.cache

looked_true : (history : List Entry) (now seen q : ℕ) (cache : List CacheItem) (pair : EventId × EventId) (pairs : List (EventId × EventId))
    → seen ≤ length history
    → ((cache : List CacheItem) → All (IsTrueItem history seen) cache → IsLookedTrue history now seen (looks_all q cache pairs))
    → All (IsTrueItem history seen) cache
    → IsLookedTrue history now seen (looks_all q cache (pair ∷ pairs))
looked_true history now seen q cache pair pairs within rest known = by_found (finds cache pair.0.0 pair.1.0) refl
  where
    a : ℕ
    a = pair.0.0

    b : ℕ
    b = pair.1.0

    by_found : (item : Option CacheItem) → finds cache a b ≡ item
        → (let look = looks_at cache a b item in IsLookedTrue history now seen (looked_first q pair look.told (looks_all q look.after pairs)))
    by_found None is = let more = rest cache known in record { parts = more.parts; cache = more.cache }
    by_found (Some item) is =
        let True = IsTrueItem history seen in
        let hit = found (is_of a b) True cache item known is in
        let used = item ∷ others cache a b in
        let more = rest used (All-cons True item (others cache a b) hit.holds (All-filter (λ i. not (is_of a b i)) True cache known)) in
        record {
          parts = All-cons (IsToldPart history now) _ _ (told_of history now seen q pair item within hit.passes hit.holds) more.parts;
          cache = more.cache;
        }

pub looks_true : (history : List Entry) (now seen q : ℕ) (cache : List CacheItem) (pairs : List (EventId × EventId))
    → seen ≤ length history → All (IsTrueItem history seen) cache → IsLookedTrue history now seen (looks_all q cache pairs)
looks_true history now seen q cache [] within known = record { parts = All-nil (IsToldPart history now); cache = known }
looks_true history now seen q cache (pair ∷ pairs) within known =
    looked_true history now seen q cache pair pairs within (λ later true_then. looks_true history now seen q later pairs within true_then) known
