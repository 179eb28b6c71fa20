-- What a client is told of answers, and remembers of them.
use Rattle.std.proofs.Common.{◌≡◌, ◌⊎◌, ℕ, ◌≤◌, Bool, true, false, cond, eqb, List, [], ◌∷◌, length, map, take, refl, sym, ap, ◌∙◌, subst, inl, inr}
use Rattle.std.specs.Prelude.{All}
use Rattle.std.proofs.lemmas.Bool.{eqb-true, and_parts, false≢true}
use Rattle.std.proofs.lemmas.List.Elements.{All-nil, All-cons}
use Rattle.kr_order.specs.declared.ids.EventId.{EventId}
use Rattle.kr_order.specs.declared.answer.Answer.{Answer}
use Rattle.kr_order.specs.declared.answer.Answer.TheVariants.{Before, After, Same, Concurrent, Unknown, Unsure}
use Rattle.kr_order.specs.declared.answer.Teller.{Teller}
use Rattle.kr_order.specs.declared.answer.ToldPart.{ToldPart}
use Rattle.kr_order.specs.declared.history.Entry.{Entry}
use Rattle.kr_order.specs.Answer.{answer_to, answers_after, partial}
use Rattle.kr_protocol.specs.Server.{told_by}
use Rattle.kr_protocol.specs.Cache.{CacheItem, is_lasting, remembers}
use Rattle.kr_protocol.specs.Client.{most_remembered, may_answer, may_answer_all, is_unsure, parts_of, unsure_of, remembers_all}
use Rattle.kr_world.specs.Lawful.{IsCurrent}
use Rattle.kr_world.specs.Facts.{IsToldPart, IsTrueItem}
use Rattle.kr_world.proofs.queries.RememberLemmas.{remembers_true}

-- what a tail or another server makes of an answer
abbrev given : Bool → Answer → Answer
given tail answer = cond tail answer (partial answer)

-- what it tells of these pairs
abbrev given_after : Bool → List Entry → List (EventId × EventId) → List Answer
given_after tail history pairs = map (λ pair. given tail (answer_to history pair.0.0 pair.1.0)) pairs

partial_each : (history : List Entry) (pairs : List (EventId × EventId))
    → map partial (answers_after history pairs) ≡ given_after false history pairs
partial_each history [] = refl
partial_each history (pair ∷ pairs) = ap (λ rest. partial (answer_to history pair.0.0 pair.1.0) ∷ rest) (partial_each history pairs)

given_so : (tail : Bool) (history : List Entry) (pairs : List (EventId × EventId))
    → told_by tail (answers_after history pairs) ≡ given_after tail history pairs
given_so true history pairs = refl
given_so false history pairs = partial_each history pairs

-- what it is sure of is the answer
sure_answer : (tail : Bool) (answer : Answer) → is_unsure (given tail answer) ≡ false → given tail answer ≡ answer
sure_answer true answer sure = refl
sure_answer false Before sure = refl
sure_answer false After sure = refl
sure_answer false Same sure = refl
sure_answer false Concurrent sure = absurd (false≢true (sym sure))
sure_answer false Unknown sure = absurd (false≢true (sym sure))
sure_answer false Unsure sure = absurd (false≢true (sym sure))

-- and where that may change, it is the tail that is sure of it
sure_current : (tail : Bool) (seen : ℕ) (part : ToldPart) (answer : Answer) → is_unsure (given tail answer) ≡ false
    → (tail ≡ true → seen ≤ part.entry) → IsCurrent seen part (given tail answer)
sure_current true seen part Before sure le = tt
sure_current true seen part After sure le = tt
sure_current true seen part Same sure le = tt
sure_current true seen part Concurrent sure le = le refl
sure_current true seen part Unknown sure le = le refl
sure_current true seen part Unsure sure le = absurd (false≢true (sym sure))
sure_current false seen part Before sure le = tt
sure_current false seen part After sure le = tt
sure_current false seen part Same sure le = tt
sure_current false seen part Concurrent sure le = absurd (false≢true (sym sure))
sure_current false seen part Unknown sure le = absurd (false≢true (sym sure))
sure_current false seen part Unsure sure le = absurd (false≢true (sym sure))

-- each part that is told is true
given_told : (tail : Bool) (history : List Entry) (seen q n : ℕ) (by : Teller) (pairs : List (EventId × EventId))
    → n ≤ length history → (tail ≡ true → seen ≤ n)
    → All (IsToldPart history seen) (parts_of q n by pairs (given_after tail (take n history) pairs))
given_told tail history seen q n by [] within current = All-nil (IsToldPart history seen)
given_told tail history seen q n by (pair ∷ pairs) within current =
    by_test (is_unsure (given tail answer)) refl (given_told tail history seen q n by pairs within current)
  where
    answer : Answer
    answer = answer_to (take n history) pair.0.0 pair.1.0

    part : ToldPart
    part = record { q = q; a = pair.0; b = pair.1; answer = given tail answer; entry = n; by = by }

    by_test : (unsure : Bool) → is_unsure (given tail answer) ≡ unsure
        → (let rest = parts_of q n by pairs (given_after tail (take n history) pairs) in
        All (IsToldPart history seen) rest → All (IsToldPart history seen) (cond unsure rest (part ∷ rest)))
    by_test true unsure rest = rest
    by_test false sure rest =
        All-cons (IsToldPart history seen) part _ (record { within = within; answer = sure_answer tail answer sure; current = sure_current tail seen part answer sure current }) rest

pub parts_told : (tail : Bool) (history : List Entry) (seen q n : ℕ) (by : Teller) (pairs : List (EventId × EventId))
    (answers : List Answer) → answers ≡ told_by tail (answers_after (take n history) pairs) → n ≤ length history
    → (tail ≡ true → seen ≤ n) → All (IsToldPart history seen) (parts_of q n by pairs answers)
parts_told tail history seen q n by pairs answers is within current =
    subst (λ given. All (IsToldPart history seen) (parts_of q n by pairs given)) (sym (is ∙ given_so tail (take n history) pairs)) (given_told tail history seen q n by pairs within current)

-- what can never change is sure
lasting_sure : (a b : ℕ) (answer : Answer) → is_lasting a b answer ≡ true → is_unsure answer ≡ false
lasting_sure a b Before lasts = refl
lasting_sure a b After lasts = refl
lasting_sure a b Same lasts = refl
lasting_sure a b Concurrent lasts = refl
lasting_sure a b Unknown lasts = refl
lasting_sure a b Unsure lasts = absurd (false≢true lasts)

-- the cache stays true with all that can never change
given_remembered : (tail : Bool) (history : List Entry) (seen n : ℕ) (cache : List CacheItem) (pairs : List (EventId × EventId))
    → n ≤ seen → All (IsTrueItem history seen) cache
    → All (IsTrueItem history seen) (remembers_all cache n pairs (given_after tail (take n history) pairs))
given_remembered tail history seen n cache [] le known = known
given_remembered tail history seen n cache (pair ∷ pairs) le known =
    given_remembered tail history seen n (cond (is_lasting pair.0.0 pair.1.0 (given tail (answer_to (take n history) pair.0.0 pair.1.0))) (remembers most_remembered cache pair.0.0 pair.1.0 (given tail (answer_to (take n history) pair.0.0 pair.1.0)) n) cache) pairs le (by_test (is_lasting pair.0.0 pair.1.0 (given tail answer)) refl)
  where
    answer : Answer
    answer = answer_to (take n history) pair.0.0 pair.1.0

    by_test : (lasts : Bool) → is_lasting pair.0.0 pair.1.0 (given tail answer) ≡ lasts
        → All (IsTrueItem history seen) (cond lasts (remembers most_remembered cache pair.0.0 pair.1.0 (given tail answer) n) cache)
    by_test true lasts =
        let same = sure_answer tail answer (lasting_sure pair.0.0 pair.1.0 (given tail answer) lasts) in
        remembers_true history seen most_remembered cache pair.0.0 pair.1.0 (given tail answer) n le same lasts known
    by_test false other = known

pub all_remembered : (tail : Bool) (history : List Entry) (seen n : ℕ) (cache : List CacheItem) (pairs : List (EventId × EventId))
    (answers : List Answer) → answers ≡ told_by tail (answers_after (take n history) pairs) → n ≤ seen
    → All (IsTrueItem history seen) cache → All (IsTrueItem history seen) (remembers_all cache n pairs answers)
all_remembered tail history seen n cache pairs answers is le known =
    subst (λ given. All (IsTrueItem history seen) (remembers_all cache n pairs given)) (sym (is ∙ given_so tail (take n history) pairs)) (given_remembered tail history seen n cache pairs le known)

-- an answer is unsure in the first part of a query alone
unsure_first : (part : ℕ) (same : Bool) (answer : Answer) → may_answer part same answer ≡ true → is_unsure answer ≡ true → part ≡ 1
unsure_first part same Before may unsure = absurd (false≢true unsure)
unsure_first part same After may unsure = absurd (false≢true unsure)
unsure_first part same Same may unsure = absurd (false≢true unsure)
unsure_first part same Concurrent may unsure = absurd (false≢true unsure)
unsure_first part same Unknown may unsure = absurd (false≢true unsure)
unsure_first part same Unsure may unsure = eqb-true part 1 may

-- so nothing is left of a later one
pub left_of_first : (part : ℕ) (pairs : List (EventId × EventId)) (answers : List Answer) → may_answer_all part pairs answers ≡ true
    → (unsure_of pairs answers ≡ []) ⊎ (part ≡ 1)
left_of_first part [] answers may = inl refl
left_of_first part (pair ∷ pairs) [] may = inl refl
left_of_first part (pair ∷ pairs) (answer ∷ answers) may = by_test (is_unsure answer) refl (left_of_first part pairs answers parts.1)
  where
    parts : (may_answer part (eqb pair.0.0 pair.1.0) answer ≡ true) × (may_answer_all part pairs answers ≡ true)
    parts = and_parts (may_answer part (eqb pair.0.0 pair.1.0) answer) (may_answer_all part pairs answers) may

    by_test : (unsure : Bool) → is_unsure answer ≡ unsure → (unsure_of pairs answers ≡ []) ⊎ (part ≡ 1)
        → (cond unsure (pair ∷ unsure_of pairs answers) (unsure_of pairs answers) ≡ []) ⊎ (part ≡ 1)
    by_test true unsure rest = inr (unsure_first part (eqb pair.0.0 pair.1.0) answer parts.0 unsure)
    by_test false sure rest = rest
