-- Answers that can be given, and of which the tail is sure.
use Rattle.kr_order.specs.declared.answer.Answer.{Answer}
use Rattle.kr_order.specs.declared.answer.Answer.TheVariants as answers
use Rattle.kr_order.specs.Answer.{answer_over, answer_from, answer_to, answers_after, partial}
use Rattle.kr_order.specs.Agreed.{both_live, agreed_of, Agreed}
use Rattle.kr_protocol.specs.Server.{told_by}
use Rattle.kr_protocol.specs.Client.{may_answer, may_answer_all, is_unsure, unsure_of}
use Rattle.std.proofs.Common.{Bool, List, [], ap, cond, eqb, false, map, refl, subst, sym, true, ℕ, ◌&&◌, ◌∙◌, ◌∷◌, ◌≡◌}
use Rattle.std.specs.Prelude.{All}
use Rattle.std.proofs.lemmas.Bool.{false≢true}
use Rattle.std.proofs.lemmas.List.Elements.{All-cons, All-head, All-nil, All-tail}
use Rattle.kr_order.specs.Order.{reach}
use Rattle.kr_order.specs.declared.answer.Answer.TheVariants.{After, Before, Concurrent, Same, Unknown, Unsure}
use Rattle.kr_order.specs.declared.history.Entry.{Entry}
use Rattle.kr_order.specs.declared.ids.EventId.{EventId}

-- an answer of which its server is sure
abbrev pub IsSure : Answer → Type 0
IsSure answer = is_unsure answer ≡ false

-- any answer may be given to its pair, if it is sure
over_may : (part : ℕ) (pairs : List (ℕ × ℕ)) (a b : ℕ) → may_answer part (eqb a b) (answer_over pairs a b) ≡ true
over_may part pairs a b = by_same (eqb a b)
  where
    by_back : (test : Bool) → may_answer part false (cond test answers.After answers.Concurrent) ≡ true
    by_back true = refl
    by_back false = refl

    by_reach : (test : Bool) → may_answer part false (cond test answers.Before (cond (reach pairs b a) answers.After answers.Concurrent)) ≡ true
    by_reach true = refl
    by_reach false = by_back (reach pairs b a)

    by_same : (same : Bool) → may_answer part same (cond same answers.Same (cond (reach pairs a b) answers.Before (cond (reach pairs b a) answers.After answers.Concurrent))) ≡ true
    by_same true = refl
    by_same false = by_reach (reach pairs a b)

from_may : (part : ℕ) (agreed : Agreed) (a b : ℕ) → may_answer part (eqb a b) (answer_from agreed a b) ≡ true
from_may part agreed a b = by_live (both_live agreed a b)
  where
    by_live : (live : Bool) → may_answer part (eqb a b) (cond live (answer_over agreed.pairs a b) answers.Unknown) ≡ true
    by_live true = over_may part agreed.pairs a b
    by_live false = refl

partial_may : (part : ℕ) (same : Bool) (answer : Answer) → may_answer part same answer ≡ true → IsSure (partial answer) → may_answer part same (partial answer) ≡ true
partial_may part same answers.Before may sure = may
partial_may part same answers.After may sure = may
partial_may part same answers.Same may sure = may
partial_may part same answers.Concurrent may sure = absurd (false≢true (sym sure))
partial_may part same answers.Unknown may sure = absurd (false≢true (sym sure))
partial_may part same answers.Unsure may sure = absurd (false≢true (sym sure))

pub and_both : (a b : Bool) → a ≡ true → b ≡ true → (a && b) ≡ true
and_both a b one two = ap (λ x. x && b) one ∙ two

tail_may : (part : ℕ) (history : List Entry) (pairs : List (EventId × EventId)) → may_answer_all part pairs (answers_after history pairs) ≡ true
tail_may part history [] = refl
tail_may part history (pair ∷ pairs) =
    and_both (may_answer part (eqb pair.0.0 pair.1.0) (answer_to history pair.0.0 pair.1.0)) (may_answer_all part pairs (answers_after history pairs)) (from_may part (agreed_of history) pair.0.0 pair.1.0) (tail_may part history pairs)

other_may : (part : ℕ) (history : List Entry) (pairs : List (EventId × EventId)) → All IsSure (map partial (answers_after history pairs)) → may_answer_all part pairs (map partial (answers_after history pairs)) ≡ true
other_may part history [] sure = refl
other_may part history (pair ∷ pairs) sure =
    let answer = answer_to history pair.0.0 pair.1.0 in
    let rest = map partial (answers_after history pairs) in
    and_both (may_answer part (eqb pair.0.0 pair.1.0) (partial answer)) (may_answer_all part pairs rest)
    (partial_may part (eqb pair.0.0 pair.1.0) answer (from_may part (agreed_of history) pair.0.0 pair.1.0) (All-head IsSure (partial answer) rest sure)) (other_may part history pairs (All-tail IsSure (partial answer) rest sure))

pub told_may : (part : ℕ) (tail : Bool) (history : List Entry) (pairs : List (EventId × EventId)) (given : List Answer) → given ≡ told_by tail (answers_after history pairs) → All IsSure given → may_answer_all part pairs given ≡ true
told_may part true history pairs given is sure = ap (may_answer_all part pairs) is ∙ tail_may part history pairs
told_may part false history pairs given is sure = ap (may_answer_all part pairs) is ∙ other_may part history pairs (subst (All IsSure) is sure)

-- nothing is left where all are sure
pub none_unsure : (pairs : List (EventId × EventId)) (given : List Answer) → All IsSure given → unsure_of pairs given ≡ []
none_unsure [] given sure = refl
none_unsure (pair ∷ pairs) [] sure = refl
none_unsure (pair ∷ pairs) (answer ∷ given) sure =
    ap (λ test. cond test (pair ∷ unsure_of pairs given) (unsure_of pairs given)) (All-head IsSure answer given sure) ∙ none_unsure pairs given (All-tail IsSure answer given sure)

-- the tail is sure
over_sure : (pairs : List (ℕ × ℕ)) (a b : ℕ) → IsSure (answer_over pairs a b)
over_sure pairs a b = by_tests (eqb a b) (reach pairs a b) (reach pairs b a)
  where
    by_tests : (same before after : Bool) → IsSure (cond same answers.Same (cond before answers.Before (cond after answers.After answers.Concurrent)))
    by_tests true before after = refl
    by_tests false true after = refl
    by_tests false false true = refl
    by_tests false false false = refl

from_sure : (agreed : Agreed) (a b : ℕ) → IsSure (answer_from agreed a b)
from_sure agreed a b = by_live (both_live agreed a b)
  where
    by_live : (live : Bool) → IsSure (cond live (answer_over agreed.pairs a b) answers.Unknown)
    by_live true = over_sure agreed.pairs a b
    by_live false = refl

pub tail_sure : (history : List Entry) (pairs : List (EventId × EventId)) → All IsSure (answers_after history pairs)
tail_sure history [] = All-nil IsSure
tail_sure history (pair ∷ pairs) = All-cons IsSure (answer_to history pair.0.0 pair.1.0) (answers_after history pairs) (from_sure (agreed_of history) pair.0.0 pair.1.0) (tail_sure history pairs)
