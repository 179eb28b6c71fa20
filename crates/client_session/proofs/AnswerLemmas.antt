-- Answers and pairs, one by one.
use Rattle.std.proofs.Common.{◌≡◌, ◌≢◌, ℕ, ◌+◌, ◌<◌, ◌≤◌, Bool, true, false, cond, ◌&&◌, eqb, List, [], ◌∷◌, ◌++◌, length, drop, get_or, refl, sym, ap, ◌∙◌, arith}
use Rattle.std.proofs.lemmas.List.{append_assoc, drop_more, length_push}
use Rattle.std.proofs.lemmas.Bool.{and_parts}
use Rattle.kr_order.specs.declared.ids.EventId.{EventId}
use Rattle.kr_order.specs.declared.answer.Answer.{Answer}
use Rattle.kr_order.specs.declared.answer.Teller.{Teller}
use Rattle.kr_order.specs.declared.answer.ToldPart.{ToldPart}
use Rattle.kr_protocol.specs.Client.{may_answer, may_answer_all, is_unsure, parts_of, unsure_of}
use Rattle.client_session.specs.Lookups.{told_behind, unsure_behind}

false-all : (b : Bool) → (b && false) ≡ false
false-all true = refl
false-all false = refl

-- not as many answers as pairs
pub unequal : (part : ℕ) (pairs : List (EventId × EventId)) (answers : List Answer) → length pairs ≢ length answers → may_answer_all part pairs answers ≡ false
unequal part [] [] differ = absurd (differ refl)
unequal part [] (answer ∷ answers) differ = refl
unequal part (pair ∷ pairs) [] differ = refl
unequal part (pair ∷ pairs) (answer ∷ answers) differ =
    ap (λ b. may_answer part (eqb pair.0.0 pair.1.0) answer && b) (unequal part pairs answers (λ same. differ (omega arith))) ∙ false-all (may_answer part (eqb pair.0.0 pair.1.0) answer)

-- as many where all can be given
pub as_many : (part : ℕ) (pairs : List (EventId × EventId)) (answers : List Answer) → may_answer_all part pairs answers ≡ true → length pairs ≡ length answers
as_many part [] [] may = refl
as_many part [] (answer ∷ answers) may = cc
as_many part (pair ∷ pairs) [] may = cc
as_many part (pair ∷ pairs) (answer ∷ answers) may =
    let rest = as_many part pairs answers (and_parts (may_answer part (eqb pair.0.0 pair.1.0) answer) (may_answer_all part pairs answers) may).1 in
    omega arith

-- the first of the pairs that are left is told of, where it was answered for sure
pub parts_next : (q entry : ℕ) (by : Teller) (pairs : List (EventId × EventId)) (answers : List Answer) (told : List ToldPart) (i : ℕ)
    (pair : EventId × EventId) (answer : Answer) → i < length pairs → length pairs ≡ length answers
    → told ++ parts_of q entry by (drop i pairs) (drop i answers) ≡ told_behind told q entry by (get_or pairs i pair) (get_or answers i answer) ++ parts_of q entry by (drop (i + 1) pairs) (drop (i + 1) answers)
parts_next q entry by pairs answers told i pair answer lt same =
    ap (λ ps. told ++ parts_of q entry by ps (drop i answers)) (drop_more pairs i pair lt) ∙ ap (λ as'. told ++ parts_of q entry by (get_or pairs i pair ∷ drop (i + 1) pairs) as') (drop_more answers i answer (omega arith)) ∙ by_test (is_unsure (get_or answers i answer))
  where
    rest : List ToldPart
    rest = parts_of q entry by (drop (i + 1) pairs) (drop (i + 1) answers)

    part : ToldPart
    part = record { q = q; a = (get_or pairs i pair).0; b = (get_or pairs i pair).1; answer = get_or answers i answer; entry = entry; by = by }

    by_test : (unsure : Bool) → told ++ cond unsure rest (part ∷ rest) ≡ cond unsure told (told ++ part ∷ []) ++ rest
    by_test true = refl
    by_test false = sym (append_assoc told (part ∷ []) rest)

-- it is left, where it was not
pub unsure_next : (pairs : List (EventId × EventId)) (answers : List Answer) (left : List (EventId × EventId)) (i : ℕ)
    (pair : EventId × EventId) (answer : Answer) → i < length pairs → length pairs ≡ length answers
    → left ++ unsure_of (drop i pairs) (drop i answers) ≡ unsure_behind left (get_or pairs i pair) (get_or answers i answer) ++ unsure_of (drop (i + 1) pairs) (drop (i + 1) answers)
unsure_next pairs answers left i pair answer lt same =
    ap (λ ps. left ++ unsure_of ps (drop i answers)) (drop_more pairs i pair lt) ∙ ap (λ as'. left ++ unsure_of (get_or pairs i pair ∷ drop (i + 1) pairs) as') (drop_more answers i answer (omega arith)) ∙ by_test (is_unsure (get_or answers i answer))
  where
    rest : List (EventId × EventId)
    rest = unsure_of (drop (i + 1) pairs) (drop (i + 1) answers)

    own : EventId × EventId
    own = get_or pairs i pair

    by_test : (unsure : Bool) → left ++ cond unsure (own ∷ rest) rest ≡ cond unsure (left ++ own ∷ []) left ++ rest
    by_test true = sym (append_assoc left (own ∷ []) rest)
    by_test false = refl

-- no more than one is
pub unsure_few : (left : List (EventId × EventId)) (pair : EventId × EventId) (answer : Answer) (n : ℕ) → length left ≤ n
    → length (unsure_behind left pair answer) ≤ n + 1
unsure_few left pair answer n le = by_test (is_unsure answer)
  where
    by_test : (unsure : Bool) → length (cond unsure (left ++ pair ∷ []) left) ≤ n + 1
    by_test true = omega (arith, length_push left pair)
    by_test false = omega arith
