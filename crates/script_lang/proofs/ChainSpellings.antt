-- Bytes have one spelling as the input of a chain: at most one plan, and one first bad line.
use Rattle.std.proofs.Common.{◌≡◌, ℕ, ◌+◌, ◌≤◌, inl, inr, List, [], ◌∷◌, ◌++◌, length, refl, sym, ap, ◌∙◌, subst, arith, append_assoc}
use Rattle.std.specs.Prelude.{All}
use Rattle.std.proofs.lemmas.List.{length-append, length_push, append-nil, append_cancel_left, nil_from_length}
use Rattle.std.proofs.lemmas.List.Elements.{All-nil, All-push, All-weaker}
use Rattle.script_lang.specs.declared.chain.ChainLine.{ChainLine}
use Rattle.script_lang.specs.declared.chain.ChainLine.TheVariants.{Command, Query}
use Rattle.script_lang.specs.declared.chain.ChainPlan.{ChainPlan}
use Rattle.script_lang.specs.declared.chain.ChainQuery.{ChainQuery}
use Rattle.script_lang.specs.Line.{line}
use Rattle.script_lang.specs.Chain.{IsChainLine, IsChainQuery, AreChainLines, ParsesChain, BeginsWithLine, StopsChainAt, chain_first, chain_text, chain_lines, empty_plan, next_entry, plan_of, with_chain_line, with_chain_lines}
use Rattle.script_lang.specs.ChainLaws.{BadChainLinesAreInNoPlan, TheBadChainLineIsOne, ASpellingIsOfOneChainPlan, ChainPlansAreNoLongerThanTheirBytes, ChainQueriesCanBeAnswered}
use Rattle.script_lang.proofs.ChainLineLemmas.{chain_line-once, no_chain_bytes}

-- the lines of the other reading, and what is after them, are in this one
record GoesOn (lines : List ChainLine) (rest : List ℕ) (others : List ChainLine) (other_rest : List ℕ) : Type 0 where
  pub more : List ChainLine
  pub lines_are : lines ≡ others ++ more
  pub rest_is : other_rest ≡ chain_lines more ++ rest

-- where no line follows that may, no other reading of the bytes has more lines
goes_on : (plan : ChainPlan) (lines : List ChainLine) (rest : List ℕ) (others : List ChainLine) (other_rest : List ℕ) → AreChainLines plan lines
    → AreChainLines plan others → (BeginsWithLine (length (with_chain_lines plan lines).entries) rest → ⊥)
    → chain_lines lines ++ rest ≡ chain_lines others ++ other_rest → GoesOn lines rest others other_rest
goes_on plan lines rest [] other_rest _ _ _ same = record { more = lines; lines_are = refl; rest_is = sym same }
goes_on plan [] rest (o ∷ others) other_rest _ fit stops same =
    absurd (stops (o, chain_lines others ++ other_rest, fit.0, same ∙ append_assoc (line (chain_text o)) (chain_lines others) other_rest))
goes_on plan (l ∷ lines) rest (o ∷ others) other_rest fit fit' stops same =
    let texts : line (chain_text l) ++ (chain_lines lines ++ rest) ≡ line (chain_text o) ++ (chain_lines others ++ other_rest) =
    sym (append_assoc (line (chain_text l)) (chain_lines lines) rest) ∙ same ∙ append_assoc (line (chain_text o)) (chain_lines others) other_rest in
    let firsts = chain_line-once (length plan.entries) l o (chain_lines lines ++ rest) (chain_lines others ++ other_rest) fit.0 fit'.0 texts in
    let tails = goes_on (with_chain_line plan l) lines rest others other_rest fit.1
    (subst (λ (x : ChainLine). AreChainLines (with_chain_line plan x) others) (sym firsts.0) fit'.1) stops firsts.1 in
    record {
      more = tails.more;
      lines_are = ap (λ x. x ∷ lines) firsts.0 ∙ ap (λ xs. o ∷ xs) tails.lines_are;
      rest_is = tails.rest_is;
    }

-- two readings of the same bytes
behind_first : (bytes : List ℕ) (xs ys : List ℕ) → bytes ≡ chain_first ++ xs → bytes ≡ chain_first ++ ys → xs ≡ ys
behind_first bytes xs ys one other = append_cancel_left chain_first xs ys (sym one ∙ other)

parsed : (bytes : List ℕ) (plan : ChainPlan) → (parses : ParsesChain bytes plan) → bytes ≡ chain_first ++ (chain_lines parses.lines ++ [])
parsed bytes plan parses = parses.spelt ∙ ap (λ l. chain_first ++ l) (sym (append-nil (chain_lines parses.lines)))

stopped : (bytes : List ℕ) (n : ℕ) → (stops : StopsChainAt bytes n) → bytes ≡ chain_first ++ (chain_lines stops.lines ++ stops.rest)
stopped bytes n stops = stops.front ∙ append_assoc chain_first (chain_lines stops.lines) stops.rest

nothing_after : (xs ys : List ℕ) → [] ≡ xs ++ ys → ys ≡ []
nothing_after xs ys is = nil_from_length ys (omega (arith, ap length is, length-append xs ys))

stops_in_no_plan : (bytes : List ℕ) (n : ℕ) (plan : ChainPlan) → StopsChainAt bytes n → ParsesChain bytes plan → ⊥
stops_in_no_plan bytes n plan stops parses =
    let on = goes_on empty_plan stops.lines stops.rest parses.lines [] stops.fit parses.fit stops.bad
    (behind_first bytes (chain_lines stops.lines ++ stops.rest) (chain_lines parses.lines ++ []) (stopped bytes n stops) (parsed bytes plan parses)) in
    stops.more (nothing_after (chain_lines on.more) stops.rest on.rest_is)

pub bad_in_none : BadChainLinesAreInNoPlan
bad_in_none bytes n plan (inl first) parses = first.1 (chain_lines parses.lines, parses.spelt)
bad_in_none bytes n plan (inr stops) parses = stops_in_no_plan bytes n plan stops parses

stops_once : (bytes : List ℕ) (m n : ℕ) → StopsChainAt bytes m → StopsChainAt bytes n → m ≡ n
stops_once bytes m n one other =
    let same = behind_first bytes (chain_lines one.lines ++ one.rest) (chain_lines other.lines ++ other.rest) (stopped bytes m one) (stopped bytes n other) in
    let on = goes_on empty_plan one.lines one.rest other.lines other.rest one.fit other.fit one.bad same in
    let back = goes_on empty_plan other.lines other.rest one.lines one.rest other.fit one.fit other.bad (sym same) in
    omega (arith, one.number, other.number, ap length on.lines_are, length-append other.lines on.more, ap length back.lines_are, length-append one.lines back.more)

pub bad_is_one : TheBadChainLineIsOne
bad_is_one bytes m n (inl one) (inl other) = one.0 ∙ sym other.0
bad_is_one bytes m n (inl one) (inr other) = absurd (one.1 (chain_lines other.lines ++ other.rest, stopped bytes n other))
bad_is_one bytes m n (inr one) (inl other) = absurd (other.1 (chain_lines one.lines ++ one.rest, stopped bytes m one))
bad_is_one bytes m n (inr one) (inr other) = stops_once bytes m n one other

pub spelt_once : ASpellingIsOfOneChainPlan
spelt_once bytes one other parses parses' =
    let same = behind_first bytes (chain_lines parses.lines ++ []) (chain_lines parses'.lines ++ []) (parsed bytes one parses) (parsed bytes other parses') in
    let on = goes_on empty_plan parses.lines [] parses'.lines [] parses.fit parses'.fit (no_chain_bytes (length (plan_of parses.lines).entries)) same in
    let back = goes_on empty_plan parses'.lines [] parses.lines [] parses'.fit parses.fit (no_chain_bytes (length (plan_of parses'.lines).entries)) (sym same) in
    let none : on.more ≡ [] = nil_from_length on.more (omega (arith, ap length on.lines_are, length-append parses'.lines on.more, ap length back.lines_are, length-append parses.lines back.more)) in
    let lines : parses.lines ≡ parses'.lines = on.lines_are ∙ ap (λ m. parses'.lines ++ m) none ∙ append-nil parses'.lines in
    parses.given ∙ ap plan_of lines ∙ sym parses'.given

-- queries that can be answered after so many entries can be after more
later : (m n : ℕ) → m ≤ n → (queries : List ChainQuery) → All (IsChainQuery m) queries → All (IsChainQuery n) queries
later m n more queries each = All-weaker (IsChainQuery m) (IsChainQuery n) (λ query fit. record {
  node_fits = fit.node_fits;
  least_fits = omega (arith, more, fit.least_fits);
  is_number = fit.is_number;
  asked = fit.asked;
}) queries each

can_with_line : (plan : ChainPlan) (one : ChainLine) → IsChainLine (length plan.entries) one → All (IsChainQuery (length plan.entries)) plan.queries
    → All (IsChainQuery (length (with_chain_line plan one).entries)) (with_chain_line plan one).queries
can_with_line plan (Query query) fit each = All-push (IsChainQuery (length plan.entries)) plan.queries query each fit
can_with_line plan (Command client command) fit each =
    later (length plan.entries) (length (plan.entries ++ next_entry plan.entries client command ∷ [])) (omega (arith, length_push plan.entries (next_entry plan.entries client command))) plan.queries each

can_all : (plan : ChainPlan) (lines : List ChainLine) → AreChainLines plan lines → All (IsChainQuery (length plan.entries)) plan.queries
    → All (IsChainQuery (length (with_chain_lines plan lines).entries)) (with_chain_lines plan lines).queries
can_all plan [] fit each = each
can_all plan (l ∷ lines) fit each = can_all (with_chain_line plan l) lines fit.1 (can_with_line plan l fit.0 each)

pub can_be_answered : ChainQueriesCanBeAnswered
can_be_answered bytes plan parses =
    subst (λ (p : ChainPlan). All (IsChainQuery (length p.entries)) p.queries) (sym parses.given) (can_all empty_plan parses.lines parses.fit (All-nil (IsChainQuery 0)))

-- how many entries and queries a plan has
abbrev size_of : ChainPlan → ℕ
size_of plan = length plan.entries + length plan.queries

size_with_line : (plan : ChainPlan) (one : ChainLine) → size_of (with_chain_line plan one) ≡ size_of plan + 1
size_with_line plan (Query query) = omega (arith, length_push plan.queries query)
size_with_line plan (Command client command) = omega (arith, length_push plan.entries (next_entry plan.entries client command))

size_with_lines : (plan : ChainPlan) (lines : List ChainLine) → size_of (with_chain_lines plan lines) ≡ size_of plan + length lines
size_with_lines plan [] = omega arith
size_with_lines plan (l ∷ lines) = omega (arith, size_with_lines (with_chain_line plan l) lines, size_with_line plan l)

-- each line has a byte at the least
bytes_of_lines : (lines : List ChainLine) → length lines ≤ length (chain_lines lines)
bytes_of_lines [] = omega arith
bytes_of_lines (l ∷ lines) =
    omega (arith, bytes_of_lines lines, length-append (line (chain_text l)) (chain_lines lines), length-append (chain_text l) (10 ∷ []))

pub no_longer : ChainPlansAreNoLongerThanTheirBytes
no_longer bytes plan parses =
    omega (arith, ap size_of parses.given, size_with_lines empty_plan parses.lines, bytes_of_lines parses.lines, ap length parses.spelt, length-append chain_first (chain_lines parses.lines))
