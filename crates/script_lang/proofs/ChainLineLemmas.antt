-- Bytes are the lines of a chain in one way.
use Rattle.std.proofs.Common.{◌≡◌, ◌≢◌, ℕ, ◌+◌, ◌-◌, ◌<◌, ◌≤◌, inr, Option, None, Some, List, [], ◌∷◌, ◌++◌, length, get_or, refl, sym, ap, ◌∙◌, subst, arith, append_assoc}
use Rattle.std.proofs.lemmas.List.{append-nil, length-append, length_push, get_or-replicate}
use Rattle.std.proofs.lemmas.List.Elements.{All-nil}
use Rattle.script_lang.specs.declared.chain.ChainLine.{ChainLine}
use Rattle.script_lang.specs.declared.chain.ChainLine.TheVariants.{Command, Query}
use Rattle.script_lang.specs.declared.chain.ChainPlan.{ChainPlan}
use Rattle.script_lang.specs.Line.{line, HasNoEnd, IsCut}
use Rattle.script_lang.specs.Reading.{Spells}
use Rattle.script_lang.specs.Chain.{IsChainLine, AreChainLines, AreMade, BeginsWithLine, IsBadChainLine, chain_first, chain_text, chain_lines, empty_plan, next_entry, plan_of, with_chain_line, with_chain_lines}
use Rattle.script_lang.proofs.LineLemmas.{line_once, line_has_end}
use Rattle.script_lang.proofs.ChainLemmas.{chain_text-has_no_end, chain_text-injective}

-- bytes begin with the line of one text at the most
pub chain_line-once : (above : ℕ) (one other : ChainLine) (xs ys : List ℕ) → IsChainLine above one → IsChainLine above other
    → line (chain_text one) ++ xs ≡ line (chain_text other) ++ ys → (one ≡ other) × (xs ≡ ys)
chain_line-once above one other xs ys fit fit' same =
    let cut = line_once (chain_text one) xs (chain_text other) ys (chain_text-has_no_end above one fit) (chain_text-has_no_end above other fit') same in
    (chain_text-injective above one other fit fit' cut.0, cut.1)

-- bytes without an LF are in front of no line
pub no_chain_line : (above : ℕ) (bytes : List ℕ) → HasNoEnd bytes → BeginsWithLine above bytes → ⊥
no_chain_line above bytes free found = line_has_end (chain_text found.0) found.1 (subst HasNoEnd found.3 free)

-- no bytes are in front of no line
pub no_chain_bytes : (above : ℕ) → BeginsWithLine above [] → ⊥
no_chain_bytes above found = no_chain_line above [] (All-nil (λ b. b ≢ 10)) found

chain_lines-append : (xs ys : List ChainLine) → chain_lines (xs ++ ys) ≡ chain_lines xs ++ chain_lines ys
chain_lines-append [] ys = refl
chain_lines-append (x ∷ xs) ys =
    ap (λ ls. line (chain_text x) ++ ls) (chain_lines-append xs ys) ∙ sym (append_assoc (line (chain_text x)) (chain_lines xs) (chain_lines ys))

-- the plan of lines with one more
pub with_chain_lines_push : (plan : ChainPlan) (lines : List ChainLine) (one : ChainLine)
    → with_chain_lines plan (lines ++ one ∷ []) ≡ with_chain_line (with_chain_lines plan lines) one
with_chain_lines_push plan [] one = refl
with_chain_lines_push plan (l ∷ lines) one = with_chain_lines_push (with_chain_line plan l) lines one

are_lines_push : (plan : ChainPlan) (lines : List ChainLine) (one : ChainLine) → AreChainLines plan lines
    → IsChainLine (length (with_chain_lines plan lines).entries) one → AreChainLines plan (lines ++ one ∷ [])
are_lines_push plan [] one are fit = (fit, tt)
are_lines_push plan (l ∷ lines) one are fit = (are.0, are_lines_push (with_chain_line plan l) lines one are.1 fit)

-- the reader is behind the lines that gave this plan, and the rest is to be read from the line of this number on
pub record IsReadChain (bytes : List ℕ) (plan : ChainPlan) (made : List ℕ) (number : ℕ) (rest : List ℕ) : Type 0 where
  pub lines : List ChainLine
  pub fit : AreChainLines empty_plan lines
  pub front : bytes ≡ chain_first ++ chain_lines lines ++ rest
  pub given : plan ≡ plan_of lines
  pub made_is : AreMade plan.entries made
  pub number_is : number ≡ length lines + 2
  pub room : number + length rest ≤ length bytes + 2
  pub few : length plan.entries + 2 ≤ number

-- a line gives one entry at the most
one_entry : (plan : ChainPlan) (one : ChainLine) → length (with_chain_line plan one).entries ≤ length plan.entries + 1
one_entry plan (Command client command) = omega (arith, length_push plan.entries (next_entry plan.entries client command))
one_entry plan (Query query) = omega arith

-- the bytes are a line that may stand below so many commands, and then the rest
pub record ReadsLine (above : ℕ) (bytes : List ℕ) (one : ChainLine) (rest : List ℕ) : Type 0 where
  pub fit : IsChainLine above one
  pub whole : bytes ≡ line (chain_text one) ++ rest

pub chain_read_more : (bytes : List ℕ) (plan plan' : ChainPlan) (made made' : List ℕ) (number : ℕ) (rest : List ℕ) (one : ChainLine) (more : List ℕ)
    → IsReadChain bytes plan made number rest → ReadsLine (length plan.entries) rest one more → plan' ≡ with_chain_line plan one
    → AreMade plan'.entries made' → IsReadChain bytes plan' made' (number + 1) more
chain_read_more bytes plan plan' made made' number rest one more before read with_one are =
    let text : chain_lines (before.lines ++ one ∷ []) ≡ chain_lines before.lines ++ line (chain_text one) =
    chain_lines-append before.lines (one ∷ []) ∙ ap (λ l. chain_lines before.lines ++ l) (append-nil (line (chain_text one))) in
    record {
      lines = before.lines ++ one ∷ [];
      fit = are_lines_push empty_plan before.lines one before.fit (subst (λ (p : ChainPlan). IsChainLine (length p.entries) one) before.given read.fit);
      front = before.front ∙ ap (λ r. chain_first ++ chain_lines before.lines ++ r) read.whole ∙ regroup chain_first (chain_lines before.lines) (line (chain_text one)) more
          ∙ ap (λ l. chain_first ++ l ++ more) (sym text);
      given = with_one ∙ ap (λ p. with_chain_line p one) before.given ∙ sym (with_chain_lines_push empty_plan before.lines one);
      made_is = are;
      number_is = omega (arith, before.number_is, length_push before.lines one);
      room = omega (arith, before.room, ap length read.whole, length-append (line (chain_text one)) more, length-append (chain_text one) (10 ∷ []));
      few = omega (arith, before.few, one_entry plan one, ap (λ (p : ChainPlan). length p.entries) with_one);
    }
  where
    regroup : (f es l m : List ℕ) → f ++ es ++ (l ++ m) ≡ f ++ (es ++ l) ++ m
    regroup f es l m = simp append_assoc

-- what a line spells is read
pub chain_line_read : (above : ℕ) (rest text more : List ℕ) (read : Option ChainLine) (one : ChainLine) → IsCut rest text more → read ≡ Some one
    → Spells chain_text (IsChainLine above) text read → ReadsLine above rest one more
chain_line_read above rest text more read one cut is spells =
    let spelt : IsChainLine above one × (text ≡ chain_text one) = subst (Spells chain_text (IsChainLine above) text) is spells in
    record { fit = spelt.0; whole = cut.whole ∙ ap (λ t. line t ++ more) spelt.1 }

-- a line that spells nothing is in front of nothing
pub chain_line_not_read : (above : ℕ) (rest text more : List ℕ) (read : Option ChainLine) → IsCut rest text more → read ≡ None
    → Spells chain_text (IsChainLine above) text read → BeginsWithLine above rest → ⊥
chain_line_not_read above rest text more read cut is spells found =
    let other : (one : ChainLine) → IsChainLine above one → text ≢ chain_text one = subst (Spells chain_text (IsChainLine above) text) is spells in
    let same : line text ++ more ≡ line (chain_text found.0) ++ found.1 = sym cut.whole ∙ found.3 in
    other found.0 found.2 ((line_once text more (chain_text found.0) found.1 cut.text_has_no_end (chain_text-has_no_end above found.0 found.2) same).0)

-- the line that is in no plan
pub chain_stops : (bytes : List ℕ) (plan : ChainPlan) (made : List ℕ) (number : ℕ) (rest : List ℕ) → IsReadChain bytes plan made number rest
    → rest ≢ [] → (BeginsWithLine (length plan.entries) rest → ⊥) → IsBadChainLine bytes number
chain_stops bytes plan made number rest read more bad =
    inr (record {
      lines = read.lines;
      rest = rest;
      fit = read.fit;
      front = read.front;
      more = more;
      bad = subst (λ (p : ChainPlan). BeginsWithLine (length p.entries) rest → ⊥) read.given bad;
      number = read.number_is;
    })

-- the reader is behind the first line
pub read_first : (bytes rest : List ℕ) → bytes ≡ chain_first ++ rest
    → IsReadChain bytes empty_plan (0 ∷ 0 ∷ 0 ∷ 0 ∷ 0 ∷ 0 ∷ 0 ∷ 0 ∷ 0 ∷ 0 ∷ 0 ∷ 0 ∷ 0 ∷ 0 ∷ 0 ∷ 0 ∷ []) 2 rest
read_first bytes rest is = record {
  lines = [];
  fit = tt;
  front = is;
  given = refl;
  made_is = record { many = refl; each = λ client fit. none_made client (omega (arith, fit.low, fit.high)) };
  number_is = refl;
  room = omega (arith, ap length is, length-append chain_first rest);
  few = omega arith;
}
  where
    zeros : List ℕ
    zeros = 0 ∷ 0 ∷ 0 ∷ 0 ∷ 0 ∷ 0 ∷ 0 ∷ 0 ∷ 0 ∷ 0 ∷ 0 ∷ 0 ∷ 0 ∷ 0 ∷ 0 ∷ 0 ∷ []

    none_made : (client : ℕ) → client - 1 < 16 → get_or zeros (client - 1) 0 ≡ 0
    none_made client below = let none : ℕ = 0 in get_or-replicate 16 (client - 1) none none below
