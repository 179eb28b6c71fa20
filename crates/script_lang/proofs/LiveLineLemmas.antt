-- Bytes are the lines of calls in one way.
use Rattle.std.proofs.Common.{◌+◌, length, drop, inr, Option, None, Some, ◌≡◌, ◌≢◌, ℕ, ◌≤◌, List, [], ◌∷◌, ◌++◌, refl, sym, ap, ◌∙◌, subst, arith, append_assoc}
use Rattle.std.specs.Prelude.{All, codes}
use Rattle.std.specs.Fmt.{decimal}
use Rattle.std.proofs.lemmas.List.{append-nil, append_cancel_left}
use Rattle.std.proofs.lemmas.List.Elements.{All-nil, All-push}
use Rattle.kr_order.specs.declared.ids.ClientId.{ClientId}
use Rattle.script_lang.specs.declared.live.LiveCall.{LiveCall}
use Rattle.script_lang.specs.Line.{line, HasNoEnd, IsCut}
use Rattle.script_lang.specs.Number.{ReadsNumber}
use Rattle.script_lang.specs.Reading.{Spells}
use Rattle.script_lang.specs.Live.{AreClients, IsCalled, ReadsClients, ReadsCall, BeginsWithCall, BeginsWithClients, IsBadLiveLine, live_text, live_line, call_lines}
use Rattle.script_lang.proofs.LineLemmas.{line_once, line_has_end}
use Rattle.script_lang.proofs.NumberLemmas.{number_once}
use Rattle.script_lang.proofs.LiveLemmas.{live_text-has_no_end, live_text-injective}

-- bytes begin with the line of one call at the most
pub call_line-once : (clients : ℕ) → AreClients clients → (one other : ClientId × LiveCall) (xs ys : List ℕ) → IsCalled clients one → IsCalled clients other → line (live_text one) ++ xs ≡ line (live_text other) ++ ys → (one ≡ other) × (xs ≡ ys)
call_line-once clients few one other xs ys fit fit' same =
    let cut = line_once (live_text one) xs (live_text other) ys (live_text-has_no_end clients few.high one fit) (live_text-has_no_end clients few.high other fit') same in
    (live_text-injective clients few.high one other fit fit' cut.0, cut.1)

-- bytes without an LF are in front of no call
pub no_line : (clients : ℕ) (bytes : List ℕ) → HasNoEnd bytes → BeginsWithCall clients bytes → ⊥
no_line clients bytes free found = line_has_end (live_text found.0) found.1 (subst HasNoEnd found.3 free)

-- no bytes are in front of no call
pub no_bytes : (clients : ℕ) → BeginsWithCall clients [] → ⊥
no_bytes clients found = no_line clients [] (All-nil (λ b. b ≢ 10)) found

-- lines of both parts are those of the whole
pub call_lines-append : (xs ys : List (ClientId × LiveCall)) → call_lines (xs ++ ys) ≡ call_lines xs ++ call_lines ys
call_lines-append [] ys = refl
call_lines-append (x ∷ xs) ys =
    ap (λ ls. line (live_text x) ++ ls) (call_lines-append xs ys) ∙ sym (append_assoc (line (live_text x)) (call_lines xs) (call_lines ys))

-- the reader is behind these calls, and the rest is to be read
pub record IsReadLive (bytes : List ℕ) (clients : ℕ) (calls : List (ClientId × LiveCall)) (rest : List ℕ) : Type 0 where
  pub clients_fit : AreClients clients
  pub each : All (IsCalled clients) calls
  pub front : bytes ≡ live_line clients ++ call_lines calls ++ rest

pub read_more : (bytes : List ℕ) (clients : ℕ) (calls : List (ClientId × LiveCall)) (rest : List ℕ) (call : ClientId × LiveCall) (more : List ℕ) → IsReadLive bytes clients calls rest → ReadsCall clients rest call more → IsReadLive bytes clients (calls ++ call ∷ []) more
read_more bytes clients calls rest call more before read =
    let lines : call_lines (calls ++ call ∷ []) ≡ call_lines calls ++ line (live_text call) = call_lines-append calls (call ∷ []) ∙ ap (λ l. call_lines calls ++ l) (append-nil (line (live_text call))) in
    record {
      clients_fit = before.clients_fit;
      each = All-push (IsCalled clients) calls call before.each read.fit;
      front = before.front ∙ ap (λ r. live_line clients ++ call_lines calls ++ r) read.whole ∙ regroup (live_line clients) (call_lines calls) (line (live_text call)) more ∙ ap (λ l. live_line clients ++ l ++ more) (sym lines);
    }
  where
    regroup : (f es l m : List ℕ) → f ++ es ++ (l ++ m) ≡ f ++ (es ++ l) ++ m
    regroup f es l m = simp append_assoc

-- a line that spells a call is read
pub line_read : (clients : ℕ) (rest text more : List ℕ) (read : Option (ClientId × LiveCall)) (call : ClientId × LiveCall) → IsCut rest text more → read ≡ Some call → Spells live_text (IsCalled clients) text read → ReadsCall clients rest call more
line_read clients rest text more read call cut is spells =
    let spelt : IsCalled clients call × (text ≡ live_text call) = subst (Spells live_text (IsCalled clients) text) is spells in
    record { fit = spelt.0; whole = cut.whole ∙ ap (λ t. line t ++ more) spelt.1 }

-- a line that spells none is in front of no call
pub line_not_read : (clients : ℕ) (rest text more : List ℕ) (read : Option (ClientId × LiveCall)) → AreClients clients → IsCut rest text more → read ≡ None → Spells live_text (IsCalled clients) text read → BeginsWithCall clients rest → ⊥
line_not_read clients rest text more read few cut is spells found =
    let other : (call : ClientId × LiveCall) → IsCalled clients call → text ≢ live_text call = subst (Spells live_text (IsCalled clients) text) is spells in
    let same : line text ++ more ≡ line (live_text found.0) ++ found.1 = sym cut.whole ∙ found.3 in
    other found.0 found.2 ((line_once text more (live_text found.0) found.1 cut.text_has_no_end (live_text-has_no_end clients few.high found.0 found.2) same).0)

-- the line that is in no plan
pub stops : (bytes : List ℕ) (clients : ℕ) (calls : List (ClientId × LiveCall)) (rest : List ℕ) (n : ℕ) → IsReadLive bytes clients calls rest → rest ≢ [] → (BeginsWithCall clients rest → ⊥) → n ≡ length calls + 2 → IsBadLiveLine bytes n
stops bytes clients calls rest n read more bad number =
    inr (record {
      clients = clients;
      calls = calls;
      rest = rest;
      clients_fit = read.clients_fit;
      each = read.each;
      front = read.front;
      more = more;
      bad = bad;
      number = number;
    })

-- the first line is its word, a number and an LF
pub live_line-append : (clients : ℕ) (rest : List ℕ) → live_line clients ++ rest ≡ codes "live " ++ (decimal clients ++ 10 ∷ rest)
live_line-append clients rest = ap (λ text. codes "live " ++ text) (append_assoc (decimal clients) (10 ∷ []) rest)

-- behind its word it reads as a number
pub clients_are_read : (bytes behind : List ℕ) → bytes ≡ codes "live " ++ behind → (found : BeginsWithClients bytes) → ReadsNumber 16 behind found.0 (10 ∷ found.1)
clients_are_read bytes behind is found =
    record {
      fit = found.2;
      whole = append_cancel_left (codes "live ") behind (decimal found.0 ++ 10 ∷ found.1) (sym is ∙ found.3 ∙ live_line-append found.0 found.1);
      ends = λ digit. absurd (omega (arith, digit.0));
    }

-- where a number was read there, an LF stands behind it
pub line_ends : (bytes behind : List ℕ) (n : ℕ) (end : List ℕ) → bytes ≡ codes "live " ++ behind → ReadsNumber 16 behind n end → (found : BeginsWithClients bytes) → end ≡ 10 ∷ found.1
line_ends bytes behind n end is read found =
    let other = clients_are_read bytes behind is found in
    (number_once n found.0 end (10 ∷ found.1) (omega (arith, read.fit.high)) (omega (arith, found.2.high)) read.ends other.ends (sym read.whole ∙ other.whole)).1

-- two readings of a first line agree
pub clients_once : (clients : ℕ) (rest : List ℕ) (clients' : ℕ) (rest' : List ℕ) → AreClients clients → AreClients clients' → live_line clients ++ rest ≡ live_line clients' ++ rest' → (clients ≡ clients') × (rest ≡ rest')
clients_once clients rest clients' rest' few few' same =
    let behind : decimal clients ++ 10 ∷ rest ≡ decimal clients' ++ 10 ∷ rest' = append_cancel_left (codes "live ") (decimal clients ++ 10 ∷ rest) (decimal clients' ++ 10 ∷ rest') (sym (live_line-append clients rest) ∙ same ∙ live_line-append clients' rest') in
    let once = number_once clients clients' (10 ∷ rest) (10 ∷ rest') (omega (arith, few.high)) (omega (arith, few'.high)) (λ digit. absurd (omega (arith, digit.0))) (λ digit. absurd (omega (arith, digit.0))) behind in
    (once.0, ap (drop 1) once.1)
