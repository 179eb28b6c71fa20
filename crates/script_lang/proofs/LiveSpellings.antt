-- Bytes have one spelling as live input: at most one plan, and one first bad line.
use Rattle.std.proofs.Common.{◌≡◌, ℕ, inl, inr, List, [], ◌∷◌, ◌++◌, length, refl, sym, ap, ◌∙◌, subst, arith, append_assoc}
use Rattle.std.specs.Prelude.{All, flat_map}
use Rattle.std.proofs.lemmas.List.{length-append, append-nil, nil_from_length}
use Rattle.std.proofs.lemmas.List.Elements.{All-head, All-tail}
use Rattle.kr_order.specs.declared.ids.ClientId.{ClientId}
use Rattle.script_lang.specs.declared.live.LiveCall.{LiveCall}
use Rattle.script_lang.specs.declared.live.LivePlan.{LivePlan}
use Rattle.script_lang.specs.Line.{line}
use Rattle.script_lang.specs.Live.{AreClients, IsCalled, ParsesLive, BeginsWithCall, BeginsWithClients, StopsLiveAt, live_text, live_line, call_lines}
use Rattle.script_lang.specs.LiveLaws.{BadLiveLinesAreInNoPlan, TheBadLiveLineIsOne, ASpellingIsOfOnePlan, PlansAreReadAsPrinted}
use Rattle.script_lang.proofs.LiveLineLemmas.{IsReadLive, call_line-once, clients_once, no_bytes}

abbrev Calls : Type 0
Calls = List (ClientId × LiveCall)

-- the lines of the other reading, and what is after them, are in this one
record GoesOn (calls : Calls) (rest : List ℕ) (others : Calls) (other_rest : List ℕ) : Type 0 where
  pub more : Calls
  pub calls_are : calls ≡ others ++ more
  pub rest_is : other_rest ≡ call_lines more ++ rest

-- where no line of a call follows, no other reading of the bytes has more calls
goes_on : (clients : ℕ) → AreClients clients → (calls : Calls) (rest : List ℕ) (others : Calls) (other_rest : List ℕ) → All (IsCalled clients) calls → All (IsCalled clients) others → (BeginsWithCall clients rest → ⊥) → call_lines calls ++ rest ≡ call_lines others ++ other_rest → GoesOn calls rest others other_rest
goes_on clients few calls rest [] other_rest _ _ _ same = record { more = calls; calls_are = refl; rest_is = sym same }
goes_on clients few [] rest (o ∷ others) other_rest _ fit stops same =
    absurd (stops (o, call_lines others ++ other_rest, All-head (IsCalled clients) o others fit, same ∙ append_assoc (line (live_text o)) (call_lines others) other_rest))
goes_on clients few (e ∷ calls) rest (o ∷ others) other_rest fit fit' stops same =
    let lines : line (live_text e) ++ (call_lines calls ++ rest) ≡ line (live_text o) ++ (call_lines others ++ other_rest) = sym (append_assoc (line (live_text e)) (call_lines calls) rest) ∙ same ∙ append_assoc (line (live_text o)) (call_lines others) other_rest in
    let firsts = call_line-once clients few e o (call_lines calls ++ rest) (call_lines others ++ other_rest) (All-head (IsCalled clients) e calls fit) (All-head (IsCalled clients) o others fit') lines in
    let tails = goes_on clients few calls rest others other_rest (All-tail (IsCalled clients) e calls fit) (All-tail (IsCalled clients) o others fit') stops firsts.1 in
    record {
      more = tails.more;
      calls_are = ap (λ x. x ∷ calls) firsts.0 ∙ ap (λ xs. o ∷ xs) tails.calls_are;
      rest_is = tails.rest_is;
    }

all_read : (bytes : List ℕ) (plan : LivePlan) → ParsesLive bytes plan → IsReadLive bytes plan.clients plan.calls []
all_read bytes plan parses =
    record {
      clients_fit = parses.fit.clients_fit;
      each = parses.fit.each;
      front = parses.spelt ∙ sym (append-nil (live_line plan.clients ++ call_lines plan.calls));
    }

stopped : (bytes : List ℕ) (n : ℕ) → (stops : StopsLiveAt bytes n) → IsReadLive bytes stops.clients stops.calls stops.rest
stopped bytes n stops = record { clients_fit = stops.clients_fit; each = stops.each; front = stops.front }

begins : (bytes : List ℕ) (c : ℕ) (calls : Calls) (rest : List ℕ) → IsReadLive bytes c calls rest → BeginsWithClients bytes
begins bytes c calls rest read =
    (c, call_lines calls ++ rest, read.clients_fit, read.front ∙ append_assoc (live_line c) (call_lines calls) rest)

-- two readings of the same bytes have the same first line
one_line : (bytes : List ℕ) (c : ℕ) (calls : Calls) (rest : List ℕ) (c' : ℕ) (others : Calls) (other_rest : List ℕ) → IsReadLive bytes c calls rest → IsReadLive bytes c' others other_rest → (c ≡ c') × (call_lines calls ++ rest ≡ call_lines others ++ other_rest)
one_line bytes c calls rest c' others other_rest one other =
    clients_once c (call_lines calls ++ rest) c' (call_lines others ++ other_rest) one.clients_fit other.clients_fit (sym (append_assoc (live_line c) (call_lines calls) rest) ∙ sym one.front ∙ other.front ∙ append_assoc (live_line c') (call_lines others) other_rest)

-- and where no line of a call follows the one, its calls go on after the other's
reads_on : (bytes : List ℕ) (c : ℕ) (calls : Calls) (rest : List ℕ) (c' : ℕ) (others : Calls) (other_rest : List ℕ) → IsReadLive bytes c calls rest → IsReadLive bytes c' others other_rest → (BeginsWithCall c rest → ⊥) → GoesOn calls rest others other_rest
reads_on bytes c calls rest c' others other_rest one other bad =
    let same = one_line bytes c calls rest c' others other_rest one other in
    goes_on c one.clients_fit calls rest others other_rest one.each (subst (λ n. All (IsCalled n) others) (sym same.0) other.each) bad same.1

nothing_after : (xs ys : List ℕ) → [] ≡ xs ++ ys → ys ≡ []
nothing_after xs ys is = nil_from_length ys (omega (arith, ap length is, length-append xs ys))

stops_in_no_plan : (bytes : List ℕ) (n : ℕ) (plan : LivePlan) → StopsLiveAt bytes n → ParsesLive bytes plan → ⊥
stops_in_no_plan bytes n plan stops parses =
    let on = reads_on bytes stops.clients stops.calls stops.rest plan.clients plan.calls [] (stopped bytes n stops) (all_read bytes plan parses) stops.bad in
    stops.more (nothing_after (call_lines on.more) stops.rest on.rest_is)

pub bad_in_none : BadLiveLinesAreInNoPlan
bad_in_none bytes n plan (inl first) parses =
    first.1 (begins bytes plan.clients plan.calls [] (all_read bytes plan parses))
bad_in_none bytes n plan (inr stops) parses = stops_in_no_plan bytes n plan stops parses

stops_once : (bytes : List ℕ) (m n : ℕ) → StopsLiveAt bytes m → StopsLiveAt bytes n → m ≡ n
stops_once bytes m n one other =
    let on = reads_on bytes one.clients one.calls one.rest other.clients other.calls other.rest (stopped bytes m one) (stopped bytes n other) one.bad in
    let back = reads_on bytes other.clients other.calls other.rest one.clients one.calls one.rest (stopped bytes n other) (stopped bytes m one) other.bad in
    omega (arith, one.number, other.number, ap length on.calls_are, length-append other.calls on.more, ap length back.calls_are, length-append one.calls back.more)

pub bad_is_one : TheBadLiveLineIsOne
bad_is_one bytes m n (inl one) (inl other) = one.0 ∙ sym other.0
bad_is_one bytes m n (inl one) (inr other) =
    absurd (one.1 (begins bytes other.clients other.calls other.rest (stopped bytes n other)))
bad_is_one bytes m n (inr one) (inl other) =
    absurd (other.1 (begins bytes one.clients one.calls one.rest (stopped bytes m one)))
bad_is_one bytes m n (inr one) (inr other) = stops_once bytes m n one other

same_plan : (c c' : ℕ) (calls calls' : Calls) → c ≡ c' → calls ≡ calls' → (let one : LivePlan = record { clients = c; calls = calls } in let other : LivePlan = record { clients = c'; calls = calls' } in one ≡ other)
same_plan c c' calls calls' cs ess =
    let f : ℕ → Calls → LivePlan = λ x y. record { clients = x; calls = y } in
    ap (λ x. f x calls) cs ∙ ap (λ y. f c' y) ess

pub spelt_once : ASpellingIsOfOnePlan
spelt_once bytes one other parses parses' =
    let read = all_read bytes one parses in
    let read' = all_read bytes other parses' in
    let same = one_line bytes one.clients one.calls [] other.clients other.calls [] read read' in
    let on = reads_on bytes one.clients one.calls [] other.clients other.calls [] read read' (no_bytes one.clients) in
    let back = reads_on bytes other.clients other.calls [] one.clients one.calls [] read' read (no_bytes other.clients) in
    let none : on.more ≡ [] = nil_from_length on.more (omega (arith, ap length on.calls_are, length-append other.calls on.more, ap length back.calls_are, length-append one.calls back.more)) in
    same_plan one.clients other.clients one.calls other.calls same.0 (on.calls_are ∙ ap (λ m. other.calls ++ m) none ∙ append-nil other.calls)

lines_one_by_one : (calls : Calls) → call_lines calls ≡ flat_map (λ call. line (live_text call)) calls
lines_one_by_one [] = refl
lines_one_by_one (call ∷ calls) = ap (λ lines. line (live_text call) ++ lines) (lines_one_by_one calls)

pub read_as_printed : PlansAreReadAsPrinted
read_as_printed bytes plan =
    let printed = ap (λ lines. live_line plan.clients ++ lines) (lines_one_by_one plan.calls) in
    (λ parses. (parses.fit, sym (parses.spelt ∙ printed)), λ is. record { fit = is.0; spelt = sym (printed ∙ is.1) })
