-- The clients of a run, all together.
use Rattle.std.proofs.Common.{◌≡◌, ◌≢◌, ◌⊎◌, inl, inr, ℕ, ◌+◌, ◌<◌, ◌≤◌, ◌==◌, Bool, true, false, List, [], ◌∷◌, ◌++◌, length, slice_index_or, map, refl, sym, ap, ◌∙◌, subst, arith}
use native.Mathlib.Numerals.{unary_clauses}
use Rattle.std.specs.Prelude.{All}
use Rattle.std.proofs.lemmas.Bool.{eqb-true, false≢true}
use Rattle.std.proofs.Common.{eq-eqb}
use Rattle.std.proofs.lemmas.List.Elements.{All-nil, All-cons, All-head, All-tail}
use Rattle.kr_order.specs.declared.ids.ClientId.{ClientId}
use Rattle.kr_order.specs.declared.history.Command.{Command as Begun}
use Rattle.kr_order.specs.declared.history.Entry.{Entry}
use Rattle.kr_order.specs.Prefix.{IsPrefix}
use Rattle.script_lang.specs.Number.{IsFromOneTo}
use Rattle.script_lang.specs.declared.live.LiveCall.{LiveCall}
use Rattle.script_lang.specs.declared.live.LivePlan.{LivePlan}
use Rattle.live_service.specs.declared.calls.LiveAnswer.{LiveAnswer}
use Rattle.live_service.specs.declared.run.Caller.{Caller}
use Rattle.live_service.specs.Views.{ServiceId, ServiceView, PassView}
use Rattle.live_service.specs.Own.{entries_of, numbered, AreWithin}
use Rattle.live_service.specs.Close.{IsOf, IsApart, AreApart, AreAll, IsClosed, IsHistory}
use Rattle.live_service.specs.Lawful.{own_call, calls_of, commands_in, AreAnswered, HaveAnswers, IsByOneOf, LiveLawful}
use Rattle.live_service.specs.Calls.{HasCalled}
use Rattle.live_service.specs.Runs.{IsRun, AreNumbered, HasEnough, passes_of, answers_of}
use Rattle.live_service.proofs.CallLemmas.{answered_longer, own_call-other}
use Rattle.live_service.proofs.OwnLemmas.{length-numbered, within_longer, within_own, within_whole}

-- one client more
pub numbered_push : (number : ℕ) (callers : List Caller) (caller : Caller) → AreNumbered number callers → caller.pass.client.0 ≡ number + length callers → AreNumbered number (callers ++ caller ∷ [])
numbered_push number [] caller are is = (is ∙ (let same : number + 0 ≡ number = omega arith in same), tt)
numbered_push number (c ∷ cs) caller are is =
    (are.0, numbered_push (number + 1) cs caller are.1 (is ∙ (let same : number + length (c ∷ cs) ≡ number + 1 + length cs = omega arith in same)))

after : (c : Caller) (cs : List Caller) (i : ℕ) (d : Caller) → slice_index_or (c ∷ cs) (i + 1) d ≡ slice_index_or cs i d
after c cs i d = simp unary_clauses refl

-- clients keep their numbers
pub numbered_same : (number : ℕ) (olds news : List Caller) → length news ≡ length olds → ((i : ℕ) (d : Caller) → i < length olds → (slice_index_or news i d).pass.client.0 ≡ (slice_index_or olds i d).pass.client.0) → AreNumbered number olds → AreNumbered number news
numbered_same number [] [] many same are = tt
numbered_same number [] (n ∷ ns) many same are = absurd (omega (arith, many))
numbered_same number (o ∷ os) [] many same are = absurd (omega (arith, many))
numbered_same number (o ∷ os) (n ∷ ns) many same are =
    let first : n.pass.client.0 ≡ o.pass.client.0 = same 0 o (omega arith) in
    let rest : AreNumbered (number + 1) ns = numbered_same (number + 1) os ns (omega (arith, many)) (λ i d below. ap (λ c. c.pass.client.0) (sym (after n ns i d)) ∙ same (i + 1) d (omega (arith, below)) ∙ ap (λ c. c.pass.client.0) (after o os i d)) are.1 in
    (first ∙ are.0, rest)

-- no client with a lesser number is among them
apart_below : (number : ℕ) (callers : List Caller) (client : ClientId) → AreNumbered number callers → client.0 < number → All (IsApart client) (passes_of callers)
apart_below number [] client are below = All-nil (IsApart client)
apart_below number (c ∷ cs) client are below =
    let apart : IsApart client c.pass = λ same. absurd (let first = are.0 in omega (arith, same, first, below)) in
    All-cons (IsApart client) c.pass (passes_of cs) apart (apart_below (number + 1) cs client are.1 (omega (arith, below)))

-- each is of another client
apart_each : (number : ℕ) (callers : List Caller) → AreNumbered number callers → AreApart (passes_of callers)
apart_each number [] are = tt
apart_each number (c ∷ cs) are =
    let below : c.pass.client.0 < number + 1 = (let first = are.0 in omega (arith, first)) in
    (apart_below (number + 1) cs c.pass.client are.1 below, apart_each (number + 1) cs are.1)

length-passes_of : (callers : List Caller) → length (passes_of callers) ≡ length callers
length-passes_of [] = refl
length-passes_of (c ∷ cs) = omega (arith, length-passes_of cs)

-- their passes are of the service
of_service : (id : ServiceId) (calls : List (ClientId × LiveCall)) (callers : List Caller) → All (IsRun id calls) callers → All (IsOf id) (passes_of callers)
of_service id calls [] run = All-nil (IsOf id)
of_service id calls (c ∷ cs) run =
    All-cons (IsOf id) c.pass (passes_of cs) (All-head (IsRun id calls) c cs run).service (of_service id calls cs (All-tail (IsRun id calls) c cs run))

-- and all that it was made with
pub all_passes : (service : ServiceView) (calls : List (ClientId × LiveCall)) (callers : List Caller) (passes : List PassView) → passes ≡ passes_of callers → All (IsRun service.id calls) callers → AreNumbered 1 callers → length callers ≡ service.passes → AreAll service passes
all_passes service calls callers passes is run are many =
    subst (AreAll service) (sym is) (record {
      each = of_service service.id calls callers run;
      apart = apart_each 1 callers are;
      many = length-passes_of callers ∙ many;
    })

-- a client all of whose calls were answered, once the service is closed
record IsServed (history : List Entry) (client : ClientId) (calls : List LiveCall) (answers : List LiveAnswer) : Type 0 where
  own : entries_of client history ≡ numbered client 1 (commands_in calls)
  told : AreAnswered history client 0 0 calls answers

served : (pass : PassView) (history : List Entry) (calls : List LiveCall) (answers : List LiveAnswer) → HasCalled pass calls answers → IsClosed history pass → IsServed history pass.client calls answers
served pass history calls answers has closed =
    let client : ClientId = pass.client in
    let commands : List Begun = commands_in calls in
    let longer : AreWithin (numbered client 1 commands) history = subst (AreWithin (numbered client 1 commands)) (sym closed.known.is) (within_longer (numbered client 1 commands) pass.known closed.known.more has.within) in
    let within : AreWithin (numbered client 1 commands) (entries_of client history) = within_own client 1 commands history longer in
    let just = closed.own in
    record {
      own = within_whole (numbered client 1 commands) (entries_of client history) within (omega (arith, ap length just.own, length-numbered client 1 just.commands, just.many, length-numbered client 1 commands, has.many));
      told = answered_longer pass.known history client 0 0 calls answers closed.known has.answered;
    }

-- so was each of them
abbrev AreServed : List Entry → List (ClientId × LiveCall) → List Caller → Type 0
AreServed history calls callers = All (λ (caller : Caller). IsServed history caller.pass.client (calls_of caller.pass.client calls) caller.answers) callers

all_served : (id : ServiceId) (calls : List (ClientId × LiveCall)) (callers : List Caller) (history : List Entry) → All (IsRun id calls) callers → All HasEnough callers → All (IsClosed history) (passes_of callers) → AreServed history calls callers
all_served id calls [] history run enough closed = All-nil (λ (caller : Caller). IsServed history caller.pass.client (calls_of caller.pass.client calls) caller.answers)
all_served id calls (c ∷ cs) history run enough closed =
    let Is : Caller → Type 0 = λ caller. IsServed history caller.pass.client (calls_of caller.pass.client calls) caller.answers in
    let behind = (All-head (IsRun id calls) c cs run).behind (All-head HasEnough c cs enough) in
    let first : Is c = served c.pass history (calls_of c.pass.client calls) c.answers behind (All-head (IsClosed history) c.pass (passes_of cs) closed) in
    All-cons Is c cs first (all_served id calls cs history (All-tail (IsRun id calls) c cs run) (All-tail HasEnough c cs enough) (All-tail (IsClosed history) c.pass (passes_of cs) closed))

-- a client's number is that of the client
same_client : (one other : ClientId) → one.0 ≡ other.0 → one ≡ other
same_client one other same = ap (λ (n : ℕ). let c : ClientId = record { 0 = n } in c) same

-- each has its answers
have_answers : (history : List Entry) (calls : List (ClientId × LiveCall)) (number : ℕ) (callers : List Caller) → AreNumbered number callers → AreServed history calls callers → HaveAnswers history calls number (answers_of callers)
have_answers history calls number [] are served = tt
have_answers history calls number (c ∷ cs) are served =
    let Is : Caller → Type 0 = λ caller. IsServed history caller.pass.client (calls_of caller.pass.client calls) caller.answers in
    let client : ClientId = record { 0 = number } in
    let same : c.pass.client ≡ client = same_client c.pass.client client are.0 in (
      subst (λ (one : ClientId). AreAnswered history one 0 0 (calls_of one calls) c.answers) same (All-head Is c cs served).told,
      have_answers history calls (number + 1) cs are.1 (All-tail Is c cs served),
    )

-- the entries of a client that is among them, or it is another
abbrev HasOwn : List Entry → List (ClientId × LiveCall) → ClientId → Type 0
HasOwn history calls client = entries_of client history ≡ numbered client 1 (commands_in (calls_of client calls))

own_or_apart : (history : List Entry) (calls : List (ClientId × LiveCall)) (callers : List Caller) (client : ClientId) → AreServed history calls callers → HasOwn history calls client ⊎ All (IsApart client) (passes_of callers)
own_or_apart history calls [] client served = inr (All-nil (IsApart client))
own_or_apart history calls (c ∷ cs) client served = by_test (c.pass.client.0 == client.0) refl (own_or_apart history calls cs client (All-tail Is c cs served))
  where
    Is : Caller → Type 0
    Is caller = IsServed history caller.pass.client (calls_of caller.pass.client calls) caller.answers

    by_test : (test : Bool) → (c.pass.client.0 == client.0) ≡ test → HasOwn history calls client ⊎ All (IsApart client) (passes_of cs) → HasOwn history calls client ⊎ All (IsApart client) (passes_of (c ∷ cs))
    by_test true is rest =
        let same : c.pass.client ≡ client = same_client c.pass.client client (eqb-true c.pass.client.0 client.0 is) in
        inl (subst (HasOwn history calls) same (All-head Is c cs served).own)
    by_test false is (inl own) = inl own
    by_test false is (inr apart) =
        let other : IsApart client c.pass = λ same. false≢true (sym is ∙ eq-eqb c.pass.client.0 client.0 same) in
        inr (All-cons (IsApart client) c.pass (passes_of cs) other apart)

-- a client that is none of them has a lesser or a greater number
no_number : (number : ℕ) (callers : List Caller) (client : ClientId) → AreNumbered number callers → All (IsApart client) (passes_of callers) → number ≤ client.0 → client.0 < number + length callers → ⊥
no_number number [] client are apart low high = omega (arith, low, high)
no_number number (c ∷ cs) client are apart low high =
    let other : c.pass.client.0 ≢ client.0 = All-head (IsApart client) c.pass (passes_of cs) apart in
    let above : number + 1 ≤ client.0 = (let first = are.0 in by_test (number == client.0) refl) in
    no_number (number + 1) cs client are.1 (All-tail (IsApart client) c.pass (passes_of cs) apart) above (omega (arith, high))
  where
    differ : number ≢ client.0
    differ same = All-head (IsApart client) c.pass (passes_of cs) apart (are.0 ∙ same)

    by_test : (test : Bool) → (number == client.0) ≡ test → number + 1 ≤ client.0
    by_test true is = absurd (differ (eqb-true number client.0 is))
    by_test false is = omega (arith, low, differ)

-- a plan of so many clients has no calls of another
no_calls : (clients : ℕ) (client : ClientId) (calls : List (ClientId × LiveCall)) → All (IsByOneOf clients) calls → (IsFromOneTo clients client.0 → ⊥) → calls_of client calls ≡ []
no_calls clients client [] each outside = refl
no_calls clients client (c ∷ cs) each outside =
    let first : IsFromOneTo clients c.0.0 = All-head (IsByOneOf clients) c cs each in
    let apart : c.0.0 ≢ client.0 = λ same. outside (subst (IsFromOneTo clients) same first) in
    ap (λ l. l ++ calls_of client cs) (own_call-other client c apart) ∙ no_calls clients client cs (All-tail (IsByOneOf clients) c cs each) outside

length-answers_of : (callers : List Caller) → length (answers_of callers) ≡ length callers
length-answers_of [] = refl
length-answers_of (c ∷ cs) = omega (arith, length-answers_of cs)

-- what came of all clients is lawful
pub lawful : (id : ServiceId) (plan : LivePlan) (callers : List Caller) (passes : List PassView) (answers : List (List LiveAnswer)) (history : List Entry) → All (IsByOneOf plan.clients) plan.calls → All (IsRun id plan.calls) callers → AreNumbered 1 callers → All HasEnough callers → length callers ≡ plan.clients → passes ≡ passes_of callers → answers ≡ answers_of callers → IsHistory passes history → LiveLawful plan answers history
lawful id plan callers passes answers history each run are enough many passes_is answers_is closed =
    let closed_each : All (IsClosed history) (passes_of callers) = subst (All (IsClosed history)) passes_is closed.each in
    let all : AreServed history plan.calls callers = all_served id plan.calls callers history run enough closed_each in
    record {
      own = λ client. by_case client (own_or_apart history plan.calls callers client all);
      many = ap length answers_is ∙ length-answers_of callers ∙ many;
      told = subst (HaveAnswers history plan.calls 1) (sym answers_is) (have_answers history plan.calls 1 callers are all);
    }
  where
    by_case : (client : ClientId) → HasOwn history plan.calls client ⊎ All (IsApart client) (passes_of callers) → HasOwn history plan.calls client
    by_case client (inl own) = own
    by_case client (inr apart) =
        let outside : IsFromOneTo plan.clients client.0 → ⊥ = λ within. no_number 1 callers client are apart within.low (let high = within.high in omega (arith, high, many)) in
        let none : calls_of client plan.calls ≡ [] = no_calls plan.clients client plan.calls each outside in
        closed.others client (subst (All (IsApart client)) (sym passes_is) apart) ∙ sym (ap (λ l. numbered client 1 (commands_in l)) none)
