-- What a run tells its clients is in order, and each has seen what it has heard of.
use Rattle.std.proofs.Common.{zero, suc, ◌≡◌, ℕ, ◌+◌, ◌-◌, ◌≤◌, List, [], ◌∷◌, ◌++◌, map, take, refl, ap, subst, arith}
use Rattle.std.specs.Prelude.{max, Option, None, Some, All, AllPairs, slice_get}
use Rattle.std.proofs.lemmas.List.Elements.{All-nil, All-head, All-append, All-map, All-weaker}
use Rattle.std.proofs.lemmas.Option.{none-some, same_Some}
use Rattle.kr_order.specs.declared.ids.ClientId.{ClientId}
use Rattle.kr_order.specs.declared.answer.Answer.{Answer}
use Rattle.kr_order.specs.declared.answer.Answer.TheVariants.{Before, After, Same, Concurrent, Unknown, Unsure}
use Rattle.kr_order.specs.declared.answer.ToldPart.{ToldPart}
use Rattle.kr_protocol.specs.Client.{Client}
use Rattle.script_lang.specs.declared.script.Event.{Event}
use Rattle.script_lang.specs.declared.script.Script.{Script}
use Rattle.script_lang.specs.Event.{IsEvent}
use Rattle.script_lang.specs.Script.{IsScript}
use Rattle.kr_world.specs.World.{World, first_world, client_at}
use Rattle.kr_world.specs.Step.{Outcome, step}
use Rattle.kr_world.specs.Round.{steps_of}
use Rattle.kr_world.specs.Run.{Turn, run_from, run_of}
use Rattle.kr_world.specs.Facts.{AreFacts}
use Rattle.kr_world.specs.Lawful.{IsCurrent, MayFollow, AreInOrder, IsToldInOrder, SeesWhatItHears, seen_of, seen_by}
use Rattle.kr_world.specs.Seen.{Telling, a_reply, a_part, listener, named, tellings_in, tellings_of, heard_in, heard_of, greatest}
use Rattle.kr_world.proofs.facts.KeepLemmas.{IsNewReply, IsNewPart, TellsTruly}
use Rattle.kr_world.proofs.runs.RunLemmas.{MayGoOn, first_turn, first_kept, goes_on, may_begin}
use Rattle.kr_world.proofs.seen.SeenStepLemmas.{step_in_order}
use Rattle.kr_world.proofs.seen.TellingLemmas.{greatest-append, AllPairs-nil, AllPairs-append}

-- what is current for who has seen so much is so for who has seen less
current_less : (less seen : ℕ) (part : ToldPart) (answer : Answer) → less ≤ seen → IsCurrent seen part answer → IsCurrent less part answer
current_less less seen part Before le is = tt
current_less less seen part After le is = tt
current_less less seen part Same le is = tt
current_less less seen part Concurrent le is = omega (arith, le, is)
current_less less seen part Unknown le is = omega (arith, le, is)
current_less less seen part Unsure le is = is

-- a telling may follow all that its client has seen in this world
abbrev IsNew : World → Telling → Type 0
IsNew world telling = (n : ℕ) → n ≤ seen_of (client_at world (listener telling)) → MayFollow n telling

-- so may each of a step that tells the truth
new_tellings : (world : World) (outcome : Outcome) → TellsTruly world outcome → All (IsNew world) (tellings_in outcome)
new_tellings world outcome tells =
    let history = outcome.after.history in
    let replies : All (λ told. IsNew world (a_reply told)) outcome.told =
    All-weaker (IsNewReply world history) (λ told. IsNew world (a_reply told)) (λ told is n le. omega (arith, le, is.past_seen)) outcome.told tells.told in
    let parts : All (λ part. IsNew world (a_part part)) outcome.parts =
    All-weaker (IsNewPart world history) (λ part. IsNew world (a_part part)) (λ part is n le. current_less n (seen_of (client_at world part.client)) part.part part.part.answer le is.current) outcome.parts tells.parts in
    All-append (IsNew world) (map a_reply outcome.told) (map a_part outcome.parts) (All-map (IsNew world) a_reply outcome.told replies) (All-map (IsNew world) a_part outcome.parts parts)

-- the tellings of a run from this world: each may follow what its client has seen, and those before it
record TellsInOrder (world : World) (run : List Turn) : Type 0 where
  new : All (IsNew world) (tellings_of run)
  pairs : AllPairs AreInOrder (tellings_of run)

run_in_order : (past : List Turn) (world : World) (events : List Event) → MayGoOn past world events → TellsInOrder world (run_from world events)
run_in_order past world [] may = record { new = All-nil (IsNew world); pairs = AllPairs-nil AreInOrder }
run_in_order past world (event ∷ events) may =
    let outcome = step world event in
    let after = outcome.after in
    let first = tellings_in outcome in
    let rest = tellings_of (run_from after events) in
    let its = step_in_order past world event (All-head IsEvent event events may.each) may.facts in
    let later = run_in_order (past ++ first_turn world event ∷ []) after events (goes_on past world event events may) in
    let now = new_tellings world outcome (first_kept past world event events may).tells in
    let Known : Telling → Type 0 = λ telling. named telling ≤ seen_of (client_at after (listener telling)) in
    record {
      new = All-append (IsNew world) first rest now (All-weaker (IsNew after) (IsNew world) (λ telling may_follow n le. may_follow n (omega (arith, le, its.grows (listener telling)))) rest later.new);
      pairs = AllPairs-append AreInOrder first rest its.order later.pairs (All-weaker Known (λ x. All (AreInOrder x) rest) (λ x known. All-weaker (IsNew after) (AreInOrder x) (λ y may_follow same. may_follow (named x) (subst (λ c. named x ≤ seen_of (client_at after c)) same known)) rest later.new) first its.known);
    }

-- what a client has seen before a step of a run
run_seen : (past : List Turn) (world : World) (events : List Event) → MayGoOn past world events → (i : ℕ) (turn : Turn)
    → slice_get (run_from world events) i ≡ Some turn → (client : ClientId) → 1 ≤ client.0
    → seen_by turn client ≡ max (seen_of (client_at world client)) (greatest (heard_of client (take i (run_from world events))))
run_seen past world [] may i turn is client low = absurd (none-some turn is)
run_seen past world (event ∷ events) may zero turn is client low =
    let same = ap (λ (t : Turn). seen_by t client) (same_Some (first_turn world event) turn is) in
    omega (arith, same)
run_seen past world (event ∷ events) may (suc i) turn is client low =
    let first = first_turn world event in
    let after = (step world event).after in
    let its = step_in_order past world event (All-head IsEvent event events may.each) may.facts in
    let later = run_seen (past ++ first ∷ []) after events (goes_on past world event events may) i turn is client low in
    let more = greatest-append (heard_in client first) (heard_of client (take i (run_from after events))) in
    omega (arith, its.seen client low, later, more)

-- and after it
run_seen_then : (past : List Turn) (world : World) (events : List Event) → MayGoOn past world events → (i : ℕ) (turn : Turn)
    → slice_get (run_from world events) i ≡ Some turn → (client : ClientId) → 1 ≤ client.0
    → seen_of (client_at turn.outcome.after client) ≡ max (seen_of (client_at world client)) (greatest (heard_of client (take (suc i) (run_from world events))))
run_seen_then past world [] may i turn is client low = absurd (none-some turn is)
run_seen_then past world (event ∷ events) may zero turn is client low =
    let first = first_turn world event in
    let same = ap (λ (t : Turn). seen_of (client_at t.outcome.after client)) (same_Some first turn is) in
    let its = step_in_order past world event (All-head IsEvent event events may.each) may.facts in
    omega (arith, same, its.seen client low, greatest-append (heard_in client first) [])
run_seen_then past world (event ∷ events) may (suc i) turn is client low =
    let first = first_turn world event in
    let after = (step world event).after in
    let its = step_in_order past world event (All-head IsEvent event events may.each) may.facts in
    let later = run_seen_then (past ++ first ∷ []) after events (goes_on past world event events may) i turn is client low in
    let more = greatest-append (heard_in client first) (heard_of client (take (suc i) (run_from after events))) in
    omega (arith, its.seen client low, later, more)

-- nobody has seen anything before the first step
none_seen : (servers clients : ℕ) → AreFacts [] (first_world servers clients) → (client : ClientId) → seen_of (client_at (first_world servers clients) client) ≡ 0
none_seen servers clients facts client = by_found (client_at (first_world servers clients) client) refl
  where
    by_found : (found : Option Client) → client_at (first_world servers clients) client ≡ found → seen_of found ≡ 0
    by_found None at = refl
    by_found (Some it) at = omega (arith, (facts.clients (client.0 - 1) it at).within)

pub told_in_order : (script : Script) → IsScript script → IsToldInOrder (run_of script)
told_in_order script fit =
    let first = first_world script.servers script.clients in
    (run_in_order [] first (steps_of first script.events) (may_begin script fit)).pairs

pub sees_what_it_hears : (script : Script) → IsScript script → SeesWhatItHears (run_of script)
sees_what_it_hears script fit =
    let first = first_world script.servers script.clients in
    let steps = steps_of first script.events in
    let run = run_of script in
    let may = may_begin script fit in
    let none = none_seen script.servers script.clients may.facts in
    record {
      before = λ i turn is client low. omega (arith, run_seen [] first steps may i turn is client low, none client);
      after = λ i turn is client low.
          let next : suc i ≡ i + 1 = omega arith in
          let same = ap (λ n. greatest (heard_of client (take n run))) next in
          omega (arith, run_seen_then [] first steps may i turn is client low, none client, same);
    }
