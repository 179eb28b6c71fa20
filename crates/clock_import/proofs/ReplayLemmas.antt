-- The commands of a log, replayed, bring about the order of its pairs.
use Rattle.std.proofs.Common.{◌≡◌, ◌⊎◌, ℕ, zero, suc, ◌+◌, ◌<◌, ◌≤◌, Bool, true, false, cond, eqb, ltb, ◌&&◌, ◌||◌, None, Some, List, [], ◌∷◌, ◌++◌, length, map, refl, sym, ap, ◌∙◌, subst, inl, inr, ⊎_elim, arith, append_assoc}
use Rattle.std.specs.Prelude.{All, replicate, fold, not, is_none, Result, Ok, Err, IfOk}
use Rattle.std.specs.List.{position_from}
use Rattle.std.proofs.lemmas.Bool.{and_parts, and_from, both_ways, eqb-true, eq-eqb, false_from_ne_true}
use Rattle.std.proofs.lemmas.List.{append-nil}
use Rattle.std.proofs.lemmas.Iterator.Adapters.{position_from-zero}
use Rattle.std.proofs.lemmas.List.Sums.{fold-append}
use Rattle.std.proofs.lemmas.List.Elements.{All-head, All-tail, All-weaker}
use Rattle.kr_order.specs.declared.answer.Answer.TheVariants.{Before, After, Same, Concurrent, Unknown}
use Rattle.kr_order.specs.declared.batch.Pair.{Pair}
use Rattle.kr_order.specs.declared.ids.EventId.{EventId}
use Rattle.kr_order.specs.declared.history.Command.{Command}
use Rattle.kr_order.specs.declared.history.Command.TheVariants.{Create}
use Rattle.kr_order.specs.declared.history.Entry.{Entry}
use Rattle.kr_order.specs.Order.{reach, IsAcyclic, add}
use Rattle.kr_order.specs.Batch.{contradicts, contradicts_from, musts_from, prefers_from, pairs_with}
use Rattle.kr_order.specs.Agreed.{Agreed, nothing_agreed, is_live, both_live, first_unknown, accepts, after, agreed_of}
use Rattle.kr_order.specs.Answer.{answer_to}
use Rattle.kr_order.proofs.PrefixLemmas.{IsPrefix-append}
use Rattle.kr_order.proofs.OrderLemmas.{reach-push, reach-trans, reach_more}
use Rattle.kr_order.proofs.PairsLemmas.{answer_to-before}
use Rattle.script_lang.specs.Number.{IsFromOneTo}
use Rattle.clock_import.specs.declared.log.LogLine.{LogLine}
use Rattle.clock_import.specs.declared.imported.Imported.{Imported}
use Rattle.clock_import.specs.Imported.{TellsOf, IsImported}
use Rattle.clock_import.specs.Pairs.{event_pairs, pairs_to, numbered}
use Rattle.clock_import.specs.Laws.{CommandsGiveTheOrder}
use Rattle.clock_import.specs.Commands.{must_of, batches_of, batches_to, commands_of, entries_from, history_of, AnswerAs, AnswerAsTold, batches_over}
use Rattle.clock_import.proofs.StepLemmas.{reach_in}
use Rattle.clock_import.proofs.PairLemmas.{AreGood, IsLed, event_led}
use Rattle.clock_import.proofs.BringLemmas.{acyclic_fewer}
use Rattle.clock_import.proofs.GatherLemmas.{events_many, told_commands}

-- the order says what the pairs say
pub record SaysAs (order pairs : List (ℕ × ℕ)) : Type 0 where
  pub same : (a b : ℕ) → reach order a b ≡ reach pairs a b

by_or : (p q : Bool) → (p || q) ≡ true → (p ≡ true) ⊎ (q ≡ true)
by_or true q is = inl refl
by_or false q is = inr is

-- a step and a path that meet are a path
step_path : (pairs : List (ℕ × ℕ)) (a b c : ℕ) → (eqb a b || reach pairs a b) ≡ true → reach pairs b c ≡ true → reach pairs a c ≡ true
step_path pairs a b c step path =
    ⊎_elim
    (λ (same : eqb a b ≡ true). subst (λ e. reach pairs e c ≡ true) (sym (eqb-true a b same)) path)
    (λ (to : reach pairs a b ≡ true). reach-trans pairs a b c to path)
    (by_or (eqb a b) (reach pairs a b) step)

path_step : (pairs : List (ℕ × ℕ)) (a b c : ℕ) → reach pairs a b ≡ true → (eqb b c || reach pairs b c) ≡ true → reach pairs a c ≡ true
path_step pairs a b c path step =
    ⊎_elim
    (λ (same : eqb b c ≡ true). subst (λ e. reach pairs a e ≡ true) (eqb-true b c same) path)
    (λ (on : reach pairs b c ≡ true). reach-trans pairs a b c path on)
    (by_or (eqb b c) (reach pairs b c) step)

-- a pair that the order says already says nothing more
reach-known : (pairs : List (ℕ × ℕ)) (x y a b : ℕ) → reach pairs x y ≡ true → reach (pairs ++ (x, y) ∷ []) a b ≡ reach pairs a b
reach-known pairs x y a b known = by_old (reach pairs a b) refl
  where
    by_old : (old : Bool) → reach pairs a b ≡ old → reach (pairs ++ (x, y) ∷ []) a b ≡ reach pairs a b
    by_old true is =
        reach-push pairs x y a b ∙ ap (λ t. t || ((eqb a x || reach pairs a x) && (eqb y b || reach pairs y b))) is ∙ sym is
    by_old false is =
        let over = false_from_ne_true ((eqb a x || reach pairs a x) && (eqb y b || reach pairs y b))
        (λ both. let parts = and_parts (eqb a x || reach pairs a x) (eqb y b || reach pairs y b) both in both_ways
        (reach pairs a b) is (path_step pairs a y b (step_path pairs a x y parts.0 known) parts.1)) in
        reach-push pairs x y a b ∙ ap (λ t. t || ((eqb a x || reach pairs a x) && (eqb y b || reach pairs y b))) is ∙ over ∙ sym is

SaysAs-push : (order pairs : List (ℕ × ℕ)) (x y : ℕ) → SaysAs order pairs → SaysAs (order ++ (x, y) ∷ []) (pairs ++ (x, y) ∷ [])
SaysAs-push order pairs x y says =
    record {
      same = λ a b.
          reach-push order x y a b
          ∙ ap (λ t. t || ((eqb a x || reach order a x) && (eqb y b || reach order y b))) (says.same a b)
          ∙ ap (λ t. reach pairs a b || ((eqb a x || t) && (eqb y b || reach order y b))) (says.same a x)
          ∙ ap (λ t. reach pairs a b || ((eqb a x || reach pairs a x) && (eqb y b || t))) (says.same y b)
          ∙ sym (reach-push pairs x y a b);
    }

-- an order that says as much as pairs does so with a pair more
SaysAs-add : (order pairs : List (ℕ × ℕ)) (x y : ℕ) → SaysAs order pairs → SaysAs (add order x y) (pairs ++ (x, y) ∷ [])
SaysAs-add order pairs x y says = by_test (reach order x y) refl
  where
    by_test : (b : Bool) → reach order x y ≡ b → SaysAs (cond b order (order ++ (x, y) ∷ [])) (pairs ++ (x, y) ∷ [])
    by_test true known =
        record { same = λ a b. says.same a b ∙ sym (reach-known pairs x y a b (sym (says.same x y) ∙ known)) }
    by_test false _ = SaysAs-push order pairs x y says

acyclic_front : (front more : List (ℕ × ℕ)) → IsAcyclic (front ++ more) → IsAcyclic front
acyclic_front front more acyclic =
    record {
      no_cycle = λ e. false_from_ne_true (reach front e e)
          (λ turn. both_ways (reach (front ++ more) e e) (acyclic.no_cycle e)
          (reach_more front (front ++ more) e e (IsPrefix-append front more) turn));
    }

-- a pair that closes no cycle is not forbidden
allowed : (order pairs : List (ℕ × ℕ)) (x y : ℕ) → SaysAs order pairs → IsAcyclic (pairs ++ (x, y) ∷ []) →
    (eqb x y || reach order y x) ≡ false
allowed order pairs x y says acyclic =
    let more = pairs ++ (x, y) ∷ [] in
    let over : reach more x y ≡ true = reach_in more x y (record { front = pairs; back = []; is = refl }) in
    false_from_ne_true (eqb x y || reach order y x) (λ bad.
    ⊎_elim
    (λ (same : eqb x y ≡ true). both_ways (reach more x x) (acyclic.no_cycle x)
    (subst (λ e. reach more x e ≡ true) (sym (eqb-true x y same)) over))
    (λ (back : reach order y x ≡ true).
    let back' = reach_more pairs more y x (IsPrefix-append pairs ((x, y) ∷ [])) (sym (says.same y x) ∙ back) in
    both_ways (reach more x x) (acyclic.no_cycle x) (reach-trans more x y x over back'))
    (by_or (eqb x y) (reach order y x) bad))

-- all musts of the pairs are taken
pub record TakesAll (i : ℕ) (order pairs more : List (ℕ × ℕ)) : Type 0 where
  pub none : contradicts_from i order (map must_of more) ≡ None
  pub says : SaysAs (musts_from order (map must_of more)) (pairs ++ more)

takes_all : (more : List (ℕ × ℕ)) (i : ℕ) (order pairs : List (ℕ × ℕ)) → SaysAs order pairs → IsAcyclic (pairs ++ more) →
    TakesAll i order pairs more
takes_all [] i order pairs says acyclic =
    record { none = refl; says = subst (λ p. SaysAs order p) (sym (append-nil pairs)) says }
takes_all (pair ∷ more) i order pairs says acyclic =
    let longer : (pairs ++ (pair.0, pair.1) ∷ []) ++ more ≡ pairs ++ pair ∷ more = append_assoc pairs (pair ∷ []) more in
    let acyclic' = subst IsAcyclic (sym longer) acyclic in
    let free = allowed order pairs pair.0 pair.1 says (acyclic_front (pairs ++ (pair.0, pair.1) ∷ []) more acyclic') in
    let rest = takes_all more (i + 1) (add order pair.0 pair.1) (pairs ++ (pair.0, pair.1) ∷ [])
    (SaysAs-add order pairs pair.0 pair.1 says) acyclic' in
    record {
      none = ap (λ t. cond t (Some i) (contradicts_from (i + 1) (add order pair.0 pair.1) (map must_of more))) free ∙ rest.none;
      says = subst (λ p. SaysAs (musts_from (add order pair.0 pair.1) (map must_of more)) p) longer rest.says;
    }

-- musts are no prefers
no_prefer : (order more : List (ℕ × ℕ)) → prefers_from order (map must_of more) ≡ order
no_prefer order [] = refl
no_prefer order (pair ∷ more) = no_prefer order more

-- the first events, so many, are live
pub record AreLive (many : ℕ) (agreed : Agreed) : Type 0 where
  pub each : (e : ℕ) → IsFromOneTo many e → is_live agreed e ≡ true

-- both events of the pair are among the first, so many
pub record IsAmong (many : ℕ) (pair : ℕ × ℕ) : Type 0 where
  pub first : IsFromOneTo many pair.0
  pub second : IsFromOneTo many pair.1

all_known : (many : ℕ) (agreed : Agreed) (i : ℕ) (pairs : List (ℕ × ℕ)) → AreLive many agreed → All (IsAmong many) pairs →
    position_from (λ (pair : Pair). not (both_live agreed pair.first.0 pair.second.0)) i (map must_of pairs) ≡ None
all_known many agreed i [] live each = refl
all_known many agreed i (pair ∷ more) live each =
    let among = All-head (IsAmong many) pair more each in
    let both = and_from (is_live agreed pair.0) (is_live agreed pair.1) (live.each pair.0 among.first) (live.each pair.1 among.second) in
    ap (λ t. cond (not t) (Some i)
    (position_from (λ (pair : Pair). not (both_live agreed pair.first.0 pair.second.0)) (i + 1) (map must_of more))) both
    ∙ all_known many agreed (i + 1) more live (All-tail (IsAmong many) pair more each)

-- what is agreed after the events, and after the pairs
pub record IsBound (many : ℕ) (pairs : List (ℕ × ℕ)) (agreed : Agreed) : Type 0 where
  pub live : AreLive many agreed
  pub says : SaysAs agreed.pairs pairs

one_batch : (many : ℕ) (agreed : Agreed) (seq : ℕ) (pairs more : List (ℕ × ℕ)) → IsBound many pairs agreed → IsAcyclic (pairs ++ more) →
    All (IsAmong many) more → IsBound many (pairs ++ more) (fold after agreed (entries_from seq (batches_of more)))
one_batch many agreed seq pairs [] bound acyclic each =
    record { live = bound.live; says = subst (λ p. SaysAs agreed.pairs p) (sym (append-nil pairs)) bound.says }
one_batch many agreed seq pairs (pair ∷ more) bound acyclic each =
    let batch = map must_of (pair ∷ more) in
    let known : first_unknown agreed batch ≡ None = position_from-zero (λ (p : Pair). not (both_live agreed p.first.0 p.second.0)) batch
    ∙ all_known many agreed 0 (pair ∷ more) bound.live each in
    let taken = takes_all (pair ∷ more) 0 agreed.pairs pairs bound.says acyclic in
    let accepted : accepts agreed batch ≡ true = and_from (is_none (first_unknown agreed batch))
    (is_none (contradicts agreed.pairs batch)) (ap is_none known) (ap is_none taken.none) in
    let made : cond (accepts agreed batch) (pairs_with agreed.pairs batch) agreed.pairs ≡ musts_from agreed.pairs batch = ap
    (λ t. cond t (pairs_with agreed.pairs batch) agreed.pairs) accepted ∙ no_prefer (musts_from agreed.pairs batch) (pair ∷ more) in
    record {
      live = record { each = λ e within. bound.live.each e within };
      says = subst (λ order. SaysAs order (pairs ++ pair ∷ more)) (sym made) taken.says;
    }

entries_append : (seq : ℕ) (xs ys : List Command) → entries_from seq (xs ++ ys) ≡ entries_from seq xs ++ entries_from (seq + length xs) ys
entries_append seq [] ys = ap (λ n. entries_from n ys) (omega arith)
entries_append seq (x ∷ xs) ys =
    let on : seq + 1 + length xs ≡ seq + length (x ∷ xs) = omega arith in
    ap (λ l. record { client = record { 0 = 1 }; seq = seq; command = x } ∷ l)
    (entries_append (seq + 1) xs ys ∙ ap (λ n. entries_from (seq + 1) xs ++ entries_from n ys) on)

-- what is agreed after commands and more of them
replay_append : (agreed : Agreed) (seq : ℕ) (xs ys : List Command) → fold after agreed (entries_from seq (xs ++ ys)) ≡ fold after
    (fold after agreed (entries_from seq xs)) (entries_from (seq + length xs) ys)
replay_append agreed seq xs ys =
    ap (fold after agreed) (entries_append seq xs ys) ∙ fold-append after agreed (entries_from seq xs) (entries_from (seq + length xs) ys)

among : (lines : List LogLine) (n : ℕ) → n < length lines → AreGood lines → All (IsAmong (length lines)) (event_pairs lines n)
among lines n below good =
    All-weaker (IsLed lines (n + 1)) (IsAmong (length lines))
    (λ pair led. let first = led.first in let second = led.second in let low = led.from_below in let low' = led.to_below in record
    { first = record { low = omega arith; high = omega arith }; second = record { low = omega arith; high = omega arith } })
    (event_pairs lines n) (event_led lines n (omega arith) (good.good n below))

all_batches : (lines : List LogLine) (agreed : Agreed) (seq : ℕ) → AreGood lines → IsBound (length lines) [] agreed →
    IsAcyclic (pairs_to lines (length lines)) → (n : ℕ) → n ≤ length lines →
    IsBound (length lines) (pairs_to lines n) (fold after agreed (entries_from seq (batches_to lines n)))
all_batches lines agreed seq good bound acyclic zero le = bound
all_batches lines agreed seq good bound acyclic (suc n) le =
    let before = all_batches lines agreed seq good bound acyclic n (omega arith) in
    let here = one_batch (length lines) (fold after agreed (entries_from seq (batches_to lines n))) (seq + length (batches_to lines n))
    (pairs_to lines n) (event_pairs lines n) before (acyclic_fewer lines (suc n) (length lines) le acyclic)
    (among lines n (omega arith) good) in
    subst (λ a. IsBound (length lines) (pairs_to lines (suc n)) a)
    (sym (replay_append agreed seq (batches_to lines n) (batches_of (event_pairs lines n)))) here

-- what is agreed after creates alone
pub record IsMade (many : ℕ) (agreed : Agreed) : Type 0 where
  pub born : agreed.born ≡ many
  pub live : AreLive many agreed
  pub none : agreed.pairs ≡ []

all_creates : (k many all seq : ℕ) (agreed : Agreed) → many + k ≡ all → IsMade many agreed →
    IsMade all (fold after agreed (entries_from seq (replicate k Create)))
all_creates zero many all seq agreed is made =
    let same : many ≡ all = omega arith in subst (λ n. IsMade n agreed) same made
all_creates (suc k) many all seq agreed is made =
    let entry : Entry = record { client = record { 0 = 1 }; seq = seq; command = Create } in
    let born = made.born in
    let live : AreLive (many + 1) (after agreed entry) = record { each = λ e within. by_event e within (eqb e (agreed.born + 1)) refl } in
    all_creates k (many + 1) all (seq + 1) (after agreed entry) (omega arith) (record { born = omega arith; live = live; none = made.none })
  where
    by_event : (e : ℕ) → IsFromOneTo (many + 1) e → (b : Bool) → eqb e (agreed.born + 1) ≡ b → ltb 0 (cond b 1 (agreed.count e)) ≡ true
    by_event e within true _ = refl
    by_event e within false other =
        let born = made.born in
        let low = within.low in
        let high = within.high in
        let apart : e ≡ agreed.born + 1 → ⊥ = λ same. both_ways (eqb e (agreed.born + 1)) other (eq-eqb e (agreed.born + 1) same) in
        made.live.each e (record { low = low; high = omega arith })

nothing_made : IsMade 0 nothing_agreed
nothing_made =
    record {
      born = refl;
      live = record { each = λ e within. let low = within.low in let high = within.high in absurd (omega arith) };
      none = refl;
    }

-- what is agreed after all commands of a log
pub log_replayed : (lines : List LogLine) → AreGood lines → IsAcyclic (pairs_to lines (length lines)) →
    IsBound (length lines) (pairs_to lines (length lines)) (agreed_of (history_of (commands_of lines)))
log_replayed lines good acyclic =
    let many = length lines in
    let made = all_creates many 0 many 1 nothing_agreed (omega arith) nothing_made in
    let start = fold after nothing_agreed (entries_from 1 (replicate many Create)) in
    let bound : IsBound many [] start =
    record { live = made.live; says = record { same = λ a b. ap (λ pairs. reach pairs a b) made.none } } in
    subst (λ a. IsBound many (pairs_to lines many) a)
    (sym (replay_append nothing_agreed 1 (replicate many Create) (batches_to lines many)))
    (all_batches lines start (1 + length (replicate many Create)) good bound acyclic many (omega arith))

is_before : (live same ab ba : Bool) → live ≡ true → same ≡ false → ab ≡ true →
    cond live (cond same Same (cond ab Before (cond ba After Concurrent))) Unknown ≡ Before
is_before true false true ba _ _ _ = refl
is_before false same ab ba is _ _ = cc
is_before true true ab ba _ is _ = cc
is_before true false false ba _ _ is = cc

-- the answers after them are those of the pairs
pub answers_as : (lines : List LogLine) → AreGood lines → IsAcyclic (pairs_to lines (length lines)) →
    AnswerAs (commands_of lines) (length lines) (pairs_to lines (length lines))
answers_as lines good acyclic a b a_in b_in =
    let history = history_of (commands_of lines) in
    let pairs = pairs_to lines (length lines) in
    let agreed = agreed_of history in
    let bound = log_replayed lines good acyclic in
    let live = and_from (is_live agreed a) (is_live agreed b) (bound.live.each a a_in) (bound.live.each b b_in) in
    let apart : reach pairs a b ≡ true →
    eqb a b ≡ false = λ path. false_from_ne_true (eqb a b)
    (λ same. both_ways (reach pairs a a) (acyclic.no_cycle a)
    (subst (λ e. reach pairs a e ≡ true) (sym (eqb-true a b same)) path)) in (
      λ (is : answer_to history a b ≡ Before). sym (bound.says.same a b) ∙ answer_to-before history a b is,
      λ (path : reach pairs a b ≡ true). is_before (both_live agreed a b) (eqb a b) (reach agreed.pairs a b)
          (reach agreed.pairs b a) live (apart path) (bound.says.same a b ∙ path),
    )

pub commands_give : CommandsGiveTheOrder
commands_give processes lines log acyclic = answers_as lines (record { good = log.good }) acyclic

-- so do the commands of what is told of a log
pub told_as : (imported : Imported) (commands : List Command) → commands ≡ replicate (length imported.events) Create ++ batches_over
    (numbered imported.pairs) → IsImported imported → AnswerAsTold commands imported
told_as imported commands are is =
    let lines = is.lines in
    let tells = is.tells in
    let many = events_many lines imported tells in
    subst (λ n. AnswerAs commands n (numbered imported.pairs)) (sym many)
    (subst (λ pairs. AnswerAs commands (length lines) pairs) (sym tells.pairs)
    (subst (λ cs. AnswerAs cs (length lines) (pairs_to lines (length lines)))
    (sym (told_commands imported commands are lines tells))
    (answers_as lines (record { good = tells.fit.good }) tells.acyclic)))

-- what the parts of the code answer
abbrev pub IsMadeOf : ℕ → List (EventId × EventId) → List Command → Type 0
IsMadeOf events pairs commands = commands ≡ replicate events Create ++ batches_over (numbered pairs)

made_of : (imported : Imported) (events : ℕ) (pairs : List (EventId × EventId)) (commands : List Command) →
    events ≡ length imported.events → pairs ≡ imported.pairs → IsMadeOf events pairs commands →
    IsMadeOf (length imported.events) imported.pairs commands
made_of imported events pairs commands many same made =
    made ∙ ap (λ n. replicate n Create ++ batches_over (numbered pairs)) many
    ∙ ap (λ ps. replicate (length imported.events) Create ++ batches_over (numbered ps)) same

pub if_commands : {E : Type 0} (result : Result (List Command) E) (imported : Imported) (events : ℕ) (pairs : List (EventId × EventId)) →
    events ≡ length imported.events → pairs ≡ imported.pairs → IfOk result (IsMadeOf events pairs) →
    IfOk result (λ commands. (lines : List LogLine) → TellsOf lines imported → commands ≡ commands_of lines)
if_commands (Ok commands) imported events pairs many same made =
    told_commands imported commands (made_of imported events pairs commands many same made)
if_commands (Err stop) imported events pairs many same made = tt

pub if_answers : {E : Type 0} (result : Result (List Command) E) (imported : Imported) (events : ℕ) (pairs : List (EventId × EventId)) →
    IsImported imported → events ≡ length imported.events → pairs ≡ imported.pairs → IfOk result (IsMadeOf events pairs) →
    IfOk result (λ commands. AnswerAsTold commands imported)
if_answers (Ok commands) imported events pairs is many same made =
    told_as imported commands (made_of imported events pairs commands many same made) is
if_answers (Err stop) imported events pairs is many same made = tt
