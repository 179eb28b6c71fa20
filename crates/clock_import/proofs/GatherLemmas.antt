-- The batches of a log's pairs are those of its events.
use Rattle.std.proofs.Common.{◌≡◌, ℕ, zero, suc, ◌+◌, ◌<◌, ◌≤◌, Bool, true, false, cond, eqb, ltb, Option, None, Some, List, [], ◌∷◌, ◌++◌, length, refl, sym, ap, ◌∙◌, arith}
use Rattle.std.specs.Prelude.{All, replicate}
use Rattle.std.proofs.lemmas.Bool.{eqb-true, eq-eqb, false_from_ne_true, ltb-true}
use Rattle.std.proofs.lemmas.List.FromFn.{length-map-range_with_len}
use Rattle.std.proofs.lemmas.List.Elements.{All-nil, All-append, All-weaker, All-head, All-tail}
use Rattle.kr_order.specs.declared.history.Command.{Command}
use Rattle.kr_order.specs.declared.history.Command.TheVariants.{Create, Assign}
use Rattle.clock_import.specs.declared.log.Act.{Act}
use Rattle.clock_import.specs.declared.log.Act.TheVariants.{Local, Send, Receive, Bad}
use Rattle.clock_import.specs.declared.log.LogLine.{LogLine}
use Rattle.clock_import.specs.Log.{line_at, first_send, first_receive}
use Rattle.clock_import.specs.declared.imported.Imported.{Imported}
use Rattle.clock_import.specs.Clocks.{clocked_of}
use Rattle.clock_import.specs.Imported.{TellsOf}
use Rattle.clock_import.specs.Pairs.{numbered, prior_of, own_pair, sent_pair, received_pair, message_pair, is_pair, one_or_both, event_pairs, pairs_to}
use Rattle.clock_import.specs.Commands.{must_of, batches_of, batches_to, commands_of, below_of, batches_over}
use Rattle.clock_import.proofs.LatestLemmas.{latest_some}
use Rattle.clock_import.proofs.PairLemmas.{IfThere, All-both}

-- the pair came with this event
pub record CameWith (event : ℕ) (pair : ℕ × ℕ) : Type 0 where
  pub is : below_of pair ≡ event

-- the pair came with one of the first events, so many
pub record CameUpTo (many : ℕ) (pair : ℕ × ℕ) : Type 0 where
  pub is : below_of pair ≤ many

own_with : (lines : List LogLine) (i : ℕ) → i ≤ length lines → (prior : Option ℕ) → prior_of lines i ≡ prior →
    IfThere (CameWith (i + 1)) (own_pair i prior)
own_with lines i within None is = tt
own_with lines i within (Some f) is =
    let some = latest_some lines i (line_at lines i).process f within is in
    let below = some.0 in
    record { is = omega arith }

sent_with : (i : ℕ) (sender : Option ℕ) → IfThere (CameWith (i + 1)) (sent_pair i sender)
sent_with i None = tt
sent_with i (Some s) = by_test (ltb s i) refl
  where
    by_test : (b : Bool) → ltb s i ≡ b → IfThere (CameWith (i + 1)) (cond b (Some (s + 1, i + 1)) None)
    by_test true below = let below' : s < i = ltb-true s i below in record { is = omega arith }
    by_test false _ = tt

received_with : (i : ℕ) (receiver : Option ℕ) → IfThere (CameWith (i + 1)) (received_pair i receiver)
received_with i None = tt
received_with i (Some r) = by_test (ltb r i) refl
  where
    by_test : (b : Bool) → ltb r i ≡ b → IfThere (CameWith (i + 1)) (cond b (Some (i + 1, r + 1)) None)
    by_test true below = let below' : r < i = ltb-true r i below in record { is = omega arith }
    by_test false _ = tt

message_with : (lines : List LogLine) (i : ℕ) (act : Act) → IfThere (CameWith (i + 1)) (message_pair lines i act)
message_with lines i Local = tt
message_with lines i (Send m) = received_with i (first_receive lines m)
message_with lines i (Receive m) = sent_with i (first_send lines m)
message_with lines i Bad = tt

-- the pairs of an event came with it
pub event_with : (lines : List LogLine) (i : ℕ) → i ≤ length lines → All (CameWith (i + 1)) (event_pairs lines i)
event_with lines i within =
    All-both (CameWith (i + 1)) (own_pair i (prior_of lines i)) (message_pair lines i (line_at lines i).act)
    (own_with lines i within (prior_of lines i) refl) (message_with lines i (line_at lines i).act)

-- one or two pairs of an event are in one batch
batch_of_both : (event : ℕ) (own other : Option (ℕ × ℕ)) → All (CameWith event) (one_or_both own other) →
    batches_over (one_or_both own other) ≡ batches_of (one_or_both own other)
batch_of_both event None None each = refl
batch_of_both event None (Some other) each = refl
batch_of_both event (Some pair) None each = refl
batch_of_both event (Some pair) (Some other) each = by_test (is_pair pair other) each
  where
    by_test : (b : Bool) → All (CameWith event) (cond b (pair ∷ []) (pair ∷ other ∷ [])) →
        batches_over (cond b (pair ∷ []) (pair ∷ other ∷ [])) ≡ batches_of (cond b (pair ∷ []) (pair ∷ other ∷ []))
    by_test true each = refl
    by_test false each =
        let one = All-head (CameWith event) pair (other ∷ []) each in
        let two = All-head (CameWith event) other [] (All-tail (CameWith event) pair (other ∷ []) each) in
        let same : below_of other ≡ below_of pair = two.is ∙ sym one.is in
        ap (λ b. cond b (Assign (must_of pair ∷ must_of other ∷ []) ∷ [])
        (Assign (must_of pair ∷ []) ∷ Assign (must_of other ∷ []) ∷ [])) (eq-eqb (below_of other) (below_of pair) same)

-- pairs of earlier events and of a later one are in batches of their own
batches_apart : (many : ℕ) (xs ys : List (ℕ × ℕ)) → All (CameUpTo many) xs → All (CameWith (many + 1)) ys →
    batches_over (xs ++ ys) ≡ batches_over xs ++ batches_over ys
batches_apart many [] ys each each' = refl
batches_apart many (pair ∷ []) [] each each' = refl
batches_apart many (pair ∷ []) (other ∷ more) each each' =
    let one = (All-head (CameUpTo many) pair [] each).is in
    let two = (All-head (CameWith (many + 1)) other more each').is in
    let apart = false_from_ne_true (eqb (below_of other) (below_of pair))
    (λ t. let same : below_of other ≡ below_of pair = eqb-true (below_of other) (below_of pair) t in omega arith) in
    ap (λ b. cond b (Assign (must_of pair ∷ must_of other ∷ []) ∷ batches_over more)
    (Assign (must_of pair ∷ []) ∷ batches_over (other ∷ more))) apart
batches_apart many (pair ∷ other ∷ xs) ys each each' =
    let tail = All-tail (CameUpTo many) pair (other ∷ xs) each in
    let both = batches_apart many xs ys (All-tail (CameUpTo many) other xs tail) each' in
    let one = batches_apart many (other ∷ xs) ys tail each' in
    elim (eqb (below_of other) (below_of pair)) as
    (λ b. cond b (Assign (must_of pair ∷ must_of other ∷ []) ∷ batches_over (xs ++ ys))
    (Assign (must_of pair ∷ []) ∷ batches_over ((other ∷ xs) ++ ys)) ≡ cond b
    (Assign (must_of pair ∷ must_of other ∷ []) ∷ batches_over xs)
    (Assign (must_of pair ∷ []) ∷ batches_over (other ∷ xs)) ++ batches_over ys) [
      | true ↦ ap (λ l. Assign (must_of pair ∷ must_of other ∷ []) ∷ l) both
      | false ↦ ap (λ l. Assign (must_of pair ∷ []) ∷ l) one
    ]

up_to : (lines : List LogLine) (many : ℕ) → many ≤ length lines → All (CameUpTo many) (pairs_to lines many)
up_to lines zero le = All-nil (CameUpTo zero)
up_to lines (suc n) le =
    All-append (CameUpTo (suc n)) (pairs_to lines n) (event_pairs lines n)
    (All-weaker (CameUpTo n) (CameUpTo (suc n)) (λ pair came. let is = came.is in record { is = omega arith }) (pairs_to lines n)
    (up_to lines n (omega arith)))
    (All-weaker (CameWith (n + 1)) (CameUpTo (suc n)) (λ pair came. let is = came.is in record { is = omega arith })
    (event_pairs lines n) (event_with lines n (omega arith)))

-- the batches of the first events, so many
pub batches_are : (lines : List LogLine) (many : ℕ) → many ≤ length lines → batches_over (pairs_to lines many) ≡ batches_to lines many
batches_are lines zero le = refl
batches_are lines (suc n) le =
    let with = event_with lines n (omega arith) in
    let own = own_pair n (prior_of lines n) in
    let other = message_pair lines n (line_at lines n).act in
    batches_apart n (pairs_to lines n) (event_pairs lines n) (up_to lines n (omega arith)) with
    ∙ ap (λ l. l ++ batches_over (event_pairs lines n)) (batches_are lines n (omega arith))
    ∙ ap (λ l. batches_to lines n ++ l) (batch_of_both (n + 1) own other with)

pub events_many : (lines : List LogLine) (imported : Imported) → TellsOf lines imported → length imported.events ≡ length lines
events_many lines imported tells =
    ap length tells.events ∙ length-map-range_with_len (clocked_of imported.processes lines) 0 (length lines)

-- the commands that are made of what is told of a log are the log's
pub told_commands : (imported : Imported) (commands : List Command) →
    commands ≡ replicate (length imported.events) Create ++ batches_over (numbered imported.pairs) → (lines : List LogLine) →
    TellsOf lines imported → commands ≡ commands_of lines
told_commands imported commands are lines tells =
    are
    ∙ ap (λ n. replicate n Create ++ batches_over (numbered imported.pairs)) (events_many lines imported tells)
    ∙ ap (λ pairs. replicate (length lines) Create ++ batches_over pairs) tells.pairs
    ∙ ap (λ l. replicate (length lines) Create ++ l) (batches_are lines (length lines) (omega arith))
