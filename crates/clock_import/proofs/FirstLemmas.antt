-- The first item of a list that passes a test, and what lines send and receive.
use Rattle.std.proofs.Common.{◌≡◌, ℕ, ◌+◌, ◌-◌, ◌<◌, ◌≤◌, Bool, true, false, cond, eqb, suc, Option, None, Some, List, [], ◌∷◌, ◌++◌, length, get_or, take, refl, sym, ap, ◌∙◌, subst, ⊎_elim, arith}
use Rattle.std.specs.Prelude.{is_some}
use Rattle.std.specs.List.{position_from}
use Rattle.std.proofs.lemmas.Bool.{eqb-true, eq-eqb, and_parts, false≢true, false_from_ne_true, cases_eq}
use Rattle.std.proofs.lemmas.List.{take_more, length-take-le}
use Rattle.clock_import.specs.Messages.{noted}
use Rattle.clock_import.specs.declared.log.Act.{Act}
use Rattle.clock_import.specs.declared.log.Act.TheVariants.{Local, Send, Receive, Bad}
use Rattle.clock_import.specs.declared.log.LogLine.{LogLine}
use Rattle.clock_import.specs.Log.{line_at, sends, receives, first_send, first_receive, is_at, is_allowed, is_good}

-- the first among one item more
pub first_push : {X : Type 0} (t : X → Bool) (i : ℕ) (xs : List X) (x : X) → position_from t i (xs ++ x ∷ []) ≡ cond (is_some (position_from t i xs)) (position_from t i xs) (cond (t x) (Some (i + length xs)) None)
first_push t i [] x = ap (λ n. cond (t x) (Some n) None) (omega arith)
first_push t i (y ∷ ys) x =
    elim (t y) as (λ b. cond b (Some i) (position_from t (i + 1) (ys ++ x ∷ [])) ≡ cond (is_some (cond b (Some i) (position_from t (i + 1) ys))) (cond b (Some i) (position_from t (i + 1) ys)) (cond (t x) (Some (i + length (y ∷ ys))) None)) [
      | true ↦ refl
      | false ↦
          let one : i + 1 + length ys ≡ i + length (y ∷ ys) = omega arith in
          first_push t (i + 1) ys x ∙ ap (λ n. cond (is_some (position_from t (i + 1) ys)) (position_from t (i + 1) ys) (cond (t x) (Some n) None)) one
    ]

-- and among the items up to an index
pub first_more : {X : Type 0} (t : X → Bool) (xs : List X) (i : ℕ) (d : X) → i < length xs → position_from t 0 (take (i + 1) xs) ≡ cond (is_some (position_from t 0 (take i xs))) (position_from t 0 (take i xs)) (cond (t (get_or xs i d)) (Some i) None)
first_more t xs i d below =
    let many : 0 + length (take i xs) ≡ i = omega (arith, length-take-le i xs (omega arith)) in
    ap (position_from t 0) (take_more xs i d below) ∙ first_push t 0 (take i xs) (get_or xs i d) ∙ ap (λ n. cond (is_some (position_from t 0 (take i xs))) (position_from t 0 (take i xs)) (cond (t (get_or xs i d)) (Some n) None)) many

cons_one : {X : Type 0} (y : X) (ys : List X) (n : ℕ) (d : X) → get_or (y ∷ ys) (n + 1) d ≡ get_or ys n d
cons_one y ys n d = let next : n + 1 ≡ suc n = omega arith in ap (λ m. get_or (y ∷ ys) m d) next

-- the item that is found is there, and passes
pub record IsFound {X : Type 0} (t : X → Bool) (i : ℕ) (xs : List X) (k : ℕ) (d : X) : Type 0 where
  pub from : i ≤ k
  pub below : k < i + length xs
  pub passes : t (get_or xs (k - i) d) ≡ true

pub first_found : {X : Type 0} (t : X → Bool) (i : ℕ) (xs : List X) (k : ℕ) (d : X) → position_from t i xs ≡ Some k → IsFound t i xs k d
first_found t i [] k d is = absurd (cc)
first_found {X = X} t i (y ∷ ys) k d is = by_test (λ same. first_found t (i + 1) ys k d same) (t y) refl is
  where
    by_test : (position_from t (i + 1) ys ≡ Some k → IsFound t (i + 1) ys k d) → (b : Bool) → t y ≡ b → cond b (Some i) (position_from t (i + 1) ys) ≡ Some k → IsFound t i (y ∷ ys) k d
    by_test on_ys true passes same =
        let here : i ≡ k = cc in
        let none : k - i ≡ 0 = omega arith in
        record { from = omega arith; below = omega arith; passes = subst (λ n. t (get_or (y ∷ ys) n d) ≡ true) (sym none) passes }
    by_test on_ys false passes same =
        let later = on_ys same in
        let from = later.from in
        let below = later.below in
        let on : k - i ≡ (k - (i + 1)) + 1 = omega arith in
        let step : get_or (y ∷ ys) ((k - (i + 1)) + 1) d ≡ get_or ys (k - (i + 1)) d = cons_one y ys (k - (i + 1)) d in
        record {
          from = omega arith;
          below = omega arith;
          passes = ap (λ n. t (get_or (y ∷ ys) n d)) on ∙ ap t step ∙ later.passes;
        }

-- an act that sends the message is its send
pub sends_is : (m : ℕ) (act : Act) → sends m act ≡ true → act ≡ Send m
sends_is m Local is = absurd (false≢true is)
sends_is m (Send n) is = ap Send (eqb-true n m is)
sends_is m (Receive n) is = absurd (false≢true is)
sends_is m Bad is = absurd (false≢true is)

pub receives_is : (m : ℕ) (act : Act) → receives m act ≡ true → act ≡ Receive m
receives_is m Local is = absurd (false≢true is)
receives_is m (Send n) is = absurd (false≢true is)
receives_is m (Receive n) is = ap Receive (eqb-true n m is)
receives_is m Bad is = absurd (false≢true is)

-- the line that first sends a message sends it
pub sender_sends : (lines : List LogLine) (m s : ℕ) → first_send lines m ≡ Some s → (s < length lines) × ((line_at lines s).act ≡ Send m)
sender_sends lines m s is =
    let found = first_found (λ (entry : LogLine). sends m entry.act) 0 lines s (record { process = 0; act = Bad }) is in
    let below = found.below in
    let all : s - 0 ≡ s = omega arith in
    (omega arith, sends_is m (line_at lines s).act (subst (λ k. sends m (line_at lines k).act ≡ true) all found.passes))

pub receiver_receives : (lines : List LogLine) (m r : ℕ) → first_receive lines m ≡ Some r → (r < length lines) × ((line_at lines r).act ≡ Receive m)
receiver_receives lines m r is =
    let found = first_found (λ (entry : LogLine). receives m entry.act) 0 lines r (record { process = 0; act = Bad }) is in
    let below = found.below in
    let all : r - 0 ≡ r = omega arith in
    (omega arith, receives_is m (line_at lines r).act (subst (λ k. receives m (line_at lines k).act ≡ true) all found.passes))

pub is_at-true : (found : Option ℕ) (i : ℕ) → is_at found i ≡ true → found ≡ Some i
is_at-true None i is = absurd (false≢true is)
is_at-true (Some j) i is = ap Some (eqb-true j i is)

-- a send that may stand there is the first of its message, and a receive
pub good_send : (lines : List LogLine) (i m : ℕ) → is_good lines i ≡ true → (line_at lines i).act ≡ Send m → first_send lines m ≡ Some i
good_send lines i m good is =
    is_at-true (first_send lines m) i (subst (λ act. is_allowed lines i act ≡ true) is good)

pub good_receive : (lines : List LogLine) (i m : ℕ) → is_good lines i ≡ true → (line_at lines i).act ≡ Receive m → first_receive lines m ≡ Some i
good_receive lines i m good is =
    let allowed : is_allowed lines i (Receive m) ≡ true = subst (λ act. is_allowed lines i act ≡ true) is good in
    is_at-true (first_receive lines m) i (and_parts (is_at (first_receive lines m) i) (is_some (first_send lines m)) allowed).0

pub noted-false : (found : Option ℕ) (i : ℕ) → found ≡ noted found false i
noted-false None i = refl
noted-false (Some k) i = refl

-- a message that is noted
pub note_is : (found : ℕ → Option ℕ) (message i m : ℕ) → cond (eqb m message) (cond (is_some (found message)) (found message) (Some i)) (found m) ≡ noted (found m) (eqb message m) i
note_is found message i m =
    ⊎_elim
    (λ (same : m ≡ message). ap (λ b. cond b (cond (is_some (found message)) (found message) (Some i)) (found m)) (eq-eqb m message same) ∙ ap (λ k. cond (is_some (found k)) (found k) (Some i)) (sym same) ∙ ap (λ b. noted (found m) b i) (sym (eq-eqb message m (sym same))))
    (λ (other : m ≡ message → ⊥). ap (λ b. cond b (cond (is_some (found message)) (found message) (Some i)) (found m)) (apart m message other) ∙ noted-false (found m) i ∙ ap (λ b. noted (found m) b i) (sym (apart message m (λ same. other (sym same)))))
    (cases_eq m message)
  where
    apart : (a b : ℕ) → (a ≡ b → ⊥) → eqb a b ≡ false
    apart a b other = false_from_ne_true (eqb a b) (λ same. other (eqb-true a b same))
