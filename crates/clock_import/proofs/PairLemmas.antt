-- The pairs of a log are those of events that lead directly to one another.
use Rattle.std.proofs.Common.{◌≡◌, ℕ, zero, suc, ◌+◌, ◌<◌, ◌≤◌, Bool, true, false, cond, eqb, ltb, Option, None, Some, List, [], ◌∷◌, length, refl, sym, ap, ◌∙◌, subst, inl, inr, ⊎_elim, arith}
use Rattle.std.specs.Prelude.{All, IfSome}
use Rattle.std.proofs.lemmas.Bool.{eqb-true, and_parts, lt-ltb, ltb-true, cases_lt, cases_eq}
use Rattle.std.proofs.lemmas.List.Elements.{All-append, All-nil, All-cons, All-weaker}
use Rattle.kr_order.specs.Order.{reach}
use Rattle.clock_import.specs.declared.log.Act.{Act}
use Rattle.clock_import.specs.declared.log.Act.TheVariants.{Local, Send, Receive, Bad}
use Rattle.clock_import.specs.declared.log.LogLine.{LogLine}
use Rattle.clock_import.specs.declared.links.Link.{Link}
use Rattle.clock_import.specs.Log.{line_at, first_send, first_receive, is_good}
use Rattle.clock_import.specs.Pairs.{prior_of, own_pair, sent_pair, received_pair, message_pair, is_pair, one_or_both, event_pairs, pairs_to}
use Rattle.clock_import.specs.Links.{source_of, link_of, link_at, AreLinks, LeadsTo}
use Rattle.clock_import.specs.Walk.{Says}
use Rattle.clock_import.proofs.FirstLemmas.{sender_sends, receiver_receives, good_send, good_receive}
use Rattle.clock_import.proofs.LatestLemmas.{latest_some}
use Rattle.clock_import.proofs.StepLemmas.{IsIn, IsIn-head, IsIn-left, IsIn-right, reach_in}

-- all lines may stand where they are
pub record AreGood (lines : List LogLine) : Type 0 where
  pub good : (i : ℕ) → i < length lines → is_good lines i ≡ true

-- the pair is one of an event among the first, so many, that leads directly to another of them
pub record IsLed (lines : List LogLine) (many : ℕ) (pair : ℕ × ℕ) : Type 0 where
  pub from : ℕ
  pub to : ℕ
  pub first : pair.0 ≡ from + 1
  pub second : pair.1 ≡ to + 1
  pub from_below : from < many
  pub to_below : to < many
  pub leads : LeadsTo (link_of lines to) from

led : (lines : List LogLine) (many a e : ℕ) → a < many → e < many → LeadsTo (link_of lines e) a → IsLed lines many (a + 1, e + 1)
led lines many a e below below' leads =
    record { from = a; to = e; first = refl; second = refl; from_below = below; to_below = below'; leads = leads }

-- what holds of each of two pairs that may be there
abbrev pub IfThere : (ℕ × ℕ → Type 0) → Option (ℕ × ℕ) → Type 0
IfThere P None = Unit {0}
IfThere P (Some pair) = P pair

pub All-both : (P : ℕ × ℕ → Type 0) (own other : Option (ℕ × ℕ)) → IfThere P own → IfThere P other → All P (one_or_both own other)
All-both P None None _ _ = All-nil P
All-both P None (Some other) _ holds = All-cons P other [] holds (All-nil P)
All-both P (Some pair) None holds _ = All-cons P pair [] holds (All-nil P)
All-both P (Some pair) (Some other) holds holds' =
    elim (is_pair pair other) as (λ b. All P (cond b (pair ∷ []) (pair ∷ other ∷ []))) [
      | true ↦ All-cons P pair [] holds (All-nil P)
      | false ↦ All-cons P pair (other ∷ []) holds (All-cons P other [] holds' (All-nil P))
    ]

own_led : (lines : List LogLine) (i : ℕ) → i ≤ length lines → (prior : Option ℕ) → prior_of lines i ≡ prior → IfThere (IsLed lines (i + 1)) (own_pair i prior)
own_led lines i within None is = tt
own_led lines i within (Some f) is =
    let some = latest_some lines i (line_at lines i).process f within is in
    let below = some.0 in
    led lines (i + 1) f i (omega arith) (omega arith) (inl is)

sent_led : (lines : List LogLine) (i m : ℕ) → (line_at lines i).act ≡ Receive m → (sender : Option ℕ) → first_send lines m ≡ sender → IfThere (IsLed lines (i + 1)) (sent_pair i sender)
sent_led lines i m act None is = tt
sent_led lines i m act (Some s) is = by_test (ltb s i) refl
  where
    by_test : (b : Bool) → ltb s i ≡ b → IfThere (IsLed lines (i + 1)) (cond b (Some (s + 1, i + 1)) None)
    by_test true below =
        let below' : s < i = ltb-true s i below in
        led lines (i + 1) s i (omega arith) (omega arith) (inr (ap (source_of lines) act ∙ is))
    by_test false _ = tt

received_led : (lines : List LogLine) (i m : ℕ) → is_good lines i ≡ true → (line_at lines i).act ≡ Send m → (receiver : Option ℕ) → first_receive lines m ≡ receiver → IfThere (IsLed lines (i + 1)) (received_pair i receiver)
received_led lines i m good act None is = tt
received_led lines i m good act (Some r) is = by_test (ltb r i) refl
  where
    by_test : (b : Bool) → ltb r i ≡ b → IfThere (IsLed lines (i + 1)) (cond b (Some (i + 1, r + 1)) None)
    by_test true below =
        let below' : r < i = ltb-true r i below in
        let receives = (receiver_receives lines m r is).1 in
        led lines (i + 1) i r (omega arith) (omega arith) (inr (ap (source_of lines) receives ∙ good_send lines i m good act))
    by_test false _ = tt

message_led : (lines : List LogLine) (i : ℕ) → is_good lines i ≡ true → (act : Act) → (line_at lines i).act ≡ act → IfThere (IsLed lines (i + 1)) (message_pair lines i act)
message_led lines i good Local is = tt
message_led lines i good (Send m) is = received_led lines i m good is (first_receive lines m) refl
message_led lines i good (Receive m) is = sent_led lines i m is (first_send lines m) refl
message_led lines i good Bad is = tt

pub event_led : (lines : List LogLine) (i : ℕ) → i ≤ length lines → is_good lines i ≡ true → All (IsLed lines (i + 1)) (event_pairs lines i)
event_led lines i within good =
    All-both (IsLed lines (i + 1)) (own_pair i (prior_of lines i)) (message_pair lines i (line_at lines i).act) (own_led lines i within (prior_of lines i) refl) (message_led lines i good (line_at lines i).act refl)

wider : (lines : List LogLine) (m n : ℕ) → m ≤ n → (pair : ℕ × ℕ) → IsLed lines m pair → IsLed lines n pair
wider lines m n le pair is =
    let low = is.from_below in
    let high = is.to_below in
    record { from = is.from; to = is.to; first = is.first; second = is.second; from_below = omega arith; to_below = omega arith; leads = is.leads }

-- each pair is of two events of which one leads to the other
pub pairs_led : (lines : List LogLine) → AreGood lines → (many : ℕ) → many ≤ length lines → All (IsLed lines many) (pairs_to lines many)
pairs_led lines good zero le = All-nil (IsLed lines zero)
pairs_led lines good (suc n) le =
    let before = pairs_led lines good n (omega arith) in
    let last = event_led lines n (omega arith) (good.good n (omega arith)) in
    All-append (IsLed lines (suc n)) (pairs_to lines n) (event_pairs lines n) (All-weaker (IsLed lines n) (IsLed lines (suc n)) (wider lines n (suc n) (omega arith)) (pairs_to lines n) before) (All-weaker (IsLed lines (n + 1)) (IsLed lines (suc n)) (wider lines (n + 1) (suc n) (omega arith)) (event_pairs lines n) last)

IsIn-first : (pair : ℕ × ℕ) (other : Option (ℕ × ℕ)) → IsIn (one_or_both (Some pair) other) pair
IsIn-first pair None = IsIn-head pair []
IsIn-first pair (Some other) =
    elim (is_pair pair other) as (λ b. IsIn (cond b (pair ∷ []) (pair ∷ other ∷ [])) pair) [ true ↦ IsIn-head pair [] | false ↦ IsIn-head pair (other ∷ []) ]

IsIn-second : (own : Option (ℕ × ℕ)) (x y : ℕ) → IsIn (one_or_both own (Some (x, y))) (x, y)
IsIn-second None x y = IsIn-head (x, y) []
IsIn-second (Some pair) x y = by_test (is_pair pair (x, y)) refl
  where
    by_test : (b : Bool) → is_pair pair (x, y) ≡ b → IsIn (cond b (pair ∷ []) (pair ∷ (x, y) ∷ [])) (x, y)
    by_test true is =
        let both = and_parts (eqb x pair.0) (eqb y pair.1) is in
        let one : x ≡ pair.0 = eqb-true x pair.0 both.0 in
        let two : y ≡ pair.1 = eqb-true y pair.1 both.1 in
        let same : pair ≡ (x, y) = ap (λ v. (v, pair.1)) (sym one) ∙ ap (λ v. (x, v)) (sym two) in
        record { front = []; back = []; is = ap (λ p. p ∷ []) same }
    by_test false is = record { front = pair ∷ []; back = []; is = refl }

-- the pairs of an event are among those of the first so many
in_all : (lines : List LogLine) (i many : ℕ) (pair : ℕ × ℕ) → i < many → IsIn (event_pairs lines i) pair → IsIn (pairs_to lines many) pair
in_all lines i zero pair below there = absurd (omega arith)
in_all lines i (suc n) pair below there =
    ⊎_elim
    (λ (same : i ≡ n). IsIn-right (pairs_to lines n) (event_pairs lines n) pair (subst (λ k. IsIn (event_pairs lines k) pair) same there))
    (λ (other : i ≡ n → ⊥). IsIn-left (pairs_to lines n) (event_pairs lines n) pair (in_all lines i n pair (omega arith) there))
    (cases_eq i n)

own_in : (lines : List LogLine) (e a : ℕ) → prior_of lines e ≡ Some a → IsIn (event_pairs lines e) (a + 1, e + 1)
own_in lines e a is =
    subst (λ prior. IsIn (one_or_both (own_pair e prior) (message_pair lines e (line_at lines e).act)) (a + 1, e + 1)) (sym is) (IsIn-first (a + 1, e + 1) (message_pair lines e (line_at lines e).act))

message_in : (lines : List LogLine) (i x y : ℕ) → message_pair lines i (line_at lines i).act ≡ Some (x, y) → IsIn (event_pairs lines i) (x, y)
message_in lines i x y is =
    subst (λ other. IsIn (one_or_both (own_pair i (prior_of lines i)) other) (x, y)) (sym is) (IsIn-second (own_pair i (prior_of lines i)) x y)

source_said : (lines : List LogLine) (many e a : ℕ) → AreGood lines → many ≤ length lines → e < many → a < many → (act : Act) → (line_at lines e).act ≡ act → source_of lines act ≡ Some a → reach (pairs_to lines many) (a + 1) (e + 1) ≡ true
source_said lines many e a good le below below' Local is from = absurd (cc)
source_said lines many e a good le below below' (Send m) is from = absurd (cc)
source_said lines many e a good le below below' Bad is from = absurd (cc)
source_said lines many e a good le below below' (Receive m) is from =
    let sent : (line_at lines a).act ≡ Send m = (sender_sends lines m a from).1 in
    let received : first_receive lines m ≡ Some e = good_receive lines e m (good.good e (omega arith)) is in
    ⊎_elim
    (λ (above : a < e).
    let passes = lt-ltb a e above in
    let pair : message_pair lines e (line_at lines e).act ≡ Some (a + 1, e + 1) = ap (message_pair lines e) is ∙ ap (sent_pair e) from ∙ ap (λ b. cond b (Some (a + 1, e + 1)) None) passes in
    reach_in (pairs_to lines many) (a + 1) (e + 1) (in_all lines e many (a + 1, e + 1) below (message_in lines e (a + 1) (e + 1) pair)))
    (λ (other : e ≤ a).
    ⊎_elim
    (λ (same : e ≡ a). let two : Receive m ≡ Send m = sym is ∙ ap (λ k. (line_at lines k).act) same ∙ sent in absurd (cc))
    (λ (apart : e ≡ a → ⊥).
    let passes = lt-ltb e a (omega arith) in
    let pair : message_pair lines a (line_at lines a).act ≡ Some (a + 1, e + 1) = ap (message_pair lines a) sent ∙ ap (received_pair a) received ∙ ap (λ b. cond b (Some (a + 1, e + 1)) None) passes in
    reach_in (pairs_to lines many) (a + 1) (e + 1) (in_all lines a many (a + 1, e + 1) below' (message_in lines a (a + 1) (e + 1) pair)))
    (cases_eq e a))
    (cases_lt a e)

-- the pairs of the first events say which lead to which
pub leads_said : (lines : List LogLine) (many e a : ℕ) → AreGood lines → many ≤ length lines → e < many → a < many → LeadsTo (link_of lines e) a → reach (pairs_to lines many) (a + 1) (e + 1) ≡ true
leads_said lines many e a good le below below' (inl prior) =
    reach_in (pairs_to lines many) (a + 1) (e + 1) (in_all lines e many (a + 1, e + 1) below (own_in lines e a prior))
leads_said lines many e a good le below below' (inr source) =
    source_said lines many e a good le below below' (line_at lines e).act refl source

pub links_say : (lines : List LogLine) (links : List Link) (many : ℕ) → AreGood lines → AreLinks lines links → many ≤ length lines → Says links many (pairs_to lines many)
links_say lines links many good are le =
    record { each = λ e a below below' leads. leads_said lines many e a good le below below' (subst (λ link. LeadsTo link a) (are.each e (omega arith)) leads) }

-- the event before one of its process stands above it
pub prior_below : (lines : List LogLine) (links : List Link) (i : ℕ) → AreLinks lines links → i < length lines → (prior : Option ℕ) → (link_at links i).prior ≡ prior → IfSome prior (λ f. f < i)
prior_below lines links i are below None is = tt
prior_below lines links i are below (Some f) is =
    (latest_some lines i (line_at lines i).process f (omega arith) (sym (ap (λ (link : Link). link.prior) (are.each i below)) ∙ is)).0
