-- Views that can be spelt, and whom they name.
use Rattle.std.proofs.Common.{◌≡◌, ℕ, ◌+◌, ◌-◌, ◌^◌, ◌<◌, ◌≤◌, suc, zero, Bool, true, false, cond, ◌||◌, eqb, List, [], ◌∷◌, length, get_or, refl, sym, ap, ◌∙◌, subst, arith}
use Rattle.std.specs.Prelude.{Option, None, Some, slice_get, All}
use Rattle.std.specs.List.{AllPairs}
use Rattle.std.specs.Option.{option_to_list}
use Rattle.std.proofs.lemmas.Bool.{eq-eqb, or_left, or_right}
use Rattle.std.proofs.lemmas.Option.{slice_get-get_or}
use Rattle.std.proofs.lemmas.List.Elements.{All-nil, All-cons, All-head, All-tail, All-append, All-get_or, All-weaker}
use Rattle.kr_order.specs.declared.ids.ServerId.{ServerId}
use Rattle.kr_order.specs.declared.view.View.{View}
use Rattle.kr_order.specs.View.{in_chain, index_in, last_member, or_joiner, next_at, next_of, prev_at, prev_of, is_joiner}
use Rattle.kr_protocol.specs.Manager.{Manager, views_of, named_by}
use Rattle.kr_protocol.specs.Server.{viewed}
use Rattle.kr_protocol.specs.Client.{server_or_none, first_of}
use Rattle.kr_protocol.specs.Evolves.{Evolves, IsRising}
use Rattle.kr_protocol.proofs.NameLemmas.{member, member-at, in_chain-member}
use Rattle.kr_protocol.proofs.NeighbourLemmas.{member_is_named}
use Rattle.kr_protocol.proofs.TimelineLemmas.{IsListed, counting, made_by, made_now, follow, rises, listed_current, is_no_newer}
use Rattle.kr_world.proofs.steps.StepLemmas.{at_index}
use Rattle.kr_wire.specs.Valid.{IsAbove, IsId, IsNumber, AreRising, last_id, IsJoiner, IsView}
use Rattle.wire_fit.specs.Spoken.{IsSpokenOpen}

-- the id of a server that can be spelt
abbrev pub IsServerId : ServerId → Type 0
IsServerId id = IsId id.0

-- a server, where there is one, whose id can be spelt
abbrev pub IfServer : Option ServerId → Type 0
IfServer server = IsSpokenOpen IsServerId server

-- what holds of each number above this holds of all above another
id_above : (low id : ℕ) → IsAbove low (2 ^ 32) id → IsId id
id_above low id is =
    let above = is.above in record { above = omega arith; fits = is.fits }

-- ids that rise can be spelt
pub ids_fit : (low : ℕ) (ids : List ServerId) → AreRising low ids → All IsServerId ids
ids_fit low [] rising = All-nil IsServerId
ids_fit low (id ∷ ids) rising = All-cons IsServerId id ids (id_above low id.0 rising.0) (ids_fit id.0 ids rising.1)

-- so the joiner's can
joiner_above : (last : ℕ) (joiner : Option ServerId) → IsJoiner last joiner → IfServer joiner
joiner_above last None is = tt
joiner_above last (Some joiner) is = id_above last joiner.0 is

pub joiner_fits : (view : View) → IsView view → IfServer view.joiner
joiner_fits view fits = joiner_above (last_id 0 view.chain) view.joiner fits.joiner

pub chain_fits : (view : View) → IsView view → All IsServerId view.chain
chain_fits view fits = ids_fit 0 view.chain fits.chain

listed_joiner : (joiner : Option ServerId) → IfServer joiner → All IsServerId (option_to_list joiner)
listed_joiner None fits = All-nil IsServerId
listed_joiner (Some joiner) fits = All-cons IsServerId joiner [] fits (All-nil IsServerId)

-- all whom a view names have ids that can be spelt
pub named_fit : (view : View) → IsView view → All IsServerId (named_by view)
named_fit view fits =
    All-append IsServerId view.chain (option_to_list view.joiner) (chain_fits view fits)
    (listed_joiner view.joiner (joiner_fits view fits))

-- who stands at an index
get_fits : (ids : List ServerId) (i : ℕ) → All IsServerId ids → IfServer (slice_get ids i)
get_fits ids i all = by_found (slice_get ids i) refl
  where
    by_found : (found : Option ServerId) → slice_get ids i ≡ found → IfServer found
    by_found None is = tt
    by_found (Some id) is = at_index IsServerId ids i id all is

pub last_fits : (view : View) → IsView view → IfServer (last_member view)
last_fits view fits = get_fits view.chain (length view.chain - 1) (chain_fits view fits)

or_fits : (one other : Option ServerId) → IfServer one → IfServer other → IfServer (or_joiner one other)
or_fits None other fits fits' = fits'
or_fits (Some id) other fits fits' = fits

-- who follows
pub next_fits : (view : View) (id : ServerId) → IsView view → IfServer (next_of view id)
next_fits view id fits = by_index (index_in view id)
  where
    by_index : (index : Option ℕ) → IfServer (next_at view index)
    by_index None = tt
    by_index (Some i) =
        or_fits (slice_get view.chain (i + 1)) view.joiner (get_fits view.chain (i + 1) (chain_fits view fits))
        (joiner_fits view fits)

-- who stands before
pub prev_fits : (view : View) (id : ServerId) → IsView view → IfServer (prev_of view id)
prev_fits view id fits = by_index (index_in view id)
  where
    by_test : (joins : Bool) → IfServer (cond joins (last_member view) None)
    by_test true = last_fits view fits
    by_test false = tt

    by_index : (index : Option ℕ) → IfServer (prev_at view id index)
    by_index None = by_test (is_joiner view.joiner id)
    by_index (Some zero) = tt
    by_index (Some (suc i)) = get_fits view.chain i (chain_fits view fits)

-- the first member and the last, which there are
pub first_of_fits : (view : View) → IsView view → IsServerId (first_of view.chain)
first_of_fits view fits = by_chain view.chain fits.count.least (chain_fits view fits)
  where
    by_chain : (chain : List ServerId) → 1 ≤ length chain → All IsServerId chain → IsServerId (first_of chain)
    by_chain [] some all = absurd (omega arith)
    by_chain (id ∷ ids) some all = All-head IsServerId id ids all

pub last_of_fits : (view : View) → IsView view → IsServerId (server_or_none (last_member view))
last_of_fits view fits =
    let some = fits.count.least in
    let none : ServerId = record { 0 = 0 } in
    let lt : length view.chain - 1 < length view.chain = omega arith in
    subst (λ o. IsServerId (server_or_none o)) (sym (slice_get-get_or view.chain (length view.chain - 1) none lt))
    (All-get_or IsServerId view.chain (length view.chain - 1) none lt (chain_fits view fits))

-- ---- the manager's views

-- ids that rise from above a number on
rising_from :
    (low : ℕ) (ids : List ServerId)
    → All (λ id. IsAbove low (2 ^ 32) id.0) ids
    → AllPairs (λ earlier later. earlier.0 < later.0) ids
    → AreRising low ids
rising_from low [] bounds pairs = tt
rising_from low (id ∷ ids) bounds pairs =
    let Above : ServerId → Type 0 = λ d. IsAbove low (2 ^ 32) d.0 in
    let rest = All-tail Above id ids bounds in
    let above : All (λ d. IsAbove id.0 (2 ^ 32) d.0) ids =
    λ k d lt. record { above = pairs 0 (suc k) d (omega arith) (omega arith); fits = (rest k d lt).fits } in
    let rises : AllPairs (λ earlier later. earlier.0 < later.0) ids =
    λ i j d lt within. pairs (suc i) (suc j) d (omega arith) (omega arith) in
    (All-head Above id ids bounds, rising_from id.0 ids above rises)

-- there are no more of them than numbers
rising_few : (low most : ℕ) (ids : List ServerId) → low ≤ most → AreRising low ids → All (λ id. id.0 ≤ most) ids
    → low + length ids ≤ most
rising_few low most [] le rising all = omega arith
rising_few low most (id ∷ ids) le rising all =
    let Under : ServerId → Type 0 = λ d. d.0 ≤ most in
    let above = rising.0.above in
    let rest = rising_few id.0 most ids (All-head Under id ids all) rising.1 (All-tail Under id ids all) in
    omega arith

-- the last id is below what each is below
last_below : (n low : ℕ) (ids : List ServerId) → low < n → ((id : ServerId) → member ids id ≡ true → id.0 < n)
    → last_id low ids < n
last_below n low [] lt each = lt
last_below n low (id ∷ ids) lt each =
    last_below n id.0 ids (each id (or_left (eqb id.0 id.0) (member ids id) (eq-eqb id.0 id.0 refl)))
    (λ other is. each other (or_right (eqb id.0 other.0) (member ids other) is))

-- each member's id is among those that were made
record IsMade (made : ℕ) (id : ServerId) : Type 0 where
  low : 1 ≤ id.0
  high : id.0 ≤ made

members_made : (view : View) (made : ℕ) → IsRising view made → All (IsMade made) view.chain
members_made view made rising k d lt =
    let id = get_or view.chain k d in
    let both = rising.most id (member_is_named view id (in_chain-member view id ∙ member-at view.chain k d lt)) in
    record { low = both.0; high = both.1 }

-- a view whose ids rise can be spelt
pub rising_fits : (view : View) (made : ℕ) → IsRising view made → made ≤ 64 → IsNumber view.number → IsView view
rising_fits view made rising few number =
    let all = members_made view made rising in
    let Above : ServerId → Type 0 = λ id. IsAbove 0 (2 ^ 32) id.0 in
    let chain =
    rising_from 0 view.chain (All-weaker (IsMade made) Above (λ id is. above_of id is) view.chain all) rising.members in
    let count =
    rising_few 0 made view.chain (omega arith) chain
    (All-weaker (IsMade made) (λ id. id.0 ≤ made) (λ id is. is.high) view.chain all) in
    record {
      number = number;
      count = record { least = rising.some; most = omega arith };
      chain = chain;
      joiner = joins_so view.joiner refl;
    }
  where
    above_of : (id : ServerId) → IsMade made id → IsAbove 0 (2 ^ 32) id.0
    above_of id is =
        let low = is.low in
        let high = is.high in
        record { above = omega arith; fits = omega arith }

    joins_so : (joiner : Option ServerId) → view.joiner ≡ joiner → IsJoiner (last_id 0 view.chain) joiner
    joins_so None is = tt
    joins_so (Some joiner) is =
        let named : (1 ≤ joiner.0) × (joiner.0 ≤ made) = rising.most joiner (joiner_is_named joiner is) in
        let high = named.1 in
        record {
          above =
              last_below joiner.0 0 view.chain named.0
              (λ id in_it. rising.joiner id joiner (in_chain-member view id ∙ in_it) is);
          fits = omega arith;
        }
      where
        joiner_is_named : (joiner : ServerId) → view.joiner ≡ Some joiner
            → (in_chain view joiner || is_joiner view.joiner joiner) ≡ true
        joiner_is_named joiner is =
            or_right (in_chain view joiner) (is_joiner view.joiner joiner)
            (ap (λ j. is_joiner j joiner) is ∙ eq-eqb joiner.0 joiner.0 refl)

-- each of the manager's views can be spelt
listed_fits : (stopped : ServerId → Bool) (manager : Manager) → Evolves stopped manager → manager.made ≤ 64
    → manager.current.number < 2 ^ 64
    → (view : View) → IsListed manager view → IsView view
listed_fits stopped manager evolves few number view listed =
    let bounds = is_no_newer stopped manager evolves view listed in
    let low = bounds.0 in
    let high = bounds.1 in
    let current = listed_current stopped manager evolves in
    let more = (follow stopped manager evolves view manager.current listed current high).made_more in
    let now = made_now stopped manager evolves in
    rising_fits view (made_by stopped manager evolves view) (rises stopped manager evolves view listed) (omega arith)
    (record { above = omega arith; fits = omega arith })

pub views_fit : (stopped : ServerId → Bool) (manager : Manager) → Evolves stopped manager → manager.made ≤ 64
    → manager.current.number < 2 ^ 64
    → All IsView (views_of manager)
views_fit stopped manager evolves few number k d lt =
    let view = get_or (views_of manager) k d in
    let there = slice_get-get_or (views_of manager) k d lt in
    let its = (counting stopped manager evolves).numbers k view there in
    listed_fits stopped manager evolves few number view
    (subst (λ n. slice_get (views_of manager) n ≡ Some view) (omega arith) there)

-- the current one among them
pub current_fits : (stopped : ServerId → Bool) (manager : Manager) → Evolves stopped manager → manager.made ≤ 64
    → manager.current.number < 2 ^ 64 → IsView manager.current
current_fits stopped manager evolves few number =
    listed_fits stopped manager evolves few number manager.current (listed_current stopped manager evolves)

-- by the view of a server, where it has one
pub viewed_fits :
    (says : View → ServerId → Option ServerId) (view : Option View) (id : ServerId)
    → ((its : View) → IsView its → IfServer (says its id))
    → IsSpokenOpen IsView view
    → IfServer (viewed None says view id)
viewed_fits says None id each fits = tt
viewed_fits says (Some view) id each fits = each view fits
