-- The views of a manager, each by its index: how an earlier one and a later one stand to each other.
use Rattle.std.proofs.Common.{◌≡◌, ℕ, ◌+◌, ◌-◌, ◌<◌, ◌≤◌, suc, zero, Bool, true, false, cond, eqb, ltb, List, [], ◌∷◌, ◌++◌, length, refl, sym, ap, ◌∙◌, subst, arith, inl, inr}
use Rattle.std.specs.Prelude.{Option, None, Some, slice_get}
use Rattle.std.specs.Option.{option_to_list}
use Rattle.std.proofs.lemmas.Bool.{cases_lt, lt-ltb, le-ltb, false≢true}
use Rattle.std.proofs.lemmas.List.{length-append, length-map}
use Rattle.std.proofs.lemmas.Option.{none-some, same_Some, slice_get_within, slice_get_past}
use Rattle.kr_order.specs.declared.ids.ServerId.{ServerId}
use Rattle.kr_order.specs.declared.view.View.{View}
use Rattle.kr_order.specs.Numbers.{numbers_to}
use Rattle.kr_order.specs.View.{first_view, names}
use Rattle.kr_protocol.specs.Manager.{Manager, joiner_but, views_of, named_by, goes_to}
use Rattle.kr_protocol.specs.Evolves.{IsNext, is_without, is_joined, is_promoted, Evolves, begins, goes_on, IsRising, AreEarlierAndLater}
use Rattle.kr_protocol.proofs.NameLemmas.{fewer}
use Rattle.kr_protocol.proofs.EvolveLemmas.{itself_follows, next_follows, follows_on, first_rises}
use Rattle.kr_protocol.proofs.ListLemmas.{length-numbers_to, slice_get_front, slice_get_at}

-- what stands at an index of a list with one more at its end
pub data IsAt {X : Type 0} (xs : List X) (x : X) (k : ℕ) (y : X) : Type 0 where
  is_before : k < length xs → slice_get xs k ≡ Some y → IsAt xs x k y
  is_last : k ≡ length xs → x ≡ y → IsAt xs x k y

pub at_of : {X : Type 0} (xs : List X) (x : X) (k : ℕ) (y : X) → slice_get (xs ++ x ∷ []) k ≡ Some y → IsAt xs x k y
at_of xs x k y there =
    elim (cases_lt k (length xs)) [
      | inl lt ↦ is_before lt (slice_get_front xs (x ∷ []) k y lt there)
      | inr le ↦
          let within = slice_get_within (xs ++ x ∷ []) k y there in
          let last : k ≡ length xs = omega (arith, length-append xs (x ∷ [])) in
          is_last last (same_Some x y (sym (slice_get_at xs x [] k (sym last)) ∙ there))
    ]

-- how many servers were made when the view at this index was the newest
abbrev pub made_at : (stopped : ServerId → Bool) (manager : Manager) → Evolves stopped manager → ℕ → ℕ
made_at stopped manager (begins servers some) k = servers
made_at stopped manager (goes_on before next now evolves is) k =
    cond (ltb k (length (views_of before))) (made_at stopped before evolves k) now

made_before : (stopped : ServerId → Bool) (before : Manager) (next : View) (now : ℕ) (evolves : Evolves stopped before) (is : IsNext stopped before.current before.made next now) (k : ℕ)
    → k < length (views_of before) → made_at stopped before evolves k ≡ made_at stopped (goes_to before next now) (goes_on before next now evolves is) k
made_before stopped before next now evolves is k lt = rw (lt-ltb k (length (views_of before)) lt) refl

made_last : (stopped : ServerId → Bool) (before : Manager) (next : View) (now : ℕ) (evolves : Evolves stopped before) (is : IsNext stopped before.current before.made next now) (k : ℕ)
    → length (views_of before) ≤ k → now ≡ made_at stopped (goes_to before next now) (goes_on before next now evolves is) k
made_last stopped before next now evolves is k le = rw (le-ltb k (length (views_of before)) le) refl

-- a view has the number after the one before it
pub next_number : (stopped : ServerId → Bool) (view : View) (made : ℕ) (next : View) (now : ℕ) → IsNext stopped view made next now → next.number ≡ view.number + 1
next_number stopped view made next now (is_without id stops named some) = refl
next_number stopped view made next now (is_joined none) = refl
next_number stopped view made next now (is_promoted id is) = refl

-- there is a view, the current one is the last, and each has its number
pub record IsCounting (manager : Manager) : Type 0 where
  pub long : length (views_of manager) ≡ manager.current.number
  pub some : 1 ≤ manager.current.number
  pub numbers : (k : ℕ) (view : View) → slice_get (views_of manager) k ≡ Some view → view.number ≡ k + 1

pub counting : (stopped : ServerId → Bool) (manager : Manager) → Evolves stopped manager → IsCounting manager
counting stopped manager (begins servers some) =
    record { long = refl; some = omega arith; numbers = λ k view there. one_view k view there }
  where
    one_view : (k : ℕ) (view : View) → slice_get (first_view servers ∷ []) k ≡ Some view → view.number ≡ k + 1
    one_view zero view there = ap (λ (v : View). v.number) (sym (same_Some (first_view servers) view there))
    one_view (suc k) view there = absurd (none-some view (sym (slice_get_past {X = View} (first_view servers ∷ []) (suc k) (omega arith)) ∙ there))
counting stopped manager (goes_on before next now evolves is) =
    let known = counting stopped before evolves in
    let number = next_number stopped before.current before.made next now is in
    let long = known.long in
    let some = known.some in
    let more = length-append (views_of before) (next ∷ []) in
    record {
      long = omega (arith, more);
      some = omega arith;
      numbers = λ k view there. by_place known k view (at_of (views_of before) next k view there);
    }
  where
    by_place : IsCounting before → (k : ℕ) (view : View) → IsAt (views_of before) next k view → view.number ≡ k + 1
    by_place known k view (is_before lt there) = known.numbers k view there
    by_place known k view (is_last last same) =
        let long = known.long in
        omega (arith, ap (λ (v : View). v.number) same, next_number stopped before.current before.made next now is)

-- the current view stands at its number
pub current_listed : (stopped : ServerId → Bool) (manager : Manager) → Evolves stopped manager → slice_get (views_of manager) (manager.current.number - 1) ≡ Some manager.current
current_listed stopped manager evolves =
    let known = counting stopped manager evolves in
    let long = known.long in
    slice_get_at manager.earlier manager.current [] (manager.current.number - 1) (omega (arith, length-append manager.earlier (manager.current ∷ [])))

-- the newest view is of as many servers as were made
pub made_now : (stopped : ServerId → Bool) (manager : Manager) (evolves : Evolves stopped manager) → made_at stopped manager evolves (manager.current.number - 1) ≡ manager.made
made_now stopped manager (begins servers some) = refl
made_now stopped manager (goes_on before next now evolves is) =
    let long = (counting stopped before evolves).long in
    sym (made_last stopped before next now evolves is (next.number - 1) (omega (arith, next_number stopped before.current before.made next now is)))

-- an earlier view and a later one, or the same
pub earlier_later : (stopped : ServerId → Bool) (manager : Manager) (evolves : Evolves stopped manager) (k l : ℕ) (view later : View)
    → k ≤ l → slice_get (views_of manager) k ≡ Some view → slice_get (views_of manager) l ≡ Some later
    → AreEarlierAndLater stopped view (made_at stopped manager evolves k) later (made_at stopped manager evolves l)
earlier_later stopped manager (begins servers some) k l view later le there there' =
    let same = only k view there in
    let same' = only l later there' in
    subst (λ v. AreEarlierAndLater stopped v servers later servers) same (subst (λ v. AreEarlierAndLater stopped (first_view servers) servers v servers) same' (itself_follows stopped (first_view servers) servers (first_rises servers some)))
  where
    only : (k : ℕ) (view : View) → slice_get (first_view servers ∷ []) k ≡ Some view → first_view servers ≡ view
    only zero view there = same_Some (first_view servers) view there
    only (suc k) view there = absurd (none-some view (sym (slice_get_past {X = View} (first_view servers ∷ []) (suc k) (omega arith)) ∙ there))
earlier_later stopped manager (goes_on before next now evolves is) k l view later le there there' =
    let known = counting stopped before evolves in
    let long = known.long in
    let some = known.some in
    let newest = current_listed stopped before evolves in
    let last : ℕ = before.current.number - 1 in
    let to_current : (j : ℕ) (v : View) → j ≤ last → slice_get (views_of before) j ≡ Some v → Follow v (made_at stopped before evolves j) before.current before.made =
    λ j v le at. subst (λ m. Follow v (made_at stopped before evolves j) before.current m) (made_now stopped before evolves) (earlier_later stopped before evolves j last v before.current le at newest) in
    let on = next_follows stopped before.current before.made next now (to_current last before.current (omega arith) newest).rising is in
    by_place (earlier_later stopped before evolves k l view later le) (λ at. (earlier_later stopped before evolves k k view view (omega arith) at at).rising) (λ lt at. to_current k view (omega arith) at) on (at_of (views_of before) next k view there) (at_of (views_of before) next l later there')
  where
    views : List View
    views = views_of before

    n : ℕ
    n = length (views_of before)

    made : ℕ → ℕ
    made j = made_at stopped (goes_to before next now) (goes_on before next now evolves is) j

    Follow : View → ℕ → View → ℕ → Type 0
    Follow one m other m' = AreEarlierAndLater stopped one m other m'

    early : (j : ℕ) → j < n → made_at stopped before evolves j ≡ made j
    early j lt = made_before stopped before next now evolves is j lt

    newest : (j : ℕ) → j ≡ n → now ≡ made j
    newest j last = made_last stopped before next now evolves is j (omega arith)

    by_place :
        (slice_get views k ≡ Some view → slice_get views l ≡ Some later → Follow view (made_at stopped before evolves k) later (made_at stopped before evolves l))
        → (slice_get views k ≡ Some view → IsRising view (made_at stopped before evolves k))
        → (k < n → slice_get views k ≡ Some view → Follow view (made_at stopped before evolves k) before.current before.made)
        → Follow before.current before.made next now
        → IsAt views next k view → IsAt views next l later → Follow view (made k) later (made l)
    by_place both rises to_current on (is_before lt at) (is_before lt' at') =
        subst (λ m. Follow view m later (made l)) (early k lt) (subst (λ m. Follow view (made_at stopped before evolves k) later m) (early l lt') (both at at'))
    by_place both rises to_current on (is_before lt at) (is_last last same) =
        let first = to_current lt at in
        let all = follows_on stopped view (made_at stopped before evolves k) before.current before.made next now (rises at) first on in
        subst (λ m. Follow view m later (made l)) (early k lt) (subst (λ m. Follow view (made_at stopped before evolves k) later m) (newest l last) (subst (λ v. Follow view (made_at stopped before evolves k) v now) same all))
    by_place both rises to_current on (is_last last same) (is_before lt' at') = absurd (omega arith)
    by_place both rises to_current on (is_last last same) (is_last last' same') =
        let itself = itself_follows stopped next now on.rising in
        subst (λ m. Follow view m later (made l)) (newest k last) (subst (λ m. Follow view now later m) (newest l last') (subst (λ v. Follow v now later now) same (subst (λ v. Follow next now v now) same' itself)))

-- a view of the manager, by its number
abbrev pub IsListed : Manager → View → Type 0
IsListed manager view = slice_get (views_of manager) (view.number - 1) ≡ Some view

-- so many servers were made by a view
abbrev pub made_by : (stopped : ServerId → Bool) (manager : Manager) → Evolves stopped manager → View → ℕ
made_by stopped manager evolves view = made_at stopped manager evolves (view.number - 1)

-- of two listed views that of the smaller number is the earlier
pub follow : (stopped : ServerId → Bool) (manager : Manager) (evolves : Evolves stopped manager) (view later : View)
    → IsListed manager view → IsListed manager later → view.number ≤ later.number
    → AreEarlierAndLater stopped view (made_by stopped manager evolves view) later (made_by stopped manager evolves later)
follow stopped manager evolves view later at at' le = earlier_later stopped manager evolves (view.number - 1) (later.number - 1) view later (omega arith) at at'

-- ids rise along each listed view
pub rises : (stopped : ServerId → Bool) (manager : Manager) (evolves : Evolves stopped manager) (view : View)
    → IsListed manager view → IsRising view (made_by stopped manager evolves view)
rises stopped manager evolves view at = (follow stopped manager evolves view view at at (omega arith)).rising

-- no listed view is newer than the current one
pub is_no_newer : (stopped : ServerId → Bool) (manager : Manager) (evolves : Evolves stopped manager) (view : View)
    → IsListed manager view → (1 ≤ view.number) × (view.number ≤ manager.current.number)
is_no_newer stopped manager evolves view at =
    let known = counting stopped manager evolves in
    let long = known.long in
    let number = known.numbers (view.number - 1) view at in
    let within = slice_get_within (views_of manager) (view.number - 1) view at in
    (omega arith, omega arith)

-- the newest has the number of views
pub listed_current : (stopped : ServerId → Bool) (manager : Manager) → Evolves stopped manager → IsListed manager manager.current
listed_current stopped manager evolves = current_listed stopped manager evolves

-- a newcomer has a greater id than all that were named before: so who is not newer than one named by an earlier view was
-- named already
pub named_before : (stopped : ServerId → Bool) (manager : Manager) (evolves : Evolves stopped manager) (view later : View) (id known : ServerId)
    → IsListed manager view → IsListed manager later → view.number ≤ later.number
    → names view known ≡ true → names later id ≡ true → id.0 ≤ known.0 → names view id ≡ true
named_before stopped manager evolves view later id known at at' le named named' no_newer =
    let both = follow stopped manager evolves view later at at' le in
    let most = ((rises stopped manager evolves view at).most known named).1 in
    both.newcomers id named' (omega arith)

-- who is named by two views is named by each between
pub between : (stopped : ServerId → Bool) (manager : Manager) (evolves : Evolves stopped manager) (view middle later : View) (id : ServerId)
    → IsListed manager view → IsListed manager middle → IsListed manager later → view.number ≤ middle.number → middle.number ≤ later.number
    → names view id ≡ true → names later id ≡ true → names middle id ≡ true
between stopped manager evolves view middle later id at mid at' le le' named named' =
    let first = follow stopped manager evolves view middle at mid le in
    let more = first.made_more in
    let most = ((rises stopped manager evolves view at).most id named).1 in
    (follow stopped manager evolves middle later mid at' le').newcomers id named' (omega arith)

-- who has not stopped is still named by the current view
pub still_named : (stopped : ServerId → Bool) (manager : Manager) (evolves : Evolves stopped manager) (view later : View) (id : ServerId)
    → IsListed manager view → IsListed manager later → view.number ≤ later.number
    → names view id ≡ true → stopped id ≡ false → names later id ≡ true
still_named stopped manager evolves view later id at at' le named runs = by_test (names later id) refl
  where
    by_test : (test : Bool) → names later id ≡ test → names later id ≡ true
    by_test true is = is
    by_test false is = absurd (false≢true (sym runs ∙ (follow stopped manager evolves view later at at' le).left id named is))

-- views evolve so as well where more servers have stopped
next_more : (stopped later : ServerId → Bool) (view : View) (made : ℕ) (next : View) (now : ℕ) → ((id : ServerId) → stopped id ≡ true → later id ≡ true) → IsNext stopped view made next now → IsNext later view made next now
next_more stopped later view made next now more (is_without id stops named some) = is_without id (more id stops) named some
next_more stopped later view made next now more (is_joined none) = is_joined none
next_more stopped later view made next now more (is_promoted id is) = is_promoted id is

pub evolves_more : (stopped later : ServerId → Bool) (manager : Manager) → ((id : ServerId) → stopped id ≡ true → later id ≡ true) → Evolves stopped manager → Evolves later manager
evolves_more stopped later manager more (begins servers some) = begins servers some
evolves_more stopped later manager more (goes_on before next now evolves is) =
    goes_on before next now (evolves_more stopped later before more evolves) (next_more stopped later before.current before.made next now more is)

-- a view names no more servers than were made
abbrev one_joiner : Option ServerId → ℕ
one_joiner joiner = length (option_to_list joiner)

fewer_joiners : (joiner : Option ServerId) (id : ServerId) → one_joiner (joiner_but joiner id) ≤ one_joiner joiner
fewer_joiners None id = omega arith
fewer_joiners (Some joiner) id = by_test (eqb joiner.0 id.0)
  where
    by_test : (test : Bool) → one_joiner (cond test None (Some joiner)) ≤ 1
    by_test true = omega arith
    by_test false = omega arith

few_next : (stopped : ServerId → Bool) (view : View) (made : ℕ) (next : View) (now : ℕ) → length view.chain + one_joiner view.joiner ≤ made → IsNext stopped view made next now → length next.chain + one_joiner next.joiner ≤ now
few_next stopped view made next now few (is_without id stops named some) = omega (arith, fewer view.chain id, fewer_joiners view.joiner id)
few_next stopped view made next now few (is_joined none) = omega (arith, ap one_joiner none)
few_next stopped view made next now few (is_promoted id is) = omega (arith, length-append view.chain (id ∷ []), ap one_joiner is)

named_so : (stopped : ServerId → Bool) (manager : Manager) → Evolves stopped manager → length manager.current.chain + one_joiner manager.current.joiner ≤ manager.made
named_so stopped manager (begins servers some) =
    let id : ℕ → ServerId = λ n. record { 0 = n } in omega (arith, length-map (numbers_to servers) id, length-numbers_to servers)
named_so stopped manager (goes_on before next now evolves is) = few_next stopped before.current before.made next now (named_so stopped before evolves) is

pub named_few : (stopped : ServerId → Bool) (manager : Manager) → Evolves stopped manager → length (named_by manager.current) ≤ manager.made
named_few stopped manager evolves = omega (arith, length-append manager.current.chain (option_to_list manager.current.joiner), named_so stopped manager evolves)
