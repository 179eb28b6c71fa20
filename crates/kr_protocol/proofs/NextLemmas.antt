-- Who stands before whom in a view and in later ones.
use Rattle.std.proofs.Common.{◌≡◌, ◌≢◌, ◌⊎◌, ℕ, ◌+◌, ◌-◌, ◌<◌, ◌≤◌, Bool, true, false, List, [], ◌∷◌, refl, sym, ap, ◌∙◌, subst, arith, inl, inr}
use Rattle.std.specs.Prelude.{Some, slice_get}
use Rattle.std.proofs.lemmas.Bool.{cases_eq, eq-eqb, false≢true}
use Rattle.std.proofs.lemmas.Option.{none-some, same_Some, slice_get_past}
use Rattle.kr_order.specs.declared.ids.ServerId.{ServerId}
use Rattle.kr_order.specs.declared.view.View.{View}
use Rattle.kr_order.specs.View.{in_chain, is_joiner, last_member, prev_of, first_view, names}
use Rattle.kr_protocol.specs.Manager.{Manager, views_of, with_joiner}
use Rattle.kr_protocol.specs.Evolves.{IsNext, is_without, is_joined, is_promoted, Evolves, begins, goes_on}
use Rattle.kr_protocol.proofs.NameLemmas.{joiner_named}
use Rattle.kr_protocol.proofs.EvolveLemmas.{named_still, promoted_names}
use Rattle.kr_protocol.proofs.TimelineLemmas.{IsAt, is_before, is_last, at_of, IsListed, made_by, counting, current_listed, follow, rises, named_before, between}
use Rattle.kr_protocol.proofs.NeighbourLemmas.{member_is_named, member_or_joiner, under_member, prev_before, before_prev, under_joiner, last_is, is_the_last}

-- as long as both are named, the one stands before the other
pub neighbours_stay : (stopped : ServerId → Bool) (manager : Manager) (evolves : Evolves stopped manager) (view later : View) (before id : ServerId)
    → IsListed manager view → IsListed manager later → view.number ≤ later.number
    → prev_of view id ≡ Some before → names later id ≡ true → names later before ≡ true → prev_of later id ≡ Some before
neighbours_stay stopped manager evolves view later before id at at' le is named named' =
    let its = prev_before view (made_by stopped manager evolves view) (rises stopped manager evolves view at) before id is in
    before_prev later (made_by stopped manager evolves later) (rises stopped manager evolves later at') before id (record {
      member = (follow stopped manager evolves view later at at' le).members before its.member named';
      named = named;
      lt = its.lt;
      nearest = λ other named'' lt. its.nearest other (named_before stopped manager evolves view later other id at at' le its.named named'' (omega arith)) lt;
    })

-- the next view leaves out one server at the most
one_left : (stopped : ServerId → Bool) (view : View) (made : ℕ) (next : View) (now : ℕ) (a b : ServerId) → IsNext stopped view made next now
    → names view a ≡ true → names view b ≡ true → names next a ≡ false → names next b ≡ false → a.0 ≡ b.0
one_left stopped view made next now a b (is_without gone stops named some) in_a in_b no_a no_b =
    let its : (id : ServerId) → names view id ≡ true → names next id ≡ false → gone.0 ≡ id.0 =
    λ id was not_now. elim (cases_eq gone.0 id.0) [
      | inl same ↦ same
      | inr other ↦ absurd (false≢true (sym not_now ∙ named_still view gone id other was))
    ] in
    let same = its a in_a no_a in
    let same' = its b in_b no_b in
    omega arith
one_left stopped view made next now a b (is_joined none) in_a in_b no_a no_b = by_kind (member_or_joiner view a in_a)
  where
    by_kind : (in_chain view a ≡ true) ⊎ ((in_chain view a ≡ false) × (view.joiner ≡ Some a)) → a.0 ≡ b.0
    by_kind (inl member) = absurd (false≢true (sym no_a ∙ member_is_named (with_joiner view (record { 0 = made + 1 })) a member))
    by_kind (inr both) = absurd (none-some a (sym none ∙ both.1))
one_left stopped view made next now a b (is_promoted joiner is) in_a in_b no_a no_b =
    absurd (false≢true (sym no_a ∙ promoted_names view joiner a is ∙ in_a))

-- a view and the next
record AreNext (stopped : ServerId → Bool) (view next : View) : Type 0 where
  made : ℕ
  now : ℕ
  is : IsNext stopped view made next now

listed_next : (stopped : ServerId → Bool) (manager : Manager) → Evolves stopped manager → (k : ℕ) (view next : View)
    → slice_get (views_of manager) k ≡ Some view → slice_get (views_of manager) (k + 1) ≡ Some next → AreNext stopped view next
listed_next stopped manager (begins servers some) k view next at at' =
    absurd (none-some next (sym (slice_get_past {X = View} (first_view servers ∷ []) (k + 1) (omega arith)) ∙ at'))
listed_next stopped manager (goes_on before newest now evolves is) k view next at at' =
    by_place (listed_next stopped before evolves k view next) (at_of (views_of before) newest k view at) (at_of (views_of before) newest (k + 1) next at')
  where
    views : List View
    views = views_of before

    by_place :
        (slice_get views k ≡ Some view → slice_get views (k + 1) ≡ Some next → AreNext stopped view next)
        → IsAt views newest k view → IsAt views newest (k + 1) next → AreNext stopped view next
    by_place both (is_before lt there) (is_before lt' there') = both there there'
    by_place both (is_before lt there) (is_last last same) =
        let long = (counting stopped before evolves).long in
        let current : before.current ≡ view =
        same_of before.current view (current_listed stopped before evolves) (subst (λ j. slice_get views j ≡ Some view) (omega arith) there) in
        record { made = before.made; now = now; is = subst (λ v. IsNext stopped v before.made next now) current (subst (λ v. IsNext stopped before.current before.made v now) same is) }
      where
        same_of : (one other : View) → slice_get views (before.current.number - 1) ≡ Some one → slice_get views (before.current.number - 1) ≡ Some other → one ≡ other
        same_of one other there there' = same_Some one other (sym there ∙ there')
    by_place both (is_last last same) (is_before lt' there') = absurd (omega arith)
    by_place both (is_last last same) (is_last last' same') = absurd (omega arith)

-- who comes to stand before a server in the next view stood before the one that was left out
pub record IsClosed (view next : View) (gone before : ServerId) : Type 0 where
  pub left : names next gone ≡ false
  pub stood : prev_of view gone ≡ Some before

pub gap_closes : (stopped : ServerId → Bool) (manager : Manager) (evolves : Evolves stopped manager) (k : ℕ) (view next : View) (gone before id : ServerId)
    → slice_get (views_of manager) k ≡ Some view → slice_get (views_of manager) (k + 1) ≡ Some next
    → prev_of view id ≡ Some gone → prev_of next id ≡ Some before → gone.0 ≢ before.0 → IsClosed view next gone before
gap_closes stopped manager evolves k view next gone before id at at' was is differ =
    let numbers = (counting stopped manager evolves).numbers in
    let number = numbers k view at in
    let number' = numbers (k + 1) next at' in
    let listed : IsListed manager view = subst (λ j. slice_get (views_of manager) j ≡ Some view) (omega arith) at in
    let listed' : IsListed manager next = subst (λ j. slice_get (views_of manager) j ≡ Some next) (omega arith) at' in
    let made = made_by stopped manager evolves view in
    let rising = rises stopped manager evolves view listed in
    let old = prev_before view made rising gone id was in
    let new = prev_before next (made_by stopped manager evolves next) (rises stopped manager evolves next listed') before id is in
    let less = new.lt in
    let less' = old.lt in
    let known : names view before ≡ true =
    named_before stopped manager evolves view next before id listed listed' (omega arith) old.named (member_is_named next before new.member) (omega arith) in
    let under : before.0 ≤ gone.0 = old.nearest before known less in
    let left : names next gone ≡ false = not_named (names next gone) refl new.nearest less' under in
    let gone_named = member_is_named view gone old.member in
    record {
      left = left;
      stood = before_prev view made rising before gone (record {
        member = under_member view made rising gone before old.member known (omega arith);
        named = gone_named;
        lt = omega arith;
        nearest = λ other named lt. by_named other named lt left gone_named new.nearest less' (names next other) refl;
      });
    }
  where
    not_named : (test : Bool) → names next gone ≡ test → ((other : ServerId) → names next other ≡ true → other.0 < id.0 → other.0 ≤ before.0) → gone.0 < id.0 → before.0 ≤ gone.0 → names next gone ≡ false
    not_named false is nearest lt under = is
    not_named true is nearest lt under = let le = nearest gone is lt in absurd (differ (omega arith))

    by_named : (other : ServerId) → names view other ≡ true → other.0 < gone.0 → names next gone ≡ false → names view gone ≡ true
        → ((other : ServerId) → names next other ≡ true → other.0 < id.0 → other.0 ≤ before.0) → gone.0 < id.0
        → (test : Bool) → names next other ≡ test → other.0 ≤ before.0
    by_named other named lt left gone_named nearest less true is = nearest other is (omega arith)
    by_named other named lt left gone_named nearest less false is =
        let both = listed_next stopped manager evolves k view next at at' in
        absurd (omega (arith, one_left stopped view both.made next both.now other gone both.is named gone_named is left))

-- who joins by two views joins by each between
pub joins_between : (stopped : ServerId → Bool) (manager : Manager) (evolves : Evolves stopped manager) (view middle later : View) (joiner : ServerId)
    → IsListed manager view → IsListed manager middle → IsListed manager later → view.number ≤ middle.number → middle.number ≤ later.number
    → view.joiner ≡ Some joiner → later.joiner ≡ Some joiner → middle.joiner ≡ Some joiner
joins_between stopped manager evolves view middle later joiner at mid at' le le' is is' =
    by_kind (member_or_joiner middle joiner (between stopped manager evolves view middle later joiner at mid at' le le' (joins view is) (joins later is')))
  where
    joins : (v : View) → v.joiner ≡ Some joiner → names v joiner ≡ true
    joins v is = joiner_named v joiner (ap (λ j. is_joiner j joiner) is ∙ eq-eqb joiner.0 joiner.0 refl)

    by_kind : (in_chain middle joiner ≡ true) ⊎ ((in_chain middle joiner ≡ false) × (middle.joiner ≡ Some joiner)) → middle.joiner ≡ Some joiner
    by_kind (inr both) = both.1
    by_kind (inl member) =
        let member' = (follow stopped manager evolves middle later mid at' le').members joiner member (joins later is') in
        absurd (omega (arith, (rises stopped manager evolves later at').joiner joiner joiner member' is'))

-- the last member beside a joiner by two views is so by each between
pub last_between : (stopped : ServerId → Bool) (manager : Manager) (evolves : Evolves stopped manager) (view middle later : View) (joiner last : ServerId)
    → IsListed manager view → IsListed manager middle → IsListed manager later → view.number ≤ middle.number → middle.number ≤ later.number
    → view.joiner ≡ Some joiner → later.joiner ≡ Some joiner → last_member view ≡ Some last → last_member later ≡ Some last → last_member middle ≡ Some last
last_between stopped manager evolves view middle later joiner last at mid at' le le' is is' ends ends' =
    let first = rises stopped manager evolves view at in
    let between_them = rises stopped manager evolves middle mid in
    let its = last_is view (made_by stopped manager evolves view) first last ends in
    let its' = last_is later (made_by stopped manager evolves later) (rises stopped manager evolves later at') last ends' in
    let named = between stopped manager evolves view middle later last at mid at' le le' (member_is_named view last its.member) (member_is_named later last its'.member) in
    let joins = joins_between stopped manager evolves view middle later joiner at mid at' le le' is is' in
    let known : names view joiner ≡ true = joiner_named view joiner (ap (λ j. is_joiner j joiner) is ∙ eq-eqb joiner.0 joiner.0 refl) in
    is_the_last middle (made_by stopped manager evolves middle) between_them last (record {
      member = (follow stopped manager evolves view middle at mid le).members last its.member named;
      greatest = λ other in_it.
          let under = between_them.joiner other joiner in_it joins in
          let before = named_before stopped manager evolves view middle other joiner at mid le known (member_is_named middle other in_it) (omega arith) in
          its.greatest other (under_joiner view (made_by stopped manager evolves view) first joiner other is before under);
    })
