-- How views come of one another, and what holds of an earlier and a later one.
use Rattle.std.specs.Prelude.{◌≡◌, Bool, ℕ, ◌+◌, ◌≤◌, ◌<◌, true, false, length, None, Some}
use Rattle.std.specs.List.{AllPairs}
use Rattle.kr_order.specs.declared.ids.ServerId.{ServerId}
use Rattle.kr_order.specs.declared.view.View.{View}
use Rattle.kr_order.specs.View.{in_chain, first_view, names}
use Rattle.kr_protocol.specs.Manager.{Manager, members_but, without, with_joiner, promoted, new_manager, goes_to}

-- the next view of one that was current when so many servers were made, and how many then are: without a server that
-- has stopped, with a new one, or with the joiner as a member. A member is left.
pub data IsNext (stopped : ServerId → Bool) (view : View) (made : ℕ) : View → ℕ → Type 0 where
  is_without :
      (id : ServerId)
      → stopped id ≡ true
      → names view id ≡ true
      → 1 ≤ length (members_but view.chain id)
      → IsNext stopped view made (without view id) made
  is_joined : view.joiner ≡ None → IsNext stopped view made (with_joiner view (record { 0 = made + 1 })) (made + 1)
  is_promoted : (id : ServerId) → view.joiner ≡ Some id → IsNext stopped view made (promoted view id) made

-- a view and a later one, or the same, each with how many servers were made when it was current
pub data Leads (stopped : ServerId → Bool) (view : View) (made : ℕ) : View → ℕ → Type 0 where
  leads_nowhere : Leads stopped view made view made
  leads_on :
      (later : View) (made_then : ℕ) (last : View) (now : ℕ)
      → Leads stopped view made later made_then
      → IsNext stopped later made_then last now
      → Leads stopped view made last now

-- the views of the manager came of one another, from the first on
pub data Evolves (stopped : ServerId → Bool) : Manager → Type 0 where
  begins : (servers : ℕ) → 1 ≤ servers → Evolves stopped (new_manager servers)
  goes_on :
      (manager : Manager) (next : View) (now : ℕ)
      → Evolves stopped manager
      → IsNext stopped manager.current manager.made next now
      → Evolves stopped (goes_to manager next now)

-- the ids of members rise along the chain, a joiner's is greater, none is greater than that of the last server made,
-- and there is a member
pub record IsRising (view : View) (made : ℕ) : Type 0 where
  pub some : 1 ≤ length view.chain
  pub members : AllPairs (λ earlier later. earlier.0 < later.0) view.chain
  pub joiner : (member joiner : ServerId) → in_chain view member ≡ true → view.joiner ≡ Some joiner → member.0 < joiner.0
  pub most : (id : ServerId) → names view id ≡ true → (1 ≤ id.0) × (id.0 ≤ made)

-- the view that so many servers begin with is such a view
abbrev pub TheFirstViewRises : Type 0
TheFirstViewRises = (servers : ℕ) → 1 ≤ servers → IsRising (first_view servers) servers

-- a view, of servers that were at most so many, and a later one
pub record AreEarlierAndLater (stopped : ServerId → Bool) (view : View) (made : ℕ) (later : View) (now : ℕ) : Type 0 where
  pub rising : IsRising later now
  pub number : view.number ≤ later.number
  pub made_more : made ≤ now
  -- newcomers are new
  pub newcomers : (id : ServerId) → names later id ≡ true → id.0 ≤ made → names view id ≡ true
  -- who left has stopped
  pub left : (id : ServerId) → names view id ≡ true → names later id ≡ false → stopped id ≡ true
  -- members stay members
  pub members : (id : ServerId) → in_chain view id ≡ true → names later id ≡ true → in_chain later id ≡ true

abbrev pub LaterViewsFollow : Type 0
LaterViewsFollow =
    (stopped : ServerId → Bool) (view : View) (made : ℕ) (later : View) (now : ℕ)
    → IsRising view made
    → Leads stopped view made later now
    → AreEarlierAndLater stopped view made later now
