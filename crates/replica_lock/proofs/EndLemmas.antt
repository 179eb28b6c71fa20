-- The turn as it ends.
use Rattle.std.proofs.Common.{◌≡◌, ℕ, ◌*◌, ◌≤◌, List, [], ◌∷◌, set, Option, None, Some, IsSomeAnd, sym, subst, ap, ◌∙◌, ⊎_elim, arith}
use mathlib.Core.Option.{some, some-injective}
use lib.ListN.{get_elem?}
use Rattle.atomic_table.specs.Table.{Final, Seen}
use Rattle.atomic_table.proofs.Lists.{set_else}
use Rattle.replica_lock.specs.declared.seat.TheConstants.{MOST_GIVES}
use Rattle.replica_lock.specs.declared.standing.About.{About}
use Rattle.replica_lock.specs.declared.standing.Standing.{Standing}
use Rattle.replica_lock.specs.Rule.{TurnState, all_parts, all_gives, IsFree, IsTaken, IsTurn}
use Rattle.replica_lock.specs.Steps.{spent}
use Rattle.replica_lock.proofs.TotalLemmas.{sum_by-set_at, le-sum_by, sum_by-le-times}
use Rattle.replica_lock.proofs.StandingLemmas.{all_set}
use Rattle.replica_lock.proofs.HolderLemmas.{holder_is-not}

module _ {T N : Type 0} (count_of : T → ℕ) (name_of : T → N) (about : About T) where
  abbrev Name : N
  Name = name_of about.value.value

  -- a value at home, of the turn's name and with so many entries
  record IsAtHome (s : TurnState T N) (entries : ℕ) : Type 0 where
    value : T
    home : s.homes ≡ some (Some value) ∷ []
    named : name_of value ≡ Name
    counted : count_of value ≡ entries

  -- where a seat has all parts and does not hold the turn, the value is at home, with as many entries as the seat gave
  all_home : (s : TurnState T N) (rule : IsTurn count_of name_of about s) (id : ℕ) (v : Standing N)
      → get_elem? s.views id ≡ some v → v.hold ≡ None → v.parts ≡ about.seats → IsAtHome s v.gives
  all_home s rule id v at idle whole = ⊎_elim free taken rule.holder
    where
      gone : Standing N
      gone = spent Name

      others : List (Standing N)
      others = set s.views id gone

      no_parts : all_parts others ≡ 0
      no_parts = omega (arith, sum_by-set_at (λ (u : Standing N). u.parts) s.views id v gone at, rule.parts, whole)

      few : (seat : ℕ) (u : Standing N) → get_elem? others seat ≡ some u → u.gives ≤ MOST_GIVES * u.parts
      few = all_set (λ seat (u : Standing N). u.gives ≤ MOST_GIVES * u.parts) s.views id gone
          (λ seat u at' _. (rule.each seat u at').few) (omega arith)

      all_given : rule.history ≡ v.gives
      all_given =
          let none_else : all_gives others ≤ MOST_GIVES * all_parts others =
          sum_by-le-times (λ (u : Standing N). u.parts) (λ (u : Standing N). u.gives) MOST_GIVES others few in
          omega (arith, none_else, no_parts, sum_by-set_at (λ (u : Standing N). u.gives) s.views id v gone at, rule.gives)

      free : IsFree count_of name_of Name rule.history rule.turn s.homes s.views → IsAtHome s v.gives
      free f = record { value = f.value; home = f.home; named = f.named; counted = f.counted ∙ all_given }

      taken : IsTaken rule.history rule.turn s.homes s.views → IsAtHome s v.gives
      taken t =
          let apart = holder_is-not rule.history rule.turn s.homes s.views t id v at idle in
          let there : get_elem? others t.holder ≡ some t.who = set_else s.views id t.holder gone apart ∙ t.there in
          let none_there : t.who.parts ≡ 0 =
          omega (arith, le-sum_by (λ (u : Standing N). u.parts) others t.holder t.who there, no_parts) in
          let idle_too : t.who.hold ≡ None = (rule.each t.holder t.who t.there).spent none_there in
          let holds = t.holds in
          absurd (cc)

  -- so what lies at home at the end is the value, of the turn's name and with as many entries as all gave
  pub closes : (words : List ℕ) (slots : List (Option T)) (id : ℕ) (v : Standing N) (found : Option T) (name : N) (all : ℕ)
      → Final (Seen (IsTurn count_of name_of about) id v) words slots → v.hold ≡ None → v.parts ≡ about.seats
      → get_elem? slots 0 ≡ some found → Name ≡ name → v.gives ≡ all
      → IsSomeAnd found (λ (x : T). (name_of x ≡ name) × (count_of x ≡ all))
  closes words slots id v found name all end idle whole at named gave =
      let home = all_home end.0 end.1.0 id v end.1.1 idle whole in
      let here : get_elem? slots 0 ≡ some (Some home.value) =
      end.4 0 (Some home.value) (ap (λ hs. get_elem? hs 0) home.home) in
      let same : Some home.value ≡ found = some-injective (Some home.value) found (sym here ∙ at) in
      subst (λ o. IsSomeAnd o (λ (x : T). (name_of x ≡ name) × (count_of x ≡ all))) same
      (home.named ∙ named, home.counted ∙ gave)
