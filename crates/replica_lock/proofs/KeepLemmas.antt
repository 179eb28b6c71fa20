-- Each of the six kinds of step keeps the rule.
use Rattle.std.proofs.Common.{◌≡◌, ◌≢◌, ℕ, ◌+◌, ◌%◌, ◌^◌, ◌<◌, ◌≤◌, true, false, List, [], ◌∷◌, set, get_or, Option, None, Some, IfSome, refl, sym, ap, ◌∙◌, subst, inl, inr, ⊎_elim, mod-eq_of_lt, arith}
use mathlib.Core.Option.{some, none}
use native.Mathlib.Decide.{ℕ_discrete}
use lib.ListN.{get_elem?}
use Rattle.atomic_table.specs.Table.{Act, keeps, takes, gives, Valid, stepped, put_back, rest, carried_after}
use Rattle.atomic_table.proofs.Lists.{set_here, set_else}
use Rattle.replica_lock.specs.declared.seat.TheConstants.{MOST_SEATS}
use Rattle.replica_lock.specs.declared.standing.About.{About}
use Rattle.replica_lock.specs.declared.standing.Hold.{Hold}
use Rattle.replica_lock.specs.declared.standing.Standing.{Standing}
use Rattle.replica_lock.specs.Rule.{Homes, TurnState, TableSeat, ahead, IsStanding, all_parts, IsFree, IsTaken, HolderIs, IsTurn}
use Rattle.replica_lock.specs.Steps.{holding, raising, remaining, split_off, joined, spent, took, raised, gave}
use Rattle.replica_lock.specs.Kinds.{TakingKeepsTheRule, CountingKeepsTheRule, GivingKeepsTheRule, LookingKeepsTheRule, SplittingKeepsTheRule, JoiningKeepsTheRule, OneSeatHoldsTheTurn, TheHistoryIsShort}
use Rattle.std.proofs.lemmas.List.Sums.{sum_by_push}
use Rattle.replica_lock.proofs.TotalLemmas.{sum_by-set_at, le-sum_by}
use Rattle.replica_lock.proofs.StandingLemmas.{IfSome-each, at_within, all_set, all_push, IsStanding-longer, all_gives-small}
use Rattle.replica_lock.proofs.HolderLemmas.{holder_is, hold_is, holder_is-not, taken_set, holder_set, holder_kept, holder_pushed}

module _ {T N : Type 0} (count_of : T → ℕ) (name_of : T → N) (about : About T) where
  abbrev Rule : TurnState T N → Type 0
  Rule s = IsTurn count_of name_of about s

  abbrev Name : N
  Name = name_of about.value.value

  -- the two words
  history_word : (s : TurnState T N) (rule : IsTurn count_of name_of about s) → get_or s.words 0 0 ≡ rule.history
  history_word s rule = ap (λ ws. get_or ws 0 0) rule.words

  turn_word : (s : TurnState T N) (rule : IsTurn count_of name_of about s) → get_or s.words 1 0 ≡ rule.turn
  turn_word s rule = ap (λ ws. get_or ws 1 0) rule.words

  -- the history is short
  small_history : (s : TurnState T N) (rule : IsTurn count_of name_of about s) → rule.history < 2 ^ 58
  small_history s rule =
      let few : all_parts s.views ≤ MOST_SEATS = omega (arith, rule.parts, rule.few) in
      omega (arith, rule.gives, all_gives-small Name rule.history s.views rule.each few)

  pub short : TheHistoryIsShort count_of name_of about
  short s rule = omega (arith, history_word s rule, small_history s rule)

  -- there is one holder
  pub one_holds : OneSeatHoldsTheTurn count_of name_of about
  one_holds s rule one other v w at at' holds holds' = ⊎_elim free taken rule.holder
    where
      free : IsFree count_of name_of Name rule.history rule.turn s.homes s.views → one ≡ other
      free f = absurd (holds (f.nobody one v at))

      taken : IsTaken rule.history rule.turn s.homes s.views → one ≡ other
      taken t =
          let here : one ≡ t.holder = by_test one v at holds (ℕ_discrete one t.holder) in
          let there : other ≡ t.holder = by_test other w at' holds' (ℕ_discrete other t.holder) in
          here ∙ sym there
        where
          by_test : (id : ℕ) (u : Standing N) → get_elem? s.views id ≡ some u → u.hold ≢ None → Dec (id ≡ t.holder)
              → id ≡ t.holder
          by_test id u at_id some_ (yes same) = same
          by_test id u at_id some_ (no apart) = absurd (some_ (t.others id u at_id apart))

  -- the rule after a step by which one seat changes, and stands for as many seats as before
  stepped_rule : (s : TurnState T N) (rule : IsTurn count_of name_of about s) (id : ℕ) (v w : Standing N)
      → get_elem? s.views id ≡ some v → (history turn : ℕ) (words : List ℕ) (homes : Homes T)
      → words ≡ history ∷ turn ∷ [] → rule.history ≤ history → IsStanding history Name w → w.parts ≡ v.parts
      → history + v.gives ≡ rule.history + w.gives
      → HolderIs count_of name_of Name history turn homes (set s.views id w)
      → Rule record { words = words; homes = homes; views = set s.views id w }
  stepped_rule s rule id v w at history turn words homes are more mine same_parts given holder = record {
    history = history;
    turn = turn;
    words = are;
    holder = holder;
    each = all_set (λ seat (u : Standing N). IsStanding history Name u) s.views id w
        (λ seat u at' apart. IsStanding-longer Name rule.history history u more (rule.each seat u at')) mine;
    parts = omega (arith, sum_by-set_at (λ (u : Standing N). u.parts) s.views id v w at, rule.parts, same_parts);
    few = rule.few;
    gives = omega (arith, sum_by-set_at (λ (u : Standing N). u.gives) s.views id v w at, rule.gives, given);
  }

  -- a step can go on: there is a new view and an act that keep the rule, and tell this
  abbrev Goes : TurnState T N → ℕ → ℕ → ℕ → TableSeat T N → (TableSeat T N → Type 0) → Type 0
  Goes s word new id me tells =
      (w : Standing N) × (a : Act (Option T)) × Valid s.homes me.1 a × Rule (stepped s word new id me.1 w a)
      × tells (w, carried_after me.1 a)

  -- take
  pub taking_keeps : TakingKeepsTheRule count_of name_of about
  taking_keeps slots id me some_part idle empty s rule deep at small = ⊎_elim free taken rule.holder
    where
      free : IsFree count_of name_of Name rule.history rule.turn s.homes s.views
          → Goes s 1 1 id me (took count_of name_of me (get_or s.words 1 0))
      free f =
          let x : T = f.value in
          let w : Standing N = holding me.0 (count_of x) in
          let is = rule.each id me.0 at in
          let mine : IsStanding rule.history Name w = record {
            few = is.few;
            named = is.named;
            seen = omega (arith, f.counted);
            spent = λ gone. absurd (omega (arith, some_part, gone));
          } in
          let held : IsTaken rule.history 1 (set s.homes 0 none) (set s.views id w) = record {
            marked = refl;
            out = ap (λ hs. set hs 0 none) f.home;
            holder = id;
            who = w;
            there = set_here s.views id w (at_within s.views id me.0 at);
            hold = record { count = count_of x; is_raised = false };
            holds = refl;
            counted = omega (arith, f.counted);
            others = all_set (λ seat (u : Standing N). seat ≢ id → u.hold ≡ None) s.views id w
                (λ seat u at' _ _. f.nobody seat u at') (λ apart. absurd (apart refl));
          } in (
            w,
            takes 0 (Some x),
            ap (λ hs. get_elem? hs 0) f.home,
            stepped_rule s rule id me.0 w at rule.history 1 (set s.words 1 1) (set s.homes 0 none)
                (ap (λ ws. set ws 1 1) rule.words) (omega arith) mine refl refl (inr held),
            (
              (λ _. record {
                value = x;
                out = ap (λ c. (0, Some x) ∷ c) empty;
                holds = refl;
                named = f.named ∙ sym (is.named some_part);
                small = omega (arith, f.counted, small_history s rule);
              }),
              (λ busy. absurd (busy (turn_word s rule ∙ f.cleared))),
            ),
          )

      taken : IsTaken rule.history rule.turn s.homes s.views
          → Goes s 1 1 id me (took count_of name_of me (get_or s.words 1 0))
      taken t =
          let w : Standing N = record me.0 { empties = me.0.empties + 1 } in
          let is = rule.each id me.0 at in
          let mine : IsStanding rule.history Name w =
          record { few = is.few; named = is.named; seen = is.seen; spent = is.spent } in
          let words : set s.words 1 1 ≡ rule.history ∷ rule.turn ∷ [] =
          ap (λ ws. set ws 1 1) rule.words ∙ ap (λ n. rule.history ∷ n ∷ []) (sym t.marked) in
          let apart = holder_is-not rule.history rule.turn s.homes s.views t id me.0 at idle in (
            w,
            keeps,
            tt,
            stepped_rule s rule id me.0 w at rule.history rule.turn (set s.words 1 1) s.homes words (omega arith) mine
                refl refl (inr (taken_set rule.history rule.turn s.homes s.views id w idle t apart)),
            (
              (λ clear. absurd (omega (arith, clear, turn_word s rule, t.marked))),
              (λ _. refl),
            ),
          )

  -- count
  pub counting_keeps : CountingKeepsTheRule count_of name_of about
  counting_keeps slots id count me some_part room holds s rule deep at small = ⊎_elim free taken rule.holder
    where
      found : ℕ
      found = get_or s.words 0 0

      h : Hold
      h = record { count = count; is_raised = false }

      free : IsFree count_of name_of Name rule.history rule.turn s.homes s.views
          → Goes s 0 ((found + 1) % 2 ^ 64) id me (raised me found)
      free f = let idle : me.0.hold ≡ None = f.nobody id me.0 at in absurd (cc)

      taken : IsTaken rule.history rule.turn s.homes s.views
          → Goes s 0 ((found + 1) % 2 ^ 64) id me (raised me found)
      taken t =
          let w : Standing N = raising me.0 found in
          let is = rule.each id me.0 at in
          let same = holder_is rule.history rule.turn s.homes s.views t id me.0 h at holds in
          let one = hold_is rule.history rule.turn s.homes s.views t id me.0 h at holds in
          let counted : rule.history ≡ count =
          t.counted ∙ (ap (λ (k : Hold). k.count + ahead k.is_raised) one ∙ omega arith) in
          let next : (found + 1) % 2 ^ 64 ≡ rule.history + 1 =
          mod-eq_of_lt (omega (arith, history_word s rule, small_history s rule)) ∙ omega (arith, history_word s rule) in
          let words : set s.words 0 ((found + 1) % 2 ^ 64) ≡ (rule.history + 1) ∷ rule.turn ∷ [] =
          ap (λ ws. set ws 0 ((found + 1) % 2 ^ 64)) rule.words ∙ ap (λ n. n ∷ rule.turn ∷ []) next in
          let mine : IsStanding (rule.history + 1) Name w = record {
            few = omega (arith, room, some_part);
            named = is.named;
            seen = omega (arith, history_word s rule);
            spent = λ gone. absurd (omega (arith, some_part, gone));
          } in
          let held = holder_set rule.history rule.turn s.homes s.views (rule.history + 1) id me.0 w
          (record { count = found; is_raised = true }) at t same refl (omega (arith, history_word s rule)) in (
            w,
            keeps,
            tt,
            stepped_rule s rule id me.0 w at (rule.history + 1) rule.turn (set s.words 0 ((found + 1) % 2 ^ 64)) s.homes
                words (omega arith) mine refl (omega arith) (inr held),
            (refl, subst (λ o. IfSome o (λ (k : Hold). found ≡ k.count)) (sym holds) (history_word s rule ∙ counted)),
          )

  -- give
  pub giving_keeps : GivingKeepsTheRule count_of name_of about
  giving_keeps slots id h value me some_part holds carried named counts s rule deep at small =
      ⊎_elim free taken rule.holder
    where
      free : IsFree count_of name_of Name rule.history rule.turn s.homes s.views
          → Goes s 1 0 id me (gave me (get_or s.words 1 0))
      free f = let idle : me.0.hold ≡ None = f.nobody id me.0 at in absurd (cc)

      taken : IsTaken rule.history rule.turn s.homes s.views → Goes s 1 0 id me (gave me (get_or s.words 1 0))
      taken t =
          let w : Standing N = record me.0 { hold = None } in
          let is = rule.each id me.0 at in
          let same = holder_is rule.history rule.turn s.homes s.views t id me.0 h at holds in
          let one = hold_is rule.history rule.turn s.homes s.views t id me.0 h at holds in
          let history : count_of value ≡ rule.history =
          counts ∙ sym (t.counted ∙ ap (λ (k : Hold). k.count + ahead k.is_raised) one) in
          let mine : IsStanding rule.history Name w =
          record { few = is.few; named = is.named; seen = is.seen; spent = λ _. refl } in
          let free : IsFree count_of name_of Name rule.history 0 (put_back s.homes me.1) (set s.views id w) = record {
            cleared = refl;
            value = value;
            home = ap (put_back s.homes) carried ∙ ap (λ hs. set hs 0 (some (Some value))) t.out;
            named = named ∙ is.named some_part;
            counted = history;
            nobody = all_set (λ seat (u : Standing N). u.hold ≡ None) s.views id w
                (λ seat u at' apart. t.others seat u at' (λ e. apart (e ∙ sym same))) refl;
          } in (
            w,
            gives,
            tt,
            stepped_rule s rule id me.0 w at rule.history 0 (set s.words 1 0) (put_back s.homes me.1)
                (ap (λ ws. set ws 1 0) rule.words) (omega arith) mine refl refl (inl free),
            ap (λ c. (w, rest c)) carried,
          )

  -- load
  pub looking_keeps : LookingKeepsTheRule count_of name_of about
  looking_keeps slots id me s rule deep at small =
      let found : ℕ = get_or s.words 0 0 in
      let w : Standing N = record me.0 { seen = found } in
      let is = rule.each id me.0 at in
      let mine : IsStanding rule.history Name w =
      record { few = is.few; named = is.named; seen = omega (arith, history_word s rule); spent = is.spent } in
      let holder = holder_kept count_of name_of Name rule.history rule.turn s.homes s.views id me.0 w at refl rule.holder in (
        w,
        keeps,
        tt,
        stepped_rule s rule id me.0 w at rule.history rule.turn (set s.words 0 found) s.homes
            (ap (λ ws. set ws 0 (get_or ws 0 0)) rule.words) (omega arith) mine refl refl holder,
        (
          refl,
          omega (arith, history_word s rule, is.seen),
          omega (arith, history_word s rule, rule.gives, le-sum_by (λ (u : Standing N). u.gives) s.views id me.0 at),
          omega (arith, history_word s rule, small_history s rule),
          IfSome-each me.0.hold (λ h. found ≡ h.count + ahead h.is_raised)
              (λ h holds. history_word s rule ∙ ⊎_elim (no_one h holds) (counted h holds) rule.holder),
        ),
      )
    where
      no_one : (h : Hold) → me.0.hold ≡ Some h → IsFree count_of name_of Name rule.history rule.turn s.homes s.views
          → rule.history ≡ h.count + ahead h.is_raised
      no_one h holds f = let idle : me.0.hold ≡ None = f.nobody id me.0 at in absurd (cc)

      counted : (h : Hold) → me.0.hold ≡ Some h → IsTaken rule.history rule.turn s.homes s.views
          → rule.history ≡ h.count + ahead h.is_raised
      counted h holds t =
          let one = hold_is rule.history rule.turn s.homes s.views t id me.0 h at holds in
          t.counted ∙ ap (λ (k : Hold). k.count + ahead k.is_raised) one

  -- split
  pub splitting_keeps : SplittingKeepsTheRule count_of name_of about
  splitting_keeps id v idle none_given parts s rule at =
      let is = rule.each id v at in
      let w : Standing N = remaining v in
      let u : Standing N = split_off v in
      let views : List (Standing N) = set s.views id w in
      let mine : IsStanding rule.history Name w = record {
        few = omega (arith, none_given);
        named = λ _. is.named (omega arith);
        seen = is.seen;
        spent = λ _. idle;
      } in
      let new : IsStanding rule.history Name u = record {
        few = omega arith;
        named = λ _. is.named (omega arith);
        seen = is.seen;
        spent = λ _. refl;
      } in
      record {
        history = rule.history;
        turn = rule.turn;
        words = rule.words;
        holder = holder_pushed count_of name_of Name rule.history rule.turn s.homes views u refl
            (holder_kept count_of name_of Name rule.history rule.turn s.homes s.views id v w at refl rule.holder);
        each = all_push (λ seat (x : Standing N). IsStanding rule.history Name x) views u
            (all_set (λ seat (x : Standing N). IsStanding rule.history Name x) s.views id w (λ seat x at' _. rule.each seat x at') mine)
            (λ _. new);
        parts = omega (
          arith,
          sum_by_push (λ (x : Standing N). x.parts) views u,
          sum_by-set_at (λ (x : Standing N). x.parts) s.views id v w at,
          rule.parts,
          parts,
        );
        few = rule.few;
        gives = omega (
          arith,
          sum_by_push (λ (x : Standing N). x.gives) views u,
          sum_by-set_at (λ (x : Standing N). x.gives) s.views id v w at,
          rule.gives,
          none_given,
        );
      }

  -- join
  pub joining_keeps : JoiningKeepsTheRule count_of name_of about
  joining_keeps id other v w nowhere idle idle_too some_part s rule at apart at_other =
      let both : Standing N = joined v w in
      let gone : Standing N = spent nowhere in
      let views : List (Standing N) = set s.views id both in
      let is = rule.each id v at in
      let it = rule.each other w (sym (set_else s.views id other both apart) ∙ at_other) in
      let mine : IsStanding rule.history Name both = record {
        few = omega (arith, is.few, it.few);
        named = λ _. is.named some_part;
        seen = omega (arith, is.seen, it.seen);
        spent = λ _. idle;
      } in
      let none : IsStanding rule.history Name gone = record {
        few = omega arith;
        named = λ some_. absurd (omega (arith, some_));
        seen = omega arith;
        spent = λ _. refl;
      } in
      record {
        history = rule.history;
        turn = rule.turn;
        words = rule.words;
        holder = holder_kept count_of name_of Name rule.history rule.turn s.homes views other w gone at_other (sym idle_too)
            (holder_kept count_of name_of Name rule.history rule.turn s.homes s.views id v both at refl rule.holder);
        each = all_set (λ seat (x : Standing N). IsStanding rule.history Name x) views other gone
            (λ seat x at' _. all_set (λ seat (x : Standing N). IsStanding rule.history Name x) s.views id both
            (λ seat x at' _. rule.each seat x at') mine seat x at') none;
        parts = omega (
          arith,
          sum_by-set_at (λ (x : Standing N). x.parts) s.views id v both at,
          sum_by-set_at (λ (x : Standing N). x.parts) views other w gone at_other,
          rule.parts,
        );
        few = rule.few;
        gives = omega (
          arith,
          sum_by-set_at (λ (x : Standing N). x.gives) s.views id v both at,
          sum_by-set_at (λ (x : Standing N). x.gives) views other w gone at_other,
          rule.gives,
        );
      }
