-- Who holds the turn, after a change of one seat.
use Rattle.std.proofs.Common.{◌≡◌, ◌≢◌, ℕ, ◌+◌, List, [], ◌∷◌, ◌++◌, set, None, Some, refl, sym, ap, ◌∙◌, inl, inr, ⊎_elim}
use mathlib.Core.Option.{some, some-injective}
use native.Mathlib.Decide.{ℕ_discrete}
use lib.ListN.{get_elem?}
use Rattle.atomic_table.proofs.Lists.{set_here, set_else, at_longer}
use Rattle.replica_lock.specs.declared.standing.Hold.{Hold}
use Rattle.replica_lock.specs.declared.standing.Standing.{Standing}
use Rattle.replica_lock.specs.Rule.{Homes, ahead, IsFree, IsTaken, HolderIs}
use Rattle.replica_lock.proofs.StandingLemmas.{at_within, all_set, all_push}

-- a seat holds the turn in one way
pub holds_one : (h k : Hold) → Some h ≡ Some k → h ≡ k
holds_one h k same = cc

module _ {T N : Type 0} (history turn : ℕ) (homes : Homes T) (views : List (Standing N)) where
  -- a seat that holds the turn is the holder
  pub holder_is : (taken : IsTaken history turn homes views) (id : ℕ) (v : Standing N) (h : Hold)
      → get_elem? views id ≡ some v → v.hold ≡ Some h → id ≡ taken.holder
  holder_is taken id v h at holds = by_test (ℕ_discrete id taken.holder)
    where
      by_test : Dec (id ≡ taken.holder) → id ≡ taken.holder
      by_test (yes same) = same
      by_test (no apart) = let idle : v.hold ≡ None = taken.others id v at apart in absurd (cc)

  -- what is known of the holder is known of the seat that is found there
  pub who_is : (taken : IsTaken history turn homes views) (id : ℕ) (v : Standing N)
      → get_elem? views id ≡ some v → id ≡ taken.holder → taken.who ≡ v
  who_is taken id v at same =
      some-injective taken.who v (sym taken.there ∙ (ap (get_elem? views) (sym same) ∙ at))

  -- and it holds the turn in the way that is known
  pub hold_is : (taken : IsTaken history turn homes views) (id : ℕ) (v : Standing N) (h : Hold)
      → get_elem? views id ≡ some v → v.hold ≡ Some h → taken.hold ≡ h
  hold_is taken id v h at holds =
      let who : taken.who ≡ v = who_is taken id v at (holder_is taken id v h at holds) in
      holds_one taken.hold h (sym taken.holds ∙ (ap (λ (u : Standing N). u.hold) who ∙ holds))

  -- a seat that does not hold the turn is not the holder
  pub holder_is-not : (taken : IsTaken history turn homes views) (id : ℕ) (v : Standing N)
      → get_elem? views id ≡ some v → v.hold ≡ None → taken.holder ≢ id
  holder_is-not taken id v at idle same =
      let who : taken.who ≡ v = who_is taken id v at (sym same) in
      let holds : v.hold ≡ Some taken.hold = ap (λ (u : Standing N). u.hold) (sym who) ∙ taken.holds in
      absurd (cc)

  -- a turn stays taken where a seat changes that is not the holder
  pub taken_set : (id : ℕ) (w : Standing N) → w.hold ≡ None → (taken : IsTaken history turn homes views)
      → taken.holder ≢ id → IsTaken history turn homes (set views id w)
  taken_set id w idle taken apart = record {
    marked = taken.marked;
    out = taken.out;
    holder = taken.holder;
    who = taken.who;
    there = set_else views id taken.holder w apart ∙ taken.there;
    hold = taken.hold;
    holds = taken.holds;
    counted = taken.counted;
    others = all_set (λ seat (v : Standing N). seat ≢ taken.holder → v.hold ≡ None) views id w
        (λ seat v at _. taken.others seat v at) (λ _. idle);
  }

  -- and where the holder changes, with a history that is as it then knows
  pub holder_set : (longer id : ℕ) (v w : Standing N) (h : Hold) → get_elem? views id ≡ some v
      → (taken : IsTaken history turn homes views) → id ≡ taken.holder
      → w.hold ≡ Some h → longer ≡ h.count + ahead h.is_raised → IsTaken longer turn homes (set views id w)
  holder_set longer id v w h at taken same holds counted = record {
    marked = taken.marked;
    out = taken.out;
    holder = id;
    who = w;
    there = set_here views id w (at_within views id v at);
    hold = h;
    holds = holds;
    counted = counted;
    others = all_set (λ seat (u : Standing N). seat ≢ id → u.hold ≡ None) views id w
        (λ seat u at' apart _. taken.others seat u at' (λ e. apart (e ∙ sym same))) (λ apart. absurd (apart refl));
  }

module _ {T N : Type 0} (count_of : T → ℕ) (name_of : T → N) (name : N) (history turn : ℕ) (homes : Homes T) where
  -- who holds the turn stays the same where a seat changes that holds it as before
  pub holder_kept : (views : List (Standing N)) (id : ℕ) (v w : Standing N) → get_elem? views id ≡ some v
      → w.hold ≡ v.hold → HolderIs count_of name_of name history turn homes views
      → HolderIs count_of name_of name history turn homes (set views id w)
  holder_kept views id v w at same_hold holder =
      ⊎_elim free (λ (t : IsTaken history turn homes views). taken t (ℕ_discrete id t.holder)) holder
    where
      free : IsFree count_of name_of name history turn homes views
          → HolderIs count_of name_of name history turn homes (set views id w)
      free f = inl record {
        cleared = f.cleared;
        value = f.value;
        home = f.home;
        named = f.named;
        counted = f.counted;
        nobody = all_set (λ seat (u : Standing N). u.hold ≡ None) views id w (λ seat u at' apart. f.nobody seat u at')
            (same_hold ∙ f.nobody id v at);
      }

      taken : (t : IsTaken history turn homes views) → Dec (id ≡ t.holder)
          → HolderIs count_of name_of name history turn homes (set views id w)
      taken t (yes same) =
          let who : t.who ≡ v = who_is history turn homes views t id v at same in
          let holds : w.hold ≡ Some t.hold = same_hold ∙ (ap (λ (u : Standing N). u.hold) (sym who) ∙ t.holds) in
          inr (holder_set history turn homes views history id v w t.hold at t same holds t.counted)
      taken t (no apart) =
          inr (taken_set history turn homes views id w (same_hold ∙ t.others id v at apart) t (λ e. apart (sym e)))

  -- and where there is one seat more, which does not hold it
  pub holder_pushed : (views : List (Standing N)) (u : Standing N) → u.hold ≡ None
      → HolderIs count_of name_of name history turn homes views
      → HolderIs count_of name_of name history turn homes (views ++ u ∷ [])
  holder_pushed views u idle holder = ⊎_elim free taken holder
    where
      free : IsFree count_of name_of name history turn homes views
          → HolderIs count_of name_of name history turn homes (views ++ u ∷ [])
      free f = inl record {
        cleared = f.cleared;
        value = f.value;
        home = f.home;
        named = f.named;
        counted = f.counted;
        nobody = all_push (λ seat (v : Standing N). v.hold ≡ None) views u f.nobody (λ _. idle);
      }

      taken : IsTaken history turn homes views → HolderIs count_of name_of name history turn homes (views ++ u ∷ [])
      taken t = inr record {
        marked = t.marked;
        out = t.out;
        holder = t.holder;
        who = t.who;
        there = at_longer views (u ∷ []) t.holder t.who t.there;
        hold = t.hold;
        holds = t.holds;
        counted = t.counted;
        others = all_push (λ seat (v : Standing N). seat ≢ t.holder → v.hold ≡ None) views u t.others (λ _ _. idle);
      }
