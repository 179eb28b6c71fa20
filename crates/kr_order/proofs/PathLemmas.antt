-- Paths of pairs, by the newest pair on them.
use Rattle.std.proofs.Common.{◌≡◌, ◌⊎◌, ℕ, Bool, true, false, ◌&&◌, ◌||◌, eqb, List, [], ◌∷◌, ◌++◌, refl, sym, subst, inl, inr}
use Rattle.std.proofs.lemmas.Bool.{and_from, and_parts, eq-eqb, eqb-true, or_cases, or_left, or_right}

-- a path leads from a to b over pairs of which the newest comes first: one that does without the newest pair, or
-- one that goes to the pair's first event, over the pair, and on from its second event
abbrev pub leads : List (ℕ × ℕ) → ℕ → ℕ → Bool
leads [] a b = false
leads (pair ∷ older) a b =
    leads older a b || ((eqb a pair.0 || leads older a pair.0) && (eqb pair.1 b || leads older pair.1 b))

-- a is b, or a path leads there
abbrev pub IsOrLeads : List (ℕ × ℕ) → ℕ → ℕ → Type 0
IsOrLeads older a b = (a ≡ b) ⊎ (leads older a b ≡ true)

-- a path to the pair, over it, and on
pub record GoesOver (older : List (ℕ × ℕ)) (pair : ℕ × ℕ) (a b : ℕ) : Type 0 where
  pub to : IsOrLeads older a pair.0
  pub on : IsOrLeads older pair.1 b

pub is_or_leads : (older : List (ℕ × ℕ)) (a b : ℕ) → (eqb a b || leads older a b) ≡ true → IsOrLeads older a b
is_or_leads older a b holds =
    elim (or_cases (eqb a b) (leads older a b) holds) [ inl same ↦ inl (eqb-true a b same) | inr path ↦ inr path ]

pub is_or_leads_holds : (older : List (ℕ × ℕ)) (a b : ℕ) → IsOrLeads older a b → (eqb a b || leads older a b) ≡ true
is_or_leads_holds older a b (inl same) = or_left (eqb a b) (leads older a b) (eq-eqb a b same)
is_or_leads_holds older a b (inr path) = or_right (eqb a b) (leads older a b) path

pub leads_cases : (pair : ℕ × ℕ) (older : List (ℕ × ℕ)) (a b : ℕ) → leads (pair ∷ older) a b ≡ true → (leads older a b ≡ true) ⊎ GoesOver older pair a b
leads_cases pair older a b holds =
    elim (or_cases (leads older a b) ((eqb a pair.0 || leads older a pair.0) && (eqb pair.1 b || leads older pair.1 b)) holds) [
      | inl path ↦ inl path
      | inr over ↦
          let both = and_parts (eqb a pair.0 || leads older a pair.0) (eqb pair.1 b || leads older pair.1 b) over in
          inr (record { to = is_or_leads older a pair.0 both.0; on = is_or_leads older pair.1 b both.1 })
    ]

pub leads_old : (pair : ℕ × ℕ) (older : List (ℕ × ℕ)) (a b : ℕ) → leads older a b ≡ true → leads (pair ∷ older) a b ≡ true
leads_old pair older a b path = or_left (leads older a b) ((eqb a pair.0 || leads older a pair.0) && (eqb pair.1 b || leads older pair.1 b)) path

pub leads_over : (pair : ℕ × ℕ) (older : List (ℕ × ℕ)) (a b : ℕ) → GoesOver older pair a b → leads (pair ∷ older) a b ≡ true
leads_over pair older a b over =
    or_right (leads older a b) ((eqb a pair.0 || leads older a pair.0) && (eqb pair.1 b || leads older pair.1 b)) (and_from (eqb a pair.0 || leads older a pair.0) (eqb pair.1 b || leads older pair.1 b) (is_or_leads_holds older a pair.0 over.to) (is_or_leads_holds older pair.1 b over.on))

-- steps or paths that meet are one, where paths are
pub or_joined : (older : List (ℕ × ℕ)) (x y z : ℕ) → (leads older x y ≡ true → leads older y z ≡ true → leads older x z ≡ true) → IsOrLeads older x y → IsOrLeads older y z → IsOrLeads older x z
or_joined older x y z paths (inl same) yz = subst (λ v. IsOrLeads older v z) (sym same) yz
or_joined older x y z paths (inr path) (inl same) = inr (subst (λ v. leads older x v ≡ true) same path)
or_joined older x y z paths (inr path) (inr more) = inr (paths path more)

-- paths that meet are one path
pub leads-trans : (newest : List (ℕ × ℕ)) (a b c : ℕ) → leads newest a b ≡ true → leads newest b c ≡ true → leads newest a c ≡ true
leads-trans [] a b c ab bc = ab
leads-trans (pair ∷ older) a b c ab bc =
    elim (leads_cases pair older a b ab) [
      | inl old ↦ elim (leads_cases pair older b c bc) [
        | inl more ↦ leads_old pair older a c (leads-trans older a b c old more)
        | inr over ↦ leads_over pair older a c (record { to = or_joined older a b pair.0 (leads-trans older a b pair.0) (inr old) over.to; on = over.on })
      ]
      | inr over ↦ elim (leads_cases pair older b c bc) [
        | inl more ↦ leads_over pair older a c (record { to = over.to; on = or_joined older pair.1 b c (leads-trans older pair.1 b c) over.on (inr more) })
        | inr again ↦ leads_over pair older a c (record { to = over.to; on = again.on })
      ]
    ]

-- each pair is a path
pub leads_own : (pair : ℕ × ℕ) (older : List (ℕ × ℕ)) → leads (pair ∷ older) pair.0 pair.1 ≡ true
leads_own pair older = leads_over pair older pair.0 pair.1 (record { to = inl refl; on = inl refl })

-- a path stays where newer pairs are put in front
pub leads_more : (newer older : List (ℕ × ℕ)) (a b : ℕ) → leads older a b ≡ true → leads (newer ++ older) a b ≡ true
leads_more [] older a b path = path
leads_more (pair ∷ newer) older a b path = leads_old pair (newer ++ older) a b (leads_more newer older a b path)
