-- How the ends of the program follow from those of its parts, and that a call that is served ends as its input says.
use Rattle.std.proofs.Common.{◌≡◌, ℕ, inl, inr, List, [], ◌∷◌, refl, sym, ap, ◌∙◌, subst, arith}
use Rattle.std.specs.Prelude.{codes}
use Rattle.script_lang.specs.ChainLaws.{BadChainLinesAreInNoPlan, TheBadChainLineIsOne}
use Rattle.script_lang.specs.LiveLaws.{BadLiveLinesAreInNoPlan, TheBadLiveLineIsOne}
use Rattle.kronos_runs.specs.declared.exit.Exit.{Exit}
use Rattle.kronos_runs.specs.declared.exit.Exit.TheVariants.{Done, Usage, BadLine, TooLong, ReadFault, WriteFault, NoMemory, Cyclic}
use Rattle.kronos_runs.specs.Outside.{Outside}
use Rattle.kronos_runs.proofs.OutsideLemmas.{whole_given, not_too_long}
use Rattle.live_driver.specs.declared.form.Form.{Form}
use Rattle.live_driver.specs.declared.form.Form.TheVariants.{Live, Chain}
use Rattle.live_driver.specs.Forms.{AskFor, IsForm}
use Rattle.live_driver.specs.Due.{IsRunOf, IsRefusalOf, IsEndOn}
use Rattle.live_driver.specs.Ends.{Ends, EndsAsInput}

-- words ask for one form
one_form : (form other : Form) (words : List (List ℕ)) → AskFor form words → AskFor other words → form ≡ other
one_form Live Live words asked asked' = refl
one_form Chain Chain words asked asked' = refl
one_form Live Chain words asked asked' = let e : codes "live" ∷ [] ≡ codes "chain" ∷ [] = sym asked ∙ asked' in cc
one_form Chain Live words asked asked' = let e : codes "chain" ∷ [] ≡ codes "live" ∷ [] = sym asked ∙ asked' in cc

-- bytes spell at most one plan, or they have one first bad line
pub record InputIsOne : Type 0 where
  pub bad_in_none : BadLiveLinesAreInNoPlan
  pub one_bad : TheBadLiveLineIsOne
  pub bad_in_no_chain : BadChainLinesAreInNoPlan
  pub one_bad_of_chain : TheBadChainLineIsOne

-- bytes in the grammar end in Done alone
done_end : InputIsOne → (form : Form) (bytes text : List ℕ) (due : Exit) → IsRunOf form bytes text → IsEndOn form bytes due → Done ≡ due
done_end laws Live bytes text Done run is = refl
done_end laws Live bytes text Usage run never = absurd never
done_end laws Live bytes text (BadLine n) run bad = absurd (laws.bad_in_none bytes n run.plan bad run.parses)
done_end laws Live bytes text TooLong run never = absurd never
done_end laws Live bytes text ReadFault run never = absurd never
done_end laws Live bytes text WriteFault run never = absurd never
done_end laws Live bytes text NoMemory run never = absurd never
done_end laws Live bytes text (Cyclic n) run never = absurd never
done_end laws Chain bytes text Done run is = refl
done_end laws Chain bytes text Usage run never = absurd never
done_end laws Chain bytes text (BadLine n) run bad = absurd (laws.bad_in_no_chain bytes n run.plan bad run.parses)
done_end laws Chain bytes text TooLong run never = absurd never
done_end laws Chain bytes text ReadFault run never = absurd never
done_end laws Chain bytes text WriteFault run never = absurd never
done_end laws Chain bytes text NoMemory run never = absurd never
done_end laws Chain bytes text (Cyclic n) run never = absurd never

-- bytes with a bad line end in it alone
bad_end : InputIsOne → (form : Form) (bytes : List ℕ) (m : ℕ) (text : List ℕ) (due : Exit) → IsRefusalOf form bytes m text → IsEndOn form bytes due → BadLine m ≡ due
bad_end laws Live bytes m text Done refused plan = absurd (laws.bad_in_none bytes m plan.0 refused.bad plan.1)
bad_end laws Live bytes m text Usage refused never = absurd never
bad_end laws Live bytes m text (BadLine n) refused other = ap BadLine (laws.one_bad bytes m n refused.bad other)
bad_end laws Live bytes m text TooLong refused never = absurd never
bad_end laws Live bytes m text ReadFault refused never = absurd never
bad_end laws Live bytes m text WriteFault refused never = absurd never
bad_end laws Live bytes m text NoMemory refused never = absurd never
bad_end laws Live bytes m text (Cyclic n) refused never = absurd never
bad_end laws Chain bytes m text Done refused plan = absurd (laws.bad_in_no_chain bytes m plan.0 refused.bad plan.1)
bad_end laws Chain bytes m text Usage refused never = absurd never
bad_end laws Chain bytes m text (BadLine n) refused other = ap BadLine (laws.one_bad_of_chain bytes m n refused.bad other)
bad_end laws Chain bytes m text TooLong refused never = absurd never
bad_end laws Chain bytes m text ReadFault refused never = absurd never
bad_end laws Chain bytes m text WriteFault refused never = absurd never
bad_end laws Chain bytes m text NoMemory refused never = absurd never
bad_end laws Chain bytes m text (Cyclic n) refused never = absurd never

-- a call that is served ends as its input says, or finds no memory
pub served_ends : InputIsOne → (exit : Exit) (words : List (List ℕ)) (before after : Outside) → Ends exit words before after → EndsAsInput exit words before after
served_ends laws Done words before after ends served due is =
    let form = one_form ends.form served.form words ends.read.asked served.asked in
    let same = whole_given served.bytes ends.bytes before.left after.left served.told ends.read.whole in
    let run = subst (λ f. IsRunOf f served.bytes ends.text) form (subst (λ bs. IsRunOf ends.form bs ends.text) (sym same) ends.run) in
    inl (done_end laws served.form served.bytes ends.text due run is)
served_ends laws Usage words before after ends served due is = absurd (ends.none.no_form (served.form, served.asked))
served_ends laws (BadLine n) words before after ends served due is =
    let form = one_form ends.form served.form words ends.read.asked served.asked in
    let same = whole_given served.bytes ends.bytes before.left after.left served.told ends.read.whole in
    let refused = subst (λ f. IsRefusalOf f served.bytes n ends.text) form (subst (λ bs. IsRefusalOf ends.form bs n ends.text) (sym same) ends.refused) in
    inl (bad_end laws served.form served.bytes n ends.text due refused is)
served_ends laws TooLong words before after ends served due is =
    absurd (not_too_long served.bytes (IsForm words) before after served.told served.fits ends)
served_ends laws ReadFault words before after ends served due is = absurd (served.read ends.rose)
served_ends laws WriteFault words before after ends served due is =
    absurd (elim ends [ inl usage ↦ served.written usage.1.rose | inr due ↦ served.written due.2.rose ])
served_ends laws NoMemory words before after ends served due is = inr refl
served_ends laws (Cyclic n) words before after ends served due is = absurd ends
