-- How an import that is served ends.
use Rattle.std.proofs.Common.{◌≡◌, ℕ, inl, inr, List, refl, sym, ap, subst}
use Rattle.clock_import.specs.Reading.{IsBadLine}
use Rattle.clock_import.specs.Imported.{IsCyclicAt}
use Rattle.clock_import.specs.Text.{IsTextOf}
use Rattle.clock_import.specs.Laws.{BadLinesAreInNoLog, TheBadLineIsOne, TheCyclicLineIsOne, CyclesAreInNoImport}
use Rattle.kronos_runs.specs.declared.exit.Exit.{Exit}
use Rattle.kronos_runs.specs.declared.exit.Exit.TheVariants.{Done, Usage, BadLine, TooLong, ReadFault, WriteFault, NoMemory, Cyclic}
use Rattle.kronos_runs.specs.Outside.{Outside}
use Rattle.kronos_runs.proofs.OutsideLemmas.{whole_given, not_too_long}
use Rattle.kronos_driver.specs.Ends.{AskToRead, Ends, IsImportEnd, EndsAsImport}
use Rattle.kronos_driver.proofs.EndsLemmas.{no_write_failed, not_a_log, no_load}

-- bytes spell at most one log, which has at most one first cycle; or they have one first bad line
pub record LogsAreOne : Type 0 where
  pub bad_in_none : BadLinesAreInNoLog
  pub one_bad : TheBadLineIsOne
  pub one_cycle : TheCyclicLineIsOne
  pub cyclic_in_none : CyclesAreInNoImport

-- bytes with a text end in Done alone
done_end : LogsAreOne → (bytes text : List ℕ) (due : Exit) → IsTextOf bytes text → IsImportEnd bytes due → Done ≡ due
done_end laws bytes text Done told ends = refl
done_end laws bytes text Usage told never = absurd never
done_end laws bytes text (BadLine n) told bad = absurd (laws.bad_in_none bytes n told.imported.processes told.is.lines bad told.is.parses)
done_end laws bytes text TooLong told never = absurd never
done_end laws bytes text ReadFault told never = absurd never
done_end laws bytes text WriteFault told never = absurd never
done_end laws bytes text NoMemory told never = absurd never
done_end laws bytes text (Cyclic n) told closes = absurd (laws.cyclic_in_none bytes text n closes told)

-- bytes with a bad line end in it alone
bad_end : LogsAreOne → (bytes : List ℕ) (m : ℕ) (due : Exit) → IsBadLine bytes m → IsImportEnd bytes due → BadLine m ≡ due
bad_end laws bytes m Done bad ends =
    absurd (laws.bad_in_none bytes m ends.1.imported.processes ends.1.is.lines bad ends.1.is.parses)
bad_end laws bytes m Usage bad never = absurd never
bad_end laws bytes m (BadLine n) bad other = ap BadLine (laws.one_bad bytes m n bad other)
bad_end laws bytes m TooLong bad never = absurd never
bad_end laws bytes m ReadFault bad never = absurd never
bad_end laws bytes m WriteFault bad never = absurd never
bad_end laws bytes m NoMemory bad never = absurd never
bad_end laws bytes m (Cyclic n) bad closes = absurd (laws.bad_in_none bytes m closes.processes closes.lines bad closes.parses)

-- bytes with a cycle end in its line alone
cycle_end : LogsAreOne → (bytes : List ℕ) (m : ℕ) (due : Exit) → IsCyclicAt bytes m → IsImportEnd bytes due → Cyclic m ≡ due
cycle_end laws bytes m Done closes ends = absurd (laws.cyclic_in_none bytes ends.0 m closes ends.1)
cycle_end laws bytes m Usage closes never = absurd never
cycle_end laws bytes m (BadLine n) closes bad = absurd (laws.bad_in_none bytes n closes.processes closes.lines bad closes.parses)
cycle_end laws bytes m TooLong closes never = absurd never
cycle_end laws bytes m ReadFault closes never = absurd never
cycle_end laws bytes m WriteFault closes never = absurd never
cycle_end laws bytes m NoMemory closes never = absurd never
cycle_end laws bytes m (Cyclic n) closes other = ap Cyclic (laws.one_cycle bytes m n closes other)

-- an import that is served ends as its input says, or finds no memory
pub import_is_done : LogsAreOne → (exit : Exit) (words : List (List ℕ)) (before after : Outside) → Ends exit words before after → EndsAsImport exit words before after
import_is_done laws Done words before after ends served due is =
    elim ends [
      | inl run ↦ absurd (not_a_log words run.read.form served.form)
      | inr other ↦ elim other [
        | inl load ↦ absurd (no_load load.rounds words load.load.form served.form)
        | inr log ↦
            let same = whole_given served.bytes log.bytes before.left after.left served.told log.read.whole in
            inl (done_end laws served.bytes log.text due (subst (λ bs. IsTextOf bs log.text) (sym same) log.told) is)
      ]
    ]
import_is_done laws Usage words before after ends served due is = absurd (ends.none.no_form (inr (inr served.form)))
import_is_done laws (BadLine n) words before after ends served due is =
    elim ends [
      | inl bad ↦ absurd (not_a_log words bad.read.form served.form)
      | inr log ↦
          let same = whole_given served.bytes log.bytes before.left after.left served.told log.read.whole in
          inl (bad_end laws served.bytes n due (subst (λ bs. IsBadLine bs n) (sym same) log.refused.bad) is)
    ]
import_is_done laws TooLong words before after ends served due is =
    absurd (not_too_long served.bytes (AskToRead words) before after served.told served.fits ends)
import_is_done laws ReadFault words before after ends served due is = absurd (served.read ends.rose)
import_is_done laws WriteFault words before after ends served due is =
    absurd (no_write_failed words before after served.written ends)
import_is_done laws NoMemory words before after ends served due is = inr refl
import_is_done laws (Cyclic n) words before after ends served due is =
    let same = whole_given served.bytes ends.bytes before.left after.left served.told ends.read.whole in
    inl (cycle_end laws served.bytes n due (subst (λ bs. IsCyclicAt bs n) (sym same) ends.closes.cyclic) is)
