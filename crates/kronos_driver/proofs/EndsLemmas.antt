-- How the ends of the program follow from those of its parts, and that a served call is done.
use Rattle.std.proofs.Common.{◌≡◌, ℕ, ◌⊎◌, inl, inr, List, [], ◌∷◌, get_or, refl, sym, ap, ◌∙◌, subst, arith}
use Rattle.std.specs.Prelude.{codes, Some}
use Rattle.std.specs.Fmt.{decimal}
use Rattle.std.specs.Io.KnownBytes.{Consumes}
use Rattle.kr_text.specs.Causes.{Rose}
use Rattle.script_lang.specs.Script.{Parses}
use Rattle.script_lang.specs.Laws.{BadLinesAreInNoScript}
use Rattle.kronos_runs.specs.declared.exit.Exit.{Exit}
use Rattle.kronos_runs.specs.declared.exit.Exit.TheVariants.{Done, Usage, BadLine, TooLong, ReadFault, WriteFault, NoMemory, Cyclic}
use Rattle.kronos_runs.specs.EndsOn.{EndsOnBytes}
use Rattle.kronos_runs.specs.Logs.{EndsOnLog}
use Rattle.kronos_runs.specs.Outside.{Outside}
use Rattle.kronos_runs.proofs.OutsideLemmas.{some_of_all, all_given, not_too_long}
use Rattle.kronos_driver.specs.Ends.{AskForScript, AskForLoad, HasRead, Ends, IsLoadServed, FailedToWrite, HasBadLine, IsServed, AskForImport, AskToRead, HasReadLog}

-- an end after the whole input was read
pub ends_on_bytes : (exit : Exit) (words : List (List ℕ)) (before after : Outside) (bytes : List ℕ) → HasRead words before after bytes → EndsOnBytes exit bytes before.held after.held before.writes after.writes → Ends exit words before after
ends_on_bytes Done words before after bytes read ran =
    inl (record { bytes = bytes; text = ran.0; read = read; run = ran.1; written = ran.2; calm = ran.3 })
ends_on_bytes Usage words before after bytes read never = absurd never
ends_on_bytes (BadLine n) words before after bytes read refused =
    inl (record { bytes = bytes; text = refused.0; read = read; refused = refused.1; written = refused.2; calm = refused.3 })
ends_on_bytes (Cyclic n) words before after bytes read never = absurd never
ends_on_bytes TooLong words before after bytes read never = absurd never
ends_on_bytes ReadFault words before after bytes read never = absurd never
ends_on_bytes WriteFault words before after bytes read took =
    inl (inr (took.0, record { bytes = bytes; read = read; due = took.1 }, took.2))
ends_on_bytes NoMemory words before after bytes read lacks =
    inl (record {
      form = read.form;
      given = some_of_all before.left after.left bytes read.whole;
      calm = record { reads = read.calm; writes = lacks.0 };
      written = elim lacks.1 [
        | inl kept ↦ inl kept
        | inr front ↦ inr (front.0, record { bytes = bytes; read = read; due = front.1 }, front.2)
      ];
    })

-- an end after a whole log was read
pub ends_on_log : (exit : Exit) (words : List (List ℕ)) (before after : Outside) (bytes : List ℕ) → HasReadLog words before after bytes
    → EndsOnLog exit bytes before.held after.held before.writes after.writes → Ends exit words before after
ends_on_log Done words before after bytes read told =
    inr (inr (record { bytes = bytes; text = told.0; read = read; told = told.1; written = told.2; calm = told.3 }))
ends_on_log Usage words before after bytes read never = absurd never
ends_on_log (BadLine n) words before after bytes read refused =
    inr (record { bytes = bytes; text = refused.0; read = read; refused = refused.1; written = refused.2; calm = refused.3 })
ends_on_log TooLong words before after bytes read never = absurd never
ends_on_log ReadFault words before after bytes read never = absurd never
ends_on_log WriteFault words before after bytes read took =
    inr (inr (record { text = took.0; due = record { bytes = bytes; read = read; due = took.1 }; took = took.2 }))
ends_on_log NoMemory words before after bytes read lacks =
    inr (inr (record {
      form = read.form;
      given = some_of_all before.left after.left bytes read.whole;
      calm = record { reads = read.calm; writes = lacks.0 };
      written = elim lacks.1 [
        | inl kept ↦ inl kept
        | inr front ↦ inr (front.0, record { bytes = bytes; read = read; due = front.1 }, front.2)
      ];
    }))
ends_on_log (Cyclic n) words before after bytes read closes =
    record { bytes = bytes; text = closes.0; read = read; closes = closes.1; written = closes.2; calm = closes.3 }

no_bad_line : BadLinesAreInNoScript → (n : ℕ) (words : List (List ℕ)) (before after : Outside) → IsServed words before after → HasBadLine n words before after → ⊥
no_bad_line law n words before after served bad =
    let whole = bad.read.whole in
    let taken : Consumes (Some served.bytes) after.left bad.bytes = subst (λ l. Consumes l after.left bad.bytes) served.told whole.taken in
    let same : served.bytes ≡ bad.bytes = all_given served.bytes after.left bad.bytes taken whole.ended in
    law bad.bytes n served.script bad.refused.bad (subst (λ bs. Parses bs served.script) same served.parses)

-- where the sink counts no fault, no write of a script's run failed
pub no_fault : (words : List (List ℕ)) (before after : Outside) → (Rose before.writes after.writes → ⊥) → FailedToWrite words before after → ⊥
no_fault words before after calm failed =
    elim failed [ inl usage ↦ calm usage.1.rose | inr due ↦ calm due.2.rose ]

-- nor did one of the other runs
pub no_write_failed : (words : List (List ℕ)) (before after : Outside) → (Rose before.writes after.writes → ⊥) → Ends WriteFault words before after → ⊥
no_write_failed words before after calm failed =
    elim failed [
      | inl script ↦ no_fault words before after calm script
      | inr other ↦ elim other [ inl load ↦ calm load.took.rose | inr log ↦ calm log.took.rose ]
    ]

-- words for a script are none for an import, and words for a load are neither
pub not_a_log : (words : List (List ℕ)) → AskForScript words → AskForImport words → ⊥
not_a_log words script log =
    let both : codes "script" ∷ [] ≡ codes "import" ∷ [] = sym script ∙ log in
    let first : 115 ≡ 105 = ap (λ (ws : List (List ℕ)). get_or (get_or ws 0 []) 0 0) both in
    absurd (omega (arith, first))

not_both : (rounds : ℕ) (words : List (List ℕ)) → AskForLoad rounds words → AskForScript words → ⊥
not_both rounds words load script =
    let both : codes "load" ∷ decimal rounds ∷ [] ≡ codes "script" ∷ [] = sym load.words_are ∙ script in
    cc

pub no_load : (rounds : ℕ) (words : List (List ℕ)) → AskForLoad rounds words → AskForImport words → ⊥
no_load rounds words load log =
    let both : codes "load" ∷ decimal rounds ∷ [] ≡ codes "import" ∷ [] = sym load.words_are ∙ log in
    cc

reads_nothing : (rounds : ℕ) (words : List (List ℕ)) → AskForLoad rounds words → AskToRead words → ⊥
reads_nothing rounds words load reads =
    elim reads [ inl script ↦ not_both rounds words load script | inr log ↦ no_load rounds words load log ]

-- a call that is served is done, or finds no memory
pub served_is_done : BadLinesAreInNoScript → (exit : Exit) (words : List (List ℕ)) (before after : Outside) → Ends exit words before after → IsServed words before after → (exit ≡ Done) ⊎ (exit ≡ NoMemory)
served_is_done law Done words before after ends served = inl refl
served_is_done law Usage words before after ends served = absurd (ends.none.no_form (inl served.form))
served_is_done law (BadLine n) words before after ends served =
    absurd (elim ends [ inl bad ↦ no_bad_line law n words before after served bad | inr log ↦ not_a_log words served.form log.read.form ])
served_is_done law TooLong words before after ends served =
    absurd (not_too_long served.bytes (AskToRead words) before after served.told served.fits ends)
served_is_done law (Cyclic n) words before after ends served = absurd (not_a_log words served.form ends.read.form)
served_is_done law ReadFault words before after ends served = absurd (served.read ends.rose)
served_is_done law WriteFault words before after ends served =
    absurd (no_write_failed words before after served.written ends)
served_is_done law NoMemory words before after ends served = inr refl

-- so is a load that is served
pub load_is_done : (exit : Exit) (words : List (List ℕ)) (before after : Outside) → Ends exit words before after → IsLoadServed words before after → (exit ≡ Done) ⊎ (exit ≡ NoMemory)
load_is_done Done words before after ends served = inl refl
load_is_done Usage words before after ends served = absurd (ends.none.no_form (inr (inl (served.rounds, served.form))))
load_is_done (BadLine n) words before after ends served =
    absurd (elim ends [
      | inl bad ↦ not_both served.rounds words served.form bad.read.form
      | inr log ↦ no_load served.rounds words served.form log.read.form
    ])
load_is_done TooLong words before after ends served = absurd (reads_nothing served.rounds words served.form ends.form)
load_is_done ReadFault words before after ends served = absurd (reads_nothing served.rounds words served.form ends.form)
load_is_done (Cyclic n) words before after ends served = absurd (no_load served.rounds words served.form ends.read.form)
load_is_done WriteFault words before after ends served =
    absurd (no_write_failed words before after served.written ends)
load_is_done NoMemory words before after ends served = inr refl

-- a count that is always 0 does not rise
pub never_rose : Rose 0 0 → ⊥
never_rose rose = absurd (omega (arith, rose))
