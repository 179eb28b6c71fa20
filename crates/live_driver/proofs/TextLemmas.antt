-- What was written of a run is its text.
use Rattle.std.proofs.Common.{◌≡◌, ℕ, List, inr, sym, ap, ◌∙◌}
use Rattle.std.specs.Prelude.{Option, Result, Ok, Err, IfOk}
use Rattle.std.specs.declared.vec.Vec.{Vec}
use Rattle.std.specs.declared.alloc.Global.{Global}
use Rattle.kr_order.specs.declared.history.Entry.{Entry}
use Rattle.kr_order.specs.declared.history.DoneEntry.{DoneEntry}
use Rattle.kr_order.specs.Done.{done_of}
use Rattle.script_lang.specs.declared.chain.ChainPlan.{ChainPlan}
use Rattle.script_lang.specs.declared.live.LivePlan.{LivePlan}
use Rattle.live_chain.specs.declared.run.ChainRun.{ChainRun}
use Rattle.live_chain.specs.Lawful.{ChainLawful}
use Rattle.cluster_parts.specs.PartsStanding.{history_of}
use Rattle.cluster_sim.proofs.PartsLemmas.{history_of-done_of}
use Rattle.live_service.specs.declared.calls.LiveAnswer.{LiveAnswer}
use Rattle.live_service.specs.Lawful.{LiveLawful}
use Rattle.kronos_runs.specs.declared.exit.Exit.TheVariants.{BadLine}
use Rattle.kronos_runs.specs.declared.run.RunError.{RunError}
use Rattle.kronos_runs.specs.declared.run.RunError.TheVariants.{Write, Memory}
use Rattle.kronos_runs.specs.Runs.{IsWritten, exit_after}
use Rattle.live_driver.specs.declared.form.Form.{Form}
use Rattle.live_driver.specs.Text.{live_text, chain_text}
use Rattle.live_driver.specs.Due.{IsTextOf, IsTextOfChain, IsRefusalOf, EndsOnInput}

-- a journal is of one history
pub history_is : (journal : List DoneEntry) (history : List Entry) → journal ≡ done_of history → history_of journal ≡ history
history_is journal history is = ap history_of is ∙ history_of-done_of history

pub journal_is : (journal : List DoneEntry) (history : List Entry) → journal ≡ done_of history → journal ≡ done_of (history_of journal)
journal_is journal history is = is ∙ ap done_of (sym (history_is journal history is))

-- how it ends at a bad line
pub refusal_ends : {U : Type 0} (form : Form) (result : Result U RunError) (n : ℕ) (bytes text : List ℕ) (held held' : Option (List ℕ)) (faults faults' : ℕ) → IsRefusalOf form bytes n text → IsWritten text result held held' faults faults' → EndsOnInput form (exit_after result (BadLine n)) bytes held held' faults faults'
refusal_ends {U} form (Ok done) n bytes text held held' faults faults' refused wrote = (text, refused, wrote.0, wrote.1)
refusal_ends {U} form (Err Write) n bytes text held held' faults faults' refused took = (text, inr (n, refused), took)
refusal_ends {U} form (Err Memory) n bytes text held held' faults faults' refused took =
    (took.1, inr (text, inr (n, refused), took.0))

-- the text that was made is that of the run
pub text_so : {E : Type 0} (plan : LivePlan) (answers : List (List LiveAnswer)) (journal : List DoneEntry) (history : List Entry) (result : Result (Vec ℕ Global) E) → journal ≡ done_of history → LiveLawful plan answers history → IfOk result (λ text. text.items ≡ live_text answers (history_of journal)) → IfOk result (λ text. IsTextOf plan text.items)
text_so {E} plan answers journal history (Ok text) is lawful made =
    record { answers = answers; history = history; lawful = lawful; text_is = made ∙ ap (live_text answers) (history_is journal history is) }
text_so {E} plan answers journal history (Err stop) is lawful made = tt

-- and so is that of a chain
pub chain_text_so : {E : Type 0} (plan : ChainPlan) (run : ChainRun) (result : Result (Vec ℕ Global) E) → ChainLawful plan run → IfOk result (λ text. text.items ≡ chain_text run.head.told run.middle.told run.tail.told (history_of run.head.journal)) → IfOk result (λ text. IsTextOfChain plan text.items)
chain_text_so {E} plan run (Ok text) lawful made =
    record { run = run; lawful = lawful; text_is = made ∙ ap (chain_text run.head.told run.middle.told run.tail.told) (history_is run.head.journal plan.entries lawful.head.journal) }
chain_text_so {E} plan run (Err stop) lawful made = tt
