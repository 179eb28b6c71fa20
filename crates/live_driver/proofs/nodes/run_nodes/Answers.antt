use Rattle.std.proofs.Common.{refl, sym, subst, arith}
use Rattle.std.specs.Prelude.{Err}
use Rattle.script_lang.specs.Chain.{ReadsChain}
use Rattle.kronos_runs.specs.Due.{bad_line}
use Rattle.live_driver.specs.declared.form.Form.TheVariants.{Chain}
use Rattle.live_driver.specs.Due.{EndsOnInput}
use Rattle.live_driver.proofs.TextLemmas.{refusal_ends}
use Rattle.live_driver.proofs.nodes.run_nodes.Goals as goal

pub returns-in-Err-BadLine : goal.returns-in-Err-BadLine
returns-in-Err-BadLine g c =
    let held = g.K.Sink.held in
    let faults = g.K.Sink.faults in
    let n = c.in-Err-BadLine.n in
    let ends = refusal_ends Chain c.say_bad_line.result n c.args.bytes.now (bad_line n) (held c.args.sink.now) (held c.say_bad_line.new.sink) (faults c.args.sink.now) (faults c.say_bad_line.new.sink) (record { bad = subst (λ e. ReadsChain c.args.bytes.now (Err e)) c.in-Err-BadLine.field-0-is c.in-Err-BadLine.ensures; text_is = refl }) c.say_bad_line.ensures in
    subst (λ e. EndsOnInput Chain e c.args.bytes.now (held c.args.sink.now) (held c.say_bad_line.new.sink) (faults c.args.sink.now) (faults c.say_bad_line.new.sink)) (sym c.exit_of.ensures) ends

pub text_of_nodes-requires-clause-few : goal.text_of_nodes-requires-clause-few
text_of_nodes-requires-clause-few g c κs within =
    let few = c.requires.few in
    let size = c.chain_plans_are_no_longer_than_their_bytes.ensures c.args.bytes.now c.in-Ok.plan c.in-Ok.ensures in
    omega (arith, few, size)

pub text_of_nodes-requires-clause-few_queries : goal.text_of_nodes-requires-clause-few_queries
text_of_nodes-requires-clause-few_queries g c κs within =
    let few = c.requires.few in
    let size = c.chain_plans_are_no_longer_than_their_bytes.ensures c.args.bytes.now c.in-Ok.plan c.in-Ok.ensures in
    omega (arith, few, size)
