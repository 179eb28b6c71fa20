use Rattle.std.proofs.Common.{sym, rules}
use Rattle.script_lang.proofs.ChainLineLemmas.{chain_read_more, chain_line_read, chain_line_not_read, no_chain_line, chain_stops, read_first}
use Rattle.script_lang.proofs.chain.read_chain.Goals as goal

pub loop-rest-init : goal.loop-rest-init
loop-rest-init c = rw (c.new.ensures, c.new-2.ensures) (read_first c.args.bytes.now c.in-Some.rest.now c.in-Some.ensures.some)

pub returns-in_default-split_line : goal.returns-in_default-split_line
returns-in_default-split_line c =
    chain_stops _ _ _ _ c.loop-rest.rest.now c.loop-rest.invariant (search rules) (no_chain_line _ c.loop-rest.rest.now c.in_default-split_line.ensures)

pub returns-in_default-2 : goal.returns-in_default-2
returns-in_default-2 c =
    chain_stops _ _ _ _ c.loop-rest.rest.now c.loop-rest.invariant (search rules) (chain_line_not_read _ c.loop-rest.rest.now c.in-Some-split_line.text.now c.in-Some-split_line.more.now c.in_ok-line.field-0 c.in-Some-split_line.ensures c.in_default-2.is (rw (sym c.len.ensures) c.in_ok-line.ensures))

pub loop-rest-preserved : goal.loop-rest-preserved
loop-rest-preserved c =
    chain_read_more _ _ _ _ _ _ _ _ _ c.loop-rest.invariant (rw (sym c.len.ensures) (chain_line_read _ c.loop-rest.rest.now c.in-Some-split_line.text.now c.in-Some-split_line.more.now c.in_ok-line.field-0 c.in-Some-2.line c.in-Some-split_line.ensures c.in-Some-2.is c.in_ok-line.ensures)) c.in_ok-add_line.ensures.plan c.in_ok-add_line.ensures.made
