use Rattle.std.proofs.Common.{◌≡◌, ◌+◌, ◌∷◌, [], ◌++◌, take, ap, sym, ◌∙◌, subst, arith}
use Rattle.std.proofs.lemmas.List.{take_more}
use Rattle.cmd_log.specs.Table.{IsTold}
use Rattle.cmd_log.proofs.TableLemmas.{IsTold-append}
use Rattle.cmd_log.proofs.log.tell_all.Goals as goal

pub loop-entry-preserved : goal.loop-entry-preserved
loop-entry-preserved c =
    let entries = c.args.entries.now in
    let i = c.loop-entry.entry-index in
    let entry = c.entry-item.result in
    let next : take (i + 1) entries ≡ take i entries ++ entry ∷ [] = take_more entries i entry c.loop-entry-test.true ∙ ap (λ e. take i entries ++ e ∷ []) (sym c.entry-item.is) in
    record {
      told = subst (λ part. IsTold part c.args.table.now c.tell.new.table) (sym next) (IsTold-append (take i entries) (entry ∷ []) c.args.table.now c.loop-entry.table c.tell.new.table c.loop-entry.invariant.told c.tell.ensures.told);
      room = omega (arith, c.loop-entry.invariant.room, c.tell.ensures.spare);
    }
