use Rattle.script_lang.proofs.PrintLemmas.{keeps_front_on_err}
use Rattle.script_lang.proofs.put.add_done.Goals as goal

pub returns-clause-err : goal.returns-clause-err
returns-clause-err c =
    let last = keeps_front_on_err c.add_text-2.result c.add_text.new.out.items _ c.add_reply.new.out.items c.add_text-2.new.out.items c.in_ok-add_reply.ensures.ok c.add_text-2.ensures.err in
    let third = keeps_front_on_err c.add_text-2.result c.add_command.new.out.items _ c.add_text.new.out.items c.add_text-2.new.out.items c.in_ok-add_text.ensures.ok last in
    let second = keeps_front_on_err c.add_text-2.result c.add_place.new.out.items _ c.add_command.new.out.items c.add_text-2.new.out.items c.in_ok-add_command.ensures.ok third in
    keeps_front_on_err c.add_text-2.result c.args.out.now.items _ c.add_place.new.out.items c.add_text-2.new.out.items c.in_ok-add_place.ensures.ok second
