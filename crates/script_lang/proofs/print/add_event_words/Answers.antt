use Rattle.std.proofs.Common.{ap, ◌∙◌, sym, ◌++◌}
use Rattle.script_lang.specs.Event.{asked_words, event_words}
use Rattle.script_lang.specs.Reading.{two_words}
use Rattle.script_lang.proofs.PrintLemmas.{behind_front}
use Rattle.script_lang.proofs.print.add_event_words.Goals as goal

pub returns-in_ok-add_two-in-Query : goal.returns-in_ok-add_two-in-Query
returns-in_ok-add_two-in-Query c =
    let front = two_words (c.in-Query.client.0, c.in-Query.server.0) in
    behind_front c.add_words.result c.args.out.now.items front (asked_words c.as_slice.result.now) (event_words c.args.event.now) c.add_two.new.out.items c.add_words.new.out.items c.in_ok-add_two-in-Query.ensures (ap (λ ps. front ++ asked_words ps) c.as_slice.ensures.value ∙ ap event_words (sym c.in-Query.is)) c.add_words.ensures.ok
