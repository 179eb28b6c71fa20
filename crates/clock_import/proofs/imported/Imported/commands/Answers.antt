use Rattle.clock_import.proofs.ReplayLemmas.{if_commands, if_answers}
use Rattle.clock_import.proofs.imported.Imported.commands.Goals as goal

pub returns-clause-commands : goal.returns-clause-commands
returns-clause-commands c =
    if_commands c.commands_over.result c.args.self.now c.len.result c.as_slice.result.now c.len.ensures c.as_slice.ensures
    c.commands_over.ensures

pub returns-clause-answers : goal.returns-clause-answers
returns-clause-answers c =
    if_answers c.commands_over.result c.args.self.now c.len.result c.as_slice.result.now c.requires c.len.ensures c.as_slice.ensures
    c.commands_over.ensures
