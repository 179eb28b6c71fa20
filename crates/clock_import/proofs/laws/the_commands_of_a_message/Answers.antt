use Rattle.std.proofs.Common.{refl}
use Rattle.clock_import.proofs.laws.the_commands_of_a_message.Goals as goal

pub returns : goal.returns
returns c = record { commands = refl; before = refl; after = refl; concurrent = refl }
