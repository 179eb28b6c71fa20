use Rattle.kr_world.proofs.sound.SoundLemmas.{worlds_sound}
use Rattle.kr_world.proofs.runs.EveryWorldLemmas.{every_world_sound}
use Rattle.kr_world.proofs.laws.worlds_are_sound.Goals as goal

pub returns : goal.returns
returns c = record { steps = worlds_sound; worlds = every_world_sound }
