-- A join is refused since all servers were made exactly where that is so.
use Rattle.std.proofs.Common.{◌≡◌, Bool, true, false, cond, refl}
use Rattle.std.specs.Prelude.{Option, None, Some, is_some, nat_le}
use Rattle.std.proofs.lemmas.Bool.{leb-true, le-leb}
use Rattle.kr_order.specs.declared.ids.ServerId.{ServerId}
use Rattle.script_lang.specs.declared.script.Event.TheVariants.{Join}
use Rattle.kr_world.specs.declared.refusal.Refusal.{Refusal}
use Rattle.kr_world.specs.declared.refusal.Refusal.TheVariants.{JoinerThere, ServersSpent, BagFull}
use Rattle.kr_world.specs.World.{World}
use Rattle.kr_world.specs.Step.{most_servers, is_full, refusal_of}
use Rattle.kr_world.specs.Spent.{AreSpent, JoinsEnd}

refused_there : (world : World) → AreSpent world → refusal_of world Join ≡ Some ServersSpent
refused_there world spent = rw (spent.none, le-leb most_servers world.manager.made spent.all) refl

-- the tests of a join, in their order
abbrev tested : Option ServerId → Bool → Bool → Option Refusal
tested joiner enough full =
    cond (is_some joiner) (Some JoinerThere) (cond enough (Some ServersSpent) (cond full (Some BagFull) None))

by_tests : (joiner : Option ServerId) (enough full : Bool) → tested joiner enough full ≡ Some ServersSpent → (joiner ≡ None) × (enough ≡ true)
by_tests (Some id) enough full why = absurd cc
by_tests None true full why = (refl, refl)
by_tests None false true why = absurd cc
by_tests None false false why = absurd cc

only_there : (world : World) → refusal_of world Join ≡ Some ServersSpent → AreSpent world
only_there world why =
    let two = by_tests world.manager.current.joiner (nat_le most_servers world.manager.made) (is_full world) why in
    record { none = two.0; all = leb-true most_servers world.manager.made two.1 }

pub joins_end : JoinsEnd
joins_end = record { refused = refused_there; only = only_there }
