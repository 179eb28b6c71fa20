-- How the parts of a server stand to each other.
use Rattle.std.specs.Prelude.{◌≡◌, Bool, false, List, ◌++◌, Option, None}
use Rattle.kr_order.specs.declared.ids.ServerId.{ServerId}
use Rattle.kr_order.specs.declared.history.Entry.{Entry}
use Rattle.kr_order.specs.declared.view.View.{View}
use Rattle.kr_order.specs.Prefix.{IsPrefix}
use Rattle.kr_order.specs.View.{next_of}
use Rattle.kr_protocol.specs.Server.{viewed}

-- the list ends with these
pub record IsBackOf {X : Type 0} (all back : List X) : Type 0 where
  pub front : List X
  pub is : all ≡ front ++ back

-- the link goes to the next server of the view, to none where there is no view, and while no call has failed, the log
-- begins with the board's history
pub record IsWhole (id : ServerId) (view : Option View) (to : Option ServerId) (failed : Bool) (history log : List Entry) : Type 0 where
  pub next : to ≡ viewed None next_of view id
  pub prefix : failed ≡ false → IsPrefix history log
