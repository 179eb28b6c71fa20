-- What is known of a service that is closed with all its passes.
use Rattle.std.specs.Prelude.{◌≡◌, ◌≢◌, ◌+◌, ℕ, List, [], ◌∷◌, ◌++◌, length, All, sum_by}
use Rattle.kr_order.specs.declared.ids.ClientId.{ClientId}
use Rattle.kr_order.specs.declared.history.Entry.{Entry}
use Rattle.kr_order.specs.Prefix.{IsPrefix}
use Rattle.replica_lock.specs.Views.{TurnView, SeatView, IsIdle}
use Rattle.order_board.specs.Views.{ReaderView}
use Rattle.live_service.specs.declared.name.CopiesName.{CopiesName}
use Rattle.live_service.specs.Views.{ServiceView, ServiceId, PassView, named}
use Rattle.live_service.specs.Own.{HasAtLeast, HasJust, entries_of}

-- the pass is of this service
abbrev pub IsOf : ServiceId → PassView → Type 0
IsOf id pass = pass.service ≡ id

-- the pass is of another client
abbrev pub IsApart : ClientId → PassView → Type 0
IsApart client pass = pass.client.0 ≢ client.0

-- no two passes are of one client
abbrev pub AreApart : List PassView → Type 0
AreApart [] = Unit {0}
AreApart (pass ∷ more) = All (IsApart pass.client) more × AreApart more

-- these are all passes of the service
pub record AreAll (service : ServiceView) (passes : List PassView) : Type 0 where
  pub each : All (IsOf service.id) passes
  pub apart : AreApart passes
  pub many : length passes ≡ service.passes

-- how many commands the passes were answered, all together
abbrev pub made_by_all : List PassView → ℕ
made_by_all passes = sum_by (λ (pass : PassView). pass.made) passes

-- the history goes on from what the pass was told of, and has the commands that it was answered, at the least
pub record IsKept (history : List Entry) (pass : PassView) : Type 0 where
  pub known : IsPrefix pass.known history
  pub own : HasAtLeast pass.client pass.made history

-- the history goes on from what the pass was told of, and of its client it has the commands that the pass was answered
pub record IsClosed (history : List Entry) (pass : PassView) : Type 0 where
  pub known : IsPrefix pass.known history
  pub own : HasJust pass.client pass.made history

-- the history of a service with these passes, once it is closed: it has the commands that they were answered, and no others
pub record IsHistory (passes : List PassView) (history : List Entry) : Type 0 where
  pub each : All (IsClosed history) passes
  pub others : (client : ClientId) → All (IsApart client) passes → entries_of client history ≡ []
  pub many : length history ≡ made_by_all passes

-- the last of the passes was taken off, and its seat joined into another; its reader is left
pub record JoinsLast (turn : TurnView CopiesName) (seat seat' : SeatView CopiesName) (passes passes' : List PassView)
    (reader : ReaderView) : Type 0 where
  pub pass : PassView
  pub last : passes ≡ passes' ++ pass ∷ []
  pub fewer : length passes ≡ length passes' + 1
  pub each : All (IsOf (record { table = turn.table; copies = turn.name })) passes'
  pub idle : IsIdle turn.table seat'
  pub parts : seat'.parts ≡ seat.parts + 1
  pub gives : seat'.gives ≡ seat.gives + pass.made
  pub known : reader.list ≡ pass.known
  pub copies : named reader.copies ≡ turn.name
  pub commands : HasAtLeast pass.client pass.made pass.known
