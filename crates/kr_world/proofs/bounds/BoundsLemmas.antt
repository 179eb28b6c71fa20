-- What bounds a server keeps to when it goes on, whatever it does.
use Rattle.std.proofs.Common.{◌≡◌, ◌≢◌, ◌⊎◌, ℕ, ◌+◌, ◌-◌, ◌*◌, ◌≤◌, true, false, length, set, ap, ◌∙◌}
use Rattle.std.specs.Prelude.{Some, slice_get, All}
use Rattle.kr_order.specs.declared.ids.ServerId.{ServerId}
use Rattle.kr_order.specs.Prefix.{IsPrefix}
use Rattle.kr_order.proofs.PrefixLemmas.{IsPrefix-refl, IsPrefix-trans}
use Rattle.kr_protocol.specs.Manager.{views_of}
use Rattle.kr_protocol.specs.Reaction.{Reaction}
use Rattle.kr_protocol.specs.Server.{Server, most_entries, most_waiting, acknowledged, is_at_tail, prev, behind, view_number}
use Rattle.kr_world.specs.World.{World}
use Rattle.kr_world.specs.Sound.{IsViewed, IsBelowPredecessor}
use Rattle.kr_world.proofs.steps.ListFacts.{each_after_set}
use Rattle.kr_world.proofs.chain.ChainLemmas.{chain_of}
use Rattle.kr_world.proofs.chain.SeatLemmas.{IsSeated}
use Rattle.kr_world.proofs.chain.SaidLemmas.{IsSaid}

-- what a joiner behind it has to have: as before where that one stood there before, and else all that the server had
abbrev pub IsNeeded : Server → Server → ServerId → Type 0
IsNeeded old after joiner =
    ((behind old ≡ Some joiner) × (after.need ≡ old.need)) ⊎ ((behind old ≢ Some joiner) × (after.need ≡ length old.log))

-- what a server of the world may do
pub record IsWithinBounds (world : World) (old : Server) (reaction : Reaction Server) : Type 0 where
  pub id : reaction.after.id ≡ old.id
  -- it has a view of the manager's, no older than before
  pub own_view : IsViewed (views_of world.manager) reaction.after
  pub no_older : view_number old.view ≤ view_number reaction.after.view
  pub need : (joiner : ServerId) → behind reaction.after ≡ Some joiner → IsNeeded old reaction.after joiner
  pub grows : IsPrefix old.log reaction.after.log
  -- it takes no more than the server before it has
  pub below :
      (j : ℕ) (before : Server)
      → slice_get world.servers j ≡ Some before
      → prev reaction.after ≡ Some before.id
      → IsPrefix reaction.after.log before.log
  pub done_grows : old.done ≤ reaction.after.done
  pub done : reaction.after.done ≤ length reaction.after.log
  pub fed : reaction.after.fed ≤ length reaction.after.log
  -- only the tail acknowledges what is not history yet, and it does so with all that it has
  pub agreed : is_at_tail reaction.after ≡ false → IsPrefix (acknowledged reaction.after) world.history
  pub full : is_at_tail reaction.after ≡ true → reaction.after.done ≡ length reaction.after.log
  pub waiting : length reaction.after.waiting ≤ most_waiting
  pub counted : length reaction.after.log ≤ length old.log + most_entries * length reaction.sent
  pub most : length reaction.sent ≤ most_waiting + length reaction.after.log
  pub gained : length reaction.after.log ≤ length old.log + most_entries
  pub sent : All (IsSaid world.servers reaction.after) reaction.sent

-- no server has more in its log than the one before it when one of them has gone on
pub below_after :
    (world : World) (id : ServerId) (old : Server) (reaction : Reaction Server)
    → IsSeated world id old
    → IsWithinBounds world old reaction
    → (k : ℕ) (server : Server)
    → slice_get (set world.servers (id.0 - 1) reaction.after) k ≡ Some server
    → IsBelowPredecessor (set world.servers (id.0 - 1) reaction.after) server
below_after world id old reaction seat bounds =
    let servers = world.servers in
    let i = id.0 - 1 in
    let after = reaction.after in
    let chain = chain_of world seat.sound in
    each_after_set (λ k s. IsBelowPredecessor (set servers i after) s) servers i after
    (each_after_set (λ j t. prev after ≡ Some t.id → IsPrefix after.log t.log) servers i after
    (λ is. IsPrefix-refl after.log)
    (λ j t other there is. bounds.below j t there is))
    (λ k s other here. each_after_set (λ j t. prev s ≡ Some t.id → IsPrefix s.log t.log) servers i after
    (λ is. IsPrefix-trans s.log old.log after.log (chain.below k s here i old seat.at (is ∙ ap (λ d. Some d) bounds.id)) bounds.grows)
    (λ j t other' there is. chain.below k s here j t there is))
