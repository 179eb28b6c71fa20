-- When the parts of a cluster are whole, and what a step makes of them.
use Rattle.std.specs.Prelude.{◌≡◌, ◌≤◌, ℕ, ◌-◌, List, [], ◌∷◌, length, false, All, Option, None, Some}
use Rattle.kr_order.specs.declared.ids.ClientId.{ClientId}
use Rattle.kr_order.specs.Done.{done_of}
use Rattle.client_session.specs.declared.client.Heard.{Heard}
use Rattle.kr_world.specs.Step.{Outcome, told_to, parts_to}
use Rattle.kr_world.specs.Sound.{IsSound}
use Rattle.kr_world.specs.Round.{AreSettled}
use Rattle.script_lang.specs.declared.script.Event.{Event}
use Rattle.wire_fit.specs.Spoken.{IsSpoken}
use Rattle.cluster_parts.specs.declared.parts.Parts.{Parts}
use Rattle.cluster_parts.specs.declared.parts.Noted.{Noted}
use Rattle.cluster_parts.specs.PartsStanding.{history_of, world_of, told_in, parts_in}

-- no node has failed, the journal has the replies of its history, and the world is sound
pub record IsWhole (parts : Parts) : Type 0 where
  pub servers : All (λ s. s.failed ≡ false) parts.servers.items
  pub clients : All (λ c. c.failed ≡ false) parts.clients.items
  pub journal : parts.journal ≡ done_of (history_of parts.journal)
  pub sound : IsSound (world_of parts)

-- between two steps the packets of the world have spellings too
pub record IsAtRest (parts : Parts) : Type 0 where
  pub whole : IsWhole parts
  pub spoken : IsSpoken (world_of parts)

-- between two steps no cluster has more than 16 clients, and of its packets the first so many are settled
pub record IsReady (parts : Parts) (count : ℕ) : Type 0 where
  pub rest : IsAtRest parts
  pub callers : length parts.clients.items ≤ 16
  pub settled : AreSettled (world_of parts) count

-- the event, if there is one
abbrev pub event_in : Option Event → List Event
event_in None = []
event_in (Some event) = event ∷ []

-- what was noted is what a client has heard
pub record IsNotedOf (client : ClientId) (heard : Heard) (noting : Noted) : Type 0 where
  pub told : told_in noting.told ≡ told_to client heard.told
  pub parts : parts_in noting.parts ≡ parts_to client heard.parts
  pub shown : noting.shown ≡ None
  pub refused : noting.refused ≡ None

-- the parts and what was noted are this outcome of a step that began with so many packets, and the parts are whole
pub record Makes (outcome : Outcome) (before : ℕ) (made : Parts) (noted : Noted) : Type 0 where
  pub after : world_of made ≡ outcome.after
  pub told : told_in noted.told ≡ outcome.told
  pub parts : parts_in noted.parts ≡ outcome.parts
  pub shown : noted.shown ≡ outcome.shown
  pub refused : noted.refused ≡ outcome.refused
  pub servers : All (λ s. s.failed ≡ false) made.servers.items
  pub clients : All (λ c. c.failed ≡ false) made.clients.items
  pub journal : made.journal ≡ done_of (history_of made.journal)
  pub since : made.bag.before ≡ before
