-- Who is in a chain of servers, and who comes before and after whom.
use Rattle.std.specs.Prelude.{ℕ, zero, suc, ◌+◌, ◌-◌, Bool, false, ◌&&◌, ◌||◌, ◌==◌, if◌then◌else◌, length, map, position, slice_get}
use Rattle.std.specs.Prelude.{Option, None, Some, is_some, is_none}
use Rattle.kr_order.specs.declared.ids.ServerId.{ServerId}
use Rattle.kr_order.specs.declared.view.View.{View}
use Rattle.kr_order.specs.Numbers.{numbers_to}

-- the index, from 0, of the server in the chain
abbrev pub index_in : View → ServerId → Option ℕ
index_in view id = position (λ member. member.0 == id.0) view.chain

-- the server is a member of the chain
abbrev pub in_chain : View → ServerId → Bool
in_chain view id = is_some (index_in view id)

-- the server is the one that is being added
abbrev pub is_joiner : Option ServerId → ServerId → Bool
is_joiner None id = false
is_joiner (Some joiner) id = joiner.0 == id.0

-- the view names the server: as a member of its chain, or as its joiner
abbrev pub names : View → ServerId → Bool
names view id = in_chain view id || is_joiner view.joiner id

-- the member, or where there is none the joiner
abbrev pub or_joiner : Option ServerId → Option ServerId → Option ServerId
or_joiner None joiner = joiner
or_joiner (Some member) joiner = Some member

-- who follows the member at this index: the next one, or behind the last the joiner
abbrev pub next_at : View → Option ℕ → Option ServerId
next_at view None = None
next_at view (Some i) = or_joiner (slice_get view.chain (i + 1)) view.joiner

-- who follows the server, if it is a member of the chain
abbrev pub next_of : View → ServerId → Option ServerId
next_of view id = next_at view (index_in view id)

-- the chain's last member, if it has one
abbrev pub last_member : View → Option ServerId
last_member view = slice_get view.chain (length view.chain - 1)

-- who stands before the member at this index, and before the joiner
abbrev pub prev_at : View → ServerId → Option ℕ → Option ServerId
prev_at view id (Some zero) = None
prev_at view id (Some (suc i)) = slice_get view.chain i
prev_at view id None = if is_joiner view.joiner id then last_member view else None

-- who stands before the server, if the view names it
abbrev pub prev_of : View → ServerId → Option ServerId
prev_of view id = prev_at view id (index_in view id)

-- the server is the tail: a member of the chain that nobody follows, no joiner either
abbrev pub is_tail : View → ServerId → Bool
is_tail view id = in_chain view id && is_none (next_of view id)

-- the server is the head: a member of the chain with nobody before it
abbrev pub is_head : View → ServerId → Bool
is_head view id = in_chain view id && is_none (prev_of view id)

-- the first view: all servers, in the order of their numbers, and no joiner
abbrev pub first_view : ℕ → View
first_view servers = record { number = 1; chain = map (λ n. record { 0 = n }) (numbers_to servers); joiner = None }
