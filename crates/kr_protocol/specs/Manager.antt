-- The manager of a chain: which views it makes.
use Rattle.std.specs.Prelude.{ℕ, ◌+◌, Bool, false, not, ◌&&◌, ◌==◌, if◌then◌else◌, List, [], ◌∷◌, ◌++◌, filter, map, Option, None, Some}
use Rattle.std.specs.Option.{option_to_list}
use Rattle.kr_order.specs.declared.ids.ServerId.{ServerId}
use Rattle.kr_order.specs.declared.message.Node.TheVariants as nodes
use Rattle.kr_order.specs.declared.message.Message.TheVariants.{NewView}
use Rattle.kr_order.specs.declared.message.Packet.{Packet}
use Rattle.kr_order.specs.declared.view.View.{View}
use Rattle.kr_order.specs.View.{last_member, first_view}

-- the members but this one
abbrev pub members_but : List ServerId → ServerId → List ServerId
members_but chain id = filter (λ member. not (member.0 == id.0)) chain

-- the joiner, where it is not this one
abbrev pub joiner_but : Option ServerId → ServerId → Option ServerId
joiner_but None id = None
joiner_but (Some joiner) id = if joiner.0 == id.0 then None else Some joiner

-- the next view, without this server
abbrev pub without : View → ServerId → View
without view id =
    record { number = view.number + 1; chain = members_but view.chain id; joiner = joiner_but view.joiner id }

-- the next view, with this joiner
abbrev pub with_joiner : View → ServerId → View
with_joiner view id = record { number = view.number + 1; chain = view.chain; joiner = Some id }

-- the next view, in which this server has become the last member
abbrev pub promoted : View → ServerId → View
promoted view id = record { number = view.number + 1; chain = view.chain ++ id ∷ []; joiner = None }

-- the server is the last member of the view, and the other one its joiner
abbrev pub are_last_and_joiner : Option ServerId → Option ServerId → ServerId → ServerId → Bool
are_last_and_joiner None joiner from id = false
are_last_and_joiner (Some last) None from id = false
are_last_and_joiner (Some last) (Some joiner) from id = last.0 == from.0 && joiner.0 == id.0

abbrev pub may_promote : View → ServerId → ServerId → Bool
may_promote view from joiner = are_last_and_joiner (last_member view) view.joiner from joiner

-- a manager: the views that it made before, the oldest first, its current view, and how many servers were ever made
pub record Manager : Type 0 where
  pub earlier : List View
  pub current : View
  pub made : ℕ

-- the manager of so many servers, before anything happens
abbrev pub new_manager : ℕ → Manager
new_manager servers = record { earlier = []; current = first_view servers; made = servers }

-- this is its current view from now on
abbrev pub goes_to : Manager → View → ℕ → Manager
goes_to manager view made =
    record { earlier = manager.earlier ++ manager.current ∷ []; current = view; made = made }

-- a server has stopped: the next view is without it
abbrev pub removes : Manager → ServerId → Manager
removes manager id = goes_to manager (without manager.current id) manager.made

-- the next server
abbrev pub next_server : Manager → ServerId
next_server manager = record { 0 = manager.made + 1 }

-- the next server joins
abbrev pub adds : Manager → Manager
adds manager = goes_to manager (with_joiner manager.current (next_server manager)) (manager.made + 1)

-- the joiner has caught up, and becomes the last member
abbrev pub promotes : Manager → ServerId → Manager
promotes manager id = goes_to manager (promoted manager.current id) manager.made

-- all views that it made, the oldest first, the current one last
abbrev pub views_of : Manager → List View
views_of manager = manager.earlier ++ manager.current ∷ []

-- whom the view names: the members in the order of the chain, then the joiner
abbrev pub named_by : View → List ServerId
named_by view = view.chain ++ option_to_list view.joiner

-- the manager's packet to a server, with a view
abbrev pub view_packet : View → ServerId → Packet
view_packet view id = record { from = nodes.Manager; to = nodes.Server id; message = NewView view }

-- the manager tells all whom a view names of it
abbrev pub announces : View → List Packet
announces view = map (view_packet view) (named_by view)
