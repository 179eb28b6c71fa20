-- How many views there may be.
use Rattle.std.specs.Prelude.{ℕ, ◌+◌, ◌*◌, ◌≤◌, length, Option, None, Some}
use Rattle.kr_order.specs.declared.ids.ServerId.{ServerId}
use Rattle.kr_order.specs.declared.view.View.{View}

-- how many servers join
abbrev pub joiners : Option ServerId → ℕ
joiners None = 0
joiners (Some joiner) = 1

-- each server brings three views at the most: that in which it joins, that in which it becomes a member, and that
-- without it; and 64 servers are made at the most
pub record IsBounded (view : View) (made : ℕ) : Type 0 where
  pub views : view.number + length view.chain + 2 * joiners view.joiner ≤ 3 * made + 1
  pub servers : made ≤ 64
