-- Rounds that are not refused for a full bag, one after the other.
use Rattle.std.proofs.Common.{Bool, List, [], ap, arith, cond, false, refl, subst, suc, true, zero, ℕ, ◌++◌, ◌+◌, ◌∙◌, ◌∷◌, ◌≡◌, ◌≤◌}
use Rattle.std.specs.Prelude.{None, Some}
use Rattle.script_lang.specs.declared.script.Event.{Event}
use Rattle.script_lang.specs.declared.script.Event.TheVariants.{Round}
use Rattle.kr_world.proofs.rounds.RoundLemmas.{after_all-append}
use Rattle.kr_world.specs.Round.{after_all, round_events, steps_of}
use Rattle.kr_world.specs.Step.{is_full, step}
use Rattle.kr_world.specs.World.{World}
use Rattle.kr_world.specs.declared.refusal.Refusal.TheVariants.{BagFull}
use Rattle.kr_calm.specs.Calm.{HaveRoom, after_lines, rounds}

-- the world after a round
abbrev pub next : World → World
next world = after_all world (round_events world)

-- and after so many
abbrev pub after_rounds : ℕ → World → World
after_rounds zero world = world
after_rounds (suc n) world = after_rounds n (next world)

-- there is room for each step of so many rounds
abbrev pub RoomFor : ℕ → World → Type 0
RoomFor zero world = Unit {0}
RoomFor (suc n) world = HaveRoom world (round_events world) × RoomFor n (next world)

pub room-append : (world : World) (xs ys : List Event) → HaveRoom world (xs ++ ys) → HaveRoom world xs × HaveRoom (after_all world xs) ys
room-append world [] ys room = (tt, room)
room-append world (x ∷ xs) ys room =
    let rest = room-append (step world x).after xs ys room.1 in ((room.0, rest.0), rest.1)

-- for fewer rounds too
pub room_fewer : (m n : ℕ) (world : World) → m ≤ n → RoomFor n world → RoomFor m world
room_fewer zero n world le room = tt
room_fewer (suc m) zero world le room = absurd (omega arith)
room_fewer (suc m) (suc n) world le room = (room.0, room_fewer m n (next world) (omega arith) room.1)

-- some rounds, and then others
pub room_behind : (m n : ℕ) (world : World) → RoomFor (m + n) world → RoomFor n (after_rounds m world)
room_behind zero n world room = let same : zero + n ≡ n = omega arith in subst (λ k. RoomFor k world) same room
room_behind (suc m) n world room =
    let same : suc m + n ≡ suc (m + n) = omega arith in
    let all : RoomFor (suc (m + n)) world = subst (λ k. RoomFor k world) same room in room_behind m n (next world) all.1

pub rounds_behind : (m n : ℕ) (world : World) → after_rounds (m + n) world ≡ after_rounds n (after_rounds m world)
rounds_behind zero n world = let same : zero + n ≡ n = omega arith in ap (λ k. after_rounds k world) same
rounds_behind (suc m) n world =
    let same : suc m + n ≡ suc (m + n) = omega arith in ap (λ k. after_rounds k world) same ∙ rounds_behind m n (next world)

-- lines `round` for which there is room are so many rounds
pub record AreDone (n : ℕ) (world : World) : Type 0 where
  pub room : RoomFor n world
  pub after : after_lines world (rounds n) ≡ after_rounds n world

pub rounds_done : (n : ℕ) (world : World) → HaveRoom world (steps_of world (rounds n)) → AreDone n world
rounds_done zero world room = record { room = tt; after = refl }
rounds_done (suc n) world room = by_test (rounds_done n) (is_full world) refl room
  where
    plain : Bool → List Event
    plain full = cond full (Round ∷ []) (round_events world)

    by_test : ((w : World) → HaveRoom w (steps_of w (rounds n)) → AreDone n w) → (full : Bool) → is_full world ≡ full
        → HaveRoom world (cond full (Round ∷ []) (round_events world) ++ steps_of (after_all world (cond full (Round ∷ []) (round_events world))) (rounds n))
        → AreDone (suc n) world
    by_test rest true is room = absurd (room.0 (ap (λ full. cond full (Some BagFull) None) is))
    by_test rest false is room =
        let now = next world in
        let parts = room-append world (round_events world) (steps_of now (rounds n)) room in
        let done = rest now parts.1 in
        record {
          room = (parts.0, done.room);
          after = ap (λ full. let plain = cond full (Round ∷ []) (round_events world) in after_all world (plain ++ steps_of (after_all world plain) (rounds n))) is ∙ after_all-append world (round_events world) (steps_of now (rounds n)) ∙ done.after;
        }
