-- What one call tells, and how far a client is in its calls.
use Rattle.std.specs.Prelude.{◌≡◌, ◌≤◌, ◌+◌, ℕ, List, [], ◌∷◌, ◌++◌, length}
use Rattle.kr_order.specs.declared.ids.ClientId.{ClientId}
use Rattle.kr_order.specs.declared.ids.EventId.{EventId}
use Rattle.kr_order.specs.declared.answer.Told.{Told as ToldPairs}
use Rattle.kr_order.specs.declared.history.Entry.{Entry}
use Rattle.kr_order.specs.Prefix.{IsPrefix}
use Rattle.order_board.specs.Views.{told_of}
use Rattle.script_lang.specs.declared.live.LiveCall.{LiveCall}
use Rattle.script_lang.specs.declared.live.LiveCall.TheVariants.{Command, Query}
use Rattle.live_service.specs.declared.calls.LiveAnswer.{LiveAnswer}
use Rattle.live_service.specs.declared.calls.LiveAnswer.TheVariants.{Placed, Told}
use Rattle.live_service.specs.Views.{PassView}
use Rattle.live_service.specs.Own.{numbered, AreWithin}
use Rattle.live_service.specs.Commands.{Commands}
use Rattle.live_service.specs.Lawful.{commands_in, told_number, AreAnswered}

-- the pass asked these pairs: it was told of them, and of nothing else
pub record Tells (old new : PassView) (pairs : List (EventId × EventId)) (told : ToldPairs) : Type 0 where
  pub known : IsPrefix old.known new.known
  pub told_is : told ≡ told_of new.known pairs
  pub rest : new ≡ record old { known = new.known; shuts = new.shuts }

-- the pass made the call, and was answered so
abbrev pub Answers : PassView → PassView → LiveCall → LiveAnswer → Type 0
Answers old new (Command command) (Placed placed) = Commands old new command placed
Answers old new (Query pairs) (Told told) = Tells old new pairs told
Answers old new (Command command) (Told told) = ⊥
Answers old new (Query pairs) (Placed placed) = ⊥

-- what the client was told of last: the place or the entry of the last of these answers, and 0 before any
abbrev pub last_told : ℕ → List LiveAnswer → ℕ
last_told last [] = last
last_told last (answer ∷ answers) = last_told (told_number answer) answers

-- the client made these calls by this pass, and was answered so
pub record HasCalled (pass : PassView) (calls : List LiveCall) (answers : List LiveAnswer) : Type 0 where
  pub answered : AreAnswered pass.known pass.client 0 0 calls answers
  pub last : last_told 0 answers ≤ length pass.known
  pub many : length (commands_in calls) ≡ pass.made
  pub within : AreWithin (numbered pass.client 1 (commands_in calls)) pass.known
