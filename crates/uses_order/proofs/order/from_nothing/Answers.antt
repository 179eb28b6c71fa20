use Rattle.std.proofs.Common.{◌≡◌, ◌∙◌, ap, ap₂, ℕ, List, [], ◌∷◌, ◌++◌}
use Rattle.std.specs.Fmt.{digits}
use Rattle.kr_order.specs.declared.answer.Answer.{Answer}
use Rattle.kr_order.specs.declared.answer.Answer.TheVariants.{Before}
use Rattle.kr_order.specs.declared.batch.Outcome.TheVariants.{Kept}
use Rattle.kr_order.specs.declared.history.Command.{Command}
use Rattle.kr_order.specs.declared.history.Entry.{Entry}
use Rattle.kr_order.specs.declared.history.Reply.{Reply}
use Rattle.kr_order.specs.declared.history.Reply.TheVariants.{Created, Assigned}
use Rattle.kr_order.specs.Answer.{answer_to}
use Rattle.kr_order.specs.Reply.{reply_to}
use Rattle.kr_order.specs.Rows.{create, assign, must}
use Rattle.uses_order.proofs.order.from_nothing.Goals as goal

-- client 1's entry with this number and command
abbrev made : ℕ → Command → Entry
made seq command = record { client = record { 0 = 1 }; seq = seq; command = command }

-- the history with an entry more, and what is told of the entry
abbrev longer : List Entry → Entry → List Entry
longer history entry = history ++ entry ∷ []

abbrev told : List Entry → Entry → Reply
told history entry = reply_to history entry.command

pub returns : goal.returns
unfolding digits
returns g c =
    let third : c.entry-3.result ≡ made 3 (assign (must 1 2 ∷ [])) =
    c.entry-3.ensures ∙ ap (λ command. made 3 command) c.in_ok-must_be_before.ensures in
    let one : c.put.new.state.history ≡ made 1 create ∷ [] =
    c.in_ok-order.ensures.history ∙ ap₂ longer c.new-state.ensures c.entry.ensures in
    let two : c.put-2.new.state.history ≡ made 1 create ∷ made 2 create ∷ [] =
    c.in_ok-payment.ensures.history ∙ ap₂ longer one c.entry-2.ensures in
    let all : c.put-3.new.state.history ≡ made 1 create ∷ made 2 create ∷ made 3 (assign (must 1 2 ∷ [])) ∷ [] =
    c.in_ok-bound.ensures.history ∙ ap₂ longer two third in
    let order : c.in_ok-order.order ≡ Created (record { 0 = 1 }) =
    c.in_ok-order.ensures.reply ∙ ap₂ told c.new-state.ensures c.entry.ensures in
    let payment : c.in_ok-payment.payment ≡ Created (record { 0 = 2 }) =
    c.in_ok-payment.ensures.reply ∙ ap₂ told one c.entry-2.ensures in
    let bound : c.in_ok-bound.bound ≡ Assigned (Kept ∷ []) = c.in_ok-bound.ensures.reply ∙ ap₂ told two third in
    let answer : c.in_ok-answer.answer ≡ Before = c.in_ok-answer.ensures ∙ ap (λ history. answer_to history 1 2) all in
    rw answer at (rw bound at (rw payment at (rw order at c.in_ok-text.ensures.ok)))
