-- A plan has no more calls than the bytes that spell it.
use Rattle.std.proofs.Common.{ℕ, ◌≤◌, List, [], ◌∷◌, length, ap, arith}
use Rattle.std.proofs.lemmas.List.{length-append}
use Rattle.kr_order.specs.declared.ids.ClientId.{ClientId}
use Rattle.script_lang.specs.declared.live.LiveCall.{LiveCall}
use Rattle.script_lang.specs.declared.live.LivePlan.{LivePlan}
use Rattle.script_lang.specs.Line.{line}
use Rattle.script_lang.specs.Live.{ParsesLive, call_lines, live_line, live_text}

-- each call has a byte at least
lines_long : (calls : List (ClientId × LiveCall)) → length calls ≤ length (call_lines calls)
lines_long [] = omega arith
lines_long (call ∷ calls) =
    omega (arith, lines_long calls, length-append (line (live_text call)) (call_lines calls), length-append (live_text call) (10 ∷ []))

-- so there are no more calls than bytes
pub calls_few : (bytes : List ℕ) (plan : LivePlan) → ParsesLive bytes plan → length plan.calls ≤ length bytes
calls_few bytes plan parses =
    omega (arith, lines_long plan.calls, ap length parses.spelt, length-append (live_line plan.clients) (call_lines plan.calls))
