use Rattle.std.proofs.Common.{◌≡◌, List, ap, sym, subst, ◌∙◌, arith}
use Rattle.std.specs.Prelude.{All}
use Rattle.script_lang.specs.declared.script.Event.{Event}
use Rattle.script_lang.specs.declared.script.Script.{Script}
use Rattle.script_lang.specs.Script.{IsScript}
use Rattle.kr_world.specs.Round.{IsStep}
use Rattle.load_gen.specs.Made.{made_events}
use Rattle.load_gen.proofs.MadeLemmas.{made_fits, made_alone}
use Rattle.load_gen.proofs.rounds.make.Goals as goal

-- the events that were made
events_are : (c : goal.After-making) → c.making.inside.events ≡ made_events c.args.n
events_are c =
    let all : c.loop-done.done ≡ c.args.n = omega arith in
    c.making.view_is ∙ c.loop-done.invariant.made ∙ ap made_events all

pub returns-clause-fits : goal.returns-clause-fits
returns-clause-fits c =
    let script : List Event → Script = λ events. record { servers = 3; clients = 4; events = events } in
    subst (λ events. IsScript (script events)) (sym (events_are c)) (made_fits c.args.n c.requires.high)

pub returns-clause-steps : goal.returns-clause-steps
returns-clause-steps c = subst (All IsStep) (sym (events_are c)) (made_alone c.args.n c.requires.high)
