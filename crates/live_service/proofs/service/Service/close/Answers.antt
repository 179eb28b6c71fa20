use Rattle.std.proofs.Common.{◌≡◌, ◌∙◌, sym, ap, subst, arith, length}
use Rattle.std.specs.Prelude.{All}
use Rattle.kr_order.specs.Prefix.{IsPrefix}
use Rattle.live_service.specs.Views.{ServiceId}
use Rattle.live_service.specs.Close.{IsOf, IsKept, made_by_all}
use Rattle.live_service.proofs.CountLemmas.{closes}
use Rattle.live_service.proofs.CloseLemmas.{last_off, made_more, same_copies, kept_push}
use Rattle.live_service.proofs.service.Service.close.Goals as goal

pub gather-behind-requires-clause-each : goal.gather-behind-requires-clause-each
gather-behind-requires-clause-each g c =
    let id : ServiceId = record { table = c.self.inside.turn.table; copies = c.self.inside.turn.name } in
    let each : All (IsOf id) c.args.passes.items = subst (λ s. All (IsOf s.id) c.args.passes.items) (sym c.self.view_is) c.requires.each in
    (last_off id c.args.passes.items c.pop.new.self.items c.pop.result c.unwrap.result each c.pop.ensures.items c.unwrap.ensures).others

pub settle-requires : goal.settle-requires
settle-requires g c =
    let id : ServiceId = record { table = c.self.inside.turn.table; copies = c.self.inside.turn.name } in
    let each : All (IsOf id) c.args.passes.items = subst (λ s. All (IsOf s.id) c.args.passes.items) (sym c.self.view_is) c.requires.each in
    let off = last_off id c.args.passes.items c.pop.new.self.items c.pop.result c.unwrap.result each c.pop.ensures.items c.unwrap.ensures in
    same_copies c.gather-behind.result.copies c.into_parts-seat.result.1.copies c.self.inside.turn.name c.gather-behind.ensures.name
    (c.into_parts-seat.ensures.copies ∙ ap (λ i. i.copies) off.own)

pub returns : goal.returns
returns g c =
    let xs = c.args.passes.items in
    let ys = c.pop.new.self.items in
    let x = c.unwrap.result in
    let list = c.gather-behind.result.list in
    let off = last_off c.args.self.id xs ys c.pop.result x c.requires.each c.pop.ensures.items c.unwrap.ensures in
    let known : IsPrefix x.known list = subst (λ l. IsPrefix l list) c.into_parts-seat.ensures.reader c.settle.ensures in
    let kept : All (IsKept list) xs = kept_push list xs ys x off.is c.gather-behind.ensures.each known c.into_parts-seat.ensures.commands in
    let many : length list ≡ made_by_all xs = omega (
      arith,
      c.gather-behind.ensures.count,
      c.into_parts-seat.ensures.seat.gives,
      made_more
          xs ys x off.is,
    ) in
    (list, c.end.ensures, closes xs list c.requires.apart kept many)
