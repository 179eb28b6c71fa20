use Rattle.std.proofs.Common.{◌≡◌, ◌-◌, [], All, vec_len, ap, sym, ◌∙◌, subst, arith}
use Rattle.replica_lock.specs.Rule.{standing_for}
use Rattle.replica_lock.specs.Steps.{remaining, split_off}
use Rattle.replica_lock.specs.Views.{seat_view, fresh_seat}
use Rattle.replica_lock.proofs.SeatLemmas.{fresh_view, fresh_push}
use Rattle.replica_lock.proofs.KeepLemmas.{splitting_keeps}
use Rattle.replica_lock.proofs.making.seat_all.Goals as goal

pub split_seat-seat-requires : goal.split_seat-seat-requires
split_seat-seat-requires g c =
    let is = c.loop-rest.invariant in
    let rest = c.loop-rest.rest in (
      is.table ∙ c.requires.table,
      c.requires.words,
      splitting_keeps g.T.Held.count_of g.T.Held.name_of c.args.table.now.shared.key rest.id rest.me.0
          (ap (λ m. m.0.hold) is.rest) (ap (λ m. m.0.gives) is.rest) (omega (arith, ap (λ m. m.0.parts) is.rest)),
    )

pub loop-rest-preserved : goal.loop-rest-preserved
loop-rest-preserved g c =
    let is = c.loop-rest.invariant in
    let turn = c.args.rest.table_id in
    let name = c.args.rest.me.0.name in
    let room = c.loop-rest.room in
    let more = c.push_reserved.new.self in
    let new = c.split_seat-seat.result in
    let split = c.split_seat-seat.ensures in
    let left : c.args.count - vec_len room - 1 ≡ c.args.count - vec_len more = omega (arith, c.push_reserved.ensures.len) in
    let made : new.me.0 ≡ standing_for name 1 = ap (λ m. m.0) split.4 ∙ ap (λ m. split_off m.0) is.rest in
    let view = fresh_view new.table_id turn name new.me.0 (split.3 ∙ is.table) made in
    record {
      table = split.0 ∙ is.table;
      rest = split.2 ∙ (ap (λ m. (remaining m.0, m.1)) is.rest ∙ ap (λ n. (standing_for name n, [])) left);
      fresh = fresh_push turn name room.items more.items (seat_view new.table_id new.me.0) c.push_reserved.ensures.items
          is.fresh view;
      room = c.push_reserved.ensures.capacity ∙ is.room;
      few = omega (arith, c.push_reserved.ensures.len);
    }

pub invariant_of-result : goal.invariant_of-result
invariant_of-result g c =
    let is = c.loop-rest.invariant in
    let turn = c.args.rest.table_id in
    let name = c.args.rest.me.0.name in
    let last = c.loop-rest.rest in
    let all = c.push_reserved-2.new.self.items in
    let one : c.args.count - vec_len c.loop-rest.room ≡ 1 = omega (arith, is.few) in
    let made : last.me.0 ≡ standing_for name 1 = ap (λ m. m.0) is.rest ∙ ap (standing_for name) one in
    let view = fresh_view last.table_id turn name last.me.0 is.table made in
    let pushed = fresh_push turn name c.loop-rest.room.items all (seat_view last.table_id last.me.0)
    c.push_reserved-2.ensures.items is.fresh view in
    subst (λ (s : _). All (λ seat. seat ≡ fresh_seat s.table s.name) all) (sym (c.of-one.ensures ∙ view)) pushed
