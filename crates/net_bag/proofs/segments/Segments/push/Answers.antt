use Rattle.std.proofs.Common.{◌≡◌, length, refl, arith}
use Rattle.std.specs.Prelude.{map, Result, Ok, Err, OnErr}
use Rattle.std.proofs.lemmas.List.{length-map}
use Rattle.net_bag.specs.declared.segments.Place.{Place}
use Rattle.net_bag.proofs.SegmentLemmas.{lies_so_far, lies_now}
use Rattle.net_bag.proofs.segments.Segments.push.Goals as goal

on_err : {T E : Type 0} (r : Result T E) (P : Type 0) → P → OnErr r P
on_err (Ok _) P p = tt
on_err (Err _) P p = p

pub returns-in_err-extend_from_slice-clause-err : goal.returns-in_err-extend_from_slice-clause-err
returns-in_err-extend_from_slice-clause-err c =
    let inside = c.self.inside in
    let lies = lies_so_far (map (λ v. v.items) inside.full.items) (map (λ v. v.items) c.begin.new.full.items) inside.last.items c.begin.new.last.items c.extend_from_slice.new.self.items (length c.args.bytes.now) inside.places.items c.reserve.new.self.items c.args.self.now c.self.invariant c.self.view_is c.in_ok-begin.ensures.ok c.in_err-extend_from_slice.ensures.items c.reserve.ensures.items in
    on_err _ _ lies.read

pub invariant_of-self-2 : goal.invariant_of-self-2
invariant_of-self-2 c =
    let inside = c.self.inside in
    let bytes = c.args.bytes.now in
    let place : Place = record { segment = c.len-2.result; start = c.len-3.result; len = length bytes } in
    let segment : c.len-2.result ≡ length (map (λ v. v.items) c.begin.new.full.items) = omega (arith, length-map c.begin.new.full.items (λ v. v.items)) in
    let start : c.len-3.result ≡ length c.begin.new.last.items = omega arith in
    (lies_now (map (λ v. v.items) inside.full.items) (map (λ v. v.items) c.begin.new.full.items) inside.last.items c.begin.new.last.items c.extend_from_slice.new.self.items bytes inside.places.items c.reserve.new.self.items c.push_reserved.new.self.items place c.args.self.now c.self.invariant c.self.view_is c.in_ok-begin.ensures.ok (omega arith) c.reserve.ensures.items c.in_ok-extend_from_slice.ensures.items c.push_reserved.ensures.items segment start refl).placed

pub returns-clause-ok : goal.returns-clause-ok
returns-clause-ok c =
    let inside = c.self.inside in
    let bytes = c.args.bytes.now in
    let place : Place = record { segment = c.len-2.result; start = c.len-3.result; len = length bytes } in
    let segment : c.len-2.result ≡ length (map (λ v. v.items) c.begin.new.full.items) = omega (arith, length-map c.begin.new.full.items (λ v. v.items)) in
    let start : c.len-3.result ≡ length c.begin.new.last.items = omega arith in
    (lies_now (map (λ v. v.items) inside.full.items) (map (λ v. v.items) c.begin.new.full.items) inside.last.items c.begin.new.last.items c.extend_from_slice.new.self.items bytes inside.places.items c.reserve.new.self.items c.push_reserved.new.self.items place c.args.self.now c.self.invariant c.self.view_is c.in_ok-begin.ensures.ok (omega arith) c.reserve.ensures.items c.in_ok-extend_from_slice.ensures.items c.push_reserved.ensures.items segment start refl).read
