-- The passes of a service that was made with two.
use Rattle.std.proofs.Common.{◌≡◌, ◌≢◌, List, [], ◌∷◌, sym, subst, arith}
use Rattle.std.proofs.lemmas.List.Elements.{All-nil, All-cons}
use Rattle.live_service.specs.Views.{ServiceView, PassView}
use Rattle.live_service.specs.Close.{AreAll, IsOf, IsApart}

-- two passes, of the first client and the second
pub two_passes : (service : ServiceView) (passes : List PassView) (one other : PassView) → passes ≡ one ∷ other ∷ []
    → one.service ≡ service.id → other.service ≡ service.id → service.passes ≡ 2 → one.client.0 ≡ 1 → other.client.0 ≡ 2
    → AreAll service passes
two_passes service passes one other is own own' many first second =
    let apart : other.client.0 ≢ one.client.0 = λ same. omega (arith, same, first, second) in
    subst (AreAll service) (sym is) (record {
      each = All-cons (IsOf service.id) one (other ∷ []) own (All-cons (IsOf service.id) other [] own' (All-nil (IsOf service.id)));
      apart = (All-cons (IsApart one.client) other [] apart (All-nil (IsApart one.client)), (All-nil (IsApart other.client), tt));
      many = sym many;
    })
