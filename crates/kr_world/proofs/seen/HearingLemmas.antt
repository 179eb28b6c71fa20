-- What a client that hears something leaves: what it is told is in order, and it has seen what it has heard of.
use Rattle.std.proofs.Common.{◌≡◌, ◌≢◌, ℕ, ◌-◌, ◌≤◌, true, false, eqb, List, [], ◌∷◌, ◌++◌, map, refl, sym, ap, ◌∙◌, subst, arith, inl, inr}
use Rattle.std.specs.Prelude.{max, Option, None, Some, All, AllPairs, slice_get, slice_set}
use Rattle.std.proofs.lemmas.Bool.{cases_eq, eq-eqb, ne_eqb}
use Rattle.std.proofs.lemmas.List.Elements.{All-nil, All-cons, All-append, All-weaker}
use Rattle.std.proofs.lemmas.Option.{slice_get_within}
use Rattle.kr_order.specs.declared.ids.ClientId.{ClientId}
use Rattle.kr_order.specs.declared.answer.ToldPart.{ToldPart}
use Rattle.kr_order.specs.declared.history.ToldReply.{ToldReply}
use Rattle.kr_protocol.specs.Client.{Client, Hearing}
use Rattle.kr_world.specs.World.{World, client_at}
use Rattle.kr_world.specs.Step.{Outcome, client_hears, told_to, parts_to}
use Rattle.kr_world.specs.Lawful.{AreInOrder, seen_of}
use Rattle.kr_world.specs.Seen.{Telling, a_reply, a_part, listener, named, tellings_in, named_to, greatest}
use Rattle.kr_world.proofs.steps.ListFacts.{set_here}
use Rattle.kr_world.proofs.packets.PacketLemmas.{same_client}
use Rattle.kr_world.proofs.seen.TellingLemmas.{greatest-append, named_most, filter_all, filter_none, AllPairs-nil, set_apart}
use Rattle.kr_world.proofs.seen.SeenLemmas.{tellings_to, IsHeardRight}

-- what a step told, where it was unsure of all pairs to a client of these entries
pub record IsInOrder (world : World) (outcome : Outcome) (unsure : ClientId → List ℕ) : Type 0 where
  -- a client has seen then the greatest of what it had seen and of what it has heard of
  pub seen :
      (client : ClientId)
      → 1 ≤ client.0
      → seen_of (client_at outcome.after client) ≡ max (seen_of (client_at world client)) (greatest (named_to client (tellings_in outcome) ++ unsure client))
  -- so no less than before
  pub grows : (client : ClientId) → seen_of (client_at world client) ≤ seen_of (client_at outcome.after client)
  -- and all that it was told of
  pub known : All (λ telling. named telling ≤ seen_of (client_at outcome.after (listener telling))) (tellings_in outcome)
  pub order : AllPairs AreInOrder (tellings_in outcome)

-- a step that is not refused
pub record Goes (world : World) (outcome : Outcome) (unsure : ClientId → List ℕ) : Type 0 where
  pub taken : outcome.refused ≡ None
  pub order : IsInOrder world outcome unsure

-- a step that tells nothing, and by which no client has seen more
pub silent : (world : World) (outcome : Outcome) (unsure : ClientId → List ℕ) → tellings_in outcome ≡ []
    → ((client : ClientId) → seen_of (client_at outcome.after client) ≡ seen_of (client_at world client))
    → ((client : ClientId) → unsure client ≡ []) → IsInOrder world outcome unsure
silent world outcome unsure none same empty =
    record {
      seen = λ client low.
          let nothing : greatest (named_to client (tellings_in outcome) ++ unsure client) ≡ 0 =
          ap (λ ts. greatest (named_to client ts ++ unsure client)) none ∙ ap greatest (empty client) in
          omega (arith, same client, nothing);
      grows = λ client. omega (arith, same client);
      known = rw none (All-nil (λ telling. named telling ≤ seen_of (client_at outcome.after (listener telling))));
      order = rw none (AllPairs-nil AreInOrder);
    }

-- one by which no client is another
pub still : (world : World) (outcome : Outcome) (unsure : ClientId → List ℕ) → outcome.refused ≡ None → tellings_in outcome ≡ []
    → outcome.after.clients ≡ world.clients → ((client : ClientId) → unsure client ≡ []) → Goes world outcome unsure
still world outcome unsure taken none same empty =
    record {
      taken = taken;
      order = silent world outcome unsure none (λ client. ap (λ cs. seen_of (slice_get cs (client.0 - 1))) same) empty;
    }

-- a client that has seen nothing new, in place of itself
pub seen_kept : (clients : List Client) (i : ℕ) (client after : Client) → slice_get clients i ≡ Some client → after.seen ≡ client.seen
    → (j : ℕ) → seen_of (slice_get (slice_set clients i after) j) ≡ seen_of (slice_get clients j)
seen_kept clients i client after at same j =
    elim (cases_eq j i) [
      | inl equal ↦
          let here = set_here clients i after (slice_get_within clients i client at) in
          ap (λ k. seen_of (slice_get (slice_set clients i after) k)) equal ∙ ap seen_of here ∙ same ∙ ap seen_of (sym at) ∙ ap (λ k. seen_of (slice_get clients k)) (sym equal)
      | inr other ↦ ap seen_of (set_apart clients i after j other)
    ]

-- a client that hears nothing of entries
pub deaf : (world : World) (id : ClientId) (client : Client) (hearing : Hearing) (unsure : ClientId → List ℕ) → client_at world id ≡ Some client
    → hearing.after.seen ≡ client.seen → tellings_to id hearing ≡ [] → ((c : ClientId) → unsure c ≡ [])
    → Goes world (client_hears world id hearing) unsure
deaf world id client hearing unsure at same none empty =
    record {
      taken = refl;
      order = silent world (client_hears world id hearing) unsure none (λ c. seen_kept world.clients (id.0 - 1) client hearing.after at same (c.0 - 1)) empty;
    }

-- all that is told is told to this client
own_tellings : (id : ClientId) (hearing : Hearing) → All (λ telling. listener telling ≡ id) (tellings_to id hearing)
own_tellings id hearing =
    All-append Own (map a_reply (told_to id hearing.told)) (map a_part (parts_to id hearing.parts)) (of_reply hearing.told) (of_parts hearing.parts)
  where
    Own : Telling → Type 0
    Own telling = listener telling ≡ id

    of_reply : (told : Option ToldReply) → All (λ telling. listener telling ≡ id) (map a_reply (told_to id told))
    of_reply None = All-nil (λ telling. listener telling ≡ id)
    of_reply (Some reply) = All-cons (λ telling. listener telling ≡ id) (a_reply (record { client = id; reply = reply })) [] refl (All-nil (λ telling. listener telling ≡ id))

    of_parts : (parts : List ToldPart) → All (λ telling. listener telling ≡ id) (map a_part (parts_to id parts))
    of_parts [] = All-nil (λ telling. listener telling ≡ id)
    of_parts (part ∷ parts) = All-cons (λ telling. listener telling ≡ id) (a_part (record { client = id; part = part })) (map a_part (parts_to id parts)) refl (of_parts parts)

-- a client that hears
module _ (world : World) (id : ClientId) (client : Client) (hearing : Hearing) (unsure : ClientId → List ℕ) (at : client_at world id ≡ Some client) (low : 1 ≤ id.0) (heard : IsHeardRight id client hearing (unsure id)) (others : (c : ClientId) → c.0 ≢ id.0 → unsure c ≡ []) where
  abbrev clients : List Client
  clients = slice_set world.clients (id.0 - 1) hearing.after

  after_at : slice_get clients (id.0 - 1) ≡ Some hearing.after
  after_at = set_here world.clients (id.0 - 1) hearing.after (slice_get_within world.clients (id.0 - 1) client at)

  seen_before : seen_of (client_at world id) ≡ client.seen
  seen_before = ap seen_of at

  seen_after : (c : ClientId) → c ≡ id → seen_of (slice_get clients (c.0 - 1)) ≡ hearing.after.seen
  seen_after c same = ap (λ (d : ClientId). seen_of (slice_get clients (d.0 - 1))) same ∙ ap seen_of after_at

  abbrev Heard : ClientId → Type 0
  Heard c = seen_of (slice_get clients (c.0 - 1)) ≡ max (seen_of (client_at world c)) (greatest (named_to c (tellings_to id hearing) ++ unsure c))

  own_heard : Heard id
  own_heard =
      let all = filter_all (λ telling. eqb (listener telling).0 id.0) (tellings_to id hearing) (All-weaker (λ telling. listener telling ≡ id) (λ telling. eqb (listener telling).0 id.0 ≡ true) (λ telling is. eq-eqb (listener telling).0 id.0 (ap (λ (d : ClientId). d.0) is)) (tellings_to id hearing) (own_tellings id hearing)) in
      let same = ap (λ ts. greatest (map named ts ++ unsure id)) all in
      omega (arith, seen_after id refl, seen_before, heard.seen, same)

  other_heard : (c : ClientId) → 1 ≤ c.0 → c.0 ≢ id.0 → Heard c
  other_heard c low' differ =
      let none = filter_none (λ telling. eqb (listener telling).0 c.0) (tellings_to id hearing) (All-weaker (λ telling. listener telling ≡ id) (λ telling. eqb (listener telling).0 c.0 ≡ false) (λ telling is. ne_eqb (listener telling).0 c.0 (λ same. differ (sym same ∙ ap (λ (d : ClientId). d.0) is))) (tellings_to id hearing) (own_tellings id hearing)) in
      let nothing : greatest (named_to c (tellings_to id hearing) ++ unsure c) ≡ 0 = ap (λ ts. greatest (map named ts ++ unsure c)) none ∙ ap greatest (others c differ) in
      let apart : c.0 - 1 ≢ id.0 - 1 = λ same. differ (omega (arith, same, low, low')) in
      omega (arith, nothing, ap seen_of (set_apart world.clients (id.0 - 1) hearing.after (c.0 - 1) apart))

  each_heard : (c : ClientId) → 1 ≤ c.0 → Heard c
  each_heard c low' =
      elim (cases_eq c.0 id.0) [
        | inl same ↦ subst Heard (sym (same_client c id same)) own_heard
        | inr differ ↦ other_heard c low' differ
      ]

  each_grows : (c : ClientId) → seen_of (client_at world c) ≤ seen_of (slice_get clients (c.0 - 1))
  each_grows c =
      elim (cases_eq (c.0 - 1) (id.0 - 1)) [
        | inl same ↦
            let before = ap (λ k. seen_of (slice_get world.clients k)) same in
            let after = ap (λ k. seen_of (slice_get clients k)) same in
            omega (arith, before, after, seen_before, seen_after id refl, heard.seen)
        | inr apart ↦ omega (arith, ap seen_of (set_apart world.clients (id.0 - 1) hearing.after (c.0 - 1) apart))
      ]

  each_known : All (λ telling. named telling ≤ seen_of (slice_get clients ((listener telling).0 - 1))) (tellings_to id hearing)
  each_known k d lt =
      let own = own_tellings id hearing k d lt in
      let most = named_most named (tellings_to id hearing) k d lt in
      omega (arith, seen_after _ own, most, heard.seen, greatest-append (map named (tellings_to id hearing)) (unsure id))

  pub hears_in_order : Goes world (client_hears world id hearing) unsure
  hears_in_order =
      record { taken = refl; order = record { seen = each_heard; grows = each_grows; known = each_known; order = heard.order } }
