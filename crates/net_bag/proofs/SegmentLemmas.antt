-- What lies in segments stays where it is as more is put behind it.
use Rattle.std.proofs.Common.{◌≡◌, ℕ, ◌+◌, ◌^◌, ◌<◌, List, [], ◌∷◌, ◌++◌, length, take, drop, get_or, refl, sym, ap, subst, ◌∙◌, arith, inl, inr}
use Rattle.std.specs.Prelude.{All, map}
use Rattle.std.proofs.Math.ListN.{get_or-append}
use Rattle.std.proofs.Math.Seq.{get_or-append_seam, drop-append_seam, take-length}
use Rattle.std.proofs.lemmas.Bool.{cases_lt}
use Rattle.std.proofs.lemmas.List.{length-append, length_push, length-drop, drop-append-le, take-append-le, map_push, append-nil}
use Rattle.std.proofs.lemmas.List.Elements.{All-head, All-tail, All-weaker, All-push}
use Rattle.net_bag.specs.declared.segments.Place.{Place}
use Rattle.net_bag.specs.Segments.{bytes_at, IsWithin, IsPlacedIn, IsBegun}

-- a segment that has the bytes of the one at this index, and maybe more behind them
pub record Goes (segments segments' : List (List ℕ)) (i : ℕ) : Type 0 where
  pub there : i < length segments'
  pub more : List ℕ
  pub bytes : get_or segments' i [] ≡ get_or segments i [] ++ more

-- each segment is kept so
abbrev pub Keeps : List (List ℕ) → List (List ℕ) → Type 0
Keeps segments segments' = (i : ℕ) → i < length segments → Goes segments segments' i

keeps_begun : (segments : List (List ℕ)) → Keeps segments (segments ++ [] ∷ [])
keeps_begun segments i within =
    record {
      there = omega (arith, length_push segments [], within);
      more = [];
      bytes = get_or-append segments ([] ∷ []) [] i within ∙ sym (append-nil (get_or segments i []));
    }

keeps_same : (segments : List (List ℕ)) → Keeps segments segments
keeps_same segments i within =
    record { there = within; more = []; bytes = sym (append-nil (get_or segments i [])) }

keeps_longer : (full : List (List ℕ)) (last more : List ℕ) → Keeps (full ++ last ∷ []) (full ++ (last ++ more) ∷ [])
keeps_longer full last more i within =
    elim (cases_lt i (length full)) [
      | inl lt ↦
          record {
            there = omega (arith, length_push full (last ++ more), lt);
            more = [];
            bytes = get_or-append full ((last ++ more) ∷ []) [] i lt ∙ sym (append-nil (get_or (full ++ last ∷ []) i []) ∙ get_or-append full (last ∷ []) [] i lt);
          }
      | inr le ↦
          let same : i ≡ length full = omega (arith, length_push full last, within, le) in
          record {
            there = omega (arith, length_push full (last ++ more), same);
            more = more;
            bytes = ap (λ n. get_or (full ++ (last ++ more) ∷ []) n []) same ∙ get_or-append_seam full (last ++ more) [] [] ∙ sym (ap (λ n. get_or (full ++ last ∷ []) n [] ++ more) same ∙ ap (λ xs. xs ++ more) (get_or-append_seam full last [] []));
          }
    ]

kept_within : (segments segments' : List (List ℕ)) → Keeps segments segments' → (place : Place) → IsWithin segments place → IsWithin segments' place
kept_within segments segments' keeps place was =
    let goes = keeps place.segment was.segment in
    record {
      segment = goes.there;
      bytes = omega (arith, was.bytes, ap length goes.bytes, length-append (get_or segments place.segment []) goes.more);
    }

kept_bytes : (segments segments' : List (List ℕ)) → Keeps segments segments' → (place : Place) → IsWithin segments place → bytes_at segments' place ≡ bytes_at segments place
kept_bytes segments segments' keeps place was =
    let goes = keeps place.segment was.segment in
    let bytes = get_or segments place.segment [] in
    ap (λ xs. take place.len (drop place.start xs)) goes.bytes
    ∙ ap (take place.len) (drop-append-le place.start bytes goes.more (omega (arith, was.bytes)))
    ∙ take-append-le place.len (drop place.start bytes) goes.more (omega (arith, was.bytes, length-drop place.start bytes))

kept_map : (segments segments' : List (List ℕ)) → Keeps segments segments' → (places : List Place) → All (IsWithin segments) places → map (bytes_at segments') places ≡ map (bytes_at segments) places
kept_map segments segments' keeps [] each = refl
kept_map segments segments' keeps (place ∷ places) each =
    ap (λ xs. xs ∷ map (bytes_at segments') places) (kept_bytes segments segments' keeps place (All-head (IsWithin segments) place places each))
    ∙ ap (λ xss. bytes_at segments place ∷ xss) (kept_map segments segments' keeps places (All-tail (IsWithin segments) place places each))

-- all lies where it lay, with the same bytes
pub record Lies (full : List (List ℕ)) (last : List ℕ) (places : List Place) (lists : List (List ℕ)) : Type 0 where
  pub placed : IsPlacedIn full last places
  pub read : map (bytes_at (full ++ last ∷ [])) places ≡ lists

lies_by : (full full' : List (List ℕ)) (last last' : List ℕ) (places : List Place) → IsPlacedIn full last places → Keeps (full ++ last ∷ []) (full' ++ last' ∷ []) → length last' < 2 ^ 32 → Lies full' last' places (map (bytes_at (full ++ last ∷ [])) places)
lies_by full full' last last' places was keeps short =
    record {
      placed = record {
        each = All-weaker (IsWithin (full ++ last ∷ [])) (IsWithin (full' ++ last' ∷ [])) (kept_within (full ++ last ∷ []) (full' ++ last' ∷ []) keeps) places was.each;
        short = short;
      };
      read = kept_map (full ++ last ∷ []) (full' ++ last' ∷ []) keeps places was.each;
    }

-- a segment may have been begun
lies_begun : (full full' : List (List ℕ)) (last last' : List ℕ) (len : ℕ) (places : List Place) → IsPlacedIn full last places → IsBegun full last full' last' len → Lies full' last' places (map (bytes_at (full ++ last ∷ [])) places)
lies_begun full full' last last' len places was begun =
    elim begun.segments [
      | inl same ↦ rw (same.0, same.1) (lies_by full full last last places was (keeps_same (full ++ last ∷ [])) was.short)
      | inr next ↦ rw (next.0, next.1) (lies_by full (full ++ last ∷ []) last [] places was (keeps_begun (full ++ last ∷ [])) (omega arith))
    ]

-- bytes were put behind the last segment's, and their place behind the places
lies_pushed : (full : List (List ℕ)) (last bytes : List ℕ) (places : List Place) (place : Place) (lists : List (List ℕ)) → Lies full last places lists → length last + length bytes < 2 ^ 32 → place.segment ≡ length full → place.start ≡ length last → place.len ≡ length bytes → Lies full (last ++ bytes) (places ++ place ∷ []) (lists ++ bytes ∷ [])
lies_pushed full last bytes places place lists was short segment start len =
    let segments = full ++ (last ++ bytes) ∷ [] in
    let kept = lies_by full full last (last ++ bytes) places was.placed (keeps_longer full last bytes) (omega (arith, length-append last bytes)) in
    let there : get_or segments place.segment [] ≡ last ++ bytes = ap (λ n. get_or segments n []) segment ∙ get_or-append_seam full (last ++ bytes) [] [] in
    let within : IsWithin segments place = record {
      segment = omega (arith, segment, length_push full (last ++ bytes));
      bytes = omega (arith, start, len, ap length there, length-append last bytes);
    } in
    let its : bytes_at segments place ≡ bytes =
    ap (λ xs. take place.len (drop place.start xs)) there
    ∙ ap (λ n. take place.len (drop n (last ++ bytes))) start
    ∙ ap (take place.len) (drop-append_seam last bytes)
    ∙ ap (λ n. take n bytes) len
    ∙ take-length bytes in
    record {
      placed = record {
        each = All-push (IsWithin segments) places place kept.placed.each within;
        short = kept.placed.short;
      };
      read = map_push (bytes_at segments) places place ∙ ap (λ xs. xs ++ bytes_at segments place ∷ []) (kept.read ∙ was.read) ∙ ap (λ xs. lists ++ xs ∷ []) its;
    }

-- the same under other names
lies_same : (full : List (List ℕ)) (last last' : List ℕ) (places places' : List Place) (lists lists' : List (List ℕ)) → Lies full last places lists → last' ≡ last → places' ≡ places → lists ≡ lists' → Lies full last' places' lists'
lies_same full last last' places places' lists lists' lies e1 e2 e3 =
    subst (Lies full last' places') e3 (subst (λ x. Lies full last' x lists) (sym e2) (subst (λ x. Lies full x places lists) (sym e1) lies))

-- a segment may have been begun, and no more
pub lies_so_far : (full full' : List (List ℕ)) (last last' last'' : List ℕ) (len : ℕ) (places places' : List Place) (now : List (List ℕ)) → IsPlacedIn full last places → map (bytes_at (full ++ last ∷ [])) places ≡ now → IsBegun full last full' last' len → last'' ≡ last' → places' ≡ places → Lies full' last'' places' now
lies_so_far full full' last last' last'' len places places' now was is begun e1 e2 =
    lies_same full' last' last'' places places' (map (bytes_at (full ++ last ∷ [])) places) now (lies_begun full full' last last' len places was begun) e1 e2 is

-- and the bytes were put there
pub lies_now : (full full' : List (List ℕ)) (last last' last'' bytes : List ℕ) (places places' places'' : List Place) (place : Place) (now : List (List ℕ)) → IsPlacedIn full last places → map (bytes_at (full ++ last ∷ [])) places ≡ now → IsBegun full last full' last' (length bytes) → length bytes < 2 ^ 32 → places' ≡ places → last'' ≡ last' ++ bytes → places'' ≡ places' ++ place ∷ [] → place.segment ≡ length full' → place.start ≡ length last' → place.len ≡ length bytes → Lies full' last'' places'' (now ++ bytes ∷ [])
lies_now full full' last last' last'' bytes places places' places'' place now was is begun few e1 e2 e3 segment start len =
    let lies = lies_so_far full full' last last' last' (length bytes) places places' now was is begun refl e1 in
    lies_same full' (last' ++ bytes) last'' (places' ++ place ∷ []) places'' (now ++ bytes ∷ []) (now ++ bytes ∷ [])
    (lies_pushed full' last' bytes places' place now lies (begun.short was.short few) segment start len) e2 e3 refl
