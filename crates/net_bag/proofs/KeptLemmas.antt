-- How the parts of a bag go together.
use Rattle.std.proofs.Common.{◌≡◌, ◌≢◌, ℕ, zero, suc, ◌+◌, ◌-◌, ◌*◌, ◌/◌, ◌%◌, ◌^◌, ◌<◌, ◌≤◌, min, Bool, true, false, cond, eqb, ◌||◌, not, List, [], ◌∷◌, ◌++◌, length, take, drop, get_or, set, get_or-set_same, get_or-set_other, refl, sym, ap, subst, ◌∙◌, arith, inl, inr}
use Rattle.std.specs.Prelude.{All, slice_get, option_map, Option, Some, None, IfSome}
use Rattle.std.proofs.lemmas.Option.{slice_get_within, get_or_from_slice_get}
use Rattle.std.proofs.lemmas.List.Sums.{sum_by_push}
use Rattle.std.specs.Int.{bit_at}
use Rattle.std.proofs.lemmas.Bool.{cases_eq, eq-eqb, ne_eqb}
use Rattle.std.proofs.lemmas.List.{length_push, length-set, take_at}
use Rattle.std.proofs.lemmas.List.Elements.{All-push, All-get_or}
use Rattle.kr_wire.specs.Decoding.{IsSpelling}
use Rattle.net_bag.specs.Index.{bit_in, mark_bit, closed_bit, words_for, IsIndexed, IsFirstUnsetIn}
use Rattle.kr_order.specs.Marks.{is_marked}
use Rattle.net_bag.specs.Sent.{Sent, sent_after, is_open, IsNextOpen, HasNoOpen}
use Rattle.net_bag.specs.Kept.{IsKept}

-- a default put at the end changes nothing that is looked up
pub get_or-push_default : {item : Type 0} (xs : List item) (i : ℕ) (d : item) → get_or (xs ++ d ∷ []) i d ≡ get_or xs i d
get_or-push_default [] zero d = refl
get_or-push_default [] (suc i) d = refl
get_or-push_default (x ∷ xs) zero d = refl
get_or-push_default (x ∷ xs) (suc i) d = get_or-push_default xs i d

-- one packet more, where the words have room for it
pub indexed_push : (words : List ℕ) (lost delivered : List Bool) → IsIndexed words lost delivered → length lost ≢ 64 * length words → IsIndexed words (lost ++ false ∷ []) (delivered ++ false ∷ [])
indexed_push words lost delivered was more =
    record {
      bits = λ i. was.bits i ∙ sym (ap (λ b. mark_bit (b || get_or (delivered ++ false ∷ []) i false)) (get_or-push_default lost i false) ∙ ap (λ b. mark_bit (get_or lost i false || b)) (get_or-push_default delivered i false));
      room = omega (arith, length_push lost false, was.room);
      few = omega (arith, length_push lost false, was.few);
    }

-- and where they have not
pub indexed_push_word : (words : List ℕ) (lost delivered : List Bool) → IsIndexed words lost delivered → length lost ≡ 64 * length words → IsIndexed (words ++ 0 ∷ []) (lost ++ false ∷ []) (delivered ++ false ∷ [])
indexed_push_word words lost delivered was full =
    record {
      bits = λ i. ap (λ word. bit_at word (i % 64)) (get_or-push_default words (i / 64) 0) ∙ was.bits i ∙ sym (ap (λ b. mark_bit (b || get_or (delivered ++ false ∷ []) i false)) (get_or-push_default lost i false) ∙ ap (λ b. mark_bit (get_or lost i false || b)) (get_or-push_default delivered i false));
      room = omega (arith, length_push lost false, length_push words 0, full);
      few = omega (arith, length_push lost false, length_push words 0, full);
    }

-- as it is told
pub indexed_more : (words : List ℕ) (lost delivered : List Bool) → IsIndexed words lost delivered → IsIndexed (words_for words (length lost)) (lost ++ false ∷ []) (delivered ++ false ∷ [])
indexed_more words lost delivered was =
    elim (cases_eq (length lost) (64 * length words)) [
      | inl full ↦ rw (eq-eqb (length lost) (64 * length words) full) (indexed_push_word words lost delivered was full)
      | inr more ↦ rw (ne_eqb (length lost) (64 * length words) more) (indexed_push words lost delivered was more)
    ]

-- ---- the whole bag

abbrev pub sent_of : List (List ℕ) → List Bool → List Bool → Sent
sent_of spellings lost delivered = record { spellings = spellings; lost = lost; delivered = delivered }

-- one packet more
pub kept_push : (spellings : List (List ℕ)) (lost delivered : List Bool) (closed : List ℕ) (bytes : ℕ) (spelling : List ℕ) → IsKept spellings lost delivered closed bytes → IsSpelling spelling → length spellings < 2 ^ 56 → IsKept (spellings ++ spelling ∷ []) (lost ++ false ∷ []) (delivered ++ false ∷ []) (words_for closed (length spellings)) (min (bytes + length spelling) (2 ^ 64 - 1))
kept_push spellings lost delivered closed bytes spelling was spells room =
    record {
      each = All-push IsSpelling spellings spelling was.each spells;
      lost_each = omega (arith, length_push lost false, length_push spellings spelling, was.lost_each);
      delivered_each = omega (arith, length_push delivered false, length_push spellings spelling, was.delivered_each);
      indexed = subst (λ n. IsIndexed (words_for closed n) (lost ++ false ∷ []) (delivered ++ false ∷ [])) was.lost_each (indexed_more closed lost delivered was.indexed);
      few = omega (arith, length_push spellings spelling, room);
      counted = omega (arith, sum_by_push (λ s. length s) spellings spelling, was.counted);
    }

-- what stands in the bag spells a packet
pub spelling_fits : {item : Type 0} (f : item → List ℕ) (found : Option item) (xs : List (List ℕ)) (i : ℕ) → All IsSpelling xs → option_map f found ≡ slice_get xs i → IfSome found (λ x. IsSpelling (f x))
spelling_fits f None xs i each is = tt
spelling_fits f (Some x) xs i each is =
    let there : get_or xs i (f x) ≡ f x = get_or_from_slice_get xs i (f x) (f x) (sym is) in
    subst IsSpelling there (All-get_or IsSpelling xs i (f x) (slice_get_within xs i (f x) (sym is)) each)

-- the same parts under other names
pub kept_same : (spellings spellings' : List (List ℕ)) (lost lost' delivered delivered' : List Bool) (closed closed' : List ℕ) (bytes bytes' : ℕ) → spellings' ≡ spellings → lost' ≡ lost → delivered' ≡ delivered → closed' ≡ closed → bytes' ≡ bytes → IsKept spellings lost delivered closed bytes → IsKept spellings' lost' delivered' closed' bytes'
kept_same spellings spellings' lost lost' delivered delivered' closed closed' bytes bytes' e1 e2 e3 e4 e5 was =
    let one : IsKept spellings' lost delivered closed bytes = subst (λ x. IsKept x lost delivered closed bytes) (sym e1) was in
    let two : IsKept spellings' lost' delivered closed bytes = subst (λ x. IsKept spellings' x delivered closed bytes) (sym e2) one in
    let three : IsKept spellings' lost' delivered' closed bytes = subst (λ x. IsKept spellings' lost' x closed bytes) (sym e3) two in
    let four : IsKept spellings' lost' delivered' closed' bytes = subst (λ x. IsKept spellings' lost' delivered' x bytes) (sym e4) three in
    subst (λ x. IsKept spellings' lost' delivered' closed' x) (sym e5) four

pub sent_same : (sent : Sent) (spelling : List ℕ) (spellings' : List (List ℕ)) (lost' delivered' : List Bool) → spellings' ≡ sent.spellings ++ spelling ∷ [] → lost' ≡ sent.lost ++ false ∷ [] → delivered' ≡ sent.delivered ++ false ∷ [] → sent_of spellings' lost' delivered' ≡ sent_after sent spelling
sent_same sent spelling spellings' lost' delivered' e1 e2 e3 =
    ap (λ x. sent_of x lost' delivered') e1 ∙ ap (λ x. sent_of (sent.spellings ++ spelling ∷ []) x delivered') e2 ∙ ap (λ x. sent_of (sent.spellings ++ spelling ∷ []) (sent.lost ++ false ∷ []) x) e3

-- ---- marks

-- words that were written over others
pub rewritten : (n : ℕ) (new old : List ℕ) → length new ≡ n → take n (new ++ drop (length new) old) ≡ new
rewritten n new old count = take_at new (drop (length new) old) n count

or_true : (b : Bool) → (b || true) ≡ true
or_true true = refl
or_true false = refl

-- one more is closed
closed_lost : (words words' : List ℕ) (lost delivered : List Bool) (i : ℕ) → i < length lost → ((j : ℕ) → bit_in words j ≡ closed_bit lost delivered j) → ((j : ℕ) → bit_in words' j ≡ cond (eqb j i) 1 (bit_in words j)) → (j : ℕ) → bit_in words' j ≡ closed_bit (set lost i true) delivered j
closed_lost words words' lost delivered i within was is j =
    elim (cases_eq j i) [
      | inl same ↦
          let marks : get_or (set lost i true) j false ≡ true = ap (λ n. get_or (set lost i true) n false) same ∙ get_or-set_same lost i true false within in
          is j ∙ ap (λ b. cond b 1 (bit_in words j)) (eq-eqb j i same) ∙ sym (ap (λ b. mark_bit (b || get_or delivered j false)) marks)
      | inr other ↦
          is j ∙ ap (λ b. cond b 1 (bit_in words j)) (ne_eqb j i other) ∙ was j ∙ ap (λ b. mark_bit (b || get_or delivered j false)) (sym (get_or-set_other lost i j true false other))
    ]

closed_delivered : (words words' : List ℕ) (lost delivered : List Bool) (i : ℕ) → i < length delivered → ((j : ℕ) → bit_in words j ≡ closed_bit lost delivered j) → ((j : ℕ) → bit_in words' j ≡ cond (eqb j i) 1 (bit_in words j)) → (j : ℕ) → bit_in words' j ≡ closed_bit lost (set delivered i true) j
closed_delivered words words' lost delivered i within was is j =
    elim (cases_eq j i) [
      | inl same ↦
          let marks : get_or (set delivered i true) j false ≡ true = ap (λ n. get_or (set delivered i true) n false) same ∙ get_or-set_same delivered i true false within in
          is j ∙ ap (λ b. cond b 1 (bit_in words j)) (eq-eqb j i same) ∙ sym (ap (λ b. mark_bit (get_or lost j false || b)) marks ∙ ap mark_bit (or_true (get_or lost j false)))
      | inr other ↦
          is j ∙ ap (λ b. cond b 1 (bit_in words j)) (ne_eqb j i other) ∙ was j ∙ ap (λ b. mark_bit (get_or lost j false || b)) (sym (get_or-set_other delivered i j true false other))
    ]

-- a packet was marked as lost
pub kept_lost : (spellings : List (List ℕ)) (lost delivered : List Bool) (closed words : List ℕ) (bytes i : ℕ) → IsKept spellings lost delivered closed bytes → i < length spellings → length words ≡ length closed → ((j : ℕ) → bit_in words j ≡ cond (eqb j i) 1 (bit_in closed j)) → IsKept spellings (set lost i true) delivered words bytes
kept_lost spellings lost delivered closed words bytes i was within count is =
    record {
      each = was.each;
      lost_each = length-set lost i true ∙ was.lost_each;
      delivered_each = was.delivered_each;
      indexed = record {
        bits = closed_lost closed words lost delivered i (omega (arith, was.lost_each)) was.indexed.bits is;
        room = omega (arith, length-set lost i true, was.indexed.room);
        few = omega (arith, length-set lost i true, was.indexed.few);
      };
      few = was.few;
      counted = was.counted;
    }

-- or as delivered
pub kept_delivered : (spellings : List (List ℕ)) (lost delivered : List Bool) (closed words : List ℕ) (bytes i : ℕ) → IsKept spellings lost delivered closed bytes → i < length spellings → length words ≡ length closed → ((j : ℕ) → bit_in words j ≡ cond (eqb j i) 1 (bit_in closed j)) → IsKept spellings lost (set delivered i true) words bytes
kept_delivered spellings lost delivered closed words bytes i was within count is =
    record {
      each = was.each;
      lost_each = was.lost_each;
      delivered_each = length-set delivered i true ∙ was.delivered_each;
      indexed = record {
        bits = closed_delivered closed words lost delivered i (omega (arith, was.delivered_each)) was.indexed.bits is;
        room = omega (arith, was.indexed.room);
        few = omega (arith, was.indexed.few);
      };
      few = was.few;
      counted = was.counted;
    }

-- ---- which packet is open

open_at : (b : Bool) → mark_bit b ≡ 0 → not b ≡ true
open_at true is = absurd (omega arith)
open_at false is = refl

closed_at : (b : Bool) → mark_bit b ≡ 1 → not b ≡ false
closed_at true is = refl
closed_at false is = absurd (omega arith)

-- packet k is closed where its bit is set
settled_one : (words : List ℕ) (sent : Sent) (k : ℕ) → IsIndexed words sent.lost sent.delivered → bit_in words (k - 1) ≡ 1 → is_open sent k ≡ false
settled_one words sent k indexed set = closed_at (is_marked sent.lost k || is_marked sent.delivered k) (sym (indexed.bits (k - 1)) ∙ set)

-- the first bit that is 0 is that of the next packet
pub next_open : (words : List ℕ) (sent : Sent) (after last i : ℕ) → IsIndexed words sent.lost sent.delivered → IsFirstUnsetIn words after i → i + 1 ≤ last → i + 1 ≤ length sent.spellings → IsNextOpen sent after last (i + 1)
next_open words sent after last i indexed found within there =
    let place : i + 1 - 1 ≡ i = omega arith in
    record {
      later = omega (arith, found.from);
      within = within;
      sent_before = there;
      is_next = open_at (is_marked sent.lost (i + 1) || is_marked sent.delivered (i + 1)) (sym (indexed.bits (i + 1 - 1)) ∙ ap (bit_in words) place ∙ found.unset);
      none_before = λ j above before. settled_one words sent j indexed (found.set_before (j - 1) (omega arith) (omega arith));
    }

-- no packet before that one is
pub none_open : (words : List ℕ) (sent : Sent) (after last i : ℕ) → IsIndexed words sent.lost sent.delivered → ((j : ℕ) → after ≤ j → j < i → bit_in words j ≡ 1) → ((j : ℕ) → j ≤ last → j ≤ length sent.spellings → j ≤ i) → HasNoOpen sent after last
none_open words sent after last i indexed set few =
    λ j above within there. settled_one words sent j indexed (set (j - 1) (omega arith) (omega (arith, few j within there)))
