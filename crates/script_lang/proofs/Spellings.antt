-- Bytes have one spelling: at most one script, and one first bad line.
use Rattle.std.proofs.Common.{◌≡◌, ℕ, inl, inr, List, [], ◌∷◌, ◌++◌, length, refl, sym, ap, ◌∙◌, arith, append_assoc}
use Rattle.std.specs.Prelude.{All, flat_map}
use Rattle.std.proofs.lemmas.List.{length-append, append-nil, nil_from_length}
use Rattle.std.proofs.lemmas.List.Elements.{All-head, All-tail}
use Rattle.script_lang.specs.declared.script.Event.{Event}
use Rattle.script_lang.specs.declared.script.Script.{Script}
use Rattle.script_lang.specs.Line.{line}
use Rattle.script_lang.specs.Event.{IsEvent, event_text}
use Rattle.script_lang.specs.Script.{first_line, event_lines, Parses, BeginsWithEvent, BeginsWithSize, StopsAt}
use Rattle.script_lang.specs.Laws.{BadLinesAreInNoScript, TheBadLineIsOne, ASpellingIsOfOneScript, ScriptsAreReadAsPrinted}
use Rattle.script_lang.proofs.SizeLemmas.{SameSize, size_once}
use Rattle.script_lang.proofs.ScriptLemmas.{IsRead, event_line-once, no_bytes}

-- the events' lines of the other reading, and what is after them, are in this one
pub record GoesOn (events : List Event) (rest : List ℕ) (others : List Event) (other_rest : List ℕ) : Type 0 where
  pub more : List Event
  pub events_are : events ≡ others ++ more
  pub rest_is : other_rest ≡ event_lines more ++ rest

-- where no event's line follows, no other reading of the bytes has more events
pub goes_on : (events : List Event) (rest : List ℕ) (others : List Event) (other_rest : List ℕ) → All IsEvent events → All IsEvent others → (BeginsWithEvent rest → ⊥) → event_lines events ++ rest ≡ event_lines others ++ other_rest → GoesOn events rest others other_rest
goes_on events rest [] other_rest _ _ _ same = record { more = events; events_are = refl; rest_is = sym same }
goes_on [] rest (o ∷ others) other_rest _ fit stops same =
    absurd (stops (o, event_lines others ++ other_rest, All-head IsEvent o others fit, same ∙ append_assoc (line (event_text o)) (event_lines others) other_rest))
goes_on (e ∷ events) rest (o ∷ others) other_rest fit fit' stops same =
    let lines : line (event_text e) ++ (event_lines events ++ rest) ≡ line (event_text o) ++ (event_lines others ++ other_rest) = sym (append_assoc (line (event_text e)) (event_lines events) rest) ∙ same ∙ append_assoc (line (event_text o)) (event_lines others) other_rest in
    let firsts = event_line-once e o (event_lines events ++ rest) (event_lines others ++ other_rest) (All-head IsEvent e events fit) (All-head IsEvent o others fit') lines in
    let tails = goes_on events rest others other_rest (All-tail IsEvent e events fit) (All-tail IsEvent o others fit') stops firsts.1 in
    record {
      more = tails.more;
      events_are = ap (λ x. x ∷ events) firsts.0 ∙ ap (λ xs. o ∷ xs) tails.events_are;
      rest_is = tails.rest_is;
    }

all_read : (bytes : List ℕ) (script : Script) → Parses bytes script → IsRead bytes script.servers script.clients script.events []
all_read bytes script parses =
    record {
      size = parses.fit.size;
      each = parses.fit.each;
      front = parses.spelt ∙ sym (append-nil (first_line script.servers script.clients ++ event_lines script.events));
    }

stopped : (bytes : List ℕ) (n : ℕ) → (stops : StopsAt bytes n) → IsRead bytes stops.servers stops.clients stops.events stops.rest
stopped bytes n stops =
    record { size = stops.size; each = stops.each; front = stops.front }

begins : (bytes : List ℕ) (s c : ℕ) (events : List Event) (rest : List ℕ) → IsRead bytes s c events rest → BeginsWithSize bytes
begins bytes s c events rest read =
    (s, c, event_lines events ++ rest, read.size, read.front ∙ append_assoc (first_line s c) (event_lines events) rest)

-- two readings of the same bytes have the same first line
one_size : (bytes : List ℕ) (s c : ℕ) (events : List Event) (rest : List ℕ) (s' c' : ℕ) (others : List Event) (other_rest : List ℕ) → IsRead bytes s c events rest → IsRead bytes s' c' others other_rest → SameSize s c (event_lines events ++ rest) s' c' (event_lines others ++ other_rest)
one_size bytes s c events rest s' c' others other_rest one other =
    size_once s c (event_lines events ++ rest) s' c' (event_lines others ++ other_rest) one.size other.size (sym (append_assoc (first_line s c) (event_lines events) rest) ∙ sym one.front ∙ other.front ∙ append_assoc (first_line s' c') (event_lines others) other_rest)

-- and where no event's line follows the one, its events go on after the other's
reads_on : (bytes : List ℕ) (s c : ℕ) (events : List Event) (rest : List ℕ) (s' c' : ℕ) (others : List Event) (other_rest : List ℕ) → IsRead bytes s c events rest → IsRead bytes s' c' others other_rest → (BeginsWithEvent rest → ⊥) → GoesOn events rest others other_rest
reads_on bytes s c events rest s' c' others other_rest one other bad =
    let same = one_size bytes s c events rest s' c' others other_rest one other in
    goes_on events rest others other_rest one.each other.each bad same.rest_is

nothing_after : (xs ys : List ℕ) → [] ≡ xs ++ ys → ys ≡ []
nothing_after xs ys is = nil_from_length ys (omega (arith, ap length is, length-append xs ys))

stops_in_no_script : (bytes : List ℕ) (n : ℕ) (script : Script) → StopsAt bytes n → Parses bytes script → ⊥
stops_in_no_script bytes n script stops parses =
    let on = reads_on bytes stops.servers stops.clients stops.events stops.rest script.servers script.clients script.events [] (stopped bytes n stops) (all_read bytes script parses) stops.bad in
    stops.more (nothing_after (event_lines on.more) stops.rest on.rest_is)

pub bad_in_none : BadLinesAreInNoScript
bad_in_none bytes n script (inl first) parses =
    first.1 (begins bytes script.servers script.clients script.events [] (all_read bytes script parses))
bad_in_none bytes n script (inr stops) parses = stops_in_no_script bytes n script stops parses

stops_once : (bytes : List ℕ) (m n : ℕ) → StopsAt bytes m → StopsAt bytes n → m ≡ n
stops_once bytes m n one other =
    let on = reads_on bytes one.servers one.clients one.events one.rest other.servers other.clients other.events other.rest (stopped bytes m one) (stopped bytes n other) one.bad in
    let back = reads_on bytes other.servers other.clients other.events other.rest one.servers one.clients one.events one.rest (stopped bytes n other) (stopped bytes m one) other.bad in
    omega (arith, one.number, other.number, ap length on.events_are, length-append other.events on.more, ap length back.events_are, length-append one.events back.more)

pub bad_is_one : TheBadLineIsOne
bad_is_one bytes m n (inl one) (inl other) = one.0 ∙ sym other.0
bad_is_one bytes m n (inl one) (inr other) =
    absurd (one.1 (begins bytes other.servers other.clients other.events other.rest (stopped bytes n other)))
bad_is_one bytes m n (inr one) (inl other) =
    absurd (other.1 (begins bytes one.servers one.clients one.events one.rest (stopped bytes m one)))
bad_is_one bytes m n (inr one) (inr other) = stops_once bytes m n one other

same_script : (s c s' c' : ℕ) (es es' : List Event) → s ≡ s' → c ≡ c' → es ≡ es' → (let one : Script = record { servers = s; clients = c; events = es } in let other : Script = record { servers = s'; clients = c'; events = es' } in one ≡ other)
same_script s c s' c' es es' ss cs ess =
    let f : ℕ → ℕ → List Event → Script = λ x y z. record { servers = x; clients = y; events = z } in
    ap (λ x. f x c es) ss ∙ ap (λ y. f s' y es) cs ∙ ap (λ z. f s' c' z) ess

pub spelt_once : ASpellingIsOfOneScript
spelt_once bytes one other parses parses' =
    let read = all_read bytes one parses in
    let read' = all_read bytes other parses' in
    let same = one_size bytes one.servers one.clients one.events [] other.servers other.clients other.events [] read read' in
    let on = reads_on bytes one.servers one.clients one.events [] other.servers other.clients other.events [] read read' no_bytes in
    let back = reads_on bytes other.servers other.clients other.events [] one.servers one.clients one.events [] read' read no_bytes in
    let none : on.more ≡ [] = nil_from_length on.more (omega (arith, ap length on.events_are, length-append other.events on.more, ap length back.events_are, length-append one.events back.more)) in
    same_script one.servers one.clients other.servers other.clients one.events other.events same.servers_are same.clients_are (on.events_are ∙ ap (λ m. other.events ++ m) none ∙ append-nil other.events)

lines_one_by_one : (events : List Event) → event_lines events ≡ flat_map (λ event. line (event_text event)) events
lines_one_by_one [] = refl
lines_one_by_one (event ∷ events) = ap (λ lines. line (event_text event) ++ lines) (lines_one_by_one events)

pub read_as_printed : ScriptsAreReadAsPrinted
read_as_printed bytes script =
    let printed = ap (λ lines. first_line script.servers script.clients ++ lines) (lines_one_by_one script.events) in
    (λ parses. (parses.fit, sym (parses.spelt ∙ printed)), λ is. record { fit = is.0; spelt = sym (printed ∙ is.1) })
