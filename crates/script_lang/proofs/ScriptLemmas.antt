-- Bytes are events' lines in one way.
use Rattle.std.proofs.Common.{inr, ◌+◌, length, Option, None, Some, ◌≡◌, ◌≢◌, ℕ, List, [], ◌∷◌, ◌++◌, refl, sym, ap, ◌∙◌, subst, append_assoc}
use Rattle.std.specs.Prelude.{All}
use Rattle.std.proofs.lemmas.List.{append-nil}
use Rattle.std.proofs.lemmas.List.Elements.{All-nil, All-push}
use Rattle.script_lang.specs.declared.script.Event.{Event}
use Rattle.script_lang.specs.Line.{line, HasNoEnd, IsCut}
use Rattle.script_lang.specs.Event.{IsEvent, event_text}
use Rattle.script_lang.specs.Script.{IsSize, first_line, event_lines, BeginsWithEvent, IsBadLine}
use Rattle.script_lang.specs.Reading.{ReadsSize, ReadsEvent, Spells}
use Rattle.script_lang.proofs.LineLemmas.{line_once, line_has_end}
use Rattle.script_lang.proofs.EventLemmas.{event_text-has_no_end, event_text-injective}

-- bytes begin with the line of one event at the most
pub event_line-once : (one other : Event) (xs ys : List ℕ) → IsEvent one → IsEvent other → line (event_text one) ++ xs ≡ line (event_text other) ++ ys → (one ≡ other) × (xs ≡ ys)
event_line-once one other xs ys fit fit' same =
    let cut = line_once (event_text one) xs (event_text other) ys (event_text-has_no_end one fit) (event_text-has_no_end other fit') same in
    (event_text-injective one other fit fit' cut.0, cut.1)

-- a cut line is in front of an event only if it spells one
pub no_event_line : (bytes text rest : List ℕ) → IsCut bytes text rest → ((event : Event) → IsEvent event → text ≢ event_text event) → BeginsWithEvent bytes → ⊥
no_event_line bytes text rest cut other found =
    let same : line text ++ rest ≡ line (event_text found.0) ++ found.1 = sym cut.whole ∙ found.3 in
    other found.0 found.2 ((line_once text rest (event_text found.0) found.1 cut.text_has_no_end (event_text-has_no_end found.0 found.2) same).0)

-- bytes without an LF are in front of no event
pub no_line : (bytes : List ℕ) → HasNoEnd bytes → BeginsWithEvent bytes → ⊥
no_line bytes free found = line_has_end (event_text found.0) found.1 (subst HasNoEnd found.3 free)

-- no bytes are in front of no event
pub no_bytes : BeginsWithEvent [] → ⊥
no_bytes found = no_line [] (All-nil (λ b. b ≢ 10)) found

-- lines of both parts are those of the whole
pub event_lines-append : (xs ys : List Event) → event_lines (xs ++ ys) ≡ event_lines xs ++ event_lines ys
event_lines-append [] ys = refl
event_lines-append (x ∷ xs) ys =
    ap (λ ls. line (event_text x) ++ ls) (event_lines-append xs ys) ∙ sym (append_assoc (line (event_text x)) (event_lines xs) (event_lines ys))

-- the reader is behind these events, and the rest is to be read
pub record IsRead (bytes : List ℕ) (servers clients : ℕ) (events : List Event) (rest : List ℕ) : Type 0 where
  pub size : IsSize servers clients
  pub each : All IsEvent events
  pub front : bytes ≡ first_line servers clients ++ event_lines events ++ rest

pub read_more : (bytes : List ℕ) (servers clients : ℕ) (events : List Event) (rest : List ℕ) (event : Event) (more : List ℕ) → IsRead bytes servers clients events rest → ReadsEvent rest event more → IsRead bytes servers clients (events ++ event ∷ []) more
read_more bytes servers clients events rest event more before read =
    let lines : event_lines (events ++ event ∷ []) ≡ event_lines events ++ line (event_text event) = event_lines-append events (event ∷ []) ∙ ap (λ l. event_lines events ++ l) (append-nil (line (event_text event))) in
    record {
      size = before.size;
      each = All-push IsEvent events event before.each read.fit;
      front = before.front ∙ ap (λ r. first_line servers clients ++ event_lines events ++ r) read.whole ∙ regroup (first_line servers clients) (event_lines events) (line (event_text event)) more ∙ ap (λ l. first_line servers clients ++ l ++ more) (sym lines);
    }
  where
    regroup : (f es l m : List ℕ) → f ++ es ++ (l ++ m) ≡ f ++ (es ++ l) ++ m
    regroup f es l m = simp append_assoc

-- a line that spells an event is read
pub line_read : (rest text more : List ℕ) (read : Option Event) (event : Event) → IsCut rest text more → read ≡ Some event → Spells event_text IsEvent text read → ReadsEvent rest event more
line_read rest text more read event cut is spells =
    let spelt : IsEvent event × (text ≡ event_text event) = subst (Spells event_text IsEvent text) is spells in
    record { fit = spelt.0; whole = cut.whole ∙ ap (λ t. line t ++ more) spelt.1 }

-- a line that spells none is in front of no event
pub line_not_read : (rest text more : List ℕ) (read : Option Event) → IsCut rest text more → read ≡ None → Spells event_text IsEvent text read → BeginsWithEvent rest → ⊥
line_not_read rest text more read cut is spells =
    let other : (event : Event) → IsEvent event → text ≢ event_text event = subst (Spells event_text IsEvent text) is spells in
    no_event_line rest text more cut other

-- the line that is in no script
pub stops : (bytes : List ℕ) (servers clients : ℕ) (events : List Event) (rest : List ℕ) (n : ℕ) → IsRead bytes servers clients events rest → rest ≢ [] → (BeginsWithEvent rest → ⊥) → n ≡ length events + 2 → IsBadLine bytes n
stops bytes servers clients events rest n read more bad number =
    inr (record {
      servers = servers;
      clients = clients;
      events = events;
      rest = rest;
      size = read.size;
      each = read.each;
      front = read.front;
      more = more;
      bad = bad;
      number = number;
    })
