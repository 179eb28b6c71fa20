-- Words behind spaces are read in one way.
use Rattle.std.proofs.Common.{◌≡◌, ◌≢◌, ℕ, ◌^◌, ◌<◌, ◌≤◌, List, [], ◌∷◌, ◌++◌, length, drop, refl, sym, ap, ◌∙◌, arith, append_assoc}
use Rattle.std.specs.Prelude.{All, codes}
use Rattle.std.specs.Fmt.{decimal}
use Rattle.std.proofs.lemmas.Fmt.{decimal_injective}
use Rattle.std.proofs.lemmas.List.{append-nil, length-append, length_push, flat_map_more}
use Rattle.std.proofs.lemmas.List.Elements.{All-append, All-head, All-tail, All-nil, All-cons, All-push}
use Rattle.script_lang.specs.Line.{HasNoEnd}
use Rattle.script_lang.specs.Number.{IsFromOneTo, BeginsNoDigit}
use Rattle.script_lang.specs.Event.{ArePairs}
use Rattle.script_lang.specs.Reading.{AreFromOneTo, IsReadOnce, ReadsWord, one_word, two_words, words}
use Rattle.script_lang.proofs.NumberLemmas.{number_once}

words_end : {item : Type 0} (word : item → List ℕ) (items : List item) (rest : List ℕ) → BeginsNoDigit rest → BeginsNoDigit (words word items ++ rest)
words_end word [] rest ends = ends
words_end word (x ∷ items) rest ends = λ digit. absurd (omega (arith, digit.0))

-- words go on with no digit
pub words_begin : {item : Type 0} (word : item → List ℕ) (items : List item) → BeginsNoDigit (words word items)
words_begin word [] = tt
words_begin word (x ∷ items) = λ digit. absurd (omega (arith, digit.0))

-- the items that were read are the first of these, and the rest spells the others
pub record Follows {item : Type 0} (word : item → List ℕ) (Fits : item → Type 0) (read : List item) (rest : List ℕ) (items : List item) : Type 0 where
  pub more : List item
  pub items_are : items ≡ read ++ more
  pub each : All Fits more
  pub rest_is : rest ≡ words word more

pub follow : {item : Type 0} (word : item → List ℕ) (Fits : item → Type 0) → IsReadOnce word Fits → (read : List item) (rest : List ℕ) (items : List item) → All Fits read → All Fits items → BeginsNoDigit rest → words word read ++ rest ≡ words word items → Follows word Fits read rest items
follow word Fits one_way [] rest items _ fit _ e = record { more = items; items_are = refl; each = fit; rest_is = e }
follow word Fits one_way (x ∷ read) rest [] _ _ _ e = absurd (cc)
follow word Fits one_way (x ∷ read) rest (y ∷ items) fit fit' ends e =
    let behind : word x ++ words word read ++ rest ≡ word y ++ words word items = ap (drop 1) e in
    let firsts = one_way.once x y (words word read ++ rest) (words word items) (All-head Fits x read fit) (All-head Fits y items fit') (words_end word read rest ends) (words_begin word items) (sym (append_assoc (word x) (words word read) rest) ∙ behind) in
    let others = follow word Fits one_way read rest items (All-tail Fits x read fit) (All-tail Fits y items fit') ends firsts.1 in
    record {
      more = others.more;
      items_are = ap (λ z. z ∷ items) (sym firsts.0) ∙ ap (λ zs. x ∷ zs) others.items_are;
      each = others.each;
      rest_is = others.rest_is;
    }

-- items are known by their words
pub words-injective : {item : Type 0} (word : item → List ℕ) (Fits : item → Type 0) → IsReadOnce word Fits → (xs ys : List item) → All Fits xs → All Fits ys → words word xs ≡ words word ys → xs ≡ ys
words-injective {item = item} word Fits one_way xs ys fit fit' same =
    let on = follow word Fits one_way xs [] ys fit fit' tt (append-nil (words word xs) ∙ same) in
    by_more on.more on.items_are on.rest_is
  where
    by_more : (more : List item) → ys ≡ xs ++ more → [] ≡ words word more → xs ≡ ys
    by_more [] are _ = sym (are ∙ append-nil xs)
    by_more (x ∷ more) _ none = absurd (cc)

-- these items are read, and the rest is to be read
pub record IsReadUpTo {item : Type 0} (word : item → List ℕ) (Fits : item → Type 0) (whole : List ℕ) (read : List item) (rest : List ℕ) : Type 0 where
  pub room : length read ≤ 32
  pub each : All Fits read
  pub front : whole ≡ words word read ++ rest
  pub ends : BeginsNoDigit rest

-- one more is read
pub word_read : {item : Type 0} (word : item → List ℕ) (Fits : item → Type 0) (whole : List ℕ) (read : List item) (rest : List ℕ) (x : item) (after : List ℕ) → IsReadUpTo word Fits whole read rest → ReadsWord word Fits rest x after → length read ≢ 32 → IsReadUpTo word Fits whole (read ++ x ∷ []) after
word_read word Fits whole read rest x after before next room =
    record {
      room = omega (arith, length_push read x, before.room);
      each = All-push Fits read x before.each next.fit;
      front = before.front ∙ ap (λ r. words word read ++ r) next.whole ∙ sym (append_assoc (words word read) (codes " " ++ word x) after) ∙ ap (λ w. w ++ after) (flat_map_more (λ one. codes " " ++ word one) [] read x);
      ends = next.ends;
    }

-- bytes are left that begin with no such word
pub no_word : {item : Type 0} (word : item → List ℕ) (Fits : item → Type 0) → IsReadOnce word Fits → (whole : List ℕ) (read : List item) (rest : List ℕ) → IsReadUpTo word Fits whole read rest → rest ≢ [] → ((x : item) (after : List ℕ) → ReadsWord word Fits rest x after → ⊥) → (items : List item) → ArePairs Fits items → whole ≢ words word items
no_word {item = item} word Fits one_way whole read rest before some none items fit is =
    let on = follow word Fits one_way read rest items before.each fit.each before.ends (sym before.front ∙ is) in
    by_more on.more on.each on.rest_is
  where
    by_more : (more : List item) → All Fits more → rest ≡ words word more → ⊥
    by_more [] _ rest_is = some rest_is
    by_more (x ∷ more) each rest_is =
        none x (words word more) (record { fit = All-head Fits x more each; whole = rest_is; ends = words_begin word more })

-- bytes are left where there is room for no more
pub no_room : {item : Type 0} (word : item → List ℕ) (Fits : item → Type 0) → IsReadOnce word Fits → (whole : List ℕ) (read : List item) (rest : List ℕ) → IsReadUpTo word Fits whole read rest → rest ≢ [] → length read ≡ 32 → (items : List item) → ArePairs Fits items → whole ≢ words word items
no_room {item = item} word Fits one_way whole read rest before some full items fit is =
    let on = follow word Fits one_way read rest items before.each fit.each before.ends (sym before.front ∙ is) in
    by_more on.more on.items_are on.rest_is
  where
    by_more : (more : List item) → items ≡ read ++ more → rest ≡ words word more → ⊥
    by_more [] _ rest_is = some rest_is
    by_more (x ∷ more) are _ = absurd (omega (arith, fit.most, ap length are, length-append read (x ∷ more)))

-- words have no LF in them
pub words_have_no_end : {item : Type 0} (word : item → List ℕ) (Fits : item → Type 0) → ((x : item) → Fits x → HasNoEnd (word x)) → (items : List item) → All Fits items → HasNoEnd (words word items)
words_have_no_end word Fits free [] _ = All-nil (λ b. b ≢ 10)
words_have_no_end word Fits free (x ∷ items) fit =
    All-append (λ b. b ≢ 10) (codes " " ++ word x) (words word items) (All-cons (λ b. b ≢ 10) 32 (word x) (λ is. absurd (omega arith)) (free x (All-head Fits x items fit))) (words_have_no_end word Fits free items (All-tail Fits x items fit))

-- a number behind a space is read in one way
pub word_once : (most most' : ℕ) (bytes : List ℕ) (m n : ℕ) (xs ys : List ℕ) → most < 2 ^ 64 → most' < 2 ^ 64 → ReadsWord decimal (IsFromOneTo most) bytes m xs → ReadsWord decimal (IsFromOneTo most') bytes n ys → (m ≡ n) × (xs ≡ ys)
word_once most most' bytes m n xs ys small small' one other = number_once m n xs ys (omega (arith, one.fit.high)) (omega (arith, other.fit.high)) one.ends other.ends (ap (drop 1) (sym one.whole ∙ other.whole))

-- the first of two numbers
pub first_reads : (most a b : ℕ) (bytes : List ℕ) → IsFromOneTo most a → bytes ≡ two_words (a, b) → ReadsWord decimal (IsFromOneTo most) bytes a (one_word b)
first_reads most a b bytes fit is =
    record { fit = fit; whole = is ∙ append_assoc (one_word a) (codes " ") (decimal b); ends = λ digit. absurd (omega (arith, digit.0)) }

-- a number with words behind it
pub front_reads : {item : Type 0} (word : item → List ℕ) (most n : ℕ) (items : List item) (bytes : List ℕ) → IsFromOneTo most n → bytes ≡ one_word n ++ words word items → ReadsWord decimal (IsFromOneTo most) bytes n (words word items)
front_reads word most n items bytes fit is = record { fit = fit; whole = is; ends = words_begin word items }

-- the first of two numbers with words behind them
pub both_reads : {item : Type 0} (word : item → List ℕ) (most a b : ℕ) (items : List item) (bytes : List ℕ) → IsFromOneTo most a → bytes ≡ two_words (a, b) ++ words word items → ReadsWord decimal (IsFromOneTo most) bytes a (one_word b ++ words word items)
both_reads word most a b items bytes fit is =
    record {
      fit = fit;
      whole = is ∙ ap (λ t. t ++ words word items) (append_assoc (one_word a) (codes " ") (decimal b)) ∙ append_assoc (one_word a) (one_word b) (words word items);
      ends = λ digit. absurd (omega (arith, digit.0));
    }

-- numbers behind spaces are known by their words
pub one_word-injective : (most m n : ℕ) → most < 2 ^ 64 → IsFromOneTo most m → IsFromOneTo most n → one_word m ≡ one_word n → m ≡ n
one_word-injective most m n small fit fit' same = decimal_injective m n (omega (arith, fit.high)) (omega (arith, fit'.high)) (ap (drop 1) same)

pub two_words-injective : (most most' a b c d : ℕ) → most < 2 ^ 64 → most' < 2 ^ 64 → IsFromOneTo most a → IsFromOneTo most' b → IsFromOneTo most c → IsFromOneTo most' d → two_words (a, b) ≡ two_words (c, d) → (a ≡ c) × (b ≡ d)
two_words-injective most most' a b c d small small' fa fb fc fd same =
    let firsts = word_once most most (two_words (a, b)) a c (one_word b) (one_word d) small small (first_reads most a b (two_words (a, b)) fa refl) (first_reads most c d (two_words (a, b)) fc same) in
    (firsts.0, one_word-injective most' b d small' fb fd firsts.1)

-- what follows the first of two numbers is the second
pub not_two : (most most' : ℕ) (words : List ℕ) (n : ℕ) (rest : List ℕ) → most < 2 ^ 64 → ReadsWord decimal (IsFromOneTo most) words n rest → ((m : ℕ) → IsFromOneTo most' m → rest ≢ one_word m) → (pair : ℕ × ℕ) → AreFromOneTo most most' pair → words ≢ two_words pair
not_two most most' words n rest small read none pair fit is =
    none pair.1 fit.second ((word_once most most words n pair.0 rest (one_word pair.1) small small read (first_reads most pair.0 pair.1 words fit.first is)).1)
