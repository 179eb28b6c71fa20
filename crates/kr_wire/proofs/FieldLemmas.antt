-- Readers and spellings: what is read is spelt so, and what is spelt is read again, whatever follows.
use Rattle.std.proofs.Common.{◌≡◌, ℕ, suc, ◌+◌, ◌^◌, ◌<◌, ◌≤◌, Bool, true, false, cond, ltb, List, [], ◌∷◌, ◌++◌, length, get_or, take, drop, Result, Ok, Err, refl, sym, ap, subst, ◌∙◌, append_assoc, arith, inl, inr}
use Rattle.std.specs.Int.{Width, w32, w64, byte_len, from_be_bytes, to_be_bytes}
use Rattle.std.proofs.lemmas.Bool.{cases_lt, ltb-false, ltb-true, le-ltb, lt-ltb}
use Rattle.std.proofs.lemmas.List.{take_at, drop_at, take-append-drop, length-append, length-take, get_or-drop, get_or-take, get_or_past}
use Rattle.std.proofs.lemmas.Nat.{be_bytes_4, be_bytes_8, from_be_bytes-to_be_bytes_4, from_be_bytes-to_be_bytes_8}
use Rattle.kr_wire.specs.Valid.{IsAbove, IsFrom}
use Rattle.kr_wire.specs.Spelling.{in_1}
use Rattle.kr_wire.specs.Reading.{Read, ◌>>=◌, followed, both, made, number_at, above, byte_in}

-- each byte of these is below 256
abbrev pub IsBytes : List ℕ → Type 0
IsBytes bytes = (i : ℕ) → get_or bytes i 0 < 256

pub IsBytes-drop : (n : ℕ) (bytes : List ℕ) → IsBytes bytes → IsBytes (drop n bytes)
IsBytes-drop n bytes h i = rw get_or-drop (h (n + i))

IsBytes-take : (n : ℕ) (bytes : List ℕ) → IsBytes bytes → IsBytes (take n bytes)
IsBytes-take n bytes h i =
    elim (cases_lt i n) [
      | inl lt ↦ rw (get_or-take n bytes i 0 lt) (h i)
      | inr le ↦ rw (get_or_past (take n bytes) i 0 (omega (arith, length-take n bytes))) (omega arith)
    ]

IsBytes-rest : (b : ℕ) (bytes : List ℕ) → IsBytes (b ∷ bytes) → IsBytes bytes
IsBytes-rest b bytes h i = h (suc i)

-- a value that fits is spelt by the front of the bytes, and this is what follows
pub record Takes {item : Type 0} (text : item → List ℕ) (Fits : item → Type 0) (bytes : List ℕ) (x : item) (rest : List ℕ) : Type 0 where
  pub fit : Fits x
  pub parts : bytes ≡ text x ++ rest
  pub rest_fits : IsBytes rest

-- the reader reads this spelling of what fits, and nothing else
pub record IsRead {item : Type 0} (reader : List ℕ → Read item) (text : item → List ℕ) (Fits : item → Type 0) : Type 0 where
  pub takes : (bytes : List ℕ) (x : item) (rest : List ℕ) → IsBytes bytes → reader bytes ≡ Ok (x, rest) → Takes text Fits bytes x rest
  pub again : (x : item) (rest : List ℕ) → Fits x → reader (text x ++ rest) ≡ Ok (x, rest)

-- the value of a step that did not fail
pub bind_ok : {item other : Type 0} (r : Result item ℕ) (f : item → Result other ℕ) (y : other) → (r >>= f) ≡ Ok y → (x : item) × (r ≡ Ok x) × (f x ≡ Ok y)
bind_ok (Ok x) f y e = (x, refl, e)
bind_ok (Err d) f y e = absurd cc

abbrev pub done : {item : Type 0} → item → Result item ℕ
done x = Ok x

pub ok_is : {item : Type 0} (x y : item) → done x ≡ done y → x ≡ y
ok_is x y e = cc

-- a test that did not fail
guard_ok : {item : Type 0} (b : Bool) (d : ℕ) (x y : item) → cond b (Err d) (Ok x) ≡ Ok y → (b ≡ false) × (x ≡ y)
guard_ok true d x y e = absurd cc
guard_ok false d x y e = (refl, cc)

pub test_ok : {item : Type 0} (b : Bool) (d : ℕ) (x y : item) → cond b (Ok x) (Err d) ≡ Ok y → (b ≡ true) × (x ≡ y)
test_ok true d x y e = (refl, cc)
test_ok false d x y e = absurd cc

-- a value, and another behind it
pub followed_read : {item other : Type 0} (first : List ℕ → Read item) (second : item → List ℕ → Read other) (text : item → List ℕ) (text' : item → other → List ℕ) (Fits : item → Type 0) (Fits' : item → other → Type 0)
    → IsRead first text Fits → ((x : item) → Fits x → IsRead (second x) (text' x) (Fits' x)) → IsRead (followed first second) (λ p. text p.0 ++ text' p.0 p.1) (λ p. Fits p.0 × Fits' p.0 p.1)
followed_read {item = item} {other = other} first second text text' Fits Fits' one two = record { takes = takes_both; again = again_both }
  where
    takes_both : (bytes : List ℕ) (x : item × other) (rest : List ℕ) → IsBytes bytes → followed first second bytes ≡ Ok (x, rest) → Takes (λ p. text p.0 ++ text' p.0 p.1) (λ p. Fits p.0 × Fits' p.0 p.1) bytes x rest
    takes_both bytes x rest fits e =
        let a = bind_ok (first bytes) (λ a. second a.0 a.1 >>= λ b. Ok ((a.0, b.0), b.1)) (x, rest) e in
        let b = bind_ok (second a.0.0 a.0.1) (λ b. Ok ((a.0.0, b.0), b.1)) (x, rest) a.2 in
        let t = one.takes bytes a.0.0 a.0.1 fits a.1 in
        let u = (two a.0.0 t.fit).takes a.0.1 b.0.0 b.0.1 t.rest_fits b.1 in
        let whole : Takes (λ (p : item × other). text p.0 ++ text' p.0 p.1) (λ p. Fits p.0 × Fits' p.0 p.1) bytes (a.0.0, b.0.0) b.0.1 = record { fit = (t.fit, u.fit); parts = t.parts ∙ ap (λ r. text a.0.0 ++ r) u.parts ∙ sym (append_assoc (text a.0.0) (text' a.0.0 b.0.0) b.0.1); rest_fits = u.rest_fits } in
        subst (λ (y : (item × other) × List ℕ). Takes (λ (p : item × other). text p.0 ++ text' p.0 p.1) (λ p. Fits p.0 × Fits' p.0 p.1) bytes y.0 y.1) (ok_is ((a.0.0, b.0.0), b.0.1) (x, rest) b.2) whole

    again_both : (x : item × other) (rest : List ℕ) → Fits x.0 × Fits' x.0 x.1 → followed first second ((text x.0 ++ text' x.0 x.1) ++ rest) ≡ Ok (x, rest)
    again_both x rest fit =
        rw (append_assoc (text x.0) (text' x.0 x.1) rest, one.again x.0 (text' x.0 x.1 ++ rest) fit.0, (two x.0 fit.0).again x.1 rest fit.1) refl

pub both_read : {item other : Type 0} (first : List ℕ → Read item) (second : List ℕ → Read other) (text : item → List ℕ) (text' : other → List ℕ) (Fits : item → Type 0) (Fits' : other → Type 0)
    → IsRead first text Fits → IsRead second text' Fits' → IsRead (both first second) (λ p. text p.0 ++ text' p.1) (λ p. Fits p.0 × Fits' p.1)
both_read first second text text' Fits Fits' one two = followed_read first (λ _. second) text (λ _. text') Fits (λ _. Fits') one (λ _ _. two)

-- what each value that fits is made of
pub record IsMadeOf {item other : Type 0} (f : item → other) (text : item → List ℕ) (Fits : item → Type 0) (text' : other → List ℕ) (Fits' : other → Type 0) : Type 0 where
  pub spelt : (x : item) → Fits x → text x ≡ text' (f x)
  pub fit : (x : item) → Fits x → Fits' (f x)
  pub of : (y : other) → Fits' y → (x : item) × Fits x × (f x ≡ y)

pub made_read : {item other : Type 0} (f : item → other) (reader : List ℕ → Read item) (text : item → List ℕ) (Fits : item → Type 0) (text' : other → List ℕ) (Fits' : other → Type 0)
    → IsRead reader text Fits → IsMadeOf f text Fits text' Fits' → IsRead (made f reader) text' Fits'
made_read {item = item} {other = other} f reader text Fits text' Fits' reads makes = record { takes = takes_made; again = again_made }
  where
    takes_made : (bytes : List ℕ) (y : other) (rest : List ℕ) → IsBytes bytes → made f reader bytes ≡ Ok (y, rest) → Takes text' Fits' bytes y rest
    takes_made bytes y rest fits e =
        let a = bind_ok (reader bytes) (λ a. Ok (f a.0, a.1)) (y, rest) e in
        let t = reads.takes bytes a.0.0 a.0.1 fits a.1 in
        let whole : Takes text' Fits' bytes (f a.0.0) a.0.1 = record { fit = makes.fit a.0.0 t.fit; parts = t.parts ∙ ap (λ w. w ++ a.0.1) (makes.spelt a.0.0 t.fit); rest_fits = t.rest_fits } in
        subst (λ (z : other × List ℕ). Takes text' Fits' bytes z.0 z.1) (ok_is (f a.0.0, a.0.1) (y, rest) a.2) whole

    again_made : (y : other) (rest : List ℕ) → Fits' y → made f reader (text' y ++ rest) ≡ Ok (y, rest)
    again_made y rest fit =
        let from = makes.of y fit in
        let same : text' y ≡ text from.0 = ap text' (sym from.2) ∙ sym (makes.spelt from.0 from.1) in
        ap (λ w. made f reader (w ++ rest)) same ∙ rw (reads.again from.0 rest from.1) (ap (λ z. Ok (z, rest)) from.2)

-- ---- numbers

record IsWide (w : Width) (limit : ℕ) : Type 0 where
  pub len : (n : ℕ) → length (to_be_bytes w n) ≡ byte_len w
  pub back : (bytes : List ℕ) → length bytes ≡ byte_len w → IsBytes bytes → to_be_bytes w (from_be_bytes w bytes) ≡ bytes
  pub again : (n : ℕ) → n < limit → from_be_bytes w (to_be_bytes w n) ≡ n
  pub below : (bytes : List ℕ) → IsBytes bytes → from_be_bytes w bytes < limit

wide32 : IsWide w32 (2 ^ 32)
wide32 = record {
  len = λ n. refl;
  back = λ bytes len fits. be_bytes_4 bytes _ len fits refl;
  again = λ n lt. from_be_bytes-to_be_bytes_4 n lt;
  below = λ bytes fits. omega (arith, fits 0, fits 1, fits 2, fits 3);
}

wide64 : IsWide w64 (2 ^ 64)
wide64 = record {
  len = λ n. refl;
  back = λ bytes len fits. be_bytes_8 bytes _ len fits refl;
  again = λ n lt. from_be_bytes-to_be_bytes_8 n lt;
  below = λ bytes fits. omega (arith, fits 0, fits 1, fits 2, fits 3, fits 4, fits 5, fits 6, fits 7);
}

number_read : (w : Width) (limit : ℕ) → IsWide w limit → IsRead (number_at w) (to_be_bytes w) (λ n. n < limit)
unfolding number_at
number_read w limit wide = record { takes = takes_number; again = again_number }
  where
    takes_number : (bytes : List ℕ) (n : ℕ) (rest : List ℕ) → IsBytes bytes → number_at w bytes ≡ Ok (n, rest) → Takes (to_be_bytes w) (λ n. n < limit) bytes n rest
    takes_number bytes n rest fits e =
        let g = guard_ok (ltb (length bytes) (byte_len w)) (length bytes) (from_be_bytes w (take (byte_len w) bytes), drop (byte_len w) bytes) (n, rest) e in
        let long : byte_len w ≤ length bytes = ltb-false _ _ g.0 in
        let n-is : from_be_bytes w (take (byte_len w) bytes) ≡ n = ap (λ (p : ℕ × List ℕ). p.0) g.1 in
        let rest-is : drop (byte_len w) bytes ≡ rest = ap (λ (p : ℕ × List ℕ). p.1) g.1 in
        let front : to_be_bytes w n ≡ take (byte_len w) bytes = rw (← n-is) (wide.back (take (byte_len w) bytes) (omega (arith, length-take (byte_len w) bytes)) (IsBytes-take (byte_len w) bytes fits)) in
        record {
          fit = rw (← n-is) (wide.below (take (byte_len w) bytes) (IsBytes-take (byte_len w) bytes fits));
          parts = rw (front, ← rest-is) (sym (take-append-drop (byte_len w) bytes));
          rest_fits = rw (← rest-is) (IsBytes-drop (byte_len w) bytes fits);
        }

    again_number : (n : ℕ) (rest : List ℕ) → n < limit → number_at w (to_be_bytes w n ++ rest) ≡ Ok (n, rest)
    again_number n rest lt =
        let len = wide.len n in
        let long : ltb (length (to_be_bytes w n ++ rest)) (byte_len w) ≡ false = le-ltb _ _ (omega (arith, length-append (to_be_bytes w n) rest)) in
        rw (long, take_at (to_be_bytes w n) rest (byte_len w) len, drop_at (to_be_bytes w n) rest (byte_len w) len, wide.again n lt) refl

pub number_read_4 : IsRead (number_at w32) (to_be_bytes w32) (λ n. n < 2 ^ 32)
number_read_4 = number_read w32 (2 ^ 32) wide32

pub number_read_8 : IsRead (number_at w64) (to_be_bytes w64) (λ n. n < 2 ^ 64)
number_read_8 = number_read w64 (2 ^ 64) wide64

above_read : (w : Width) (limit low : ℕ) → IsWide w limit → IsRead (above w low) (to_be_bytes w) (IsAbove low limit)
unfolding above
above_read w limit low wide = record { takes = takes_above; again = again_above }
  where
    takes_above : (bytes : List ℕ) (n : ℕ) (rest : List ℕ) → IsBytes bytes → above w low bytes ≡ Ok (n, rest) → Takes (to_be_bytes w) (IsAbove low limit) bytes n rest
    takes_above bytes n rest fits e =
        let a = bind_ok (number_at w bytes) (λ n. cond (ltb low n.0) (Ok n) (Err (length bytes))) (n, rest) e in
        let g = test_ok (ltb low a.0.0) (length bytes) a.0 (n, rest) a.2 in
        let t = (number_read w limit wide).takes bytes a.0.0 a.0.1 fits a.1 in
        let whole : Takes (to_be_bytes w) (IsAbove low limit) bytes a.0.0 a.0.1 = record { fit = record { above = ltb-true _ _ g.0; fits = t.fit }; parts = t.parts; rest_fits = t.rest_fits } in
        subst (λ (y : ℕ × List ℕ). Takes (to_be_bytes w) (IsAbove low limit) bytes y.0 y.1) g.1 whole

    again_above : (n : ℕ) (rest : List ℕ) → IsAbove low limit n → above w low (to_be_bytes w n ++ rest) ≡ Ok (n, rest)
    again_above n rest fit =
        rw ((number_read w limit wide).again n rest fit.fits, lt-ltb low n fit.above) refl

pub id_read : (low : ℕ) → IsRead (above w32 low) (to_be_bytes w32) (IsAbove low (2 ^ 32))
id_read low = above_read w32 (2 ^ 32) low wide32

pub positive_read : IsRead (above w64 0) (to_be_bytes w64) (IsAbove 0 (2 ^ 64))
positive_read = above_read w64 (2 ^ 64) 0 wide64

-- ---- bytes

-- what is answered of a byte by the two tests of it
abbrev byte_answer : Bool → Bool → ℕ → List ℕ → Read ℕ
byte_answer low_test high_test b more = cond low_test (Err (length more + 1)) (cond high_test (Err (length more + 1)) (Ok (b, more)))

byte_by_tests : (low high b : ℕ) (more : List ℕ) (n : ℕ) (rest : List ℕ) (low_test high_test : Bool) → IsBytes (b ∷ more) → ltb b low ≡ low_test → ltb high b ≡ high_test → byte_answer low_test high_test b more ≡ Ok (n, rest) → Takes in_1 (IsFrom low high) (b ∷ more) n rest
byte_by_tests low high b more n rest true _ _ _ _ h = absurd cc
byte_by_tests low high b more n rest false true _ _ _ h = absurd cc
byte_by_tests low high b more n rest false false fits low_is high_is h =
    subst (λ (y : ℕ × List ℕ). Takes in_1 (IsFrom low high) (b ∷ more) y.0 y.1) (ok_is (b, more) (n, rest) h) (record { fit = record { least = ltb-false _ _ low_is; most = ltb-false _ _ high_is }; parts = refl; rest_fits = IsBytes-rest b more fits })

pub byte_read : (low high : ℕ) → IsRead (byte_in low high) in_1 (IsFrom low high)
unfolding byte_in
byte_read low high = record { takes = takes_byte; again = again_byte }
  where
    takes_byte : (bytes : List ℕ) (n : ℕ) (rest : List ℕ) → IsBytes bytes → byte_in low high bytes ≡ Ok (n, rest) → Takes in_1 (IsFrom low high) bytes n rest
    takes_byte [] n rest fits e = absurd cc
    takes_byte (b ∷ more) n rest fits e = byte_by_tests low high b more n rest (ltb b low) (ltb high b) fits refl refl e

    again_byte : (n : ℕ) (rest : List ℕ) → IsFrom low high n → byte_in low high (in_1 n ++ rest) ≡ Ok (n, rest)
    again_byte n rest fit = rw (le-ltb _ _ fit.least, le-ltb _ _ fit.most) refl

-- a byte that is read is of the range
pub byte_in_is_low : (low high : ℕ) (bytes : List ℕ) (n : ℕ) (rest : List ℕ) → IsBytes bytes → byte_in low high bytes ≡ Ok (n, rest) → n ≤ high
byte_in_is_low low high bytes n rest fits e = (((byte_read low high).takes bytes n rest fits e).fit).most
