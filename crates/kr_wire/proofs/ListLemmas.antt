-- Lists of items and chains of ids, as they are read and spelt.
use Rattle.std.proofs.Common.{◌≡◌, ℕ, zero, suc, List, [], ◌∷◌, ◌++◌, length, Ok, refl, sym, ap, subst, ◌∙◌, append_assoc}
use Rattle.std.specs.Prelude.{All, flat_map}
use Rattle.std.specs.Int.{w32, to_be_bytes}
use Rattle.std.proofs.lemmas.List.Elements.{All-nil, All-cons, All-head, All-tail}
use Rattle.kr_order.specs.declared.ids.ServerId.{ServerId}
use Rattle.kr_wire.specs.Valid.{IsFrom, AreItems, AreRising}
use Rattle.kr_wire.specs.Spelling.{in_1, counted, server_bytes}
use Rattle.kr_wire.specs.Reading.{Read, ◌>>=◌, items_at, counted_at, byte_in, followed, rising_at, server_of, chain_at, above}
use Rattle.kr_wire.proofs.FieldLemmas.{IsBytes, Takes, IsRead, bind_ok, ok_is, followed_read, made_read, byte_read, id_read}

-- so many items that fit
pub record AreMany {item : Type 0} (Fits : item → Type 0) (n : ℕ) (items : List item) : Type 0 where
  pub count : length items ≡ n
  pub each : All Fits items

items_take : {item : Type 0} (reader : List ℕ → Read item) (text : item → List ℕ) (Fits : item → Type 0) → IsRead reader text Fits → (n : ℕ) (bytes : List ℕ) (xs : List item) (rest : List ℕ) → IsBytes bytes → items_at reader n bytes ≡ Ok (xs, rest) → Takes (flat_map text) (AreMany Fits n) bytes xs rest
unfolding items_at
items_take {item = item} reader text Fits reads zero bytes xs rest fits e =
    subst (λ (y : List item × List ℕ). Takes (flat_map text) (AreMany Fits 0) bytes y.0 y.1) (ok_is ([], bytes) (xs, rest) e) (record { fit = record { count = refl; each = All-nil Fits }; parts = refl; rest_fits = fits })
items_take {item = item} reader text Fits reads (suc n) bytes xs rest fits e =
    let a = bind_ok (reader bytes) (λ x. items_at reader n x.1 >>= λ ys. Ok (x.0 ∷ ys.0, ys.1)) (xs, rest) e in
    let b = bind_ok (items_at reader n a.0.1) (λ ys. Ok (a.0.0 ∷ ys.0, ys.1)) (xs, rest) a.2 in
    let t = reads.takes bytes a.0.0 a.0.1 fits a.1 in
    let u = items_take reader text Fits reads n a.0.1 b.0.0 b.0.1 t.rest_fits b.1 in
    let whole : Takes (flat_map text) (AreMany Fits (suc n)) bytes (a.0.0 ∷ b.0.0) b.0.1 =
    record {
      fit = record { count = ap suc u.fit.count; each = All-cons Fits a.0.0 b.0.0 t.fit u.fit.each };
      parts = t.parts ∙ ap (λ r. text a.0.0 ++ r) u.parts ∙ sym (append_assoc (text a.0.0) (flat_map text b.0.0) b.0.1);
      rest_fits = u.rest_fits;
    } in
    subst (λ (y : List item × List ℕ). Takes (flat_map text) (AreMany Fits (suc n)) bytes y.0 y.1) (ok_is (a.0.0 ∷ b.0.0, b.0.1) (xs, rest) b.2) whole

items_again : {item : Type 0} (reader : List ℕ → Read item) (text : item → List ℕ) (Fits : item → Type 0) → IsRead reader text Fits → (xs : List item) (rest : List ℕ) → All Fits xs → items_at reader (length xs) (flat_map text xs ++ rest) ≡ Ok (xs, rest)
unfolding items_at
items_again reader text Fits reads [] rest fit = refl
items_again reader text Fits reads (x ∷ xs) rest fit =
    ap (items_at reader (suc (length xs))) (append_assoc (text x) (flat_map text xs) rest) ∙ rw (reads.again x (flat_map text xs ++ rest) (All-head Fits x xs fit), items_again reader text Fits reads xs rest (All-tail Fits x xs fit)) refl

items_read : {item : Type 0} (reader : List ℕ → Read item) (text : item → List ℕ) (Fits : item → Type 0) → IsRead reader text Fits → (n : ℕ) → IsRead (items_at reader n) (flat_map text) (AreMany Fits n)
items_read {item = item} reader text Fits reads n =
    record {
      takes = λ bytes xs rest fits e. items_take reader text Fits reads n bytes xs rest fits e;
      again = λ xs rest fit. subst (λ k. items_at reader k (flat_map text xs ++ rest) ≡ Ok (xs, rest)) fit.count (items_again reader text Fits reads xs rest fit.each);
    }

-- a count and so many items
pub counted_read : {item : Type 0} (reader : List ℕ → Read item) (text : item → List ℕ) (Fits : item → Type 0) (low high : ℕ) → IsRead reader text Fits → IsRead (counted_at low high reader) (counted text) (AreItems low high Fits)
counted_read {item = item} reader text Fits low high reads =
    made_read (λ (p : ℕ × List item). p.1) (followed (byte_in low high) (λ count. items_at reader count)) (λ p. in_1 p.0 ++ flat_map text p.1) (λ p. IsFrom low high p.0 × AreMany Fits p.0 p.1) (counted text) (AreItems low high Fits)
    (followed_read (byte_in low high) (λ count. items_at reader count) in_1 (λ _. flat_map text) (IsFrom low high) (λ n. AreMany Fits n) (byte_read low high) (λ n _. items_read reader text Fits reads n))
    (record {
      spelt = λ p fit. ap (λ n. in_1 n ++ flat_map text p.1) (sym fit.1.count);
      fit = λ p fit. record { count = subst (IsFrom low high) (sym fit.1.count) fit.0; each = fit.1.each };
      of = λ items fit. ((length items, items), (fit.count, record { count = refl; each = fit.each }), refl);
    })

-- ---- chains

-- so many ids that rise from above low on
pub record RiseMany (low n : ℕ) (ids : List ServerId) : Type 0 where
  pub count : length ids ≡ n
  pub rising : AreRising low ids

rising_take : (n low : ℕ) (bytes : List ℕ) (ids : List ServerId) (rest : List ℕ) → IsBytes bytes → rising_at n low bytes ≡ Ok (ids, rest) → Takes (flat_map server_bytes) (RiseMany low n) bytes ids rest
unfolding rising_at
rising_take zero low bytes ids rest fits e =
    subst (λ (y : List ServerId × List ℕ). Takes (flat_map server_bytes) (RiseMany low 0) bytes y.0 y.1) (ok_is ([], bytes) (ids, rest) e) (record { fit = record { count = refl; rising = tt }; parts = refl; rest_fits = fits })
rising_take (suc n) low bytes ids rest fits e =
    let a = bind_ok (above w32 low bytes) (λ id. rising_at n id.0 id.1 >>= λ more. Ok (server_of id.0 ∷ more.0, more.1)) (ids, rest) e in
    let b = bind_ok (rising_at n a.0.0 a.0.1) (λ more. Ok (server_of a.0.0 ∷ more.0, more.1)) (ids, rest) a.2 in
    let t = (id_read low).takes bytes a.0.0 a.0.1 fits a.1 in
    let u = rising_take n a.0.0 a.0.1 b.0.0 b.0.1 t.rest_fits b.1 in
    let whole : Takes (flat_map server_bytes) (RiseMany low (suc n)) bytes (server_of a.0.0 ∷ b.0.0) b.0.1 =
    record {
      fit = record { count = ap suc u.fit.count; rising = (t.fit, u.fit.rising) };
      parts = t.parts ∙ ap (λ r. to_be_bytes w32 a.0.0 ++ r) u.parts ∙ sym (append_assoc (to_be_bytes w32 a.0.0) (flat_map server_bytes b.0.0) b.0.1);
      rest_fits = u.rest_fits;
    } in
    subst (λ (y : List ServerId × List ℕ). Takes (flat_map server_bytes) (RiseMany low (suc n)) bytes y.0 y.1) (ok_is (server_of a.0.0 ∷ b.0.0, b.0.1) (ids, rest) b.2) whole

rising_again : (low : ℕ) (ids : List ServerId) (rest : List ℕ) → AreRising low ids → rising_at (length ids) low (flat_map server_bytes ids ++ rest) ≡ Ok (ids, rest)
unfolding rising_at
rising_again low [] rest rising = refl
rising_again low (id ∷ ids) rest rising =
    ap (rising_at (suc (length ids)) low) (append_assoc (server_bytes id) (flat_map server_bytes ids) rest) ∙ rw ((id_read low).again id.0 (flat_map server_bytes ids ++ rest) rising.0, rising_again id.0 ids rest rising.1) refl

rising_read : (n low : ℕ) → IsRead (rising_at n low) (flat_map server_bytes) (RiseMany low n)
rising_read n low =
    record {
      takes = λ bytes ids rest fits e. rising_take n low bytes ids rest fits e;
      again = λ ids rest fit. subst (λ k. rising_at k low (flat_map server_bytes ids ++ rest) ≡ Ok (ids, rest)) fit.count (rising_again low ids rest fit.rising);
    }

-- the chain of a view
pub record IsChain (ids : List ServerId) : Type 0 where
  pub count : IsFrom 1 64 (length ids)
  pub rising : AreRising 0 ids

pub chain_read : IsRead chain_at (counted server_bytes) IsChain
unfolding chain_at
chain_read =
    made_read (λ (p : ℕ × List ServerId). p.1) (followed (byte_in 1 64) (λ count. rising_at count 0)) (λ p. in_1 p.0 ++ flat_map server_bytes p.1) (λ p. IsFrom 1 64 p.0 × RiseMany 0 p.0 p.1) (counted server_bytes) IsChain
    (followed_read (byte_in 1 64) (λ count. rising_at count 0) in_1 (λ _. flat_map server_bytes) (IsFrom 1 64) (λ n. RiseMany 0 n) (byte_read 1 64) (λ n _. rising_read n 0))
    (record {
      spelt = λ p fit. ap (λ n. in_1 n ++ flat_map server_bytes p.1) (sym fit.1.count);
      fit = λ p fit. record { count = subst (IsFrom 1 64) (sym fit.1.count) fit.0; rising = fit.1.rising };
      of = λ ids fit. ((length ids, ids), (fit.count, record { count = refl; rising = fit.rising }), refl);
    })
