-- Reading items one after the other, as a loop does.
use Rattle.std.proofs.Common.{◌≡◌, ℕ, suc, ◌-◌, ◌+◌, ◌≤◌, ◌<◌, Bool, true, false, inl, inr, List, [], ◌∷◌, ◌++◌, Ok, Err, refl, sym, ap, ◌∙◌, append_assoc, arith}
use Rattle.std.proofs.lemmas.List.{append-nil}
use Rattle.std.specs.Int.{w32}
use Rattle.kr_order.specs.declared.ids.ServerId.{ServerId}
use Rattle.kr_wire.specs.Valid.{last_id}
use Rattle.kr_wire.specs.declared.stop.FieldError.{FieldError}
use Rattle.kr_wire.specs.declared.stop.FieldError.TheVariants as stop
use Rattle.std.specs.Prelude.{◌||◌, ◌⊎◌}
use Rattle.kr_wire.specs.Taking.{behind, never, items_take}
use Rattle.kr_wire.specs.Reading.{◌>>=◌, Read, Fails, items_at, above, rising_at, server_of}

-- what was read before, and what is still read
abbrev pub with_front : {item : Type 0} → List item → Read (List item) → Read (List item)
with_front front read = read >>= λ x. Ok (front ++ x.0, x.1)

regroup : {item : Type 0} (front : List item) (one : item) (read : Read (List item)) → with_front front (read >>= λ x. Ok (one ∷ x.0, x.1)) ≡ with_front (front ++ one ∷ []) read
regroup {item = item} front one (Ok x) = ap (λ (xs : List item). Ok (xs, x.1)) (simp append_assoc)
regroup front one (Err left) = refl

-- one more is read
pub goes_on : {item : Type 0} (reader : List ℕ → Read item) (front : List item) (count i : ℕ) (bytes : List ℕ) (one : item) (after : List ℕ) (total : Read (List item)) → i < count → reader bytes ≡ Ok (one, after) → with_front front (items_at reader (count - i) bytes) ≡ total → with_front (front ++ one ∷ []) (items_at reader (count - (i + 1)) after) ≡ total
unfolding items_at
goes_on reader front count i bytes one after total lt h so_far =
    let k : count - i ≡ suc (count - (i + 1)) = omega arith in
    let step : with_front front (items_at reader (count - i) bytes) ≡ with_front (front ++ one ∷ []) (items_at reader (count - (i + 1)) after) = rw (k, h) (regroup front one (items_at reader (count - (i + 1)) after)) in
    sym step ∙ so_far

-- the first of so many items is still to be read, or memory is taken
abbrev pub Begins : {item : Type 0} → (List ℕ → Read item) → (List ℕ → Bool) → ℕ → ℕ → List ℕ → List ℕ → Type 0
Begins reader taking count i start bytes =
    ((i ≡ 0) × (bytes ≡ start)) ⊎ (items_take reader taking count start ≡ true)

either_way : (b : Bool) → (b || true) ≡ true
either_way true = refl
either_way false = refl

-- it is taken while an item is read
pub taken_in : {item : Type 0} (reader : List ℕ → Read item) (taking : List ℕ → Bool) (count i : ℕ) (start bytes : List ℕ) → i < count → taking bytes ≡ true → Begins reader taking count i start bytes → items_take reader taking count start ≡ true
unfolding items_take
taken_in reader taking count i start bytes lt h (inr taken) = taken
taken_in reader taking count i start bytes lt h (inl (none, same)) =
    let k : count ≡ suc (count - 1) = omega arith in
    let first : taking start ≡ true = ap taking (sym same) ∙ h in
    rw (k, first) refl

-- it is taken where an item was read
pub taken_by : {item : Type 0} (reader : List ℕ → Read item) (taking : List ℕ → Bool) (count i : ℕ) (start bytes : List ℕ) (one : item) (after : List ℕ) → i < count → reader bytes ≡ Ok (one, after) → Begins reader taking count i start bytes → items_take reader taking count start ≡ true
unfolding items_take
taken_by reader taking count i start bytes one after lt h (inr taken) = taken
taken_by reader taking count i start bytes one after lt h (inl (none, same)) =
    let k : count ≡ suc (count - 1) = omega arith in
    let first : reader start ≡ Ok (one, after) = ap reader (sym same) ∙ h in
    rw (k, first) (either_way (taking start))

-- an item is not read
pub breaks : {item : Type 0} (reader : List ℕ → Read item) (taking : List ℕ → Bool) (e : FieldError) (front : List item) (count i : ℕ) (start bytes : List ℕ) (total : Read (List item)) → i < count → Fails (taking bytes) e (reader bytes) → Begins reader taking count i start bytes → with_front front (items_at reader (count - i) bytes) ≡ total → Fails (items_take reader taking count start) e total
unfolding items_at
breaks reader taking stop.NoMemory front count i start bytes total lt h begins so_far = taken_in reader taking count i start bytes lt h begins
breaks reader taking (stop.Broken left) front count i start bytes total lt h begins so_far =
    let k : count - i ≡ suc (count - (i + 1)) = omega arith in
    let one : with_front front (items_at reader (count - i) bytes) ≡ Err left = rw (k, h) refl in
    sym so_far ∙ one

-- all are read
pub is_done : {item : Type 0} (reader : List ℕ → Read item) (front : List item) (count i : ℕ) (bytes : List ℕ) (total : Read (List item)) → count ≤ i → with_front front (items_at reader (count - i) bytes) ≡ total → total ≡ Ok (front, bytes)
unfolding items_at
is_done {item = item} reader front count i bytes total le so_far =
    let k : count - i ≡ 0 = omega arith in
    let one : with_front front (items_at reader (count - i) bytes) ≡ Ok (front, bytes) = rw k (ap (λ (xs : List item). Ok (xs, bytes)) (append-nil front)) in
    sym so_far ∙ one

-- ---- ids that rise

-- one more is read
pub rises_on : (front : List ServerId) (count i low : ℕ) (bytes : List ℕ) (id : ℕ) (after : List ℕ) (total : Read (List ServerId)) → i < count → above w32 low bytes ≡ Ok (id, after) → with_front front (rising_at (count - i) low bytes) ≡ total → with_front (front ++ server_of id ∷ []) (rising_at (count - (i + 1)) id after) ≡ total
unfolding rising_at
rises_on front count i low bytes id after total lt h so_far =
    let k : count - i ≡ suc (count - (i + 1)) = omega arith in
    let step : with_front front (rising_at (count - i) low bytes) ≡ with_front (front ++ server_of id ∷ []) (rising_at (count - (i + 1)) id after) = rw (k, h) (regroup front (server_of id) (rising_at (count - (i + 1)) id after)) in
    sym step ∙ so_far

-- the first of so many ids is still to be read, or memory is taken
abbrev pub Rises : ℕ → ℕ → ℕ → List ℕ → List ℕ → Type 0
Rises count i low start bytes =
    ((i ≡ 0) × (low ≡ 0) × (bytes ≡ start)) ⊎ (items_take (above w32 0) never count start ≡ true)

-- it is taken where an id was read
pub taken_by_id : (count i low : ℕ) (start bytes : List ℕ) (id : ℕ) (after : List ℕ) → i < count → above w32 low bytes ≡ Ok (id, after) → Rises count i low start bytes → items_take (above w32 0) never count start ≡ true
unfolding items_take
taken_by_id count i low start bytes id after lt h (inr taken) = taken
taken_by_id count i low start bytes id after lt h (inl (none, least, same)) =
    let k : count ≡ suc (count - 1) = omega arith in
    let first : above w32 0 start ≡ Ok (id, after) = ap (λ n. above w32 n start) (sym least) ∙ ap (above w32 low) (sym same) ∙ h in
    rw (k, first) refl

-- an id is not read
pub rises_not : (taken : Bool) (e : FieldError) (front : List ServerId) (count i low : ℕ) (bytes : List ℕ) (total : Read (List ServerId)) → i < count → Fails false e (above w32 low bytes) → with_front front (rising_at (count - i) low bytes) ≡ total → Fails taken e total
unfolding rising_at
rises_not taken stop.NoMemory front count i low bytes total lt h so_far = absurd cc
rises_not taken (stop.Broken left) front count i low bytes total lt h so_far =
    let k : count - i ≡ suc (count - (i + 1)) = omega arith in
    let one : with_front front (rising_at (count - i) low bytes) ≡ Err left = rw (k, h) refl in
    sym so_far ∙ one

-- all are read
pub has_risen : (front : List ServerId) (count i low : ℕ) (bytes : List ℕ) (total : Read (List ServerId)) → count ≤ i → with_front front (rising_at (count - i) low bytes) ≡ total → total ≡ Ok (front, bytes)
unfolding rising_at
has_risen front count i low bytes total le so_far =
    let k : count - i ≡ 0 = omega arith in
    let one : with_front front (rising_at (count - i) low bytes) ≡ Ok (front, bytes) = rw k (ap (λ (xs : List ServerId). Ok (xs, bytes)) (append-nil front)) in
    sym so_far ∙ one

-- the last of ids with one more
pub last_id-push : (low : ℕ) (ids : List ServerId) (id : ServerId) → last_id low (ids ++ id ∷ []) ≡ id.0
last_id-push low [] id = refl
last_id-push low (first ∷ ids) id = last_id-push first.0 ids id
