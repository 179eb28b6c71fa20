-- What the decoders answer, and the laws of spellings.
use Rattle.std.proofs.Common.{◌≡◌, ℕ, ◌+◌, ◌-◌, ◌≤◌, Bool, true, Result, cond, eqb, List, [], ◌++◌, length, take, drop, Ok, Err, refl, sym, ap, subst, ◌∙◌, append_assoc, arith, inl, inr}
use Rattle.std.proofs.lemmas.Bool.{eqb-true}
use Rattle.std.proofs.lemmas.List.{append-nil, nil_from_length, drop_at, take-append-drop, length-append}
use Rattle.kr_order.specs.declared.message.Packet.{Packet}
use Rattle.kr_wire.specs.declared.stop.FieldError.{FieldError}
use Rattle.kr_wire.specs.declared.stop.FieldError.TheVariants as stop
use Rattle.kr_wire.specs.declared.stop.WireError.{WireError}
use Rattle.kr_wire.specs.declared.stop.WireError.TheVariants.{Refused, NoMemory}
use Rattle.kr_wire.specs.Valid.{IsPacket}
use Rattle.kr_wire.specs.Spelling.{spelling}
use Rattle.kr_wire.specs.Reading.{Read, Fails, packet_at, packet_in}
use Rattle.kr_wire.specs.Decoding.{Decodes, IsDecoded, ReadsAt, RefusesAt, LacksOnly, Refuses}
use Rattle.kr_wire.proofs.FieldLemmas.{IsBytes, IsBytes-drop, IsRead, bind_ok, test_ok}
use Rattle.kr_wire.proofs.PacketLemmas.{packet_read}

-- a packet that is read of all of the bytes is spelt by them
pub packet_in_takes : (bytes : List ℕ) (packet : Packet) → IsBytes bytes → packet_in bytes ≡ Ok packet → IsPacket packet × (bytes ≡ spelling packet)
unfolding packet_in
packet_in_takes bytes packet fits e =
    let a = bind_ok (packet_at bytes) (λ p. cond (eqb (length p.1) 0) (Ok p.0) (Err (length p.1))) packet e in
    let g = test_ok (eqb (length a.0.1) 0) (length a.0.1) a.0.0 packet a.2 in
    let t = packet_read.takes bytes a.0.0 a.0.1 fits a.1 in
    let nothing : a.0.1 ≡ [] = nil_from_length a.0.1 (eqb-true _ _ g.0) in
    let whole : bytes ≡ spelling a.0.0 = t.parts ∙ ap (λ r. spelling a.0.0 ++ r) nothing ∙ append-nil (spelling a.0.0) in
    subst (λ p. IsPacket p × (bytes ≡ spelling p)) g.1 (t.fit, whole)

-- and each packet is read of its spelling
pub packet_in_again : (packet : Packet) → IsPacket packet → packet_in (spelling packet) ≡ Ok packet
unfolding packet_in
packet_in_again packet fit =
    let whole : packet_at (spelling packet) ≡ Ok (packet, []) = ap packet_at (sym (append-nil (spelling packet))) ∙ packet_read.again packet [] fit in
    rw whole refl

-- a packet of these bytes, where they are read
pub decoded : (bytes : List ℕ) (packet : Packet) → packet_in bytes ≡ Ok packet → IsDecoded bytes (Ok packet)
decoded bytes packet read other fit is =
    let again : packet_in bytes ≡ Ok other = ap packet_in is ∙ packet_in_again other fit in
    let same : packet ≡ other = cc in
    inl (ap (λ p. Ok p) same)

-- bytes that are not read spell no packet
pub refused : (taken : Bool) (size : ℕ) (bytes : List ℕ) (e : FieldError) (error : WireError) → Fails taken e (packet_in bytes) → Refuses size e error → Decodes bytes (Err error)
refused taken size bytes (stop.Broken left) (Refused at) fails refuses = λ packet fit is.
    let again : packet_in bytes ≡ Ok packet = ap packet_in is ∙ packet_in_again packet fit in
    absurd cc
refused taken size bytes (stop.Broken left) NoMemory fails refuses = tt
refused taken size bytes stop.NoMemory (Refused at) fails refuses = absurd cc
refused taken size bytes stop.NoMemory NoMemory fails refuses = tt

-- the same, where they spell one
pub refused_none : (taken : Bool) (size : ℕ) (bytes : List ℕ) (e : FieldError) (error : WireError) → Fails taken e (packet_in bytes) → Refuses size e error → IsDecoded bytes (Err error)
refused_none taken size bytes (stop.Broken left) error fails refuses = λ packet fit is.
    let again : packet_in bytes ≡ Ok packet = ap packet_in is ∙ packet_in_again packet fit in
    absurd cc
refused_none taken size bytes stop.NoMemory error fails refuses = λ packet fit is. inr (ap (λ e. Err e) refuses)

-- what is read from a place on, and the place after it
pub read_at : {item : Type 0} (reader : List ℕ → Read item) (text : item → List ℕ) (Fits : item → Type 0) → IsRead reader text Fits → (bytes : List ℕ) (at : ℕ) (x : item) (rest : List ℕ) → at ≤ length bytes → IsBytes bytes → reader (drop at bytes) ≡ Ok (x, rest) → ReadsAt text Fits bytes at (Ok (x, length bytes - length rest))
read_at reader text Fits reads bytes at x rest within fits e =
    let t = reads.takes (drop at bytes) x rest (IsBytes-drop at bytes fits) e in
    let whole : bytes ≡ (take at bytes ++ text x) ++ rest = sym (take-append-drop at bytes) ∙ ap (λ r. take at bytes ++ r) t.parts ∙ sym (append_assoc (take at bytes) (text x) rest) in
    let len : length bytes ≡ length (take at bytes ++ text x) + length rest = ap length whole ∙ length-append (take at bytes ++ text x) rest in
    let behind : drop (length bytes - length rest) bytes ≡ rest = ap (drop (length bytes - length rest)) whole ∙ drop_at (take at bytes ++ text x) rest (length bytes - length rest) (omega arith) in
    (t.fit, t.parts ∙ ap (λ r. text x ++ r) (sym behind), omega arith)

-- what is not read is not spelt there
pub not_read_at : {item : Type 0} (taken : Bool) (size : ℕ) (reader : List ℕ → Read item) (text : item → List ℕ) (Fits : item → Type 0) → IsRead reader text Fits → (bytes : List ℕ) (at : ℕ) (e : FieldError) (error : WireError) → Fails taken e (reader (drop at bytes)) → Refuses size e error → ReadsAt text Fits bytes at (Err error)
not_read_at taken size reader text Fits reads bytes at (stop.Broken left) (Refused place) fails refuses = λ x rest fit is.
    let again : reader (drop at bytes) ≡ Ok (x, rest) = ap reader is ∙ reads.again x rest fit in
    absurd cc
not_read_at taken size reader text Fits reads bytes at (stop.Broken left) NoMemory fails refuses = tt
not_read_at taken size reader text Fits reads bytes at stop.NoMemory (Refused place) fails refuses = absurd cc
not_read_at taken size reader text Fits reads bytes at stop.NoMemory NoMemory fails refuses = tt

-- what is read is refused nowhere
pub refused_nowhere : {item other : Type 0} (size : ℕ) (read : Result other ℕ) (x : item) (y : other) → read ≡ Ok y → RefusesAt size read (Ok x)
refused_nowhere size read x y e left broken = absurd cc

-- what is not read is refused at its place
pub refused_at : {other : Type 0} (item : Type 0) (taken : Bool) (size : ℕ) (read : Result other ℕ) (e : FieldError) (error : WireError) → Fails taken e read → Refuses size e error → RefusesAt {item = item} size read (Err error)
refused_at item taken size read (stop.Broken left) (Refused at) fails refuses = (left, fails, refuses)
refused_at item taken size read (stop.Broken left) NoMemory fails refuses = tt
refused_at item taken size read stop.NoMemory (Refused at) fails refuses = absurd cc
refused_at item taken size read stop.NoMemory NoMemory fails refuses = tt

-- and where there is no memory for it, some was taken
pub lacks_only : {other : Type 0} (item : Type 0) (taken : Bool) (size : ℕ) (read : Result other ℕ) (e : FieldError) (error : WireError) → Fails taken e read → Refuses size e error → LacksOnly {item = item} taken (Err error)
lacks_only item taken size read (stop.Broken left) (Refused at) fails refuses is = absurd cc
lacks_only item taken size read (stop.Broken left) NoMemory fails refuses is = absurd refuses
lacks_only item taken size read stop.NoMemory error fails refuses is = fails

pub lacks_nothing : {item : Type 0} (taken : Bool) (x : item) → LacksOnly taken (Ok x)
lacks_nothing taken x is = absurd cc
