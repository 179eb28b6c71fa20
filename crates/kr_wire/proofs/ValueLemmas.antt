-- Pairs, commands, entries, outcomes, replies, answers and views, as they are read and spelt.
use Rattle.std.proofs.Common.{◌≡◌, ℕ, zero, suc, ◌^◌, ◌<◌, Bool, true, false, cond, eqb, ltb, List, ◌++◌, length, Option, Some, None, Ok, Err, refl, sym, ap, subst, ◌∙◌, arith}
use Rattle.std.specs.Int.{w32, w64}
use Rattle.std.proofs.lemmas.Bool.{eqb-true, ne_eqb, ltb-true, lt-ltb}
use Rattle.kr_order.specs.declared.ids.ServerId.{ServerId}
use Rattle.kr_order.specs.declared.batch.Kind.{Kind}
use Rattle.kr_order.specs.declared.batch.Kind.TheVariants.{Must, Prefer}
use Rattle.kr_order.specs.declared.batch.Pair.{Pair}
use Rattle.kr_order.specs.declared.batch.Outcome.{Outcome}
use Rattle.kr_order.specs.declared.batch.Outcome.TheVariants as outcomes
use Rattle.kr_order.specs.declared.answer.Answer.{Answer}
use Rattle.kr_order.specs.declared.answer.Answer.TheVariants as answers
use Rattle.kr_order.specs.declared.history.Command.{Command}
use Rattle.kr_order.specs.declared.history.Command.TheVariants.{Create, Assign, Acquire, Release}
use Rattle.kr_order.specs.declared.history.Reply.{Reply}
use Rattle.kr_order.specs.declared.history.Reply.TheVariants.{Created, Assigned, Count, Unknown, Contradicts}
use Rattle.kr_wire.specs.Valid.{IsId, IsNumber, IsFrom, AreItems, IsPair, IsAskedPair, IsOutcome, IsAnswer, IsCommand, IsEntry, IsReply, IsJoiner, IsView, last_id}
use Rattle.kr_wire.specs.Spelling.{in_1, in_4, in_8, counted, kind_number, pair_bytes, asked_bytes, command_number, command_fields, command_bytes, entry_bytes, outcome_number, outcome_bytes, reply_number, reply_fields, reply_bytes, answer_number, answer_bytes, server_bytes, joiner_number, view_bytes}
use Rattle.kr_wire.specs.Reading.{Read, followed, both, made, above, number_at, byte_in, counted_at, kind_of, pair_of, pair_at, asked_of, asked_at, event_of, command_by, command_at, entry_of, entry_at, outcome_of, outcome_at, reply_by, reply_at, answer_of, answer_at, server_of, chain_at, joiner_at, view_of, view_at}
use Rattle.kr_wire.proofs.FieldLemmas.{IsBytes, Takes, IsRead, bind_ok, done, ok_is, followed_read, both_read, made_read, byte_read, id_read, positive_read, number_read_4, number_read_8}
use Rattle.kr_wire.proofs.ListLemmas.{IsChain, counted_read, chain_read}

-- a number of its kind in one byte, and what follows by this number
pub tagged_read : {item : Type 0} (low high : ℕ) (by : ℕ → List ℕ → Read item) (number : item → ℕ) (fields : item → List ℕ) (Fits : item → Type 0) → ((tag : ℕ) → IsFrom low high tag → IsRead (by tag) fields (λ x. (number x ≡ tag) × Fits x)) → ((x : item) → IsFrom low high (number x))
    → IsRead (made (λ (p : ℕ × item). p.1) (followed (byte_in low high) by)) (λ x. in_1 (number x) ++ fields x) Fits
tagged_read {item = item} low high by number fields Fits reads numbered =
    made_read (λ (p : ℕ × item). p.1) (followed (byte_in low high) by) (λ p. in_1 p.0 ++ fields p.1) (λ p. IsFrom low high p.0 × ((number p.1 ≡ p.0) × Fits p.1)) (λ x. in_1 (number x) ++ fields x) Fits
    (followed_read (byte_in low high) by in_1 (λ _. fields) (IsFrom low high) (λ tag x. (number x ≡ tag) × Fits x) (byte_read low high) reads)
    (record {
      spelt = λ p fit. ap (λ n. in_1 n ++ fields p.1) (sym fit.1.0);
      fit = λ p fit. fit.1.1;
      of = λ x fit. ((number x, x), (numbered x, (refl, fit)), refl);
    })

-- ---- pairs

kind_number-kind_of : (n : ℕ) → IsFrom 1 2 n → kind_number (kind_of n) ≡ n
kind_number-kind_of zero fit = absurd (omega (arith, fit.least))
kind_number-kind_of (suc zero) fit = refl
kind_number-kind_of (suc (suc zero)) fit = refl
kind_number-kind_of (suc (suc (suc n))) fit = absurd (omega (arith, fit.most))

kind_is : (kind : Kind) → (n : ℕ) × IsFrom 1 2 n × (kind_of n ≡ kind)
kind_is Must = (1, record { least = omega arith; most = omega arith }, refl)
kind_is Prefer = (2, record { least = omega arith; most = omega arith }, refl)

pub pair_read : IsRead pair_at pair_bytes IsPair
unfolding pair_at
pair_read =
    made_read pair_of (both (both (byte_in 1 2) (above w64 0)) (above w64 0)) (λ p. (in_1 p.0.0 ++ in_8 p.0.1) ++ in_8 p.1) (λ p. (IsFrom 1 2 p.0.0 × IsNumber p.0.1) × IsNumber p.1) pair_bytes IsPair
    (both_read (both (byte_in 1 2) (above w64 0)) (above w64 0) (λ p. in_1 p.0 ++ in_8 p.1) in_8 (λ p. IsFrom 1 2 p.0 × IsNumber p.1) IsNumber (both_read (byte_in 1 2) (above w64 0) in_1 in_8 (IsFrom 1 2) IsNumber (byte_read 1 2) positive_read) positive_read)
    (record {
      spelt = λ p fit. ap (λ n. (in_1 n ++ in_8 p.0.1) ++ in_8 p.1) (sym (kind_number-kind_of p.0.0 fit.0.0));
      fit = λ p fit. record { first = fit.0.1; second = fit.1 };
      of = λ pair fit. let kind = kind_is pair.kind in (((kind.0, pair.first.0), pair.second.0), ((kind.1, fit.first), fit.second), ap (λ k. record { first = pair.first; second = pair.second; kind = k }) kind.2);
    })

pub asked_read : IsRead asked_at asked_bytes IsAskedPair
unfolding asked_at
asked_read =
    made_read asked_of (both (above w64 0) (above w64 0)) (λ p. in_8 p.0 ++ in_8 p.1) (λ p. IsNumber p.0 × IsNumber p.1) asked_bytes IsAskedPair
    (both_read (above w64 0) (above w64 0) in_8 in_8 IsNumber IsNumber positive_read positive_read)
    (record {
      spelt = λ p fit. refl;
      fit = λ p fit. record { first = fit.0; second = fit.1 };
      of = λ pair fit. ((pair.0.0, pair.1.0), (fit.first, fit.second), refl);
    })

-- ---- commands

abbrev IsCommandOf : ℕ → Command → Type 0
IsCommandOf tag command = (command_number command ≡ tag) × IsCommand command

-- what is read of a command without fields
abbrev created : List ℕ → Read Command
created bytes = Ok (Create, bytes)

create_read : IsRead created command_fields (IsCommandOf 1)
create_read = record { takes = takes_create; again = again_create }
  where
    takes_create : (bytes : List ℕ) (command : Command) (rest : List ℕ) → IsBytes bytes → created bytes ≡ done (command, rest) → Takes command_fields (IsCommandOf 1) bytes command rest
    takes_create bytes command rest fits e =
        subst (λ (y : Command × List ℕ). Takes command_fields (IsCommandOf 1) bytes y.0 y.1) (ok_is (Create, bytes) (command, rest) e) (record { fit = (refl, tt); parts = refl; rest_fits = fits })

    again_create : (command : Command) (rest : List ℕ) → IsCommandOf 1 command → created (command_fields command ++ rest) ≡ done (command, rest)
    again_create Create rest fit = refl
    again_create (Assign batch) rest fit = absurd (omega (arith, fit.0))
    again_create (Acquire event) rest fit = absurd (omega (arith, fit.0))
    again_create (Release event) rest fit = absurd (omega (arith, fit.0))

assign_of : (command : Command) → IsCommandOf 2 command → (batch : List Pair) × AreItems 0 32 IsPair batch × (Assign batch ≡ command)
assign_of Create fit = absurd (omega (arith, fit.0))
assign_of (Assign batch) fit = (batch, fit.1, refl)
assign_of (Acquire event) fit = absurd (omega (arith, fit.0))
assign_of (Release event) fit = absurd (omega (arith, fit.0))

acquire_of : (command : Command) → IsCommandOf 3 command → (n : ℕ) × IsNumber n × (Acquire (event_of n) ≡ command)
acquire_of Create fit = absurd (omega (arith, fit.0))
acquire_of (Assign batch) fit = absurd (omega (arith, fit.0))
acquire_of (Acquire event) fit = (event.0, fit.1, refl)
acquire_of (Release event) fit = absurd (omega (arith, fit.0))

release_of : (command : Command) → IsCommandOf 4 command → (n : ℕ) × IsNumber n × (Release (event_of n) ≡ command)
release_of Create fit = absurd (omega (arith, fit.0))
release_of (Assign batch) fit = absurd (omega (arith, fit.0))
release_of (Acquire event) fit = absurd (omega (arith, fit.0))
release_of (Release event) fit = (event.0, fit.1, refl)

command_by_read : (tag : ℕ) → IsFrom 1 4 tag → IsRead (command_by tag) command_fields (IsCommandOf tag)
unfolding command_by
command_by_read zero fit = absurd (omega (arith, fit.least))
command_by_read (suc zero) fit = create_read
command_by_read (suc (suc zero)) fit =
    made_read (λ batch. Assign batch) (counted_at 0 32 pair_at) (counted pair_bytes) (AreItems 0 32 IsPair) command_fields (IsCommandOf 2) (counted_read pair_at pair_bytes IsPair 0 32 pair_read) (record { spelt = λ batch fit. refl; fit = λ batch fit. (refl, fit); of = assign_of })
command_by_read (suc (suc (suc zero))) fit =
    made_read (λ n. Acquire (event_of n)) (above w64 0) in_8 IsNumber command_fields (IsCommandOf 3) positive_read (record { spelt = λ n fit. refl; fit = λ n fit. (refl, fit); of = acquire_of })
command_by_read (suc (suc (suc (suc zero)))) fit =
    made_read (λ n. Release (event_of n)) (above w64 0) in_8 IsNumber command_fields (IsCommandOf 4) positive_read (record { spelt = λ n fit. refl; fit = λ n fit. (refl, fit); of = release_of })
command_by_read (suc (suc (suc (suc (suc n))))) fit = absurd (omega (arith, fit.most))

command_numbered : (command : Command) → IsFrom 1 4 (command_number command)
command_numbered Create = record { least = omega arith; most = omega arith }
command_numbered (Assign batch) = record { least = omega arith; most = omega arith }
command_numbered (Acquire event) = record { least = omega arith; most = omega arith }
command_numbered (Release event) = record { least = omega arith; most = omega arith }

pub command_read : IsRead command_at command_bytes IsCommand
unfolding command_at
command_read = tagged_read 1 4 command_by command_number command_fields IsCommand command_by_read command_numbered

pub entry_read : IsRead entry_at entry_bytes IsEntry
unfolding entry_at
entry_read =
    made_read entry_of (both (both (above w32 0) (above w64 0)) command_at) (λ p. (in_4 p.0.0 ++ in_8 p.0.1) ++ command_bytes p.1) (λ p. (IsId p.0.0 × IsNumber p.0.1) × IsCommand p.1) entry_bytes IsEntry
    (both_read (both (above w32 0) (above w64 0)) command_at (λ p. in_4 p.0 ++ in_8 p.1) command_bytes (λ p. IsId p.0 × IsNumber p.1) IsCommand (both_read (above w32 0) (above w64 0) in_4 in_8 IsId IsNumber (id_read 0) positive_read) command_read)
    (record {
      spelt = λ p fit. refl;
      fit = λ p fit. record { client = fit.0.0; seq = fit.0.1; command = fit.1 };
      of = λ entry fit. (((entry.client.0, entry.seq), entry.command), ((fit.client, fit.seq), fit.command), refl);
    })

-- ---- outcomes, replies and answers

outcome_number-outcome_of : (n : ℕ) → IsFrom 1 3 n → outcome_number (outcome_of n) ≡ n
outcome_number-outcome_of zero fit = absurd (omega (arith, fit.least))
outcome_number-outcome_of (suc zero) fit = refl
outcome_number-outcome_of (suc (suc zero)) fit = refl
outcome_number-outcome_of (suc (suc (suc zero))) fit = refl
outcome_number-outcome_of (suc (suc (suc (suc n)))) fit = absurd (omega (arith, fit.most))

outcome_is : (outcome : Outcome) → (n : ℕ) × IsFrom 1 3 n × (outcome_of n ≡ outcome)
outcome_is outcomes.Kept = (1, record { least = omega arith; most = omega arith }, refl)
outcome_is outcomes.Reversed = (2, record { least = omega arith; most = omega arith }, refl)
outcome_is outcomes.Same = (3, record { least = omega arith; most = omega arith }, refl)

pub outcome_read : IsRead outcome_at outcome_bytes IsOutcome
unfolding outcome_at
outcome_read =
    made_read outcome_of (byte_in 1 3) in_1 (IsFrom 1 3) outcome_bytes IsOutcome (byte_read 1 3) (record { spelt = λ n fit. ap in_1 (sym (outcome_number-outcome_of n fit)); fit = λ n fit. tt; of = λ outcome _. outcome_is outcome })

answer_number-answer_of : (n : ℕ) → IsFrom 1 6 n → answer_number (answer_of n) ≡ n
answer_number-answer_of zero fit = absurd (omega (arith, fit.least))
answer_number-answer_of (suc zero) fit = refl
answer_number-answer_of (suc (suc zero)) fit = refl
answer_number-answer_of (suc (suc (suc zero))) fit = refl
answer_number-answer_of (suc (suc (suc (suc zero)))) fit = refl
answer_number-answer_of (suc (suc (suc (suc (suc zero))))) fit = refl
answer_number-answer_of (suc (suc (suc (suc (suc (suc zero)))))) fit = refl
answer_number-answer_of (suc (suc (suc (suc (suc (suc (suc n))))))) fit = absurd (omega (arith, fit.most))

answer_is : (answer : Answer) → (n : ℕ) × IsFrom 1 6 n × (answer_of n ≡ answer)
answer_is answers.Before = (1, record { least = omega arith; most = omega arith }, refl)
answer_is answers.After = (2, record { least = omega arith; most = omega arith }, refl)
answer_is answers.Same = (3, record { least = omega arith; most = omega arith }, refl)
answer_is answers.Concurrent = (4, record { least = omega arith; most = omega arith }, refl)
answer_is answers.Unknown = (5, record { least = omega arith; most = omega arith }, refl)
answer_is answers.Unsure = (6, record { least = omega arith; most = omega arith }, refl)

pub answer_read : IsRead answer_at answer_bytes IsAnswer
unfolding answer_at
answer_read =
    made_read answer_of (byte_in 1 6) in_1 (IsFrom 1 6) answer_bytes IsAnswer (byte_read 1 6) (record { spelt = λ n fit. ap in_1 (sym (answer_number-answer_of n fit)); fit = λ n fit. tt; of = λ answer _. answer_is answer })

abbrev IsReplyOf : ℕ → Reply → Type 0
IsReplyOf tag reply = (reply_number reply ≡ tag) × IsReply reply

created_of : (reply : Reply) → IsReplyOf 1 reply → (n : ℕ) × IsNumber n × (Created (event_of n) ≡ reply)
created_of (Created event) fit = (event.0, fit.1, refl)
created_of (Assigned all) fit = absurd (omega (arith, fit.0))
created_of (Count count) fit = absurd (omega (arith, fit.0))
created_of (Unknown index) fit = absurd (omega (arith, fit.0))
created_of (Contradicts index) fit = absurd (omega (arith, fit.0))

assigned_of : (reply : Reply) → IsReplyOf 2 reply → (all : List Outcome) × AreItems 0 32 IsOutcome all × (Assigned all ≡ reply)
assigned_of (Created event) fit = absurd (omega (arith, fit.0))
assigned_of (Assigned all) fit = (all, fit.1, refl)
assigned_of (Count count) fit = absurd (omega (arith, fit.0))
assigned_of (Unknown index) fit = absurd (omega (arith, fit.0))
assigned_of (Contradicts index) fit = absurd (omega (arith, fit.0))

count_of : (reply : Reply) → IsReplyOf 3 reply → (n : ℕ) × (n < 2 ^ 64) × (Count n ≡ reply)
count_of (Created event) fit = absurd (omega (arith, fit.0))
count_of (Assigned all) fit = absurd (omega (arith, fit.0))
count_of (Count count) fit = (count, fit.1, refl)
count_of (Unknown index) fit = absurd (omega (arith, fit.0))
count_of (Contradicts index) fit = absurd (omega (arith, fit.0))

unknown_of : (reply : Reply) → IsReplyOf 4 reply → (n : ℕ) × (n < 2 ^ 32) × (Unknown n ≡ reply)
unknown_of (Created event) fit = absurd (omega (arith, fit.0))
unknown_of (Assigned all) fit = absurd (omega (arith, fit.0))
unknown_of (Count count) fit = absurd (omega (arith, fit.0))
unknown_of (Unknown index) fit = (index, fit.1, refl)
unknown_of (Contradicts index) fit = absurd (omega (arith, fit.0))

contradicts_of : (reply : Reply) → IsReplyOf 5 reply → (n : ℕ) × (n < 2 ^ 32) × (Contradicts n ≡ reply)
contradicts_of (Created event) fit = absurd (omega (arith, fit.0))
contradicts_of (Assigned all) fit = absurd (omega (arith, fit.0))
contradicts_of (Count count) fit = absurd (omega (arith, fit.0))
contradicts_of (Unknown index) fit = absurd (omega (arith, fit.0))
contradicts_of (Contradicts index) fit = (index, fit.1, refl)

reply_by_read : (tag : ℕ) → IsFrom 1 5 tag → IsRead (reply_by tag) reply_fields (IsReplyOf tag)
unfolding reply_by
reply_by_read zero fit = absurd (omega (arith, fit.least))
reply_by_read (suc zero) fit =
    made_read (λ n. Created (event_of n)) (above w64 0) in_8 IsNumber reply_fields (IsReplyOf 1) positive_read (record { spelt = λ n fit. refl; fit = λ n fit. (refl, fit); of = created_of })
reply_by_read (suc (suc zero)) fit =
    made_read (λ all. Assigned all) (counted_at 0 32 outcome_at) (counted outcome_bytes) (AreItems 0 32 IsOutcome) reply_fields (IsReplyOf 2) (counted_read outcome_at outcome_bytes IsOutcome 0 32 outcome_read) (record { spelt = λ all fit. refl; fit = λ all fit. (refl, fit); of = assigned_of })
reply_by_read (suc (suc (suc zero))) fit =
    made_read (λ n. Count n) (number_at w64) in_8 (λ n. n < 2 ^ 64) reply_fields (IsReplyOf 3) number_read_8 (record { spelt = λ n fit. refl; fit = λ n fit. (refl, fit); of = count_of })
reply_by_read (suc (suc (suc (suc zero)))) fit =
    made_read (λ n. Unknown n) (number_at w32) in_4 (λ n. n < 2 ^ 32) reply_fields (IsReplyOf 4) number_read_4 (record { spelt = λ n fit. refl; fit = λ n fit. (refl, fit); of = unknown_of })
reply_by_read (suc (suc (suc (suc (suc zero))))) fit =
    made_read (λ n. Contradicts n) (number_at w32) in_4 (λ n. n < 2 ^ 32) reply_fields (IsReplyOf 5) number_read_4 (record { spelt = λ n fit. refl; fit = λ n fit. (refl, fit); of = contradicts_of })
reply_by_read (suc (suc (suc (suc (suc (suc n)))))) fit = absurd (omega (arith, fit.most))

reply_numbered : (reply : Reply) → IsFrom 1 5 (reply_number reply)
reply_numbered (Created event) = record { least = omega arith; most = omega arith }
reply_numbered (Assigned all) = record { least = omega arith; most = omega arith }
reply_numbered (Count count) = record { least = omega arith; most = omega arith }
reply_numbered (Unknown index) = record { least = omega arith; most = omega arith }
reply_numbered (Contradicts index) = record { least = omega arith; most = omega arith }

pub reply_read : IsRead reply_at reply_bytes IsReply
unfolding reply_at
reply_read = tagged_read 1 5 reply_by reply_number reply_fields IsReply reply_by_read reply_numbered

-- ---- views

-- what is answered of a joiner's number by the two tests of it
abbrev joiner_answer : Bool → Bool → ℕ × List ℕ → ℕ → Read (Option ServerId)
joiner_answer none rises n left = cond none (Ok (None, n.1)) (cond rises (Ok (Some (server_of n.0), n.1)) (Err left))

joiner_by_tests : (last : ℕ) (bytes : List ℕ) (n : ℕ × List ℕ) (joiner : Option ServerId) (rest : List ℕ) (none rises : Bool) → Takes in_4 (λ k. k < 2 ^ 32) bytes n.0 n.1 → eqb n.0 0 ≡ none → ltb last n.0 ≡ rises → joiner_answer none rises n (length bytes) ≡ Ok (joiner, rest) → Takes (λ j. in_4 (joiner_number j)) (IsJoiner last) bytes joiner rest
joiner_by_tests last bytes n joiner rest true _ took is _ h =
    subst (λ (y : Option ServerId × List ℕ). Takes (λ j. in_4 (joiner_number j)) (IsJoiner last) bytes y.0 y.1) (ok_is (None, n.1) (joiner, rest) h) (record { fit = tt; parts = took.parts ∙ ap (λ k. in_4 k ++ n.1) (eqb-true n.0 0 is); rest_fits = took.rest_fits })
joiner_by_tests last bytes n joiner rest false true took _ is h =
    subst (λ (y : Option ServerId × List ℕ). Takes (λ j. in_4 (joiner_number j)) (IsJoiner last) bytes y.0 y.1) (ok_is (Some (server_of n.0), n.1) (joiner, rest) h) (record { fit = record { above = ltb-true last n.0 is; fits = took.fit }; parts = took.parts; rest_fits = took.rest_fits })
joiner_by_tests last bytes n joiner rest false false took _ _ h = absurd cc

pub joiner_read : (last : ℕ) → IsRead (joiner_at last) (λ j. in_4 (joiner_number j)) (IsJoiner last)
unfolding joiner_at
joiner_read last = record { takes = takes_joiner; again = again_joiner }
  where
    takes_joiner : (bytes : List ℕ) (joiner : Option ServerId) (rest : List ℕ) → IsBytes bytes → joiner_at last bytes ≡ Ok (joiner, rest) → Takes (λ j. in_4 (joiner_number j)) (IsJoiner last) bytes joiner rest
    takes_joiner bytes joiner rest fits e =
        let n = bind_ok (number_at w32 bytes) (λ n. joiner_answer (eqb n.0 0) (ltb last n.0) n (length bytes)) (joiner, rest) e in
        joiner_by_tests last bytes n.0 joiner rest (eqb n.0.0 0) (ltb last n.0.0) (number_read_4.takes bytes n.0.0 n.0.1 fits n.1) refl refl n.2

    again_joiner : (joiner : Option ServerId) (rest : List ℕ) → IsJoiner last joiner → joiner_at last (in_4 (joiner_number joiner) ++ rest) ≡ Ok (joiner, rest)
    again_joiner None rest fit = rw (number_read_4.again 0 rest (omega arith)) refl
    again_joiner (Some joiner) rest fit = rw (number_read_4.again joiner.0 rest fit.fits, ne_eqb joiner.0 0 (λ none. omega (arith, fit.above, none)), lt-ltb last joiner.0 fit.above) refl

pub view_read : IsRead view_at view_bytes IsView
unfolding view_at
view_read =
    made_read view_of (followed (both (above w64 0) chain_at) (λ p. joiner_at (last_id 0 p.1))) (λ p. (in_8 p.0.0 ++ counted server_bytes p.0.1) ++ in_4 (joiner_number p.1)) (λ p. (IsNumber p.0.0 × IsChain p.0.1) × IsJoiner (last_id 0 p.0.1) p.1) view_bytes IsView
    (followed_read (both (above w64 0) chain_at) (λ p. joiner_at (last_id 0 p.1)) (λ p. in_8 p.0 ++ counted server_bytes p.1) (λ _ j. in_4 (joiner_number j)) (λ p. IsNumber p.0 × IsChain p.1) (λ p. IsJoiner (last_id 0 p.1)) (both_read (above w64 0) chain_at in_8 (counted server_bytes) IsNumber IsChain positive_read chain_read) (λ p _. joiner_read (last_id 0 p.1)))
    (record {
      spelt = λ p fit. refl;
      fit = λ p fit. record { number = fit.0.0; count = fit.0.1.count; chain = fit.0.1.rising; joiner = fit.1 };
      of = λ view fit. (((view.number, view.chain), view.joiner), ((fit.number, record { count = fit.count; rising = fit.chain }), fit.joiner), refl);
    })
