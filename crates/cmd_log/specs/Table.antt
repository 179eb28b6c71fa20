-- What a log keeps beside its entries.
use Rattle.std.specs.Prelude.{◌≡◌, ◌≤◌, ◌^◌, ℕ, max, List, length, nat_eq, unwrap_or}
use Rattle.std.specs.declared.hash.FoldHasher.{FoldHasher}
use Rattle.std.specs.declared.hash.BuildHasherDefault.{BuildHasherDefault}
use Rattle.std.specs.HashMap.{get, HashMap}
use Rattle.kr_order.specs.declared.history.Entry.{Entry}
use Rattle.kr_order.specs.History.{highest_seq}

-- the table's number for a client; 0 where it has none
abbrev pub seq_for : HashMap ℕ ℕ (BuildHasherDefault FoldHasher) → ℕ → ℕ
seq_for table client = unwrap_or (get nat_eq table client) 0

-- the table has each client's highest sequence number in the log, which has at most so many entries
pub record IsTabled (log : List Entry) (table : HashMap ℕ ℕ (BuildHasherDefault FoldHasher)) : Type 0 where
  pub found : (client : ℕ) → seq_for table client ≡ highest_seq (record { 0 = client }) log
  pub few : length log ≤ 2 ^ 58

-- the new table has the greater of the old one's number for a client and the client's highest sequence number in
-- these entries
abbrev pub IsTold : List Entry → HashMap ℕ ℕ (BuildHasherDefault FoldHasher) → HashMap ℕ ℕ (BuildHasherDefault FoldHasher) → Type 0
IsTold entries old new = (client : ℕ) → seq_for new client ≡ max (seq_for old client) (highest_seq (record { 0 = client }) entries)
