-- What is kept of the messages of lines.
use Rattle.std.specs.Prelude.{◌≡◌, ℕ, ◌<◌, Bool, true, false, if◌then◌else◌, List, length, Option, None, Some, is_some}
use Rattle.std.specs.Ordering.{nat_cmp}
use Rattle.std.specs.BTreeMap as tree
use Rattle.clock_import.specs.declared.log.LogLine.{LogLine}
use Rattle.clock_import.specs.declared.messages.Messages.{Messages}
use Rattle.clock_import.specs.Log.{first_send, first_receive, is_good}

-- the lines that first send and first receive each message
pub record TellsFirsts (lines : List LogLine) (messages : Messages) : Type 0 where
  pub sends : (m : ℕ) → tree.get nat_cmp messages.sends m ≡ first_send lines m
  pub receives : (m : ℕ) → tree.get nat_cmp messages.receives m ≡ first_receive lines m

-- the index is that of the first line that may not stand there
pub record IsFirstBad (lines : List LogLine) (i : ℕ) : Type 0 where
  pub within : i < length lines
  pub good : (k : ℕ) → k < i → is_good lines k ≡ true
  pub bad : is_good lines i ≡ false

-- all lines may stand where they are, or this is the first that may not
abbrev pub FindsBad : List LogLine → Option ℕ → Type 0
FindsBad lines None = (i : ℕ) → i < length lines → is_good lines i ≡ true
FindsBad lines (Some i) = IsFirstBad lines i

-- the line that was found, or else the one at the index where it passes
abbrev pub noted : Option ℕ → Bool → ℕ → Option ℕ
noted found passes i = if is_some found then found else (if passes then Some i else None)
