-- What each event stands directly behind, as the code keeps it.
use Rattle.std.specs.Prelude.{◌≡◌, ◌⊎◌, ℕ, ◌+◌, ◌<◌, ◌≤◌, ◌==◌, List, length, take, count_by, slice_index_or, Option, None, Some}
use Rattle.clock_import.specs.declared.log.Act.{Act}
use Rattle.clock_import.specs.declared.log.Act.TheVariants.{Local, Send, Receive, Bad}
use Rattle.clock_import.specs.declared.log.LogLine.{LogLine}
use Rattle.clock_import.specs.declared.links.Link.{Link}
use Rattle.clock_import.specs.declared.links.Seen.{Seen}
use Rattle.clock_import.specs.Log.{line_at, first_send}
use Rattle.clock_import.specs.Pairs.{latest_before, prior_of}

-- the event that sends what the act receives
abbrev pub source_of : List LogLine → Act → Option ℕ
source_of lines Local = None
source_of lines (Send message) = None
source_of lines (Receive message) = first_send lines message
source_of lines Bad = None

-- how many of the first n events are of the process
abbrev pub number_in : List LogLine → ℕ → ℕ → ℕ
number_in lines process n = count_by (λ entry. entry.process == process) (take n lines)

-- what leads directly to the event at the index
abbrev pub link_of : List LogLine → ℕ → Link
link_of lines i =
    record {
      prior = prior_of lines i;
      source = source_of lines (line_at lines i).act;
      number = number_in lines (line_at lines i).process (i + 1);
    }

-- the link at an index; behind the last there is none
abbrev pub link_at : List Link → ℕ → Link
link_at links i = slice_index_or links i (record { prior = None; source = None; number = 0 })

-- these are the links of the lines
pub record AreLinks (lines : List LogLine) (links : List Link) : Type 0 where
  pub many : length links ≡ length lines
  pub each : (i : ℕ) → i < length lines → link_at links i ≡ link_of lines i

-- what was seen of a process before the index
abbrev pub seen_before : List LogLine → ℕ → ℕ → Seen
seen_before lines i process =
    record { last = latest_before lines i process; count = number_in lines process i }

-- what is known of all processes before the index
pub record IsSeen (processes : ℕ) (lines : List LogLine) (i : ℕ) (seen : List Seen) : Type 0 where
  pub many : length seen ≡ processes + 1
  pub each : (p : ℕ) → p ≤ processes → slice_index_or seen p (record { last = None; count = 0 }) ≡ seen_before lines i p

-- the event a leads directly to one with this link
abbrev pub LeadsTo : Link → ℕ → Type 0
LeadsTo link a = (link.prior ≡ Some a) ⊎ (link.source ≡ Some a)
