-- The grammar of scripts: what a script is, how it is spelt, and which line of other bytes is bad.
use Rattle.std.specs.Prelude.{◌⊎◌, ◌≡◌, ◌≢◌, ℕ, ◌+◌, List, [], ◌∷◌, ◌++◌, length, All, codes}
use Rattle.std.specs.Fmt.{decimal}
use Rattle.script_lang.specs.declared.script.Event.{Event}
use Rattle.script_lang.specs.declared.script.Script.{Script}
use Rattle.script_lang.specs.Line.{line}
use Rattle.script_lang.specs.Number.{IsFromOneTo}
use Rattle.script_lang.specs.Event.{IsEvent, event_text}

-- how many servers and clients a run may begin with
pub record IsSize (servers clients : ℕ) : Type 0 where
  pub servers_fit : IsFromOneTo 8 servers
  pub clients_fit : IsFromOneTo 16 clients

-- a script that some bytes spell
pub record IsScript (script : Script) : Type 0 where
  pub size : IsSize script.servers script.clients
  pub each : All IsEvent script.events

-- the first line
abbrev pub first_line : ℕ → ℕ → List ℕ
first_line servers clients = line (codes "cluster " ++ decimal servers ++ codes " " ++ decimal clients)

abbrev pub event_lines : List Event → List ℕ
event_lines [] = []
event_lines (event ∷ events) = line (event_text event) ++ event_lines events

abbrev pub script_bytes : Script → List ℕ
script_bytes script = first_line script.servers script.clients ++ event_lines script.events

-- the bytes are the one spelling of the script
pub record Parses (bytes : List ℕ) (script : Script) : Type 0 where
  pub fit : IsScript script
  pub spelt : bytes ≡ script_bytes script

-- the bytes go on with the line of an event
abbrev pub BeginsWithEvent : List ℕ → Type 0
BeginsWithEvent bytes = (event : Event) × (rest : List ℕ) × IsEvent event × (bytes ≡ line (event_text event) ++ rest)

-- the bytes begin with the first line of a script
abbrev pub BeginsWithSize : List ℕ → Type 0
BeginsWithSize bytes =
    (servers : ℕ) × (clients : ℕ) × (rest : List ℕ) × IsSize servers clients
    × (bytes ≡ first_line servers clients ++ rest)

-- the bytes are good lines, and then something that begins with no line of an event; the bad line is
-- the n-th
pub record StopsAt (bytes : List ℕ) (n : ℕ) : Type 0 where
  pub servers : ℕ
  pub clients : ℕ
  pub events : List Event
  pub rest : List ℕ
  pub size : IsSize servers clients
  pub each : All IsEvent events
  pub front : bytes ≡ first_line servers clients ++ event_lines events ++ rest
  pub more : rest ≢ []
  pub bad : BeginsWithEvent rest → ⊥
  pub number : n ≡ length events + 2

-- line n of the bytes, counted from 1, is the first that is in no script
abbrev pub IsBadLine : List ℕ → ℕ → Type 0
IsBadLine bytes n = ((n ≡ 1) × (BeginsWithSize bytes → ⊥)) ⊎ StopsAt bytes n
