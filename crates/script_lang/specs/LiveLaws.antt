-- The statements of the laws of live input.
use Rattle.std.specs.Prelude.{◌≡◌, ◌↔◌, ℕ, List, ◌++◌, flat_map}
use Rattle.script_lang.specs.declared.live.LivePlan.{LivePlan}
use Rattle.script_lang.specs.Line.{line}
use Rattle.script_lang.specs.Live.{IsPlan, ParsesLive, IsBadLiveLine, live_line, live_text}
use Rattle.script_lang.specs.LiveRows.{one_client, one_client_spelt, sixteen_clients, sixteen_clients_spelt}

abbrev pub BadLiveLinesAreInNoPlan : Type 0
BadLiveLinesAreInNoPlan = (bytes : List ℕ) (n : ℕ) (plan : LivePlan) → IsBadLiveLine bytes n → ParsesLive bytes plan → ⊥

abbrev pub TheBadLiveLineIsOne : Type 0
TheBadLiveLineIsOne = (bytes : List ℕ) (m n : ℕ) → IsBadLiveLine bytes m → IsBadLiveLine bytes n → m ≡ n

abbrev pub ASpellingIsOfOnePlan : Type 0
ASpellingIsOfOnePlan = (bytes : List ℕ) (one other : LivePlan) → ParsesLive bytes one → ParsesLive bytes other → one ≡ other

-- bytes spell a plan exactly where they are its first line, and then its calls' lines
abbrev pub PlansAreReadAsPrinted : Type 0
PlansAreReadAsPrinted =
    (bytes : List ℕ) (plan : LivePlan) →
    ParsesLive bytes plan
    ↔ (IsPlan plan × (live_line plan.clients ++ flat_map (λ call. line (live_text call)) plan.calls ≡ bytes))

-- this is how live input is spelt
abbrev pub EachKindOfCallIsSpeltSo : Type 0
EachKindOfCallIsSpeltSo = ParsesLive one_client_spelt one_client × ParsesLive sixteen_clients_spelt sixteen_clients
