-- What text is due for the bytes that were read, and what the end of a run says of the sink that it was written to.
use Rattle.std.specs.Prelude.{◌≡◌, ◌⊎◌, ℕ, List, Option}
use Rattle.std.specs.Io.KnownBytes.{Appends, Keeps}
use Rattle.kr_order.specs.declared.history.Entry.{Entry}
use Rattle.kr_text.specs.Writes.{TookBeforeFault}
use Rattle.script_lang.specs.declared.chain.ChainPlan.{ChainPlan}
use Rattle.script_lang.specs.declared.live.LivePlan.{LivePlan}
use Rattle.script_lang.specs.Chain.{ParsesChain, IsBadChainLine}
use Rattle.script_lang.specs.Live.{ParsesLive, IsBadLiveLine}
use Rattle.live_service.specs.declared.calls.LiveAnswer.{LiveAnswer}
use Rattle.live_service.specs.Lawful.{LiveLawful}
use Rattle.live_chain.specs.declared.run.ChainRun.{ChainRun}
use Rattle.live_chain.specs.Lawful.{ChainLawful}
use Rattle.kronos_runs.specs.declared.exit.Exit.{Exit}
use Rattle.kronos_runs.specs.declared.exit.Exit.TheVariants.{Done, BadLine, WriteFault, NoMemory}
use Rattle.kronos_runs.specs.Due.{TookFront, bad_line}
use Rattle.live_driver.specs.declared.form.Form.{Form}
use Rattle.live_driver.specs.declared.form.Form.TheVariants.{Live, Chain}
use Rattle.live_driver.specs.Text.{live_text, chain_text}

-- a text of what came of the plan: of these answers and this history, which are right of it
pub record IsTextOf (plan : LivePlan) (text : List ℕ) : Type 0 where
  pub answers : List (List LiveAnswer)
  pub history : List Entry
  pub lawful : LiveLawful plan answers history
  pub text_is : text ≡ live_text answers history

-- these bytes are live input, and the text of a run of it is due
pub record IsLiveRunOf (bytes text : List ℕ) : Type 0 where
  pub plan : LivePlan
  pub parses : ParsesLive bytes plan
  pub ran : IsTextOf plan text

-- line n of these bytes is the first that is in no live input, and a line that says so is due
pub record IsLiveRefusalOf (bytes : List ℕ) (n : ℕ) (text : List ℕ) : Type 0 where
  pub bad : IsBadLiveLine bytes n
  pub text_is : text ≡ bad_line n

-- a text of what came of the plan of a chain: of this run, which is right of it
pub record IsTextOfChain (plan : ChainPlan) (text : List ℕ) : Type 0 where
  pub run : ChainRun
  pub lawful : ChainLawful plan run
  pub text_is : text ≡ chain_text run.head.told run.middle.told run.tail.told plan.entries

-- these bytes are the input of a chain, and the text of a run of it is due
pub record IsChainRunOf (bytes text : List ℕ) : Type 0 where
  pub plan : ChainPlan
  pub parses : ParsesChain bytes plan
  pub ran : IsTextOfChain plan text

-- line n of these bytes is the first that is in no input of a chain, and a line that says so is due
pub record IsChainRefusalOf (bytes : List ℕ) (n : ℕ) (text : List ℕ) : Type 0 where
  pub bad : IsBadChainLine bytes n
  pub text_is : text ≡ bad_line n

-- the text of a run of this form is due
abbrev pub IsRunOf : Form → List ℕ → List ℕ → Type 0
IsRunOf Live bytes text = IsLiveRunOf bytes text
IsRunOf Chain bytes text = IsChainRunOf bytes text

-- a line is due that says which is the first bad one
abbrev pub IsRefusalOf : Form → List ℕ → ℕ → List ℕ → Type 0
IsRefusalOf Live bytes n text = IsLiveRefusalOf bytes n text
IsRefusalOf Chain bytes n text = IsChainRefusalOf bytes n text

-- the text that is due for these bytes
abbrev pub IsDueFor : Form → List ℕ → List ℕ → Type 0
IsDueFor form bytes text = IsRunOf form bytes text ⊎ ((n : ℕ) × IsRefusalOf form bytes n text)

-- what the end of the program says, once the whole input was read: what the sink held before and holds afterwards, and
-- how many faults it had and has counted
abbrev pub EndsOnInput : Form → Exit → List ℕ → Option (List ℕ) → Option (List ℕ) → ℕ → ℕ → Type 0
EndsOnInput form Done bytes held held' faults faults' =
    (text : List ℕ) × IsRunOf form bytes text × Appends held held' text × (faults' ≡ faults)
EndsOnInput form (BadLine n) bytes held held' faults faults' =
    (text : List ℕ) × IsRefusalOf form bytes n text × Appends held held' text × (faults' ≡ faults)
EndsOnInput form WriteFault bytes held held' faults faults' =
    (text : List ℕ) × IsDueFor form bytes text × TookBeforeFault text held held' faults faults'
EndsOnInput form NoMemory bytes held held' faults faults' =
    (faults' ≡ faults) × (Keeps held held' ⊎ ((text : List ℕ) × IsDueFor form bytes text × TookFront text held held'))
EndsOnInput form other bytes held held' faults faults' = ⊥

-- how the program ends on these bytes where nothing fails: some live input is spelt so, or a line is the first bad one
abbrev pub IsEndOn : Form → List ℕ → Exit → Type 0
IsEndOn Live bytes Done = (plan : LivePlan) × ParsesLive bytes plan
IsEndOn Live bytes (BadLine n) = IsBadLiveLine bytes n
IsEndOn Chain bytes Done = (plan : ChainPlan) × ParsesChain bytes plan
IsEndOn Chain bytes (BadLine n) = IsBadChainLine bytes n
IsEndOn form bytes other = ⊥
