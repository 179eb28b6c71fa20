-- What the words of a call ask for.
use Rattle.std.specs.Prelude.{◌≡◌, ℕ, List, [], ◌∷◌, codes}
use Rattle.live_driver.specs.declared.form.Form.{Form}
use Rattle.live_driver.specs.declared.form.Form.TheVariants.{Live, Chain}

abbrev pub AskFor : Form → List (List ℕ) → Type 0
AskFor Live words = words ≡ codes "live" ∷ []
AskFor Chain words = words ≡ codes "chain" ∷ []

-- the words ask for a run
abbrev pub IsForm : List (List ℕ) → Type 0
IsForm words = (form : Form) × AskFor form words
