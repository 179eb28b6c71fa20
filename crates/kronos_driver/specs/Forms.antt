-- What the words of a call ask for.
use Rattle.std.specs.Prelude.{ℕ, List}
use Rattle.kronos_driver.specs.declared.form.Form.{Form}
use Rattle.kronos_driver.specs.declared.form.Form.TheVariants.{Script, Load, Import}
use Rattle.kronos_driver.specs.Ends.{AskForScript, AskForLoad, AskForImport}

abbrev pub AskFor : Form → List (List ℕ) → Type 0
AskFor Script words = AskForScript words
AskFor (Load rounds) words = AskForLoad rounds words
AskFor Import words = AskForImport words
