-- Lines of bytes: a line ends with LF, and has no other LF in it. Its first word ends before its first space.
use Rattle.std.specs.Prelude.{◌≡◌, ◌≢◌, ℕ, List, [], ◌∷◌, ◌++◌, All}
use Rattle.script_lang.specs.Number.{BeginsNo}

-- the text and its end
abbrev pub line : List ℕ → List ℕ
line text = text ++ 10 ∷ []

abbrev pub HasNoEnd : List ℕ → Type 0
HasNoEnd text = All (λ byte. byte ≢ 10) text

-- the bytes are a line of this text, and then the rest
pub record IsCut (bytes text rest : List ℕ) : Type 0 where
  pub whole : bytes ≡ line text ++ rest
  pub text_has_no_end : HasNoEnd text

abbrev pub HasNoSpace : List ℕ → Type 0
HasNoSpace text = All (λ byte. byte ≢ 32) text

-- the text is its first word, and then nothing or a space and the rest
pub record IsWordCut (text word rest : List ℕ) : Type 0 where
  pub whole : text ≡ word ++ rest
  pub word_has_no_space : HasNoSpace word
  pub ends : BeginsNo (λ byte. byte ≢ 32) rest
