-- How a word is to be written.
use Rattle.std.specs.Prelude.{ℕ, ◌==◌, Bool, List, [], ◌++◌, codes, map}
use Rattle.std.specs.Char.{to_ascii_lowercase}
use Rattle.std.specs.List.{after_first, before_first}
use Rattle.fux_text.specs.Sing.{is_colon}
use Rattle.text_lines.specs.Words.{is_blank}
use Rattle.text_faults.specs.declared.shown.Form.{Form}
use Rattle.text_faults.specs.declared.shown.Form.TheVariants as form

-- a sentence, and the form of the word that stands behind it
abbrev pub Sentence : Type 0
Sentence = List ℕ × Form

abbrev pub is_bar : ℕ → Bool
is_bar b = b == 124

abbrev pub is_comma : ℕ → Bool
is_comma b = b == 44

-- what stands before its colon
abbrev pub name_in : List ℕ → List ℕ
name_in word = before_first is_colon word

-- a word in a form, where this stands from it on: nothing; in small letters; its name alone, or
-- with the length of a whole bar or a half; what stands before its comma; with the word behind it;
-- and with blanks at both sides of its bar line
abbrev pub shown_as : Form → List ℕ → List ℕ → List ℕ
shown_as form.Nothing here word = []
shown_as form.Small here word = map to_ascii_lowercase word
shown_as form.Name here word = name_in word
shown_as form.Whole here word = name_in word ++ codes ":8"
shown_as form.Half here word = name_in word ++ codes ":4"
shown_as form.Single here word = before_first is_comma word
shown_as form.Joined here word = word ++ before_first is_blank (after_first is_blank here)
shown_as form.Apart here word = before_first is_bar word ++ codes " | " ++ after_first is_bar word

-- a sentence with the word in its form
unfoldable pub said : Sentence → List ℕ → List ℕ → List ℕ
said sentence here word = sentence.0 ++ shown_as sentence.1 here word
