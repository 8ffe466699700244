-- The words behind a command's first, as `clap` takes them.
use Rattle.std.specs.Prelude.{Bool, true, false, List, [], ◌∷◌, Some, codes}
use Rattle.clap.specs.Simple.{on_top}
use Rattle.clap.specs.Words.{App, Rule, Text, new_app, new_rule, with_rule}
use Rattle.clap.specs.declared.builder.action.ArgAction.TheVariants.{SetTrue}
use Rattle.command_words.specs.declared.verbs.Kind.{Kind}
use Rattle.command_words.specs.declared.verbs.Kind.TheVariants as kind
use Rattle.command_words.specs.declared.verbs.Part.{Part}
use Rattle.command_words.specs.declared.verbs.Verb.{Verb}
use Rattle.command_words.specs.declared.verbs.Part.TheVariants as part
use Rattle.command_words.specs.Verbs.{kind_of, name_of, row_of}

-- a word that must be there, an option, which is given once at most, and a flag

abbrev pub needed_word : Text → Rule
needed_word name = record (new_rule name) { required = true }

abbrev pub option_word : Bool → Text → Rule
option_word needed name = record (new_rule name) { long = Some name; required = needed }

abbrev pub flag_word : Text → Rule
flag_word name = record (new_rule name) { long = Some name; action = Some SetTrue }

-- a command of `clap` whose words have no program's name before them
abbrev pub words_of : Text → App
words_of name = on_top (λ shape. record shape { no_binary_name = true }) (new_app name)

-- the rule of a part that is given so, under a name
abbrev pub rule_by : Kind → Text → Rule
rule_by kind.Word name = needed_word name
rule_by kind.Option name = option_word false name
rule_by kind.Needed name = option_word true name
rule_by kind.Flag name = flag_word name

abbrev pub rule_of : Part → Rule
rule_of part = rule_by (kind_of part) (name_of part)

-- a command with these parts more, in this order
abbrev pub with_parts : App → List Part → App
with_parts app [] = app
with_parts app (part ∷ parts) = with_parts (with_rule app (rule_of part)) parts

-- what `clap` takes behind the first word of a command
abbrev pub form_of : Verb → App
form_of verb = with_parts (words_of (row_of verb).0) (row_of verb).1

-- what it takes between `class` and `--files`
abbrev pub files_form : App
files_form =
    with_parts (words_of (codes "class")) (part.Lesson ∷ part.KeepGoing ∷ part.Page ∷ part.Midi ∷ part.TopFirst ∷ part.Legato ∷ [])
