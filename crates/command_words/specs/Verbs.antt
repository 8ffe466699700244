-- The table of the commands: the first word of each, and what it takes behind that.
use Rattle.std.specs.Prelude.{Bool, List, [], ◌∷◌, Option, codes}
use Rattle.std.specs.List.{find}
use Rattle.std.specs.Str.{bytes_eq}
use Rattle.clap.specs.Words.{Text}
use Rattle.command_words.specs.declared.verbs.Kind.{Kind}
use Rattle.command_words.specs.declared.verbs.Kind.TheVariants as kind
use Rattle.command_words.specs.declared.verbs.Part.{Part}
use Rattle.command_words.specs.declared.verbs.Part.TheVariants as part
use Rattle.command_words.specs.declared.verbs.Verb.{Verb}
use Rattle.command_words.specs.declared.verbs.Verb.TheVariants as verb

-- all commands
abbrev pub verbs : List Verb
verbs =
    verb.Compose ∷ verb.Best ∷ verb.Certify ∷ verb.Check ∷ verb.Mark ∷ verb.Explain ∷ verb.Cantus ∷ verb.Print ∷ verb.ToSmf
    ∷ verb.FromSmf ∷ verb.JoinSmf ∷ verb.Drill ∷ verb.Class ∷ verb.Canon ∷ verb.Mixed ∷ verb.MarkMixed ∷ verb.Weigh ∷ verb.ToXml
    ∷ verb.MarkXml ∷ verb.Picture ∷ verb.MarkPicture ∷ verb.NewCantus ∷ verb.CertCantus
    ∷ verb.CheckCantus ∷ []

-- the row of a command: its first word, and what it takes behind that
abbrev pub row_of : Verb → Text × List Part
row_of verb.Compose = (codes "compose", part.Exercise ∷ part.Sheet ∷ part.Budget ∷ part.Nth ∷ [])
row_of verb.Best = (codes "best", part.Exercise ∷ part.Sheet ∷ part.Budget ∷ [])
row_of verb.Certify = (codes "certify", part.Exercise ∷ part.Sheet ∷ part.Budget ∷ part.Form ∷ [])
row_of verb.Check = (codes "check", part.Exercise ∷ part.Certificate ∷ part.Sheet ∷ [])
row_of verb.Mark = (codes "mark", part.Exercise ∷ part.Lesson ∷ [])
row_of verb.Explain = (codes "explain", part.File ∷ part.MayWith ∷ part.CantusAlone ∷ [])
row_of verb.Cantus = (codes "cantus", part.Exercise ∷ part.Sheet ∷ [])
row_of verb.Print = (codes "print", part.Exercise ∷ part.Wrap ∷ [])
row_of verb.ToSmf = (codes "tosmf", part.Exercise ∷ [])
row_of verb.FromSmf = (codes "fromsmf", part.File ∷ part.Mode ∷ part.Species ∷ part.Voice ∷ part.Cantus ∷ part.TopFirst ∷ [])
row_of verb.JoinSmf = (codes "joinsmf", part.Lessons ∷ part.File ∷ part.TopFirst ∷ part.Legato ∷ [])
row_of verb.Drill = (codes "drill", part.Number ∷ part.BySharper ∷ [])
row_of verb.Class = (codes "class", part.List ∷ part.Lesson ∷ part.KeepGoing ∷ part.Page ∷ part.Midi ∷ part.TopFirst ∷ part.Legato ∷ [])
row_of verb.Canon = (codes "canon", part.File ∷ part.Sheet ∷ part.Budget ∷ part.Nth ∷ [])
row_of verb.Mixed = (codes "mixed", part.Exercise ∷ part.Sheet ∷ part.Budget ∷ part.With ∷ part.BySharper ∷ [])
row_of verb.MarkMixed = (codes "markmixed", part.Exercise ∷ part.With ∷ [])
row_of verb.Weigh = (codes "weigh", part.Exercise ∷ part.Sheet ∷ part.Budget ∷ part.MayWith ∷ part.Against ∷ [])
row_of verb.ToXml = (codes "toxml", part.Exercise ∷ [])
row_of verb.MarkXml = (codes "markxml", part.Exercise ∷ part.MayWith ∷ [])
row_of verb.Picture = (codes "picture", part.Exercise ∷ part.Sheet ∷ part.Penalty ∷ [])
row_of verb.MarkPicture = (codes "markpicture", part.Exercise ∷ part.MayWith ∷ [])
row_of verb.NewCantus = (codes "newcantus", part.InMode ∷ part.Bars ∷ part.Low ∷ part.High ∷ part.Sheet ∷ part.Budget ∷ part.Nth ∷ [])
row_of verb.CertCantus = (codes "certcantus", part.InMode ∷ part.Bars ∷ part.Low ∷ part.High ∷ part.Sheet ∷ part.Budget ∷ [])
row_of verb.CheckCantus = (codes "checkcantus", part.InMode ∷ part.Bars ∷ part.Low ∷ part.High ∷ part.Certificate ∷ part.Sheet ∷ [])

-- the name of a part, which the words have behind two hyphens where it is an option or a flag
abbrev pub name_of : Part → Text
name_of part.Exercise = codes "EX"
name_of part.Lessons = codes "LESSON"
name_of part.File = codes "FILE"
name_of part.Certificate = codes "CERT"
name_of part.List = codes "LIST"
name_of part.Number = codes "N"
name_of part.InMode = codes "MODE"
name_of part.Bars = codes "BARS"
name_of part.Low = codes "LOW"
name_of part.High = codes "HIGH"
name_of part.Sheet = codes "sheet"
name_of part.Budget = codes "budget"
name_of part.Nth = codes "nth"
name_of part.Form = codes "form"
name_of part.With = codes "with"
name_of part.MayWith = codes "with"
name_of part.CantusAlone = codes "cantus"
name_of part.Against = codes "against"
name_of part.Wrap = codes "wrap"
name_of part.Penalty = codes "penalty"
name_of part.Lesson = codes "lesson"
name_of part.KeepGoing = codes "keep-going"
name_of part.Page = codes "page"
name_of part.Midi = codes "midi"
name_of part.Mode = codes "mode"
name_of part.Species = codes "species"
name_of part.Voice = codes "voice"
name_of part.Cantus = codes "cantus"
name_of part.TopFirst = codes "top-first"
name_of part.Legato = codes "legato"
name_of part.BySharper = codes "best"

-- how a part is given
abbrev pub kind_of : Part → Kind
kind_of part.Exercise = kind.Word
kind_of part.Lessons = kind.Word
kind_of part.File = kind.Word
kind_of part.Certificate = kind.Word
kind_of part.List = kind.Word
kind_of part.Number = kind.Word
kind_of part.InMode = kind.Word
kind_of part.Bars = kind.Word
kind_of part.Low = kind.Word
kind_of part.High = kind.Word
kind_of part.Sheet = kind.Option
kind_of part.Budget = kind.Option
kind_of part.Nth = kind.Option
kind_of part.Form = kind.Option
kind_of part.With = kind.Needed
kind_of part.MayWith = kind.Option
kind_of part.CantusAlone = kind.Flag
kind_of part.Against = kind.Option
kind_of part.Wrap = kind.Option
kind_of part.Penalty = kind.Flag
kind_of part.Lesson = kind.Option
kind_of part.KeepGoing = kind.Flag
kind_of part.Page = kind.Flag
kind_of part.Midi = kind.Flag
kind_of part.Mode = kind.Needed
kind_of part.Species = kind.Needed
kind_of part.Voice = kind.Needed
kind_of part.Cantus = kind.Needed
kind_of part.TopFirst = kind.Flag
kind_of part.Legato = kind.Flag
kind_of part.BySharper = kind.Flag

-- a word is the first of a command
abbrev pub has_word : Text → Verb → Bool
has_word word verb = bytes_eq word (row_of verb).0

-- the command of a first word, if there is one
abbrev pub verb_named : Text → Option Verb
verb_named word = find (has_word word) verbs
