use Rattle.std.proofs.Common.{ap, sym}
use Rattle.command_words.specs.Verbs.{name_of}
use Rattle.command_words.proofs.verbs.Part.name.Goals as goal

pub returns-in-Exercise : goal.returns-in-Exercise
returns-in-Exercise c = ap name_of (sym c.in-Exercise.is)

pub returns-in-Lessons : goal.returns-in-Lessons
returns-in-Lessons c = ap name_of (sym c.in-Lessons.is)

pub returns-in-File : goal.returns-in-File
returns-in-File c = ap name_of (sym c.in-File.is)

pub returns-in-Certificate : goal.returns-in-Certificate
returns-in-Certificate c = ap name_of (sym c.in-Certificate.is)

pub returns-in-List : goal.returns-in-List
returns-in-List c = ap name_of (sym c.in-List.is)

pub returns-in-Number : goal.returns-in-Number
returns-in-Number c = ap name_of (sym c.in-Number.is)

pub returns-in-InMode : goal.returns-in-InMode
returns-in-InMode c = ap name_of (sym c.in-InMode.is)

pub returns-in-Bars : goal.returns-in-Bars
returns-in-Bars c = ap name_of (sym c.in-Bars.is)

pub returns-in-Low : goal.returns-in-Low
returns-in-Low c = ap name_of (sym c.in-Low.is)

pub returns-in-High : goal.returns-in-High
returns-in-High c = ap name_of (sym c.in-High.is)

pub returns-in-Sheet : goal.returns-in-Sheet
returns-in-Sheet c = ap name_of (sym c.in-Sheet.is)

pub returns-in-Budget : goal.returns-in-Budget
returns-in-Budget c = ap name_of (sym c.in-Budget.is)

pub returns-in-Nth : goal.returns-in-Nth
returns-in-Nth c = ap name_of (sym c.in-Nth.is)

pub returns-in-Form : goal.returns-in-Form
returns-in-Form c = ap name_of (sym c.in-Form.is)

pub returns-in-Against : goal.returns-in-Against
returns-in-Against c = ap name_of (sym c.in-Against.is)

pub returns-in-Wrap : goal.returns-in-Wrap
returns-in-Wrap c = ap name_of (sym c.in-Wrap.is)

pub returns-in-Penalty : goal.returns-in-Penalty
returns-in-Penalty c = ap name_of (sym c.in-Penalty.is)

pub returns-in-Lesson : goal.returns-in-Lesson
returns-in-Lesson c = ap name_of (sym c.in-Lesson.is)

pub returns-in-KeepGoing : goal.returns-in-KeepGoing
returns-in-KeepGoing c = ap name_of (sym c.in-KeepGoing.is)

pub returns-in-Page : goal.returns-in-Page
returns-in-Page c = ap name_of (sym c.in-Page.is)

pub returns-in-Midi : goal.returns-in-Midi
returns-in-Midi c = ap name_of (sym c.in-Midi.is)

pub returns-in-Mode : goal.returns-in-Mode
returns-in-Mode c = ap name_of (sym c.in-Mode.is)

pub returns-in-Species : goal.returns-in-Species
returns-in-Species c = ap name_of (sym c.in-Species.is)

pub returns-in-Voice : goal.returns-in-Voice
returns-in-Voice c = ap name_of (sym c.in-Voice.is)

pub returns-in-TopFirst : goal.returns-in-TopFirst
returns-in-TopFirst c = ap name_of (sym c.in-TopFirst.is)

pub returns-in-Legato : goal.returns-in-Legato
returns-in-Legato c = ap name_of (sym c.in-Legato.is)

pub returns-in-BySharper : goal.returns-in-BySharper
returns-in-BySharper c = ap name_of (sym c.in-BySharper.is)
