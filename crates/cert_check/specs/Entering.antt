-- How what a certificate states is taken as it is read.
use Rattle.std.specs.Prelude.{◌≡◌, ℕ, List, Result, Ok, Err}
use Rattle.cert_check.specs.declared.stated.CloseFault.{CloseFault}
use Rattle.cert_check.specs.declared.stated.CloseFault.TheVariants as closing
use Rattle.cert_check.specs.declared.checking.CheckFault.{CheckFault}
use Rattle.cert_check.specs.declared.checking.CheckFault.TheVariants as check
use Rattle.cert_check.specs.Settings.{HasStatedFault}
use Rattle.cert_check.specs.Starts.{IsEntered, IsStatedWhole}
use Rattle.cert_check.specs.Stating.{Stating}
use Rattle.cert_file.specs.declared.fault.ReadFault.{ReadFault}
use Rattle.cert_file.specs.declared.fault.ReadFault.TheVariants.{Unreadable, Text}
use Rattle.cert_file.specs.declared.verdict.Verdict.{Verdict}
use Rattle.cert_file.specs.declared.verdict.Verdict.TheVariants as verdict
use Rattle.cert_file.specs.Readings.{Files, MayBe}
use Rattle.cert_file.specs.StatedReadings.{StatedReading}

-- a reader stands behind the entries that were stated
abbrev pub IsEnteredInto : Files → List ℕ → Stating → StatedReading → Type 0
IsEnteredInto files name s reader = IsEntered s.exercise files name s.head s.entries reader

-- only entries were stated since
abbrev pub HasStated : Stating → Stating → Type 0
HasStated old new = new ≡ record old { entries = new.entries }

-- what is taken: all that is stated; or a read failed, or the text has a fault there
abbrev pub Enters : Files → List ℕ → Type 0 → Stating → Stating → StatedReading → Result (Unit {0}) ReadFault → Type 0
Enters files name rose old new after (Ok done) =
    HasStated old new × IsStatedWhole old.exercise files name old.head new.entries after
Enters files name rose old new after (Err Unreadable) = rose
Enters files name rose old new after (Err (Text fault)) =
    MayBe files name (HasStatedFault old.exercise old.sheet old.head fault)

-- the answer where an entry isn't true
abbrev pub unclosed : CloseFault → Result Verdict CheckFault
unclosed (closing.Refused refused) = Ok (verdict.Claim refused)
unclosed closing.Memory = Err check.Memory
