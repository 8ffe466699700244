-- The head at the front of a cantus certificate's file.
use Rattle.std.specs.Prelude.{◌≡◌, ℕ, ◌⊎◌, List, Result, Ok, Err}
use Rattle.cert_file.specs.Readings.{Files, MayBe, Reading}
use Rattle.cert_file.specs.declared.fault.ReadFault.{ReadFault}
use Rattle.cert_file.specs.declared.fault.ReadFault.TheVariants.{Unreadable, Text}
use Rattle.cert_text.specs.declared.answers.CertFault.TheVariants as fault
use Rattle.cantus_check.specs.declared.head.CantusHead.{CantusHead}
use Rattle.cert_text.specs.Pieces.{GoesTo}
use Rattle.cantus_check.specs.Heads.{IsHeadText}
use Rattle.cert_file.specs.Subjects.{IsOpened}
use Rattle.fux_port.specs.Files.{IsMissing}

-- how the reading of a file starts: behind its head; or where a head stops, or a read failed
abbrev pub Starts : Files → List ℕ → Type 0 → Result (CantusHead × Reading) ReadFault → Type 0
Starts files name rose (Ok found) = IsOpened IsHeadText files name found.0.best found.1
Starts files name rose (Err Unreadable) = rose ⊎ IsMissing files name
Starts files name rose (Err (Text (fault.CertHead at))) = MayBe files name (λ bytes. GoesTo IsHeadText bytes at)
Starts files name rose (Err (Text fault.Memory)) = Unit {0}
Starts files name rose (Err (Text fault)) = ⊥

-- nothing was read: there is no file, or there was not enough memory
abbrev pub IsUnread : Result (CantusHead × Reading) ReadFault → Type 0
IsUnread result = (result ≡ Err Unreadable) ⊎ (result ≡ Err (Text fault.Memory))
