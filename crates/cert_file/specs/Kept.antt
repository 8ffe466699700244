-- Lines that are kept while they are counted.
use Rattle.std.specs.Prelude.{◌≡◌, ℕ, true, List, string_bytes}
use Rattle.cert_file.specs.declared.kept.KeptLines.{KeptLines}

-- where all lines are kept, they are these
abbrev pub KeepsAll : KeptLines → List ℕ → Type 0
KeepsAll kept lines = kept.are_all ≡ true → string_bytes kept.text ≡ lines
