use Rattle.std.proofs.Common.{◌≡◌, ◌-◌, drop}
use Rattle.std.specs.List.{list_any}
use Rattle.std.specs.Str.{bytes_eq}
use Rattle.penalty_sheet.specs.Sheets.{is_toll_key, toll_keys}
use Rattle.penalty_sheet.proofs.entries.is_toll_key.Given as goal

-- the key is among those that are left, if it is a toll's
abbrev pub invariant-loop-toll : goal.invariant-loop-toll
invariant-loop-toll l = list_any (λ name. bytes_eq name l.key) (drop (l.toll - 1) toll_keys) ≡ is_toll_key l.key
