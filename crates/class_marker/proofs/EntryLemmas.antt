-- The entry of the text of an exercise (`answer_entry`), and of a text at fault (`fault_entry`), also
-- of one that is too long (`long_entry`).
use Rattle.std.proofs.Common.{◌≡◌, ℕ, ◌<◌, List, [], Option, Result, Ok, Err, IfOk, true, length, nat_lt, inl, inr, ap, sym, subst, arith}
use Rattle.std.specs.Prelude.{if◌then◌else◌}
use Rattle.std.proofs.lemmas.Bool.Decides.{nat_tests}
use Rattle.fux_grid.specs.declared.exercise.Exercise.{Exercise}
use Rattle.fux_text.specs.Texts.{HasFault, IsTextOf}
use Rattle.text_faults.specs.declared.found.FoundFault.{FoundFault}
use Rattle.class_marker.specs.declared.entry.Entry.{Entry}
use Rattle.class_marker.specs.Entries.{ExplainsFaults, IsEntryOfExercise, IsEntryOfText, told_of}

module _ {E : Type 0} (lesson : Option Exercise) (name bytes : List ℕ) where
  pub answer_entry : (answer : Exercise) (result : Result Entry E) → IsTextOf bytes answer
      → ((other : Exercise) → IsTextOf bytes other → answer ≡ other)
      → IfOk result (IsEntryOfExercise lesson answer) → IfOk result (IsEntryOfText lesson name bytes)
  answer_entry answer (Ok entry) text only is =
      inl record { answer = answer; text = record { text = text; only = only }; is = is }
  answer_entry answer (Err fault) text only is = tt

  pub fault_entry : (first : FoundFault) (result : Result Entry E)
      → HasFault bytes first.kind first.line first.column → IfOk result (ExplainsFaults name (told_of bytes) first)
      → IfOk result (IsEntryOfText lesson name bytes)
  fault_entry first (Ok entry) has explains = inr record { first = first; fault = has; explains = explains }
  fault_entry first (Err fault) has explains = tt

  -- nothing is told of the lines of a text that is too long
  pub long_entry : (first : FoundFault) (result : Result Entry E)
      → HasFault bytes first.kind first.line first.column → 65536 < length bytes
      → IfOk result (ExplainsFaults name [] first) → IfOk result (IsEntryOfText lesson name bytes)
  long_entry first result has long explains =
      let test : nat_lt 65536 (length bytes) ≡ true = grind (arith, nat_tests) in
      let none : told_of bytes ≡ [] = ap (λ b. if b then [] else bytes) test in
      fault_entry first result has
      (subst (λ told. IfOk result (ExplainsFaults name told first)) (sym none) explains)
