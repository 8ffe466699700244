-- What is told behind a head of the second form, of the first line that isn't owed or of the first
-- entry that isn't true, is told of one list of entries (`one_stated`); nothing is, where what is
-- stated is whole and true.
use Rattle.std.proofs.Common.{◌≡◌, ℕ, ◌+◌, ◌<◌, ◌≤◌, ◌⊎◌, inl, inr, ⊎_elim, Bool, true, false, nat_lt, true≢false, List, ◌++◌, Option, None, Some, length, refl, sym, ap, subst, ◌∙◌, arith}
use Rattle.std.specs.Prelude.{if◌then◌else◌}
use Rattle.std.proofs.lemmas.Bool.{cases_lt}
use Rattle.std.proofs.lemmas.Bool.Decides.{nat_tests}
use Rattle.std.specs.List.{AllByRecursion, flat_map}
use Rattle.cert_file.specs.Readings.{IsUnendedLine, IsWrongLine, Stated, longest_certificate}
use Rattle.cert_file.specs.declared.verdict.Verdict.{Verdict}
use Rattle.cert_file.specs.declared.verdict.Verdict.TheVariants as verdicts
use Rattle.cert_file.proofs.StatedTexts.{HasNoPotential, owed_not_unended, owed_not_wrong, same_entries, wrong_not_unended}
use Rattle.cert_law.specs.Entries.{AreTrueEntries, IsFirstFalse, IsTrueEntry, entry_count}
use Rattle.cert_text.specs.declared.answers.CertFault.TheVariants.{CertWord, CertEnd}
use Rattle.cert_text.specs.declared.answers.Why.TheVariants as whys
use Rattle.cert_text.specs.declared.potential.Potential.{Potential}
use Rattle.cert_text.specs.Potentials.{IsPotential, last_line, potential_line}
use Rattle.fux_grid.specs.declared.exercise.Exercise.{Exercise}
use Rattle.penalty_sheet.specs.declared.sheet.Sheet.{Sheet}

-- ---- the line behind entries

-- the line `claims`, one that isn't owed, or one that isn't ended, if any
pub data EntryLine : Type 0 where
  Last : EntryLine
  NotOwed : EntryLine
  NotEnded : EntryLine

-- where an entry's line is owed, or the line `claims`
abbrev pub IsEntryLine : Bool → List ℕ → EntryLine → Type 0
IsEntryLine b later Last = (b ≡ false) × ((behind : List ℕ) × (later ≡ last_line ++ behind))
IsEntryLine b later NotOwed = IsWrongLine (Stated b) later
IsEntryLine b later NotEnded = IsUnendedLine (Stated b) later

last_not_wrong : (b : Bool) (later : List ℕ) → IsEntryLine b later Last → IsWrongLine (Stated b) later → ⊥
last_not_wrong b later last wrong =
    owed_not_wrong false last_line last.1.0 refl
    (subst (λ c. IsWrongLine (Stated c) (last_line ++ last.1.0)) last.0
    (subst (λ xs. IsWrongLine (Stated b) xs) last.1.1 wrong))

last_not_unended : (b : Bool) (later : List ℕ) → IsEntryLine b later Last → IsUnendedLine (Stated b) later → ⊥
last_not_unended b later last begun =
    owed_not_unended false last_line last.1.0 refl
    (subst (λ c. IsUnendedLine (Stated c) (last_line ++ last.1.0)) last.0
    (subst (λ xs. IsUnendedLine (Stated b) xs) last.1.1 begun))

one_entry_line : (b : Bool) (later : List ℕ) (l m : EntryLine) → IsEntryLine b later l → IsEntryLine b later m → l ≡ m
one_entry_line b later Last Last p q = refl
one_entry_line b later Last NotOwed p q = absurd (last_not_wrong b later p q)
one_entry_line b later Last NotEnded p q = absurd (last_not_unended b later p q)
one_entry_line b later NotOwed Last p q = absurd (last_not_wrong b later q p)
one_entry_line b later NotOwed NotOwed p q = refl
one_entry_line b later NotOwed NotEnded p q = absurd (wrong_not_unended (Stated b) later p q)
one_entry_line b later NotEnded Last p q = absurd (last_not_unended b later q p)
one_entry_line b later NotEnded NotOwed p q = absurd (wrong_not_unended (Stated b) later q p)
one_entry_line b later NotEnded NotEnded p q = refl

-- it is no entry's, where one is owed
no_potential : (b : Bool) (later : List ℕ) (line : EntryLine) → IsEntryLine b later line → b ≡ true
    → HasNoPotential later
no_potential b later Last last owes p more fits is = true≢false (sym owes ∙ last.0)
no_potential b later NotOwed wrong owes p more fits is =
    owed_not_wrong true (potential_line p) more (p, fits, refl)
    (subst (λ c. IsWrongLine (Stated c) (potential_line p ++ more)) owes
    (subst (λ xs. IsWrongLine (Stated b) xs) is wrong))
no_potential b later NotEnded begun owes p more fits is =
    owed_not_unended true (potential_line p) more (p, fits, refl)
    (subst (λ c. IsUnendedLine (Stated c) (potential_line p ++ more)) owes
    (subst (λ xs. IsUnendedLine (Stated b) xs) is begun))

-- ---- the first entry that isn't true

same_first : (ex : Exercise) (sheet : Sheet) (es : List Potential) (n m : ℕ) → IsFirstFalse ex sheet es n
    → IsFirstFalse ex sheet es m → n ≡ m
same_first ex sheet es n m p q = ⊎_elim
    (λ less. absurd (p.untrue (q.before n less)))
    (λ more. ⊎_elim (λ less. absurd (q.untrue (p.before m less))) (λ also. omega (arith, more, also)) (cases_lt m n))
    (cases_lt n m)

true_entry : (ex : Exercise) (sheet : Sheet) (es : List Potential) (n : ℕ) → AreTrueEntries ex sheet es
    → IsTrueEntry ex sheet es n
true_entry ex sheet es n are = record {
  start = λ e. are.start;
  each = λ i k e below within. are.each i k below within;
  last = λ i k e below within. are.last i k below within;
}

-- ---- the verdict by it, where it is refused

module _ (ex : Exercise) (sheet : Sheet) (more : Bool) where
  -- an entry isn't true
  pub record UntrueTold (es : List Potential) (it : Option Verdict) : Type 0 where
    pub before : ℕ
    pub first : IsFirstFalse ex sheet es before
    pub told : it ≡ Some (verdicts.Claim (record { number = before + 1; why = whys.Potential }))

  -- each is true, and nothing is refused
  pub record TrueTold (es : List Potential) (it : Option Verdict) : Type 0 where
    pub entries : AreTrueEntries ex sheet es
    pub told : it ≡ None

  abbrev pub EntryTold : EntryLine → List Potential → ℕ → Option Verdict → Type 0
  EntryTold Last es place it = UntrueTold es it ⊎ TrueTold es it
  EntryTold NotOwed es place it = it ≡ Some (verdicts.Text (CertWord place))
  EntryTold NotEnded es place it = it ≡ Some (verdicts.Text (CertEnd (if more then longest_certificate else place)))

  -- behind these entries stands such a line, and the verdict is told of it
  pub record Ends (place : ℕ) (es : List Potential) (later : List ℕ) (it : Option Verdict) : Type 0 where
    pub line : EntryLine
    pub is : IsEntryLine (nat_lt (length es) (entry_count ex)) later line
    pub told : EntryTold line es (place + length (flat_map potential_line es)) it

  pub record IsStatedTold (place : ℕ) (rest : List ℕ) (it : Option Verdict) : Type 0 where
    pub entries : List Potential
    pub few : length entries ≤ entry_count ex
    pub fits : AllByRecursion IsPotential entries
    pub later : List ℕ
    pub is : rest ≡ flat_map potential_line entries ++ later
    pub ends : Ends place entries later it

  one_last : (es : List Potential) (it other : Option Verdict) → UntrueTold es it ⊎ TrueTold es it
      → UntrueTold es other ⊎ TrueTold es other → it ≡ other
  one_last es it other (inl p) (inl q) =
      p.told ∙ ap (λ n. Some (verdicts.Claim (record { number = n + 1; why = whys.Potential })))
      (same_first ex sheet es p.before q.before p.first q.first) ∙ sym q.told
  one_last es it other (inl p) (inr q) = absurd (p.first.untrue (true_entry ex sheet es p.before q.entries))
  one_last es it other (inr p) (inl q) = absurd (q.first.untrue (true_entry ex sheet es q.before p.entries))
  one_last es it other (inr p) (inr q) = p.told ∙ sym q.told

  one_entry_told : (line : EntryLine) (es : List Potential) (place : ℕ) (it other : Option Verdict)
      → EntryTold line es place it → EntryTold line es place other → it ≡ other
  one_entry_told Last es place it other p q = one_last es it other p q
  one_entry_told NotOwed es place it other p q = p ∙ sym q
  one_entry_told NotEnded es place it other p q = p ∙ sym q

  one_end : (place : ℕ) (es : List Potential) (later : List ℕ) (it other : Option Verdict) → Ends place es later it
      → Ends place es later other → it ≡ other
  one_end place es later it other p q =
      let n = place + length (flat_map potential_line es) in
      one_entry_told p.line es n it other p.told
      (subst (λ (line : EntryLine). EntryTold line es n other) (one_entry_line _ later q.line p.line q.is p.is)
      q.told)

  pub one_stated : (place : ℕ) (rest : List ℕ) (it other : Option Verdict) → IsStatedTold place rest it
      → IsStatedTold place rest other → it ≡ other
  one_stated place rest it other p q =
      let owes : (n : ℕ) → 0 + n < entry_count ex → nat_lt n (entry_count ex) ≡ true =
      λ n less. grind (arith, nat_tests) in
      let same = same_entries (entry_count ex) 0 q.entries p.entries q.later p.later q.fits p.fits
      (omega (arith, q.few)) (omega (arith, p.few))
      (λ less. no_potential _ q.later q.ends.line q.ends.is (owes (length q.entries) less))
      (λ less. no_potential _ p.later p.ends.line p.ends.is (owes (length p.entries) less)) (sym q.is ∙ p.is) in
      one_end place p.entries p.later it other p.ends
      (subst (λ xs. Ends place p.entries xs other) same.1
      (subst (λ es. Ends place es q.later other) same.0 q.ends))
