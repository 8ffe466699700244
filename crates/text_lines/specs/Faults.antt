-- The place of a fault, reading as a chain of steps of which the first fault counts, and what a
-- reader answers.
use Rattle.std.specs.Prelude.{◌≡◌, ℕ, Result, Ok, Err}
use Rattle.text_lines.specs.declared.fault.TextFault.{TextFault}
use Rattle.text_lines.specs.declared.fault.TextFault.TheVariants as faults

-- what is wrong, by a kind that the format names, in which line and at which byte of it, both
-- counted from 1
pub record Fault (K : Type 0) : Type 0 where
  pub kind : K
  pub line : ℕ
  pub column : ℕ

-- the answer that names a fault
abbrev pub told : {K : Type 0} → Fault K → TextFault K
told f = faults.At f.kind f.line f.column

-- one step of reading after another
infixl 10 ◌>>=◌
abbrev pub ◌>>=◌ : {A B E : Type 0} → Result A E → (A → Result B E) → Result B E
(Ok x) >>= f = f x
(Err e) >>= f = Err e

-- reading ends with this fault, or memory ran out
abbrev pub Fails : {K Y : Type 0} → TextFault K → Result Y (Fault K) → Type 0
Fails faults.Memory read = Unit {0}
Fails (faults.At kind line column) read = read ≡ Err (record { kind = kind; line = line; column = column })

-- what a reader answers, seen by `view`, is what reading gives, unless memory ran out
abbrev pub Gives : {K X Y : Type 0} → (X → Y) → Result X (TextFault K) → Result Y (Fault K) → Type 0
Gives view (Ok x) read = read ≡ Ok (view x)
Gives view (Err e) read = Fails e read
