-- What a reader answers, from what reading gives.
use Rattle.std.proofs.Common.{◌≡◌, ℕ, ◌⊎◌, inl, inr, Result, Ok, Err, refl, ap, subst, arith}
use Rattle.std.specs.Prelude.{IfOk, MatchResult}
use Rattle.fux_text.specs.declared.fault.TextKind.{TextKind}
use Rattle.text_lines.specs.declared.fault.TextFault.{TextFault}
use Rattle.text_lines.specs.declared.fault.TextFault.TheVariants as faults
use Rattle.text_lines.specs.Faults.{Fault, Gives}

pub given-both : {A : Type 0} (r : Result A (TextFault TextKind)) (read : Result A (Fault TextKind)) (Q P : A → Type 0)
    → Gives (λ x. x) r read
    → ((x : A) → read ≡ Ok x → Q x) → ((x : A) → read ≡ Ok x → P x) → IfOk r (λ x. Q x × P x)
given-both (Ok x) read Q P h g f = (g x h, f x h)
given-both (Err e) read Q P h g f = tt

pub given-fault : {A : Type 0} (r : Result A (TextFault TextKind)) (read : Result A (Fault TextKind)) (kind : TextKind) (line column : ℕ)
    → r ≡ Err (faults.At kind line column) → Gives (λ x. x) r read
    → read ≡ Err (record { kind = kind; line = line; column = column })
given-fault {A = A} r read kind line column e h = subst (λ (s : Result A (TextFault TextKind)). Gives (λ x. x) s read) e h

pub given-only : {A : Type 0} (r : Result A (TextFault TextKind)) (read : Result A (Fault TextKind)) (x : A) → read ≡ Ok x
    → Gives (λ y. y) r read
    → MatchResult r (λ found. found ≡ x) (λ fault. fault ≡ faults.Memory)
given-only (Ok y) read x e h = grind (arith, e, h)
given-only (Err faults.Memory) read x e h = refl
given-only (Err (faults.At kind line column)) read x e h = grind (arith, e, h)

same_fault : {A : Type 0} (f g : Fault TextKind) (read : Result A (Fault TextKind)) → read ≡ Err f → read ≡ Err g → f ≡ g
same_fault f g read d e = grind (arith, d, e)

pub given-first : {A : Type 0} (r : Result A (TextFault TextKind)) (read : Result A (Fault TextKind)) (kind : TextKind) (line column : ℕ)
    → read ≡ Err (record { kind = kind; line = line; column = column }) → Gives (λ y. y) r read
    → MatchResult r (λ _. ⊥) (λ fault. (fault ≡ faults.At kind line column) ⊎ (fault ≡ faults.Memory))
given-first (Ok y) read kind line column e h = absurd (grind (arith, e, h))
given-first (Err faults.Memory) read kind line column e h = inr refl
given-first (Err (faults.At k l c)) read kind line column e h =
    let same = same_fault (record { kind = k; line = l; column = c })
    (record { kind = kind; line = line; column = column }) read h e in
    inl (ap (λ f. faults.At f.kind f.line f.column) same)
