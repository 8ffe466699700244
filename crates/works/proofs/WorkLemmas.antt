-- Work on files: another fact of it (`works_so`), and that no file was missing (`none_missing`).
use Rattle.std.proofs.Common.{◌≡◌, ℕ, zero, suc, ◌<◌, length, get_or, All, List, [], ◌∷◌, Contains, inl, inr, refl, ap, ◌∙◌, arith}
use Rattle.fux_port.specs.Files.{HasFile, IsMissing}
use Rattle.command_words.specs.Commands.{Task}
use Rattle.works.specs.TaskFiles.{names_in}
use Rattle.works.specs.Texts.{Work}
use Rattle.works.specs.Works.{AllHave, AllMayHave, Files, IsFirstMissing, MayHave, Works}

-- the work of which one fact holds, where another follows from it
pub works_so : (task : Task) (files : Files) (Holds Holds' : Work → Type 0) → ((work : Work) → Holds work → Holds' work)
    → Works task files Holds → Works task files Holds'
works_so task files Holds Holds' so on = record {
  bytes = on.bytes;
  had = on.had;
  work = on.work;
  made = on.made;
  holds = so on.work on.holds;
}

pub not_missing : (files : Files) (name bytes : List ℕ) → MayHave files name bytes → IsMissing files name → ⊥
not_missing files name bytes (inl untold) missing = cc (untold, missing)
not_missing files name bytes (inr has) missing = cc (has, missing)

-- a name that is neither the first nor among the others is none of them
in_neither : (first name : List ℕ) (names : List (List ℕ)) → (first ≡ name → ⊥) → (Contains names name → ⊥)
    → (k : ℕ) → k < length (first ∷ names) → get_or (first ∷ names) k name ≡ name → ⊥
in_neither first name names head tail zero within is = head is
in_neither first name names head tail (suc k) within is = tail (k, omega arith, is)

pub all_there : (files : Files) (names bytes : List (List ℕ)) (name : List ℕ) → AllMayHave files names bytes
    → Contains names name
    → IsMissing files name → ⊥
all_there files [] [] name had one missing = omega (arith, one.1)
all_there files [] (text ∷ more) name had one missing = absurd had
all_there files (first ∷ names) [] name had one missing = absurd had
all_there files (first ∷ names) (text ∷ more) name had one missing =
    in_neither first name names (λ is. not_missing files first text had.0 (rw is missing))
    (λ later. all_there files names more name had.1 later missing) one.0 one.1 one.2

-- no file that a command worked on was missing
pub none_missing : (task : Task) (files : Files) (Holds : Work → Type 0) (name : List ℕ) → Works task files Holds
    → Contains (names_in task) name → IsMissing files name → ⊥
none_missing task files Holds name on one missing = all_there files (names_in task) on.bytes name on.had one missing

-- the first missing name is missing
pub first_is_missing : (files : Files) (names : List (List ℕ)) (name : List ℕ) → IsFirstMissing files names name
    → IsMissing files name
first_is_missing files [] name first = absurd first
first_is_missing files (other ∷ names) name (inl here) = rw (← here.0) here.1
first_is_missing files (other ∷ names) name (inr later) = first_is_missing files names name later.1

there_at : (files : Files) (names bytes : List (List ℕ)) → AllHave files names bytes → (n : ℕ) (d : List ℕ)
    → n < length names → (file : List ℕ) × HasFile files (get_or names n d) file
there_at files [] [] have n d within = absurd (omega (arith, within))
there_at files [] (text ∷ more) have n d within = absurd have
there_at files (name ∷ names) [] have n d within = absurd have
there_at files (name ∷ names) (text ∷ more) have zero d within = (text, have.0)
there_at files (name ∷ names) (text ∷ more) have (suc n) d within =
    there_at files names more have.1 n d (omega (arith, within))

-- there is a file of each name whose file has these bytes
pub all_are_there : (files : Files) (names bytes : List (List ℕ)) → AllHave files names bytes
    → All (λ name. (file : List ℕ) × HasFile files name file) names
all_are_there files names bytes have = λ n d within. there_at files names bytes have n d within

only_text : (files : Files) (name text other : List ℕ) → HasFile files name text → MayHave files name other → other ≡ text
only_text files name text other has (inl untold) = cc (has, untold)
only_text files name text other has (inr its) = cc (has, its)

-- files that are told have no other bytes
pub only_bytes : (files : Files) (names bytes others : List (List ℕ)) → AllHave files names bytes
    → AllMayHave files names others → others ≡ bytes
only_bytes files [] [] [] have had = refl
only_bytes files [] [] (other ∷ others) have had = absurd had
only_bytes files [] (text ∷ more) others have had = absurd have
only_bytes files (name ∷ names) [] others have had = absurd have
only_bytes files (name ∷ names) (text ∷ more) [] have had = absurd had
only_bytes files (name ∷ names) (text ∷ more) (other ∷ others) have had =
    ap (λ t. t ∷ others) (only_text files name text other have.0 had.0)
    ∙ ap (λ ts. text ∷ ts) (only_bytes files names more others have.1 had.1)
