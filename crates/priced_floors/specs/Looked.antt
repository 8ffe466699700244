-- What is kept is the same where it is equal (`kept_same`), and the numbers by which it is looked up.
use Rattle.std.specs.Prelude.{◌≡◌, ℕ, ◌+◌, ◌*◌, ◌^◌, ◌==◌, ◌&&◌, Bool, true, List, ◌++◌, Option, Some, None, slice_index_or}
use Rattle.std.specs.Bool.{Decides}
use Rattle.std.specs.Cmp.{booleans_Decides}
use Rattle.std.specs.Cmp.Lexicographic.{pointwise}
use Rattle.std.specs.Hash as fed
use Rattle.std.specs.Option.{option_eq}
use Rattle.std.proofs.Common.{ap, sym, refl, ◌∙◌}
use Rattle.std.proofs.Math.Bool.{beq}
use Rattle.std.proofs.lemmas.Bool.Decides.{Decides-and, Decides-eqb, Decides-like}
use Rattle.std.proofs.lemmas.Slice.Eq.{slice_eq-Decides}
use Rattle.fux_pitch.specs.declared.pitch.Pitch.{Pitch}
use Rattle.fux_pitch.specs.Pitch.{degree_of, same_pitch}
use Rattle.open_ends.specs.declared.both.Both.{Both}
use Rattle.open_ends.specs.declared.cadences.OpenCadences.{OpenCadences}
use Rattle.open_ends.specs.declared.ligatures.OpenLigature.{OpenLigature}
use Rattle.open_ends.specs.declared.parallels.OpenParallels.{OpenParallels}
use Rattle.open_ends.specs.declared.passing.OpenPassing.{OpenPassing}
use Rattle.open_ends.specs.declared.runs.OpenRuns.{OpenRuns}
use Rattle.open_ends.specs.declared.runs.Run.{Run}
use Rattle.open_ends.specs.declared.shapes.OpenShapes.{OpenShapes}
use Rattle.open_ends.specs.declared.suspensions.OpenSuspensions.{OpenSuspensions}
use Rattle.open_ends.specs.BarRuns.{no_run}
use Rattle.open_ends.specs.Ends.{OpenEnds}
use Rattle.open_ends.specs.Parts.{both}
use Rattle.open_ends.proofs.SamePitches.{pitches_decide}
use Rattle.open_ends.proofs.SameRuns.{open_from, runs_decide}
use Rattle.open_ends.proofs.SameTurns.{are_same, tells_same}
use Rattle.priced_floors.specs.declared.kept.Kept.{Kept}

-- ---- equal is the same

-- what is made of one part, where the part is the same
by_part : {X Y : Type 0} (make : X → Y) (part : Y → X) → ((y : Y) → make (part y) ≡ y) → {E : X → X → Bool}
    → ((p q : X) → Decides (E p q) (p ≡ q)) → (a b : Y) → Decides (E (part a) (part b)) (a ≡ b)
by_part make part whole decides a b =
    (λ h. sym (whole a) ∙ ap make ((decides (part a) (part b)).0 h) ∙ whole b, λ e. (decides (part a) (part b)).1 (ap part e))

-- both parts pass their tests
abbrev both_pass : {P Q : Type 0} → (P → P → Bool) → (Q → Q → Bool) → Both P Q → Both P Q → Bool
both_pass one other a b = one a.first b.first && other a.second b.second

both_same : {P Q : Type 0} {one : P → P → Bool} {other : Q → Q → Bool} → ((p q : P) → Decides (one p q) (p ≡ q))
    → ((p q : Q) → Decides (other p q) (p ≡ q)) → (a b : Both P Q) → Decides (both_pass one other a b) (a ≡ b)
both_same {P} {Q} {one} {other} first second a b =
    Decides-like _ (λ parts. ap (λ (p : P). both p a.second) parts.0 ∙ ap (λ (q : Q). both b.first q) parts.1)
    (λ e. (ap (λ (x : Both P Q). x.first) e, ap (λ (x : Both P Q). x.second) e))
    (Decides-and (one a.first b.first) (other a.second b.second) (first a.first b.first) (second a.second b.second))

numbers_same : (p q : Option ℕ) → Decides (option_eq ◌==◌ p q) (p ≡ q)
numbers_same None None = (λ h. refl, λ e. refl)
numbers_same None (Some n) = (λ h. cc, λ e. cc)
numbers_same (Some m) None = (λ h. cc, λ e. cc)
numbers_same (Some m) (Some n) =
    (λ h. ap (λ (k : ℕ). Some k) ((Decides-eqb m n).0 h), λ e. (Decides-eqb m n).1 (some_number m n e))
  where
    some_number : (m n : ℕ) → Some m ≡ Some n → m ≡ n
    some_number m n e = cc

abbrev passing_test : OpenPassing → OpenPassing → Bool
passing_test a b = option_eq same_pitch a.origin b.origin

passing_same : (a b : OpenPassing) → Decides (passing_test a b) (a ≡ b)
passing_same =
    by_part (λ (p : Option Pitch). record { origin = p }) (λ (x : OpenPassing). x.origin) (λ x. refl) pitches_decide

abbrev ligature_test : OpenLigature → OpenLigature → Bool
ligature_test a b = option_eq same_pitch a.pitch b.pitch

ligature_same : (a b : OpenLigature) → Decides (ligature_test a b) (a ≡ b)
ligature_same =
    by_part (λ (p : Option Pitch). record { pitch = p }) (λ (x : OpenLigature). x.pitch) (λ x. refl) pitches_decide

abbrev shapes_test : OpenShapes → OpenShapes → Bool
shapes_test a b = a.possible == b.possible

shapes_same : (a b : OpenShapes) → Decides (shapes_test a b) (a ≡ b)
shapes_same =
    by_part (λ (n : ℕ). record { possible = n }) (λ (x : OpenShapes). x.possible) (λ x. refl) Decides-eqb

abbrev parallels_test : OpenParallels → OpenParallels → Bool
parallels_test a b = pointwise (option_eq same_pitch) a.pitches b.pitches

parallels_same : (a b : OpenParallels) → Decides (parallels_test a b) (a ≡ b)
parallels_same =
    by_part (λ (l : List (Option Pitch)). record { pitches = l }) (λ (x : OpenParallels). x.pitches) (λ x. refl)
    (λ p q. slice_eq-Decides pitches_decide p q (pointwise (option_eq same_pitch) p q) refl)

abbrev suspensions_test : OpenSuspensions → OpenSuspensions → Bool
suspensions_test a b = beq a.late_start b.late_start

suspensions_same : (a b : OpenSuspensions) → Decides (suspensions_test a b) (a ≡ b)
suspensions_same =
    by_part (λ (l : Bool). record { late_start = l }) (λ (x : OpenSuspensions). x.late_start) (λ x. refl) booleans_Decides

abbrev cadences_test : OpenCadences → OpenCadences → Bool
cadences_test a b = pointwise beq a.leads b.leads

cadences_same : (a b : OpenCadences) → Decides (cadences_test a b) (a ≡ b)
cadences_same =
    by_part (λ (l : List Bool). record { leads = l }) (λ (x : OpenCadences). x.leads) (λ x. refl)
    (λ p q. slice_eq-Decides booleans_Decides p q (pointwise beq p q) refl)

abbrev run_test : Run → Run → Bool
run_test a b = (a.thirds == b.thirds) && (a.sixths == b.sixths)

abbrev runs_test : OpenRuns → OpenRuns → Bool
runs_test a b = pointwise run_test a.pairs b.pairs

runs_same : (a b : OpenRuns) → Decides (runs_test a b) (a ≡ b)
runs_same =
    by_part open_from (λ (x : OpenRuns). x.pairs) (λ x. refl)
    (λ p q. slice_eq-Decides runs_decide p q (pointwise run_test p q) refl)

-- all parts pass their tests
abbrev ends_test : OpenEnds → OpenEnds → Bool
ends_test =
    both_pass (both_pass passing_test (both_pass ligature_test (both_pass shapes_test (both_pass parallels_test
    (both_pass suspensions_test (both_pass cadences_test are_same)))))) runs_test

ends_same : (a b : OpenEnds) → Decides (ends_test a b) (a ≡ b)
ends_same =
    both_same (both_same passing_same (both_same ligature_same (both_same shapes_same
    (both_same parallels_same (both_same suspensions_same (both_same cadences_same tells_same)))))) runs_same

abbrev pub kept_test : Kept → Kept → Bool
kept_test a b = option_eq ◌==◌ a.column b.column && ends_test a.ends b.ends

pub kept_same : (a b : Kept) → Decides (kept_test a b) (a ≡ b)
kept_same a b =
    let Keeps : Option ℕ → OpenEnds → Kept = λ column ends. record { column = column; ends = ends } in
    Decides-like _ (λ parts. ap (λ c. Keeps c a.ends) parts.0 ∙ ap (Keeps b.column) parts.1)
    (λ e. (ap (λ (k : Kept). k.column) e, ap (λ (k : Kept). k.ends) e))
    (Decides-and (option_eq ◌==◌ a.column b.column) (ends_test a.ends b.ends) (numbers_same a.column b.column)
    (ends_same a.ends b.ends))

-- ---- looked up

-- the degree of a pitch; 0 where there is none
abbrev pub degree_or : Option Pitch → ℕ
degree_or None = 0
degree_or (Some pitch) = degree_of pitch

-- a number of the pitches that are kept
abbrev pub pitches_number : OpenEnds → ℕ
pitches_number ends =
    degree_or ends.first.first.origin + 2 ^ 8 * degree_or ends.first.second.first.pitch
    + 2 ^ 16 * degree_or ends.first.second.second.second.second.second.second.turning
    + 2 ^ 24 * degree_or (slice_index_or ends.first.second.second.second.first.pitches 0 None)
    + 2 ^ 32 * degree_or (slice_index_or ends.first.second.second.second.first.pitches 1 None)
    + 2 ^ 40 * degree_or (slice_index_or ends.first.second.second.second.first.pitches 2 None)

-- one of the runs of a pair of voices
abbrev pub run_number : List Run → ℕ → ℕ
run_number pairs k = (slice_index_or pairs k no_run).thirds + 4 * (slice_index_or pairs k no_run).sixths

-- one of the rest
abbrev pub rest_number : OpenEnds → ℕ
rest_number ends =
    run_number ends.second.pairs 0 + 2 ^ 11 * run_number ends.second.pairs 1 + 2 ^ 22 * run_number ends.second.pairs 2
    + 2 ^ 33 * ends.first.second.second.first.possible

-- one of the last column
abbrev pub column_number : Option ℕ → ℕ
column_number None = 0
column_number (Some number) = number + 1

-- what is hashed
abbrev pub kept_input : Kept → List (List ℕ)
kept_input kept =
    fed.u64 (pitches_number kept.ends) ++ (fed.u64 (rest_number kept.ends) ++ fed.u64 (column_number kept.column))

-- what is the same is hashed alike
pub kept_alike : (a b : Kept) → kept_test a b ≡ true → kept_input a ≡ kept_input b
kept_alike a b e = ap kept_input ((kept_same a b).0 e)
