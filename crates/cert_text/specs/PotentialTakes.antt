-- What a reader of potentials makes of a piece. The bytes of the line are those that were begun,
-- and those of the piece through its first line feed.
use Rattle.std.specs.Prelude.{◌≡◌, ℕ, ◌+◌, ◌≤◌, Bool, true, false, List, [], ◌++◌, Option, Some, None, length, take}
use Rattle.cert_text.specs.declared.answers.CertFault.{CertFault}
use Rattle.cert_text.specs.declared.answers.CertFault.TheVariants.{CertWord}
use Rattle.cert_text.specs.declared.potential.Potential.{Potential}
use Rattle.cert_text.specs.declared.potentials.TakenPotential.{TakenPotential}
use Rattle.cert_text.specs.Lines.{HasNoFeed, line_part}
use Rattle.cert_text.specs.PotentialReading.{PotentialReading, owes_potential, potential_line_start}
use Rattle.cert_text.specs.Potentials.{BeginsOwed, IsPotential, last_line, potential_line}

-- the line ended, and was a potential's or `claims`; or it has no line feed, and goes on
abbrev pub LineEnds : PotentialReading → Option Potential → Bool → List ℕ → PotentialReading → Type 0
LineEnds old (Some potential) true line new = ⊥
LineEnds old (Some potential) false line new =
    IsPotential potential × (line ≡ potential_line potential) × (new.begun ≡ []) × (new.given ≡ old.given + 1)
LineEnds old None true line new = (line ≡ last_line) × (new.begun ≡ []) × (new.given ≡ old.given)
LineEnds old None false line new = (new.begun ≡ line) × HasNoFeed line × (new.given ≡ old.given)

-- the bytes of the line begin one that is owed
pub record TakesPotential (old : PotentialReading) (piece : List ℕ) (taken : TakenPotential) (new : PotentialReading) : Type
    0 where
  pub begins : BeginsOwed (owes_potential old) (old.begun ++ line_part piece)
  pub front : line_part piece ≡ take taken.used piece
  pub within : taken.used ≤ length piece
  pub ends : LineEnds old taken.potential taken.done (old.begun ++ line_part piece) new
  pub all : taken.potential ≡ None → taken.done ≡ false → taken.used ≡ length piece
  pub done : new.done ≡ taken.done
  pub next : new.next ≡ old.next + taken.used
  pub used : new.used ≡ old.used + taken.used
  pub count : new.count ≡ old.count
  pub refused : new.refused ≡ None

-- they begin none, and the line is named by its first byte
pub record RefusesPotential (old : PotentialReading) (piece : List ℕ) (answer : CertFault) (new : PotentialReading) : Type
    0 where
  pub wrong : BeginsOwed (owes_potential old) (old.begun ++ line_part piece) → ⊥
  pub named : answer ≡ CertWord (potential_line_start old)
  pub kept : new ≡ record old { refused = Some (potential_line_start old) }
