-- What a reader of claims makes of a piece. The bytes of the line are those that were begun, and
-- those of the piece through its
-- first line feed.
use Rattle.std.specs.Prelude.{◌≡◌, ℕ, ◌+◌, ◌≤◌, List, [], ◌++◌, length, take, Some, None, IfNone, IfSome}
use Rattle.cert_text.specs.declared.answers.CertFault.{CertFault}
use Rattle.cert_text.specs.declared.answers.CertFault.TheVariants.{CertWord}
use Rattle.cert_text.specs.declared.claims.Taken.{Taken}
use Rattle.cert_text.specs.Lines.{BeginsClaim, HasNoFeed, IsClaim, line_if, line_part}
use Rattle.cert_text.specs.Reading.{Reading, line_start}

-- the bytes of the line begin a claim's line: they are a claim's line, or have no line feed, and
-- the line goes on
pub record Takes (old : Reading) (piece : List ℕ) (taken : Taken) (new : Reading) : Type 0 where
  pub begins : BeginsClaim (old.begun ++ line_part piece)
  pub front : line_part piece ≡ take taken.used piece
  pub within : taken.used ≤ length piece
  pub bytes : old.begun ++ line_part piece ≡ line_if taken.claim ++ new.begun
  pub ended : IfSome taken.claim (λ claim. IsClaim claim × (new.begun ≡ []))
  pub unended : IfNone taken.claim (HasNoFeed new.begun)
  pub all : taken.claim ≡ None → taken.used ≡ length piece
  pub next : new.next ≡ old.next + taken.used
  pub count : new.used ≡ old.used + taken.used
  pub refused : new.refused ≡ None

-- they begin no claim's line, and the line is named by its first byte
pub record Refuses (old : Reading) (piece : List ℕ) (answer : CertFault) (new : Reading) : Type 0 where
  pub wrong : BeginsClaim (old.begun ++ line_part piece) → ⊥
  pub named : answer ≡ CertWord (line_start old)
  pub kept : new ≡ record old { refused = Some (line_start old) }
