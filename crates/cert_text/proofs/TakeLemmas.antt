-- What a reader has taken where a line goes on.
use Rattle.std.proofs.Common.{◌≡◌, ℕ, ◌+◌, List, [], ◌∷◌, ◌++◌, None, codes, refl, sym, ap, ◌∙◌, subst, arith}
use Rattle.std.specs.Fmt.{decimal}
use Rattle.std.proofs.lemmas.List.{take_all}
use Rattle.cert_text.specs.declared.claim.Claim.TheVariants.{Open, Broken}
use Rattle.cert_text.specs.declared.begun.Begun.{Begun}
use Rattle.cert_text.specs.declared.begun.Begun.TheVariants.{Nothing, Word, Letter, Blank}
use Rattle.cert_text.specs.declared.begun.Step.TheVariants.{Goes}
use Rattle.cert_text.specs.Begun.{IsBegun, StopStep, begun_bytes}
use Rattle.cert_text.specs.Lines.{BeginsClaim, HasNoFeed, line_part}
use Rattle.cert_text.specs.Reading.{Reading}
use Rattle.cert_text.specs.Takes.{Takes}
use Rattle.cert_text.proofs.LineLemmas.{word_has_no_feed}

-- what was begun begins a claim's line
begun_begins : (begun : Begun) → IsBegun begun → BeginsClaim (begun_bytes begun)
begun_begins Nothing fits = record { claim = Open; fits = fits; rest = codes "o" ++ 10 ∷ []; whole = refl }
begun_begins (Word claim) fits = record { claim = claim; fits = fits; rest = 10 ∷ []; whole = refl }
begun_begins Letter fits = record {
  claim = Broken 1;
  fits = (omega arith, omega arith);
  rest = 32 ∷
      (decimal 1 ++ 10 ∷ []);
  whole = refl;
}
begun_begins Blank fits = record {
  claim = Broken 1;
  fits =
      (omega arith, omega arith);
  rest = decimal 1 ++ 10 ∷ [];
  whole = refl;
}

-- and has no line feed
begun_has_no_feed : (begun : Begun) → IsBegun begun → HasNoFeed (begun_bytes begun)
begun_has_no_feed Nothing fits = tt
begun_has_no_feed (Word claim) fits = word_has_no_feed claim fits
begun_has_no_feed Letter fits = ((λ e. cc), tt)
begun_has_no_feed Blank fits = ((λ e. cc), ((λ e. cc), tt))

-- the line that goes on
pub record GoesOn (old new : Reading) (after : Begun) (used : ℕ) : Type 0 where
  pub next : new.next ≡ old.next + used
  pub count : new.used ≡ old.used + used
  pub begun : new.begun ≡ begun_bytes after
  pub refused : new.refused ≡ old.refused

pub goes_takes : (old new : Reading) (before after : Begun) (piece : List ℕ) (used : ℕ) → old.begun ≡ begun_bytes before
    → StopStep before piece used (Goes after) → old.refused ≡ None → GoesOn old new after used
    → Takes old piece (record { used = used; claim = None }) new
goes_takes old new before after piece used same (fits, read, whole, part) unrefused on =
    let line : old.begun ++ line_part piece ≡ begun_bytes after =
    ap (λ t. t ++ line_part piece) same ∙ ap (λ t. begun_bytes before ++ t) part ∙ sym read in
    record {
      begins = subst BeginsClaim (sym line) (begun_begins after fits);
      front = part ∙ sym (take_all used piece (omega (arith, whole)));
      within = omega (arith, whole);
      bytes = line ∙ sym on.begun;
      ended = tt;
      unended = subst HasNoFeed (sym on.begun) (begun_has_no_feed after fits);
      all = λ none. whole;
      next = on.next;
      count = on.count;
      refused = on.refused ∙ unrefused;
    }
