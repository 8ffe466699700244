-- What a reader of potentials has taken where a line goes on (`potential_goes`).
use Rattle.std.proofs.Common.{◌≡◌, ℕ, false, List, ◌++◌, None, sym, ap, ◌∙◌, subst, arith}
use Rattle.std.proofs.lemmas.List.{take_all}
use Rattle.cert_text.specs.declared.stated_line.StatedLine.{StatedLine}
use Rattle.cert_text.specs.declared.stated_line.StatedStep.TheVariants.{Goes}
use Rattle.cert_text.specs.Lines.{HasNoFeed, line_part}
use Rattle.cert_text.specs.PotentialReading.{PotentialReading, owes_potential, potentials_on}
use Rattle.cert_text.specs.PotentialTakes.{TakesPotential}
use Rattle.cert_text.specs.Potentials.{BeginsOwed}
use Rattle.cert_text.specs.StatedLines.{StopStep, is_of_potential, stated_bytes}
use Rattle.cert_text.proofs.StatedLemmas.{stated_begins, stated_has_no_feed}

pub potential_goes : (old new : PotentialReading) (before after : StatedLine) (piece : List ℕ) (used given : ℕ)
    → old.begun ≡ stated_bytes before → is_of_potential before ≡ owes_potential old
    → StopStep before piece used (Goes after) → old.refused ≡ None → old.done ≡ false → given ≡ old.given
    → new ≡ potentials_on old used (stated_bytes after) given
    → TakesPotential old piece (record { used = used; potential = None; done = false }) new
potential_goes old new before after piece used given same kind (fits, still, read, whole, part) unrefused undone is on =
    let line : old.begun ++ line_part piece ≡ stated_bytes after =
    ap (λ t. t ++ line_part piece) same ∙ ap (λ t. stated_bytes before ++ t) part ∙ sym read in
    record {
      begins = subst (BeginsOwed (owes_potential old)) (sym line)
          (subst (λ k. BeginsOwed k (stated_bytes after)) (still ∙ kind) (stated_begins after fits));
      front = part ∙ sym (take_all used piece (omega (arith, whole)));
      within = omega (arith, whole);
      ends = (
        ap (λ (r : PotentialReading). r.begun) on ∙ sym line,
        subst HasNoFeed (sym line) (stated_has_no_feed after fits),
        ap (λ (r : PotentialReading). r.given) on ∙ is,
      );
      all = λ none unended. whole;
      done = ap (λ (r : PotentialReading). r.done) on ∙ undone;
      next = ap (λ (r : PotentialReading). r.next) on;
      used = ap (λ (r : PotentialReading). r.used) on;
      count = ap (λ (r : PotentialReading). r.count) on;
      refused = ap (λ (r : PotentialReading). r.refused) on ∙ unrefused;
    }
