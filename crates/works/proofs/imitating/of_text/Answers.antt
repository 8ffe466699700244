use Rattle.std.proofs.Common.{inr, refl, subst}
use Rattle.class_marker.specs.Markings.{IsContent}
use Rattle.works.proofs.CanonLemmas.{long_refused}
use Rattle.works.proofs.imitating.of_text.Goals as goal

pub returns-in_default : goal.returns-in_default
returns-in_default c = λ bytes sheets content weights.
    inr record {
      refusal = _;
      is = refl;
      cause = long_refused bytes (subst (λ file. IsContent 65536 file bytes) c.in_default.is content);
    }
