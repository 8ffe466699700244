-- A valid certificate's head holds (`certificate_holds`), since true claims exclude what refutes a
-- sound head (`excludes_refuting`).
use Rattle.std.proofs.Common.{◌≡◌, ◌≢◌, ◌⊎◌, inl, inr, ℕ, ◌+◌, ◌<◌, ◌≤◌, true, false, List, [], ◌∷◌, ◌++◌, length, Option, Some, None, refl, ap, sym, ◌∙◌, subst, arith}
use Rattle.std.specs.Prelude.{IsSomeAnd, option_map}
use Rattle.std.proofs.lemmas.Bool.{cases_lt}
use Rattle.cert_text.specs.declared.answers.CertHead.{CertHead}
use Rattle.cert_text.specs.declared.answers.CertHead.TheVariants.{Best, Nothing}
use Rattle.cert_text.specs.declared.claim.Claim.{Claim}
use Rattle.cert_text.specs.declared.claim.Claim.TheVariants.{Open, Broken, NoChain, Floor, TheScore}
use Rattle.cert_tree.specs.Trees.{Excludes, IsBegunByOne}
use Rattle.cert_tree.proofs.Shown.{none_refutes_from}
use Rattle.cert_law.specs.Certificates.{Begins, Holds, IsBetter, IsCertificate, IsHeadSound, Refutes, is_open, tree_of}
use Rattle.cert_law.specs.Claims.{IsNoBetter, IsTrueOf, longer_prefixes}
use Rattle.cert_text.specs.declared.potential.Potential.{Potential}
use Rattle.cert_law.specs.Tails.{tail_of, used_floor}
use Rattle.cert_law.specs.WayLaws.{empty_begins}
use Rattle.cert_law.proofs.TailFacts.{TailsHold}
use Rattle.cert_law.proofs.Prefixes.{begun_longer, begun_unbroken, unbroken-each}
use Rattle.fux_grid.specs.declared.cell.Cell.{Cell}
use Rattle.fux_grid.specs.declared.exercise.Exercise.{Exercise}
use Rattle.fux_grid.specs.Grid.{Grid}
use Rattle.fux_grid.specs.Order.{IsEarlier}
use Rattle.fux_grid.proofs.OrderLemmas.{earlier-append, earlier-cases, earlier-chained, earlier-itself}
use Rattle.fux_judge.specs.Lawful.{IsLawful}
use Rattle.fux_judge.specs.Penalties.{paid, penalty_of}
use Rattle.fux_judge.specs.Gauges.{least_of}
use Rattle.penalty_sheet.specs.declared.sheet.Sheet.{Sheet}

-- a prefix with a floor has a tail
floor_needs_tail : (ex : Exercise) (sheet : Sheet) (stated : Option (List Potential)) (p : List (List Cell))
    (Is : ℕ → Type 0) → IsSomeAnd (used_floor ex sheet stated p) Is → tail_of ex sheet stated p ≡ None → ⊥
unfolding used_floor
floor_needs_tail ex sheet stated p Is h e =
    subst (λ (o : Option ℕ). IsSomeAnd (option_map (λ tail. paid ex sheet p + least_of ex sheet p + tail) o) Is) e h

begins_whole : (s rest : List (List Cell)) → length (s ++ rest) ≡ length s → s ++ rest ≡ s
begins_whole [] [] e = refl
begins_whole [] (c ∷ rest) e = absurd (omega arith)
begins_whole (c ∷ s) rest e = ap (λ t. c ∷ t) (begins_whole s rest (omega arith))

module _ (ex : Exercise) (sheet : Sheet) (few : ex.voices ≤ 4) (stated : Option (List Potential))
    (tails : TailsHold ex sheet stated) where
  -- no better setting goes on from a prefix whose floor is no better
  none_by_floor : (penalty : ℕ) (score : Grid) (p rest : List (List Cell)) (floor : Option ℕ)
      → IsSomeAnd floor (λ f. f ≤ penalty_of ex sheet (p ++ rest)) → IsSomeAnd floor (IsNoBetter (Best penalty score) p)
      → IsBetter ex sheet (Best penalty score) (p ++ rest) → ⊥
  none_by_floor penalty score p rest None low no_better better = low
  none_by_floor penalty score p rest (Some f) low (inl above) (inl less) = omega arith
  none_by_floor penalty score p rest (Some f) low (inl above) (inr same) = omega (arith, same.0)
  none_by_floor penalty score p rest (Some f) low (inr later) (inl less) = omega (arith, later.0)
  none_by_floor penalty score p rest (Some f) low (inr later) (inr same) =
      let longer : score.columns ++ [] ≡ score.columns = append_none score.columns in
      let after : IsEarlier score.columns (p ++ rest) = subst (λ (s : List (List Cell)). IsEarlier s (p ++ rest)) longer
      (earlier-append score.columns p [] rest later.1) in
      earlier-itself score.columns (earlier-chained score.columns (p ++ rest) score.columns after same.1)
    where
      append_none : (s : List (List Cell)) → s ++ [] ≡ s
      append_none [] = refl
      append_none (c ∷ s) = ap (λ t. c ∷ t) (append_none s)

  -- nor from the head's setting
  none_by_setting : (penalty : ℕ) (score : Grid) (rest : List (List Cell)) → IsHeadSound ex sheet (Best penalty score)
      → IsLawful ex (score.columns ++ rest) → IsBetter ex sheet (Best penalty score) (score.columns ++ rest) → ⊥
  none_by_setting penalty score rest sound lawful better = at better
    where
      whole : score.columns ++ rest ≡ score.columns
      whole = begins_whole score.columns rest (lawful.setting.whole ∙ sym sound.0.setting.whole)

      same : penalty_of ex sheet (score.columns ++ rest) ≡ penalty
      same = ap (penalty_of ex sheet) whole ∙ sound.1

      at : IsBetter ex sheet (Best penalty score) (score.columns ++ rest) → ⊥
      at (inl less) = omega (arith, same, less)
      at (inr earlier) =
          earlier-itself score.columns (subst (λ (s : List (List Cell)). IsEarlier s score.columns) whole earlier.1)

  -- what goes on from an open prefix goes on by a column
  goes_on : (head : CertHead) (p : List (List Cell)) (claim : Claim) (s : List (List Cell)) → is_open claim ≡ true
      → IsTrueOf ex sheet head stated p claim → Refutes ex sheet head s → Begins p s
      → IsBegunByOne Begins (longer_prefixes ex p) s
  goes_on head p Open s e holds refutes begins =
      let lawful : IsLawful ex (p ++ begins.rest) = subst (λ (q : List (List Cell)). IsLawful ex q) begins.is refutes.lawful
      in
      subst (λ (q : List (List Cell)). IsBegunByOne Begins (longer_prefixes ex p) q) (sym begins.is)
      (begun_longer ex p begins.rest holds.0 lawful.setting)
  goes_on head p (Broken rule) s e holds refutes begins = cc
  goes_on head p NoChain s e holds refutes begins = cc
  goes_on head p Floor s e holds refutes begins = cc
  goes_on head p TheScore s e holds refutes begins = cc

  by_floor : (head : CertHead) (p rest : List (List Cell)) → IsLawful ex (p ++ rest) → IsBetter ex sheet head (p ++ rest)
      → IsSomeAnd (used_floor ex sheet stated p) (IsNoBetter head p) → ⊥
  by_floor Nothing p rest lawful better h = never (used_floor ex sheet stated p) h
    where
      never : (floor : Option ℕ) → IsSomeAnd floor (IsNoBetter Nothing p) → ⊥
      never None h = h
      never (Some f) h = h
  by_floor (Best penalty score) p rest lawful better h =
      none_by_floor penalty score p rest (used_floor ex sheet stated p) (tails.below p rest lawful) h better

  by_setting : (head : CertHead) (p rest : List (List Cell)) → IsHeadSound ex sheet head → IsLawful ex (p ++ rest)
      → IsBetter ex sheet head (p ++ rest) → IsTrueOf ex sheet head stated p TheScore → ⊥
  by_setting Nothing p rest sound lawful better h = h
  by_setting (Best penalty score) p rest sound lawful better h =
      let L : List (List Cell) → Type 0 = λ q. IsLawful ex (q ++ rest) in
      let B : List (List Cell) → Type 0 = λ q. IsBetter ex sheet (Best penalty score) (q ++ rest) in
      none_by_setting penalty score rest sound (subst L h lawful) (subst B h better)

  -- nothing that is better goes on from another one
  ends_here : (head : CertHead) (p rest : List (List Cell)) (claim : Claim) → is_open claim ≡ false
      → IsTrueOf ex sheet head stated p claim → IsHeadSound ex sheet head → IsLawful ex (p ++ rest)
      → IsBetter ex sheet head (p ++ rest) → ⊥
  ends_here head p rest Open e holds sound lawful better = cc
  ends_here head p rest (Broken rule) e holds sound lawful better =
      unbroken-each ex p rule (begun_unbroken ex few p rest lawful) holds
  ends_here head p rest NoChain e holds sound lawful better =
      floor_needs_tail ex sheet stated p _ (tails.below p rest lawful) holds
  ends_here head p rest Floor e holds sound lawful better = by_floor head p rest lawful better holds
  ends_here head p rest TheScore e holds sound lawful better = by_setting head p rest sound lawful better holds

  pub excludes_refuting : (head : CertHead) → IsHeadSound ex sheet head
      → Excludes (tree_of ex sheet head stated) Begins (Refutes ex sheet head)
  excludes_refuting head sound = record {
    open_goes_on = goes_on head;
    closed_ends = λ p claim s e holds refutes begins.
        ends_here head p begins.rest claim e holds sound
        (subst (λ (q : List (List Cell)). IsLawful ex q) begins.is refutes.lawful)
        (subst (λ (q : List (List Cell)). IsBetter ex sheet head q) begins.is refutes.better);
  }

  -- a sound head that nothing refutes holds
  pub unrefuted_holds : (head : CertHead) → IsHeadSound ex sheet head
      → ((t : List (List Cell)) → Refutes ex sheet head t → ⊥) → Holds ex sheet head
  unrefuted_holds Nothing sound none = λ t lawful. none t record { lawful = lawful; better = tt }
  unrefuted_holds (Best penalty score) sound none = (record { lawful = sound.0; least = least; first = first }, sound.1)
    where
      least : (t : List (List Cell)) → IsLawful ex t → penalty_of ex sheet score.columns ≤ penalty_of ex sheet t
      least t lawful = at (cases_lt (penalty_of ex sheet t) penalty)
        where
          at : (penalty_of ex sheet t < penalty) ⊎ (penalty ≤ penalty_of ex sheet t)
              → penalty_of ex sheet score.columns ≤ penalty_of ex sheet t
          at (inl less) = absurd (none t record { lawful = lawful; better = inl less })
          at (inr more) = omega (arith, sound.1)

      first : (t : List (List Cell)) → IsLawful ex t → penalty_of ex sheet t ≡ penalty_of ex sheet score.columns
          → score.columns ≢ t → IsEarlier score.columns t
      first t lawful same differ = at (earlier-cases score.columns t (sound.0.setting.whole ∙ sym lawful.setting.whole))
        where
          at : IsEarlier score.columns t ⊎ ((score.columns ≡ t) ⊎ IsEarlier t score.columns) → IsEarlier score.columns t
          at (inl h) = h
          at (inr (inl h)) = absurd (differ h)
          at (inr (inr h)) = absurd (none t record { lawful = lawful; better = inr (same ∙ sound.1, h) })

  pub certificate_holds : (head : CertHead) (claims : List Claim) → IsCertificate ex sheet head stated claims
      → Holds ex sheet head
  certificate_holds head claims valid =
      unrefuted_holds head valid.sound
      (none_refutes_from (tree_of ex sheet head stated) Begins (Refutes ex sheet head)
      (excludes_refuting head valid.sound) [] claims valid.certified empty_begins)
