use Rattle.std.proofs.Common.{◌≡◌, ℕ, List, [], ◌∷◌, ◌++◌, Bool, true, false, refl, ap, sym, ◌∙◌, append-nil, append_assoc}
use Rattle.std.specs.Prelude.{if◌then◌else◌}
use Rattle.std.specs.List.{filter, flat_map, range_with_len}
use Rattle.std.proofs.lemmas.Grind.{flat_map-append}
use Rattle.std.proofs.lemmas.List.Elements.{filter-append}
use Rattle.rule_law.specs.Voices.{is_free}
use Rattle.score_marker.specs.declared.charge.Charge.{Charge}
use Rattle.score_marker.specs.Charges.{charges_of_line, charges_of_voice}
use Rattle.score_marker.proofs.ListLemmas.{range-more}
use Rattle.score_marker.proofs.weighing.charge_lines.Goals as goal

-- one number more is kept where it passes
joined_if : (f : ℕ → List Charge) (p : ℕ → Bool) (v : ℕ)
    → flat_map f (filter p (v ∷ [])) ≡ (if p v then f v else [])
joined_if f p v = by_test (p v) refl
  where
    by_test : (b : Bool) → p v ≡ b → flat_map f (filter p (v ∷ [])) ≡ (if b then f v else [])
    by_test true e = rw e (append-nil (f v))
    by_test false e = rw e refl

pub loop-v-preserved : goal.loop-v-preserved
loop-v-preserved c =
    let ex = c.args.ex.now in
    let lines = charges_of_line c.args.sheet.now c.args.score.now.columns in
    let v = c.loop-v.v in
    let old = c.args.charges.now.items in
    let before = flat_map lines (filter (is_free ex) (range_with_len 0 v)) in
    let voice = charges_of_voice ex c.args.sheet.now c.args.score.now.columns v in
    c.in_ok-charge_voice.ensures ∙ ap (λ cs. cs ++ voice) c.loop-v.invariant ∙ append_assoc old before voice
    ∙ ap (λ cs. old ++ (before ++ cs)) (sym (joined_if lines (is_free ex) v))
    ∙ ap (λ cs. old ++ cs) (sym (flat_map-append lines (filter (is_free ex) (range_with_len 0 v)) (filter (is_free ex) (v ∷ []))))
    ∙ ap (λ vs. old ++ flat_map lines vs) (sym (filter-append (is_free ex) (range_with_len 0 v) (v ∷ [])))
    ∙ ap (λ vs. old ++ flat_map lines (filter (is_free ex) vs)) (sym (range-more v))
