-- The text of a head that holds has at most 4,876 bytes (`front_is_brief`), since its setting is one
-- of the exercise. What the least list keeps is the least (`least_large`).
use Rattle.std.proofs.Common.{◌≡◌, ℕ, zero, suc, ◌<◌, ◌≤◌, ◌^◌, List, [], Option, Some, None, length, refl, slice_get, ap, subst, sym, ◌∙◌}
use Rattle.std.specs.Prelude.{IfSome}
use Rattle.std.specs.Borrow.{Bor}
use Rattle.std.proofs.lemmas.List.Elements.{All-from_get_or}
use Rattle.cert_law.specs.Certificates.{Holds}
use Rattle.cert_law.specs.Writer.{head_text}
use Rattle.cert_text.proofs.HeadBacks.{heads_are_brief}
use Rattle.cert_text.specs.declared.answers.CertHead.{CertHead}
use Rattle.cert_text.specs.declared.answers.Form.TheVariants.{Third}
use Rattle.cert_text.specs.SingItems.{best_text, nothing_text}
use Rattle.cert_writer.specs.Heads.{head_with}
use Rattle.fux_grid.proofs.MenuLemmas.{menu_of-cantus, menu_of-contains}
use Rattle.fux_grid.specs.declared.cell.Cell.{Cell}
use Rattle.fux_grid.specs.declared.exercise.Exercise.{Exercise}
use Rattle.fux_grid.specs.Exercises.{IsValid}
use Rattle.fux_grid.specs.Grid.{Grid}
use Rattle.fux_text.specs.Grammar.{IsSettingOf}
use Rattle.fux_text.specs.ReadBack.{sing_lines}
use Rattle.cert_writer.specs.Stating.{least_list}
use Rattle.penalty_sheet.specs.declared.sheet.Sheet.{Sheet}
use Rattle.price_check.specs.Woven.{IsLargeWeb}
use Rattle.price_check.specs.Statements.{HasLargeStated, kept_by}
use Rattle.price_check.specs.Stated.{StatedList, lists_of}
use Rattle.cert_writer.specs.Certificates.{least_kept, longest_head}
use Rattle.rule_law.specs.Prefixes.{IsSetting}

module _ (ex : Exercise) (sheet : Sheet) (valid : IsValid ex) where
  -- columns of a setting are those of a whole score over the cantus
  setting_of : (s : List (List Cell)) → IsSetting ex s → IsSettingOf ex (record { voices = ex.voices; columns = s })
  setting_of s setting = record {
    given = record {
      complete = record { voices = refl; whole = setting.whole };
      cantus = λ i within.
          menu_of-cantus ex i _ valid.cantus_there ((menu_of-contains ex i _).1 (setting.prefix.menus i within));
    };
    full =
        All-from_get_or (λ col. length col ≡ ex.voices) s []
        (λ i within. (setting.prefix.menus i within).full);
    follows = setting.prefix.follows;
  }

  holding_is_brief : (best : Option (Bor Grid × ℕ)) → IfSome best (λ it. it.1 < 2 ^ 64)
      → Holds ex sheet (head_with best) → length (head_text ex Third (head_with best)) ≤ longest_head
  holding_is_brief None below holds = heads_are_brief ex Third (nothing_text Third) None valid refl
  holding_is_brief (Some best) below holds =
      let columns = best.0.now.columns in
      heads_are_brief ex Third (best_text Third best.1 (sing_lines ex columns)) (Some best.1) valid record {
        below = below;
        lines = sing_lines ex columns;
        canonical = (
          record { voices = ex.voices; columns = columns },
          record { setting = setting_of columns holds.0.lawful.setting; written = refl },
        );
        text = refl;
      }

  -- by other names of the exercise, of the head and of its text
  pub front_is_brief : (own : Exercise) (best : Option (Bor Grid × ℕ)) (head : CertHead) (text : List ℕ)
      → IfSome best (λ it. it.1 < 2 ^ 64) → Holds ex sheet (head_with best) → own ≡ ex → head ≡ head_with best
      → text ≡ head_text own Third head → length text ≤ longest_head
  front_is_brief own best head text below holds same also is =
      subst (λ (bs : List ℕ). length bs ≤ longest_head)
      (sym (is ∙ ap (λ (e : Exercise). head_text e Third head) same ∙ ap (head_text ex Third) also))
      (holding_is_brief best below holds)

-- ---- the least list

stated-one : (x y : StatedList) → Some x ≡ Some y → x ≡ y
stated-one x y e = cc

module _ (ex : Exercise) (sheet : Sheet) where
  large_at : (place : ℕ) (stated : StatedList) → slice_get (lists_of least_list) place ≡ Some stated
      → IsLargeWeb ex sheet (kept_by stated) → IsLargeWeb ex sheet least_kept
  large_at zero stated there large =
      subst (λ (s : StatedList). IsLargeWeb ex sheet (kept_by s)) (sym (stated-one _ stated there)) large
  large_at (suc place) stated there large = cc

  pub least_large : HasLargeStated ex sheet least_list → IsLargeWeb ex sheet least_kept
  least_large it = large_at it.place it.stated it.there it.large
