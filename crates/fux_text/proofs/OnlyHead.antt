-- What is read before the ranges has the words that are written of it (`version-only`,
-- `head-only`).
use Rattle.std.proofs.Common.{◌≡◌, ℕ, zero, suc, ◌-◌, Bool, true, false, List, [], ◌∷◌, ◌++◌, map, Option, Some, None, sym, ap, ◌∙◌, append_assoc, arith}
use Rattle.std.specs.Prelude.{◌==◌, codes, if◌then◌else◌}
use Rattle.std.specs.Fmt.{decimal}
use Rattle.std.specs.Option.{option_and_then}
use Rattle.std.proofs.lemmas.List.{append-nil}
use Rattle.fux_pitch.specs.Modes.{mode_name}
use Rattle.fux_pitch.specs.declared.mode.Mode.{Mode}
use Rattle.fux_pitch.specs.declared.pitch.Pitch.{Pitch}
use Rattle.fux_pitch.specs.Names.{name_of}
use Rattle.fux_grid.specs.declared.exercise.Exercise.{Exercise}
use Rattle.fux_text.specs.declared.fault.TextKind.{TextKind}
use Rattle.fux_text.specs.declared.fault.TextKind.TheVariants as kinds
use Rattle.text_lines.specs.Lines.{TextLines}
use Rattle.text_lines.specs.Numbers.{number_within}
use Rattle.text_lines.specs.Rows.{IsRow}
use Rattle.text_lines.specs.Tables.{IsTable}
use Rattle.text_lines.specs.Words.{LineWords}
use Rattle.fux_text.specs.Head.{bare, cantus_row, head_table, mode_row, number_row, other_voice, pitches_row, species_row, unless, version_table}
use Rattle.fux_text.specs.Lines.{cantus_words, head_lines, version_words}
use Rattle.fux_text.specs.Names.{mode_named, pitch_named}
use Rattle.fux_text.specs.Limits.{most_species, most_voices, newest_version}
use Rattle.fux_text.specs.Words.{texts}
use Rattle.fux_text.proofs.OnlyWords.{line-words, line_texts, mode-only, name-words, no-words, number-words, pitch-only, within-only, word-words}

mode-words : (at : LineWords) (mode : Mode) → IsRow mode_row at mode → texts at ≡ mode_name mode ∷ []
mode-words at mode h =
    name-words kinds.Word kinds.Word mode_named mode_name mode-only h.0 at h.1 h.2
    ∙ ap (λ ws. mode_name h.0 ∷ ws) (no-words h.1 h.3.0)
    ∙ ap (λ m. mode_name m ∷ []) h.3.1

number_row-words : (kind : TextKind) (least most n : ℕ) (at : LineWords) → IsRow (number_row kind least most) at n
    → texts at ≡ decimal n ∷ []
number_row-words kind least most n at h =
    number-words kind least most h.0 at h.1 h.2
    ∙ ap (λ ws. decimal h.0 ∷ ws) (no-words h.1 h.3.0)
    ∙ ap (λ k. decimal k ∷ []) h.3.1

species-words : (voices : ℕ) (at : LineWords) (x : ℕ × ℕ) → IsRow (species_row voices) at x
    → texts at ≡ decimal x.0 ∷ codes "voice" ∷ decimal x.1 ∷ []
species-words voices at x (n, behind, s, (_, voice, t, (v, rest, u, end))) =
    number-words kinds.Word 1 most_species n at behind s
    ∙ ap (λ ws. decimal n ∷ ws)
    (word-words kinds.Word (codes "voice") behind voice t
    ∙ ap (λ ws. codes "voice" ∷ ws)
    (number-words kinds.Word 0 (voices - 1) v voice rest u ∙ ap (λ ws. decimal v ∷ ws) (no-words rest end.0)))
    ∙ ap (λ (y : ℕ × ℕ). decimal y.0 ∷ codes "voice" ∷ decimal y.1 ∷ []) end.1

unless-only : (other v : ℕ) (o : Option ℕ) → option_and_then (unless other) o ≡ Some v → o ≡ Some v
unless-only other v None e = absurd (grind (arith, e))
unless-only other v (Some n) e = by (n == other) e
  where
    by : (b : Bool) → (if b then None else Some n) ≡ Some v → Some n ≡ Some v
    by true e = absurd (grind (arith, e))
    by false e = e

pub other_voice-only : (other voices : ℕ) (text : List ℕ) (v : ℕ) → other_voice other voices text ≡ Some v
    → text ≡ decimal v
other_voice-only other voices text v e =
    within-only 0 (voices - 1) text v (unless-only other v (number_within 0 (voices - 1) text) e)

-- the pitches of a row behind those before
record ArePitches (v : ℕ) (before : List Pitch) (at : LineWords) (x : ℕ × List Pitch) : Type 0 where
  pub ps : List Pitch
  pub voice : x.0 ≡ v
  pub all : x.1 ≡ before ++ ps
  pub words : texts at ≡ map name_of ps

pitches-words : (v n : ℕ) (before : List Pitch) (at : LineWords) (x : ℕ × List Pitch)
    → IsRow (pitches_row v n before) at x → ArePitches v before at x
pitches-words v zero before at x h = record {
  ps = [];
  voice = sym (ap (λ (y : ℕ × List Pitch). y.0) h.1);
  all = sym (ap (λ (y : ℕ × List Pitch). y.1) h.1) ∙ sym (append-nil before);
  words = no-words at h.0;
}
pitches-words v (suc n) before at x h =
    let rest = pitches-words v n (before ++ h.0 ∷ []) h.1 x h.3 in
    record {
      ps = h.0 ∷ rest.ps;
      voice = rest.voice;
      all = rest.all ∙ append_assoc before (h.0 ∷ []) rest.ps;
      words = name-words kinds.Cantus kinds.Pitch pitch_named name_of pitch-only h.0 at h.1 h.2
          ∙ ap (λ ws. name_of h.0 ∷ ws) rest.words;
    }

cantus_row-words : (voices species_voice bars : ℕ) (at : LineWords) (x : ℕ × List Pitch)
    → IsRow (cantus_row voices species_voice bars) at x → texts at ≡ decimal x.0 ∷ map name_of x.1
cantus_row-words voices species_voice bars at x h =
    let ps = pitches-words h.0 bars [] h.1 x h.3 in
    name-words kinds.Cantus kinds.Cantus (other_voice species_voice voices) decimal
    (other_voice-only species_voice voices) h.0 at h.1 h.2
    ∙ ap (λ ws. decimal h.0 ∷ ws) (ps.words ∙ ap (map name_of) (sym ps.all))
    ∙ ap (λ v. decimal v ∷ map name_of x.1) (sym ps.voice)

pub version-only : (text : TextLines) (version : ℕ) (rest : TextLines) → IsTable version_table text version rest
    → line_texts text ≡ version_words version ∷ line_texts rest
version-only text version rest l =
    line-words (codes "fux") (number_row kinds.Word 1 newest_version) text version rest l
    ∙ ap (λ ws. (codes "fux" ∷ ws) ∷ line_texts rest)
    (number_row-words kinds.Word 1 newest_version version l.words l.right)

pub head-only : (text : TextLines) (ex : Exercise) (rest : TextLines) → IsTable head_table text ex rest
    → line_texts text ≡ head_lines ex ++ cantus_words ex ∷ line_texts rest
head-only text ex rest (mode, b, m, (voices, c, vs, (bars, d, bs, (species, e, sp, (cantus, f, cs, same))))) =
    line-words (codes "mode") mode_row text mode b m
    ∙ ap (λ ws. (codes "mode" ∷ ws) ∷ line_texts b) (mode-words m.words mode m.right)
    ∙ ap (λ ls. (codes "mode" ∷ mode_name mode ∷ []) ∷ ls)
    (line-words (codes "voices") (number_row kinds.Word 2 most_voices) b voices c vs
    ∙ ap (λ ws. (codes "voices" ∷ ws) ∷ line_texts c)
    (number_row-words kinds.Word 2 most_voices voices vs.words vs.right)
    ∙ ap (λ ls. (codes "voices" ∷ decimal voices ∷ []) ∷ ls)
    (line-words (codes "bars") (number_row kinds.Bars 3 24) c bars d bs
    ∙ ap (λ ws. (codes "bars" ∷ ws) ∷ line_texts d) (number_row-words kinds.Bars 3 24 bars bs.words bs.right)
    ∙ ap (λ ls. (codes "bars" ∷ decimal bars ∷ []) ∷ ls)
    (line-words (codes "species") (species_row voices) d species e sp
    ∙ ap (λ ws. (codes "species" ∷ ws) ∷ line_texts e) (species-words voices sp.words species sp.right)
    ∙ ap (λ ls. (codes "species" ∷ decimal species.0 ∷ codes "voice" ∷ decimal species.1 ∷ []) ∷ ls)
    (line-words (codes "cantus") (cantus_row voices species.1 bars) e cantus f cs
    ∙ ap (λ ws. (codes "cantus" ∷ ws) ∷ line_texts f)
    (cantus_row-words voices species.1 bars cs.words cantus cs.right)))))
    ∙ ap (λ x. head_lines (bare mode voices bars species cantus) ++ cantus_words
    (bare mode voices bars species cantus) ∷ line_texts x) same.1
    ∙ ap (λ y. head_lines y ++ cantus_words y ∷ line_texts rest) same.0
