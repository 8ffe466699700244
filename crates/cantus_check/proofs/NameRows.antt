-- The row of names has the texts of pitches (`names-say`, `names-of`), and no such text begins
-- another one (`names-alone`). What its pieces read it reads (`names-end`, `names-more`), and where
-- they stop it stops.
use Rattle.std.proofs.Common.{◌≡◌, ◌≢◌, ℕ, zero, suc, ◌-◌, ◌≤◌, Bool, true, false, List, [], ◌∷◌, ◌++◌, length, map, refl, sym, ap, subst, ◌∙◌, append_assoc, append-nil, arith}
use Rattle.fux_pitch.specs.declared.pitch.Pitch.{Pitch}
use Rattle.fux_pitch.specs.Names.{name_of}
use Rattle.fux_text.specs.Words.{spaced}
use Rattle.cert_text.specs.HeadRows.{PitchName}
use Rattle.cert_text.specs.Pieces.{Fixed, Reads, Stops, Then}
use Rattle.cert_text.proofs.FourthOctave.{natural-four}
use Rattle.cert_text.proofs.NameLemmas.{pitches-alone}
use Rattle.cert_text.proofs.PieceLemmas.{Alone, Live, fixed-alone, reads-then, stops-behind, stops-first, then-alone, then-live}
use Rattle.cantus_check.specs.Rows.{Between, Goes, Named, Names}

first_byte : (b c : ℕ) (r s : List ℕ) → b ∷ r ≡ c ∷ s → b ≡ c
first_byte b c r s e = cc

-- ---- between two names

pub between-alone : (owed : ℕ) → Alone (Between owed)
between-alone owed true true f g a b s t e = (refl, s ∙ sym t)
between-alone owed true false f g a b s t e = absurd (clash 32 10 (first_byte 32 10 a b
    (ap (λ w. w ++ a) (sym s) ∙ e ∙ ap (λ w. w ++ b) t.1)) refl refl)
  where
    clash : (b c : ℕ) → b ≡ c → b ≡ 32 → c ≡ 10 → ⊥
    clash b c h s t = omega (arith, h, s, t)
between-alone owed false true f g a b s t e = absurd (clash 10 32 (first_byte 10 32 a b
    (ap (λ w. w ++ a) (sym s.1) ∙ e ∙ ap (λ w. w ++ b) t)) refl refl)
  where
    clash : (b c : ℕ) → b ≡ c → b ≡ 10 → c ≡ 32 → ⊥
    clash b c h s t = omega (arith, h, s, t)
between-alone owed false false f g a b s t e = (refl, s.1 ∙ sym t.1)

-- ---- no names begin others, and names go on

goes-alone : (goes : Bool) (more : List Pitch → List ℕ → Type 0) → Alone more → Alone (Goes goes more)
goes-alone true more alone = alone
goes-alone false more alone = fixed-alone [] []

goes-live : (goes : Bool) (more : List Pitch → List ℕ → Type 0) → Live more → Live (Goes goes more)
goes-live true more live = live
goes-live false more live = ([], [], (refl, refl))

-- a pitch is put before those behind it
abbrev Put : (List Pitch → List ℕ → Type 0) → Pitch → List Pitch → List ℕ → Type 0
Put more p = Then more (λ ps. Fixed (p ∷ ps) [])

named-alone : (more : List Pitch → List ℕ → Type 0) → Alone more → Alone (Named more)
named-alone more alone =
    then-alone PitchName (Put more) pitches-alone
    (λ p. then-alone more (λ ps. Fixed (p ∷ ps) []) alone (λ ps. fixed-alone (p ∷ ps) []))

put-live : (more : List Pitch → List ℕ → Type 0) (p : Pitch) → Live more → Live (Put more p)
put-live more p (ps, t, text) = then-live more (λ qs. Fixed (p ∷ qs) []) ps t text (p ∷ ps, [], (refl, refl))

-- the pitch A4
some_pitch : Pitch
some_pitch = (natural-four 65 (omega arith) (omega arith)).0

named-live : (more : List Pitch → List ℕ → Type 0) → Live more → Live (Named more)
named-live more live =
    then-live PitchName (Put more) some_pitch (name_of some_pitch) refl (put-live more some_pitch live)

-- what stands behind a space or the end of the line
abbrev Behind : ℕ → ℕ → Bool → List Pitch → List ℕ → Type 0
Behind owed most goes = Goes goes (Named (Names (owed - 1) most))

pub names-alone : (owed most : ℕ) → Alone (Names owed most)
names-alone owed zero = fixed-alone [] (10 ∷ [])
names-alone owed (suc most) =
    then-alone (Between owed) (Behind owed most) (between-alone owed)
    (λ goes. goes-alone goes (Named (Names (owed - 1) most)) (named-alone (Names (owed - 1) most) (names-alone (owed - 1) most)))

pub names-live : (owed most : ℕ) → Live (Names owed most)
names-live owed zero = ([], 10 ∷ [], (refl, refl))
names-live owed (suc most) =
    then-live (Between owed) (Behind owed most) true (32 ∷ []) refl
    (named-live (Names (owed - 1) most) (names-live (owed - 1) most))

-- ---- reading

module _ (owed most : ℕ) (bytes : List ℕ) where
  pub names-first : (left : ℕ) → Stops (Between owed) bytes left → Stops (Names owed (suc most)) bytes left
  names-first left stop =
      stops-first (Between owed) (Behind owed most) bytes left (between-alone owed)
      (λ goes t text. goes-live goes (Named (Names (owed - 1) most))
      (named-live (Names (owed - 1) most) (names-live (owed - 1) most)))
      stop

  pub names-end : (rest : List ℕ) → Reads (Between owed) bytes false rest → Reads (Names owed (suc most)) bytes [] rest
  names-end rest ends = reads-then (Between owed) (Behind owed most) bytes rest rest false [] ends ([], refl, (refl, refl))

  module _ (mid : List ℕ) (goes : Reads (Between owed) bytes true mid) where
    pub name-stops : (left : ℕ) → Stops PitchName mid left → Stops (Names owed (suc most)) bytes left
    name-stops left stop =
        stops-behind (Between owed) (Behind owed most) bytes mid left true (between-alone owed) goes
        (stops-first PitchName (Put (Names (owed - 1) most)) mid left pitches-alone
        (λ p t text. put-live (Names (owed - 1) most) p (names-live (owed - 1) most)) stop)

    module _ (p : Pitch) (later : List ℕ) (name : Reads PitchName mid p later) where
      pub more-stops : (left : ℕ) → Stops (Names (owed - 1) most) later left → Stops (Names owed (suc most)) bytes left
      more-stops left stop =
          stops-behind (Between owed) (Behind owed most) bytes mid left true (between-alone owed) goes
          (stops-behind PitchName (Put (Names (owed - 1) most)) mid later left p pitches-alone name
          (stops-first (Names (owed - 1) most) (λ ps. Fixed (p ∷ ps) []) later left (names-alone (owed - 1) most)
          (λ ps t text. (p ∷ ps, [], (refl, refl))) stop))

      pub names-more : (ps : List Pitch) (rest : List ℕ) → Reads (Names (owed - 1) most) later ps rest
          → Reads (Names owed (suc most)) bytes (p ∷ ps) rest
      names-more ps rest more =
          reads-then (Between owed) (Behind owed most) bytes mid rest true (p ∷ ps) goes
          (reads-then PitchName (Put (Names (owed - 1) most)) mid later rest p (p ∷ ps) name
          (reads-then (Names (owed - 1) most) (λ qs. Fixed (p ∷ qs) []) later rest rest ps (p ∷ ps) more
          ([], refl, (refl, refl))))

-- one more may come
pub one_more : (most : ℕ) → most ≢ 0 → most ≡ suc (most - 1)
one_more most some = omega (arith, some)

-- ---- the row has the texts of pitches

-- the names of pitches, and the end of their line
abbrev pub names_text : List Pitch → List ℕ
names_text ps = spaced (map name_of ps) ++ 10 ∷ []

pub names_text-more : (p : Pitch) (ps : List Pitch) → names_text (p ∷ ps) ≡ 32 ∷ (name_of p ++ names_text ps)
names_text-more p ps =
    ap (λ w. 32 ∷ w) (append_assoc (name_of p) (spaced (map name_of ps)) (10 ∷ []))

-- so many pitches, and their text
pub record SaysNames (owed most : ℕ) (ps : List Pitch) (text : List ℕ) : Type 0 where
  pub few : owed ≤ length ps
  pub many : length ps ≤ most
  pub is : text ≡ names_text ps

-- pitches that stand behind a space
named-say : (owed most : ℕ) (ps : List Pitch) (rest : List ℕ) → Named (Names (owed - 1) most) ps rest
    → ((qs : List Pitch) (text : List ℕ) → Names (owed - 1) most qs text → SaysNames (owed - 1) most qs text)
    → SaysNames owed (suc most) ps (32 ∷ rest)
named-say owed most ps rest named say =
    let put = named.behind in
    let later = say put.said put.front put.first in
    let size : length ps ≡ suc (length put.said) = ap length put.behind.0 in
    let end : put.front ++ put.rest ≡ names_text put.said =
    ap (λ w. put.front ++ w) put.behind.1 ∙ append-nil put.front ∙ later.is in
    record {
      few = omega (arith, size, later.few);
      many = omega (arith, size, later.many);
      is = ap (λ w. 32 ∷ w) (named.parts ∙ ap (λ w. w ++ named.rest) named.first
          ∙ ap (λ w. name_of named.said ++ w) (put.parts ∙ end))
          ∙ sym (names_text-more named.said put.said) ∙ ap names_text (sym put.behind.0);
    }

behind-say : (owed most : ℕ) (ps : List Pitch) (goes : Bool) (front rest : List ℕ) → Between owed goes front
    → Goes goes (Named (Names (owed - 1) most)) ps rest
    → ((qs : List Pitch) (text : List ℕ) → Names (owed - 1) most qs text → SaysNames (owed - 1) most qs text)
    → SaysNames owed (suc most) ps (front ++ rest)
behind-say owed most ps false front rest first behind say = record {
  few = omega (arith, first.0);
  many = omega (arith, ap length behind.0);
  is = ap (λ w. w ++ rest) first.1 ∙ ap (λ w. 10 ∷ w) behind.1 ∙ ap names_text (sym behind.0);
}
behind-say owed most ps true front rest first behind say =
    subst (λ w. SaysNames owed (suc most) ps (w ++ rest)) (sym first) (named-say owed most ps rest behind say)

pub names-say : (owed most : ℕ) (ps : List Pitch) (text : List ℕ) → owed ≤ most → Names owed most ps text
    → SaysNames owed most ps text
names-say owed zero ps text few row = record {
  few = omega (arith, few);
  many = omega (arith, ap length row.0);
  is = row.1 ∙ ap names_text (sym row.0);
}
names-say owed (suc most) ps text few row =
    subst (SaysNames owed (suc most) ps) (sym row.parts)
    (behind-say owed most ps row.said row.front row.rest row.first row.behind
    (λ qs t. names-say (owed - 1) most qs t (omega (arith, few))))

pub names-of : (owed most : ℕ) (ps : List Pitch) → owed ≤ length ps → length ps ≤ most
    → Names owed most ps (names_text ps)
names-of owed zero [] few many = (refl, refl)
names-of owed zero (p ∷ ps) few many = absurd (omega (arith, many))
names-of owed (suc most) [] few many = record {
  said = false;
  front = 10 ∷ [];
  rest = [];
  parts = refl;
  first = (omega (arith, few), refl);
  behind = (refl, refl);
}
names-of owed (suc most) (p ∷ ps) few many = record {
  said = true;
  front = 32 ∷ [];
  rest = name_of p ++ names_text ps;
  parts = names_text-more p ps;
  first = refl;
  behind = record {
    said = p;
    front = name_of p;
    rest = names_text ps;
    parts = refl;
    first = refl;
    behind = record {
      said = ps;
      front = names_text ps;
      rest = [];
      parts = sym (append-nil (names_text ps));
      first = names-of (owed - 1) most ps (omega (arith, few)) (omega (arith, many));
      behind = (refl, refl);
    };
  };
}
