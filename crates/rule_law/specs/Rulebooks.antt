-- What a crate of rules gives to those above it and owes them, and how two crates are read as one.
use Rattle.std.specs.Prelude.{◌≡◌, ℕ, ◌+◌, ◌<◌, ◌≤◌, Bool, true, false, ◌&&◌, ◌||◌, List, [], ◌∷◌, ◌++◌, length, if◌then◌else◌, refl}
use Rattle.std.specs.List.{list_any}
use Rattle.std.proofs.Common.{sym, ◌∙◌, arith}
use Rattle.fux_grid.specs.declared.cell.Cell.{Cell}
use Rattle.fux_grid.specs.declared.exercise.Exercise.{Exercise}
use Rattle.rule_law.specs.declared.table.Form.{Form}
use Rattle.rule_law.specs.declared.table.Form.TheVariants.{OneVoice}
use Rattle.rule_law.specs.declared.table.Kind.{Kind}
use Rattle.rule_law.specs.declared.table.Kind.TheVariants.{Column}
use Rattle.rule_law.specs.declared.table.Stands.{Stands}
use Rattle.rule_law.specs.declared.table.Stands.TheVariants.{AtTheEnd}
use Rattle.rule_law.specs.Forms.{IsOf, all_sets, sets_of, may_stand}
use Rattle.rule_law.specs.Growth.{EnoughStays, newly, sum_by-none}
use Rattle.rule_law.specs.Law.{at_once_settles}
use Rattle.rule_law.specs.Places.{Row, IsLocal, SettlesAtEnd, reading_of, settled_by, at_once}
use Rattle.rule_law.specs.Prefixes.{GoesOn}
use Rattle.rule_law.specs.Quiet.{is_quiet}

-- a rule. Its rows and its kind define it, and the other fields say how it is read
pub record RuleRow : Type 0 where
  -- what breaks it for a set of voices, which columns are enough to settle that, and how much it is
  -- read from: chains look at no rule of a window
  pub broken : Exercise → ℕ → Row Bool
  pub enough : Exercise → ℕ → Row Bool
  pub kind : Kind
  -- these define nothing, and `KeepsRuleLaws` ties them to the rows: the sets of voices and the
  -- places where it may be broken, whether it is late, and the places at which column i may settle
  -- a break, the first and how many. A late rule is read when its column is among the newest ones,
  -- so it may be settled later than at its own column
  pub form : Form
  pub stands : Stands
  pub late : Bool
  pub first : Exercise → ℕ → ℕ
  pub count : Exercise → ℕ → ℕ

-- a toll: the same of what it costs, without its weight. Here too the last three fields define
-- nothing
pub record TollRow : Type 0 where
  pub cost : Exercise → Row ℕ
  pub enough : Exercise → Row Bool
  pub kind : Kind
  pub late : Bool
  pub first : Exercise → ℕ → ℕ
  pub count : Exercise → ℕ → ℕ

-- settled by the last column, and by none before it, at a place: a break, and what a toll costs
abbrev pub newly_breaks : RuleRow → Exercise → ℕ → List (List Cell) → List Cell → ℕ → Bool
newly_breaks it ex voices p col i =
    newly (settled_by (it.enough ex voices)) p col i && reading_of (it.broken ex voices) (p ++ col ∷ []) i

abbrev pub newly_costs : TollRow → Exercise → List (List Cell) → List Cell → ℕ → ℕ
newly_costs it ex p col i =
    if newly (settled_by (it.enough ex)) p col i then reading_of (it.cost ex) (p ++ col ∷ []) i else 0

-- the place is one of so many from the first one on
pub record IsAmong (first count i : ℕ) : Type 0 where
  pub from : first ≤ i
  pub to : i < first + count

-- what a crate owes of a rule
pub record KeepsRuleLaws (it : RuleRow) : Type 0 where
  pub local : (ex : Exercise) (voices : ℕ)
      → IsLocal ex (reading_of (it.broken ex voices)) (settled_by (it.enough ex voices))
  pub stays : (ex : Exercise) (voices : ℕ) → EnoughStays (it.enough ex voices)
  pub ends : (ex : Exercise) (voices : ℕ) → SettlesAtEnd ex (settled_by (it.enough ex voices))
  -- for no sets but those of its form is it broken, and at no place but where it may stand
  pub form : (ex : Exercise) (i : ℕ) (behind : List (List Cell)) (now : List Cell) (ahead : List (List Cell))
      → IsOf (sets_of it.form ex.voices) (λ voices. it.broken ex voices i behind now ahead)
  pub stands : (ex : Exercise) (voices i : ℕ) (behind : List (List Cell)) (now : List Cell)
      → may_stand it.stands ex i ≡ false → it.broken ex voices i behind now [] ≡ false
  -- one that isn't late is settled at once, and unbroken where neither a bar nor a note begins
  pub at_once : it.late ≡ false → (ex : Exercise) (voices i : ℕ) (behind : List (List Cell)) (now : List Cell)
      (ahead : List (List Cell))
      → it.enough ex voices i behind now ahead ≡ true
  pub quiet : it.late ≡ false → (ex : Exercise) (voices i : ℕ) (behind : List (List Cell)) (now : List Cell)
      → is_quiet i now ≡ true → it.broken ex voices i behind now [] ≡ false
  -- after an orderly prefix a column settles breaks at its places alone, none of them behind it
  pub places : it.late ≡ true → (ex : Exercise) (voices : ℕ) (p : List (List Cell)) (col : List Cell) (i : ℕ)
      → GoesOn ex p (col ∷ []) → newly_breaks it ex voices p col i ≡ true
      → IsAmong (it.first ex (length p)) (it.count ex (length p)) i
  pub within : (ex : Exercise) (i : ℕ) → it.first ex i + it.count ex i ≤ i + 1

-- what it owes of a toll
pub record KeepsTollLaws (it : TollRow) : Type 0 where
  pub local : (ex : Exercise) → IsLocal ex (reading_of (it.cost ex)) (settled_by (it.enough ex))
  pub stays : (ex : Exercise) → EnoughStays (it.enough ex)
  pub ends : (ex : Exercise) → SettlesAtEnd ex (settled_by (it.enough ex))
  pub at_once : it.late ≡ false → (ex : Exercise) (i : ℕ) (behind : List (List Cell)) (now : List Cell)
      (ahead : List (List Cell))
      → it.enough ex i behind now ahead ≡ true
  pub quiet : it.late ≡ false → (ex : Exercise) (i : ℕ) (behind : List (List Cell)) (now : List Cell)
      → is_quiet i now ≡ true → it.cost ex i behind now [] ≡ 0
  -- after an orderly prefix a column settles costs at its places alone, none of them behind it
  pub places : it.late ≡ true → (ex : Exercise) (p : List (List Cell)) (col : List Cell) (i : ℕ)
      → GoesOn ex p (col ∷ []) → 0 < newly_costs it ex p col i
      → IsAmong (it.first ex (length p)) (it.count ex (length p)) i
  pub within : (ex : Exercise) (i : ℕ) → it.first ex i + it.count ex i ≤ i + 1

-- what a crate has: which numbers are those of its rules and tolls, and each by its number; and the
-- numbers of its late rules, in the order in which they are asked
pub record Rulebook : Type 0 where
  pub has_rule : ℕ → Bool
  pub rule : ℕ → RuleRow
  pub late_rules : List ℕ
  pub has_toll : ℕ → Bool
  pub toll : ℕ → TollRow

-- the crate keeps the laws, for each number that it has
pub record KeepsLaws (book : Rulebook) : Type 0 where
  pub rules : (n : ℕ) → book.has_rule n ≡ true → KeepsRuleLaws (book.rule n)
  pub tolls : (n : ℕ) → book.has_toll n ≡ true → KeepsTollLaws (book.toll n)

-- and for every number
pub record KeepsAllLaws (book : Rulebook) : Type 0 where
  pub rules : (n : ℕ) → KeepsRuleLaws (book.rule n)
  pub tolls : (n : ℕ) → KeepsTollLaws (book.toll n)

-- two crates as one: a number is read as the first one that has it reads it, and the late rules of
-- the second are asked first
abbrev pub joined : Rulebook → Rulebook → Rulebook
joined a b = record {
  has_rule = λ n. a.has_rule n || b.has_rule n;
  rule = λ n. if a.has_rule n then a.rule n else b.rule n;
  late_rules = b.late_rules ++ a.late_rules;
  has_toll = λ n. a.has_toll n || b.has_toll n;
  toll = λ n. if a.has_toll n then a.toll n else b.toll n;
}

-- a rule that is never broken, and a toll that costs nothing: such is each number that no crate has
abbrev pub no_rule : RuleRow
no_rule = record {
  form = OneVoice;
  kind = Column;
  stands = AtTheEnd;
  late = false;
  broken = λ ex voices i behind now ahead. false;
  enough = λ ex voices. at_once;
  first = λ ex i. i;
  count = λ ex i. 1;
}

abbrev pub no_toll : TollRow
no_toll = record {
  kind = Column;
  late = false;
  cost = λ ex i behind now ahead. 0;
  enough = λ ex. at_once;
  first = λ ex i. i;
  count = λ ex i. 1;
}

abbrev pub nothing : Rulebook
nothing = record {
  has_rule = λ n. false;
  rule = λ n. no_rule;
  late_rules = [];
  has_toll = λ n. false;
  toll = λ n. no_toll;
}

-- ---- what holds of them

none_of : (sets : List ℕ) → IsOf sets (λ voices. false)
none_of sets = record {
  any = λ also. fails all_sets ∙ sym (fails sets);
  sum = λ price. sum_by-none (λ voices. 0) all_sets (λ v. refl) ∙ sym (sum_by-none (λ voices. 0) sets (λ v. refl));
}
  where
    fails : (xs : List ℕ) → list_any (λ voices. false) xs ≡ false
    fails [] = refl
    fails (x ∷ xs) = fails xs

no_rule_keeps : KeepsRuleLaws no_rule
no_rule_keeps = record {
  local = λ ex voices p t i on settled. refl;
  stays = λ ex voices i behind now ahead t h. refl;
  ends = λ ex voices. at_once_settles ex;
  form = λ ex i behind now ahead. none_of (sets_of OneVoice ex.voices);
  stands = λ ex voices i behind now h. refl;
  at_once = λ e ex voices i behind now ahead. refl;
  quiet = λ e ex voices i behind now h. refl;
  places = λ e. cc;
  within = λ ex i. omega arith;
}

no_toll_keeps : KeepsTollLaws no_toll
no_toll_keeps = record {
  local = λ ex p t i on settled. refl;
  stays = λ ex i behind now ahead t h. refl;
  ends = λ ex. at_once_settles ex;
  at_once = λ e ex i behind now ahead. refl;
  quiet = λ e ex i behind now h. refl;
  places = λ e. cc;
  within = λ ex i. omega arith;
}

pub nothing_keeps : KeepsAllLaws nothing
nothing_keeps = record { rules = λ n. no_rule_keeps; tolls = λ n. no_toll_keeps }

-- what each choice keeps where it's made, the choice keeps
chosen : {X : Type 0} (P : X → Type 0) (b : Bool) (x y : X) → (b ≡ true → P x) → P y → P (if b then x else y)
chosen P true x y h k = h refl
chosen P false x y h k = k

pub joined_keeps : (a b : Rulebook) → KeepsLaws a → KeepsAllLaws b → KeepsAllLaws (joined a b)
joined_keeps a b h k = record {
  rules = λ n. chosen KeepsRuleLaws (a.has_rule n) (a.rule n) (b.rule n) (h.rules n) (k.rules n);
  tolls = λ n. chosen KeepsTollLaws (a.has_toll n) (a.toll n) (b.toll n) (h.tolls n) (k.tolls n);
}
