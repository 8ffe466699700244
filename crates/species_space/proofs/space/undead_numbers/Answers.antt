use Rattle.std.proofs.Common.{◌≡◌, ℕ, ◌+◌, ◌-◌, ◌<◌, ◌≤◌, List, [], ◌++◌, length, replicate, slice_index_or, take, ap, sym, ◌∙◌, subst, arith}
use Rattle.std.proofs.lemmas.Bool.{OnFalse_at, OnTrue_at}
use Rattle.std.proofs.lemmas.List.{length-append, length-map, length-replicate, take_all}
use Rattle.fux_grid.specs.Grid.{items_of}
use Rattle.fux_judge.specs.Always.{IsAlwaysDead, IsSound}
use Rattle.species_space.specs.Blocks.{AreAlwaysDead, AreUndead, SkipDead}
use Rattle.species_space.proofs.Passing.{AreSoundSoFar, passed_on, skip_more, sound_more}
use Rattle.species_space.proofs.space.undead_numbers.Goals.{then-not-is_always_dead+in_ok-resize, else-not-is_always_dead}
use Rattle.species_space.proofs.space.undead_numbers.Goals as goal

pub loop-k-init : goal.loop-k-init
loop-k-init c =
    let none = ap length c.in_ok-numbers.ensures.items in
    record {
      short = omega (arith, none);
      skip = record {
        within = λ k lt. absurd (omega (arith, lt, none));
        dead = λ k lt. absurd (omega (arith, lt, none));
      };
      sound = λ j lt own. absurd (omega (arith, lt, none));
      beyond = λ j le lt. absurd (omega (arith, lt));
    }

-- the numbers of a list, all kept, and one number behind them
kept : (numbers : List ℕ) (n number m : ℕ) → m ≡ length numbers → length numbers ≤ n → take n numbers
    ++ replicate (n - m) number ≡ numbers ++ replicate (n - length numbers) number
kept numbers n number m same short =
    ap (λ front. front ++ replicate (n - m) number) (take_all n numbers short)
    ∙ ap (λ k. numbers ++ replicate (n - k) number) same

long : (numbers : List ℕ) (n number : ℕ) → length numbers ≤ n
    → length (numbers ++ replicate (n - length numbers) number) ≡ n
long numbers n number short = omega (
  arith,
  length-append numbers (replicate (n - length numbers) number),
  length-replicate (n - length numbers) number,
  short,
)

pub loop-k-preserved : goal.loop-k-preserved
loop-k-preserved c =
    let ex = c.args.exercise.now in
    let i = c.args.i in
    let menu = items_of c.args.columns.now in
    let k = c.loop-k.k in
    let numbers = c.loop-k.numbers.items in
    let old = c.loop-k.invariant in
    let all = length-map c.args.columns.now (λ col. col.items) in
    elim c.if-not-is_always_dead.branch [
      | then-not-is_always_dead+in_ok-resize w ↦
          let now = c.if-not-is_always_dead.numbers.items in
          let is : now ≡ numbers ++ replicate (k + 1 - length numbers) k = ap (λ vec. vec.items) w.numbers-is
          ∙ w.in_ok-resize.ensures.items
          ∙ kept numbers (k + 1) k _ c.loop-k.numbers.ok.0 (omega (arith, old.short)) in
          let size : length now ≡ k + 1 = ap length is ∙ long numbers (k + 1) k (omega (arith, old.short)) in
          record {
            short = omega (arith, size);
            skip = subst (SkipDead ex i menu) (sym is)
                (skip_more ex i menu numbers (k + 1 - length numbers) k old.skip
                (omega (arith, all, c.loop-k-test.true)) old.beyond);
            sound = subst (AreSoundSoFar ex i menu) (sym is)
                (sound_more ex i menu numbers (k + 1 - length numbers) k (k + 1) old.sound
                (λ j from lt own. subst (λ n. IsSound ex i (slice_index_or menu n [])) (the_last j k own lt)
                (subst (IsSound ex i) c.column_at.ensures
                (OnFalse_at w.if-not-is_always_dead.true c.is_always_dead.ensures.sound)))
                (omega (arith, long numbers (k + 1) k (omega (arith, old.short)))));
            beyond = λ j le lt. absurd (omega (arith, le, lt, size));
          }
      | else-not-is_always_dead w ↦
          let same : numbers ≡ c.if-not-is_always_dead.numbers.items = sym (ap (λ vec. vec.items) w.numbers-is) in
          let dead : IsAlwaysDead ex i (slice_index_or menu k []) = subst (IsAlwaysDead ex i) c.column_at.ensures
          (OnTrue_at w.if-not-is_always_dead.false c.is_always_dead.ensures.dead) in
          record {
            short = subst (λ ns. length ns ≤ k + 1) same (omega (arith, old.short));
            skip = subst (SkipDead ex i menu) same old.skip;
            sound = subst (AreSoundSoFar ex i menu) same old.sound;
            beyond = subst (λ ns. AreAlwaysDead ex i menu (length ns) (k + 1)) same
                (passed_on (λ j. IsAlwaysDead ex i (slice_index_or menu j [])) (length numbers) k (k + 1) old.beyond
                (λ j le lt. subst (λ n. IsAlwaysDead ex i (slice_index_or menu n [])) (the_last j k le lt) dead));
          }
    ]
  where
    the_last : (j k : ℕ) → k ≤ j → j < k + 1 → k ≡ j
    the_last j k le lt = omega (arith, le, lt)

pub returns : goal.returns
returns c =
    let ex = c.args.exercise.now in
    let i = c.args.i in
    let menu = items_of c.args.columns.now in
    let n = length c.args.columns.now in
    let numbers = c.loop-k.numbers.items in
    let old = c.loop-k.invariant in
    let all = length-map c.args.columns.now (λ col. col.items) in
    let short : length numbers ≤ n = omega (arith, old.short, c.loop-k.auto.k-end) in
    let is : c.resize-2.new.self.items ≡ numbers ++ replicate (n - length numbers) n = c.in_ok-resize-2.ensures.items
    ∙ kept numbers n n _ c.loop-k.numbers.ok.0 short in
    let size : length (numbers ++ replicate (n - length numbers) n) ≡ n = long numbers n n short in
    subst (AreUndead ex i menu) (sym is) record {
      skip = skip_more ex i menu numbers (n - length numbers) n old.skip (omega (arith, all))
          (λ j le lt. old.beyond j le (omega (arith, lt, c.loop-k-test.false)));
      sound = λ j lt own.
          let there : j < length (numbers ++ replicate (n - length numbers) n) = omega (arith, lt, all, size) in
          sound_more ex i menu numbers (n - length numbers) n n old.sound
          (λ m from small late. absurd (omega (arith, small, late))) (omega (arith, size)) j there (own there);
    }

pub returns-then-not-some_are_dead : goal.returns-then-not-some_are_dead
returns-then-not-some_are_dead c =
    record {
      skip = record {
        within = λ k lt. absurd (omega (arith, lt));
        dead = λ k lt. absurd (omega (arith, lt));
      };
      sound = λ k lt own. OnFalse_at c.if-not-some_are_dead.true c.some_are_dead.ensures k lt;
    }
