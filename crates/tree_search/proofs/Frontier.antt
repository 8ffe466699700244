-- What a front gives, and how it is kept.
use Rattle.std.proofs.Common.{◌≡◌, ◌≢◌, ℕ, ◌+◌, ◌<◌, ◌≤◌, ◌⊎◌, inl, inr, ⊎_elim, List, [], ◌∷◌, ◌++◌, length, Option, Some, is_some, zero, suc, sym, ap, subst, ◌∙◌, arith, append_assoc, append-nil, length-append}
use Rattle.std.proofs.lemmas.List.{same_from_push}
use Rattle.std.proofs.lemmas.Bool.{cases_lt, cases_eq}
use Rattle.tree_search.specs.Answer.{IsLeaf, IsLoaded}
use Rattle.tree_search.specs.Space.{FloorsGrow}
use Rattle.tree_search.specs.Fronts.{IsDone, IsFront, IsOpening}
use Rattle.tree_search.proofs.Floors.{live_above, child_within}
use Rattle.tree_search.proofs.Trails.{some_of}

-- the path is of an entry
abbrev pub InArena : ℕ → (ℕ → List ℕ) → List ℕ → Type 0
InArena n P path = (m : ℕ) × (m < n) × (P m ≡ path)

-- an entry that is not done, of at most this floor
pub record IsPending (n : ℕ) (F waits : ℕ → ℕ) (Spared : ℕ → Type 0) (floor : ℕ) : Type 0 where
  pub entry : ℕ
  pub within : entry < n
  pub open_yet : (0 < waits entry) ⊎ Spared entry
  pub low : F entry ≤ floor

pending_higher : (n : ℕ) (F waits : ℕ → ℕ) (Spared : ℕ → Type 0) (a b : ℕ) → a ≤ b
    → IsPending n F waits Spared a → IsPending n F waits Spared b
pending_higher n F waits Spared a b le h =
    record { entry = h.entry; within = h.within; open_yet = h.open_yet; low = omega (arith, le, h.low) }

pub child_inj : (p q : List ℕ) (j k : ℕ) → p ++ j ∷ [] ≡ q ++ k ∷ [] → (p ≡ q) × (j ≡ k)
child_inj p q j k e = same_from_push p q j k e

pub child_not_root : (p : List ℕ) (k : ℕ) → p ++ k ∷ [] ≡ [] → ⊥
child_not_root [] k e = cc
child_not_root (x ∷ p) k e = cc

module _ {live : List ℕ → Option ℕ} {width : List ℕ → ℕ} {height : ℕ} (grows : FloorsGrow live width height)
    {n : ℕ} {P : ℕ → List ℕ} {F waits : ℕ → ℕ} {Spared : ℕ → Type 0} {Covered : List ℕ → ℕ → Type 0} {reached : ℕ}
    (front : IsFront live height n P F waits Spared Covered reached) where
  -- from an entry on, a live path is of an entry, or goes through one that is not done
  reach : (rest start : List ℕ) (w i : ℕ) → i < n → P i ≡ start → live (start ++ rest) ≡ Some w
      → InArena n P (start ++ rest) ⊎ IsPending n F waits Spared w
  reach [] start w i within at is = inl (i, within, at ∙ sym (append-nil start))
  reach (k ∷ rest) start w i within at is =
      let above = live_above grows (k ∷ rest) start w is in
      let own : F i ≡ above.0 = let e = sym (front.floors i within) ∙ ap live at ∙ above.1 in cc in
      let low : F i ≤ w = omega (arith, own, above.2) in
      let on : live ((start ++ k ∷ []) ++ rest) ≡ Some w = ap live (append_assoc start (k ∷ []) rest) ∙ is in
      let child = live_above grows rest (start ++ k ∷ []) w on in
      ⊎_elim
      (λ wait. inr (record { entry = i; within = within; open_yet = inl wait; low = low }))
      (λ other. ⊎_elim
      (λ spared. inr (record { entry = i; within = within; open_yet = inr spared; low = low }))
      (λ done.
      let m = done.children k (ap (λ (p : List ℕ). is_some (live (p ++ k ∷ []))) at ∙ ap is_some child.1) in
      ⊎_elim
      (λ found. inl (found.0, found.1, found.2 ∙ append_assoc start (k ∷ []) rest))
      (λ pending. inr pending)
      (reach rest (start ++ k ∷ []) w m.0 m.1 (m.2 ∙ ap (λ (p : List ℕ). p ++ k ∷ []) at) on))
      other)
      (front.done i within)

  pub met : (path : List ℕ) (w : ℕ) → live path ≡ Some w → InArena n P path ⊎ IsPending n F waits Spared w
  met path w is = reach path [] w 0 front.some front.root is

  -- a leaf is covered, or an entry that is not done is no higher
  pub leaf_met : (path : List ℕ) (w : ℕ) → IsLeaf live height path w → Covered path w ⊎ IsPending n F waits Spared w
  leaf_met path w leaf =
      ⊎_elim
      (λ found.
      let own : F found.0 ≡ w = let e = sym (front.floors found.0 found.1) ∙ ap live found.2 ∙ leaf.1 in cc in
      ⊎_elim
      (λ wait. inr (record { entry = found.0; within = found.1; open_yet = inl wait; low = omega (arith, own) }))
      (λ other. ⊎_elim
      (λ spared. inr
      (record { entry = found.0; within = found.1; open_yet = inr spared; low = omega (arith, own) }))
      (λ done. inl
      (subst (λ (p : List ℕ). Covered p w) found.2
      (subst (λ (v : ℕ). Covered (P found.0) v) own (done.leaf (ap length found.2 ∙ leaf.0)))))
      other)
      (front.done found.0 found.1))
      (λ pending. inr pending)
      (met path w leaf.1)

  -- a path that is loaded is of an entry, or an entry that is not done is no higher
  pub loaded_met : (x : ℕ) (path : List ℕ) → IsLoaded live x path → InArena n P path ⊎ IsPending n F waits Spared x
  loaded_met x path loaded =
      ⊎_elim
      (λ found.
      let own : F found.0 ≡ loaded.own_floor = let e = sym (front.floors found.0 found.1) ∙ ap live found.2
      ∙ loaded.parent_live in cc in
      ⊎_elim
      (λ wait. inr
      (record { entry = found.0; within = found.1; open_yet = inl wait; low = omega (arith, own, loaded.low) }))
      (λ other. ⊎_elim
      (λ spared. inr
      (record {
        entry = found.0;
        within = found.1;
        open_yet = inr spared;
        low =
            omega (arith, own, loaded.low);
      }))
      (λ done.
      let m = done.children loaded.child
      (ap (λ (p : List ℕ). is_some (live (p ++ loaded.child ∷ []))) found.2
      ∙ ap (λ (p : List ℕ). is_some (live p)) (sym loaded.is) ∙ loaded.is_live) in
      inl (m.0, m.1, m.2 ∙ ap (λ (p : List ℕ). p ++ loaded.child ∷ []) found.2 ∙ sym loaded.is))
      other)
      (front.done found.0 found.1))
      (λ pending. inr (pending_higher n F waits Spared loaded.own_floor x loaded.low pending))
      (met loaded.parent loaded.own_floor loaded.parent_live)

  -- a live child joins the arena and waits
  pub IsFront-add : (P' : ℕ → List ℕ) (F' waits' : ℕ → ℕ) (c k f : ℕ) → IsOpening live n P waits c k
      → F c ≡ reached → live (P c ++ k ∷ []) ≡ Some f →
      ((i : ℕ) → i < n → P' i ≡ P i) → P' n ≡ P c ++ k ∷ [] → ((i : ℕ) → i < n → F' i ≡ F i) → F' n ≡ f →
      ((i : ℕ) → i ≢ n → waits' i ≡ waits i) → waits' n ≡ 1 →
      IsFront live height (n + 1) P' F' waits' Spared Covered reached
  IsFront-add P' F' waits' c k f opening level is old_P new_P old_F new_F old_waits new_waits = record {
    root = old_P 0 front.some ∙ front.root;
    some = omega arith;
    floors = λ i within. ⊎_elim
        (λ less. ap live (old_P i less) ∙ front.floors i less ∙ ap Some (sym (old_F i less)))
        (λ more. let e : i ≡ n = omega (arith, within, more) in
        subst (λ (j : ℕ). live (P' j) ≡ Some (F' j)) (sym e) (ap live new_P ∙ is ∙ ap Some (sym new_F)))
        (cases_lt i n);
    differ = λ i j wi wj e. ⊎_elim
        (λ li. ⊎_elim
        (λ lj. front.differ i j li lj (sym (old_P i li) ∙ e ∙ old_P j lj))
        (λ mj. let ej : j ≡ n = omega (arith, wj, mj) in
        absurd (unmet i li (sym (old_P i li) ∙ e ∙ ap P' ej ∙ new_P)))
        (cases_lt j n))
        (λ mi. let ei : i ≡ n = omega (arith, wi, mi) in ⊎_elim
        (λ lj. absurd (unmet j lj (sym (old_P j lj) ∙ sym e ∙ ap P' ei ∙ new_P)))
        (λ mj. omega (arith, ei, mj, wj))
        (cases_lt j n))
        (cases_lt i n);
    parents = λ m some within. ⊎_elim
        (λ less.
        let h = front.parents m some less in
        record {
          parent = h.parent;
          within = omega (arith, h.within);
          child = h.child;
          is = old_P m less ∙ h.is ∙ ap (λ (p : List ℕ). p ++ h.child ∷ []) (sym (old_P h.parent h.within));
          low = omega (arith, old_F h.parent h.within, h.low);
        })
        (λ more.
        let e : m ≡ n = omega (arith, within, more) in
        record {
          parent = c;
          within = omega (arith, opening.here);
          child = k;
          is = ap P' e ∙ new_P ∙ ap (λ (p : List ℕ). p ++ k ∷ []) (sym (old_P c opening.here));
          low = omega (arith, old_F c opening.here, level);
        })
        (cases_lt m n);
    once = λ i. ⊎_elim (λ e. subst (λ (j : ℕ). waits' j ≤ 1) (sym e) (omega (arith, new_waits)))
        (λ ne. omega (arith, old_waits i ne, front.once i)) (cases_eq i n);
    within = λ i some. ⊎_elim (λ e. omega (arith, e))
        (λ ne. omega (arith, front.within i (omega (arith, some, old_waits i ne)))) (cases_eq i n);
    high = λ i some. ⊎_elim
        (λ e.
        let above = live_above grows (k ∷ []) (P c) f is in
        let own : F c ≡ above.0 = let g = sym (front.floors c opening.here) ∙ above.1 in cc in
        subst (λ (j : ℕ). reached ≤ F' j) (sym e) (omega (arith, new_F, level, own, above.2)))
        (λ ne.
        let waiting : 0 < waits i = omega (arith, some, old_waits i ne) in
        omega (arith, old_F i (front.within i waiting), front.high i waiting))
        (cases_eq i n);
    fresh = λ i m j some within e. ⊎_elim
        (λ ei. ⊎_elim
        (λ lm. unborn m j lm (sym (old_P m lm) ∙ e ∙ ap (λ (p : List ℕ). p ++ j ∷ []) (ap P' ei ∙ new_P)))
        (λ mm.
        let em : m ≡ n = omega (arith, within, mm) in
        longer (P' n) j (ap P' (sym em) ∙ e ∙ ap (λ (p : List ℕ). p ++ j ∷ []) (ap P' ei)))
        (cases_lt m n))
        (λ ne.
        let waiting : 0 < waits i = omega (arith, some, old_waits i ne) in
        let li = front.within i waiting in
        ⊎_elim
        (λ lm. front.fresh i m j waiting lm (sym (old_P m lm) ∙ e ∙ ap (λ (p : List ℕ). p ++ j ∷ []) (old_P i li)))
        (λ mm.
        let em : m ≡ n = omega (arith, within, mm) in
        let same =
        child_inj (P c) (P i) k j
        (sym new_P ∙ ap P' (sym em) ∙ e ∙ ap (λ (p : List ℕ). p ++ j ∷ []) (old_P i li)) in
        let ec : c ≡ i = front.differ c i opening.here li same.0 in
        let none : waits i ≡ 0 = subst (λ (x : ℕ). waits x ≡ 0) ec opening.taken in
        omega (arith, waiting, none))
        (cases_lt m n))
        (cases_eq i n);
    done = λ i within. ⊎_elim
        (λ less. ⊎_elim
        (λ wait. let ne : i ≢ n = omega (arith, less) in inl (omega (arith, wait, old_waits i ne)))
        (λ other. ⊎_elim
        (λ spared. inr (inl spared))
        (λ h. inr (inr (record {
          low = omega (arith, old_F i less, h.low);
          children = λ j lives.
              let m = h.children j
              (ap (λ (p : List ℕ). is_some (live (p ++ j ∷ []))) (sym (old_P i less)) ∙ lives) in (
                m.0,
                omega (arith, m.1),
                old_P m.0 m.1 ∙ m.2
                    ∙ ap (λ (p : List ℕ). p ++ j ∷ []) (sym (old_P i less)),
              );
          leaf = λ long.
              subst (λ (p : List ℕ). Covered p (F' i)) (sym (old_P i less))
              (subst (λ (v : ℕ). Covered (P i) v) (sym (old_F i less))
              (h.leaf (sym (ap length (old_P i less)) ∙ long)));
        })))
        other)
        (front.done i less))
        (λ more. let e : i ≡ n = omega (arith, within, more) in
        inl (subst (λ (j : ℕ). 0 < waits' j) (sym e) (omega (arith, new_waits))))
        (cases_lt i n);
  }
    where
      unmet : (m : ℕ) → m < n → P m ≡ P c ++ k ∷ [] → ⊥
      unmet m less e = omega (arith, opening.yet m k less e)

      unborn : (m j : ℕ) → m < n → P m ≡ (P c ++ k ∷ []) ++ j ∷ [] → ⊥
      unborn zero j less e = child_not_root (P c ++ k ∷ []) j (sym e ∙ front.root)
      unborn (suc m) j less e =
          let h = front.parents (suc m) (omega arith) less in
          let same = child_inj (P h.parent) (P c ++ k ∷ []) h.child j (sym h.is ∙ e) in
          unmet h.parent h.within same.0

      longer : (p : List ℕ) (j : ℕ) → p ≡ p ++ j ∷ [] → ⊥
      longer p j e = omega (arith, ap length e, length-append p (j ∷ []))

  pub IsOpening-add : (P' : ℕ → List ℕ) (waits' : ℕ → ℕ) (c k : ℕ) → IsOpening live n P waits c k →
      ((i : ℕ) → i < n → P' i ≡ P i) → P' n ≡ P c ++ k ∷ [] → ((i : ℕ) → i ≢ n → waits' i ≡ waits i)
      → IsOpening live (n + 1) P' waits' c (k + 1)
  IsOpening-add P' waits' c k opening old_P new_P old_waits = record {
    here = omega (arith, opening.here);
    taken = let ne : c ≢ n = omega (arith, opening.here) in old_waits c ne ∙ opening.taken;
    mine = λ j less lives. ⊎_elim
        (λ before.
        let m = opening.mine j before
        (ap (λ (p : List ℕ). is_some (live (p ++ j ∷ []))) (sym (old_P c opening.here)) ∙ lives) in (
          m.0,
          omega (arith, m.1),
          old_P m.0 m.1 ∙ m.2
              ∙ ap (λ (p : List ℕ). p ++ j ∷ []) (sym (old_P c opening.here)),
        ))
        (λ after.
        let e : k ≡ j = omega (arith, less, after) in (
          n,
          omega arith,
          new_P ∙ ap (λ (x : ℕ). P c ++ x ∷ []) e
              ∙ ap (λ (p : List ℕ). p ++ j ∷ []) (sym (old_P c opening.here)),
        ))
        (cases_lt j k);
    yet = λ m j within e. ⊎_elim
        (λ less. let before =
        opening.yet m j less
        (sym (old_P m less) ∙ e ∙ ap (λ (p : List ℕ). p ++ j ∷ []) (old_P c opening.here)) in
        omega (arith, before))
        (λ more.
        let em : m ≡ n = omega (arith, within, more) in
        let same =
        child_inj (P c) (P c) k j
        (sym new_P ∙ ap P' (sym em) ∙ e ∙ ap (λ (p : List ℕ). p ++ j ∷ []) (old_P c opening.here)) in
        omega (arith, same.1))
        (cases_lt m n);
  }

  -- out of what waits
  pub IsOpening-pop : (waits' : ℕ → ℕ) (c : ℕ) → 0 < waits c → waits' c ≡ 0 → IsOpening live n P waits' c 0
  IsOpening-pop waits' c waiting none = record {
    here = front.within c waiting;
    taken = none;
    mine = λ j less lives. absurd (omega (arith, less));
    yet = λ m j less e. absurd (front.fresh c m j waiting less e);
  }

-- past children that are dead
pub IsOpening-passed : {live : List ℕ → Option ℕ} {n : ℕ} {P : ℕ → List ℕ} {waits : ℕ → ℕ} {c from : ℕ}
    (to : ℕ) → from ≤ to →
    ((k floor : ℕ) → from ≤ k → k < to → live (P c ++ k ∷ []) ≡ Some floor → ⊥)
    → IsOpening live n P waits c from → IsOpening live n P waits c to
IsOpening-passed {live} {P} {c} {from} to le dead opening = record {
  here = opening.here;
  taken = opening.taken;
  mine = λ j less lives. ⊎_elim
      (λ before. opening.mine j before lives)
      (λ after. let floor = some_of (live (P c ++ j ∷ [])) lives in absurd (dead j floor.0 after less floor.1))
      (cases_lt j from);
  yet = λ m j less e. omega (arith, opening.yet m j less e, le);
}

module _ {live : List ℕ → Option ℕ} {width : List ℕ → ℕ} {height : ℕ} (grows : FloorsGrow live width height)
    {n : ℕ} {P : ℕ → List ℕ} {F waits : ℕ → ℕ} {Covered : List ℕ → ℕ → Type 0} {reached : ℕ} where
  -- the first that waits is taken out
  pub IsFront-pop : (waits' : ℕ → ℕ) (c : ℕ) → IsFront live height n P F waits (λ _. ⊥) Covered reached
      → 0 < waits c → waits' c ≡ 0 → ((i : ℕ) → i ≢ c → waits' i ≡ waits i) →
      ((j : ℕ) → 0 < waits' j → F c ≤ F j) → IsFront live height n P F waits' (λ i. i ≡ c) Covered (F c)
  IsFront-pop waits' c front waiting none others least =
      let up : reached ≤ F c = front.high c waiting in
      let before = λ (i : ℕ) (some : 0 < waits' i). kept i some in
      record {
        root = front.root;
        some = front.some;
        floors = front.floors;
        differ = front.differ;
        parents = λ m some within. let h = front.parents m some within in
            record {
              parent = h.parent;
              within = h.within;
              child = h.child;
              is = h.is;
              low =
                  omega (arith, h.low, up);
            };
        once = λ i. ⊎_elim (λ e. subst (λ (j : ℕ). waits' j ≤ 1) (sym e) (omega (arith, none)))
            (λ ne. omega (arith, others i ne, front.once i)) (cases_eq i c);
        within = λ i some. front.within i (before i some);
        high = least;
        fresh = λ i m k some within e. front.fresh i m k (before i some) within e;
        done = λ i within. ⊎_elim
            (λ e. inr (inl e))
            (λ ne. ⊎_elim
            (λ wait. inl (omega (arith, wait, others i ne)))
            (λ other. ⊎_elim (λ no. absurd no)
            (λ h. inr
            (inr (record { low = omega (arith, h.low, up); children = h.children; leaf = h.leaf }))) other)
            (front.done i within))
            (cases_eq i c);
      }
    where
      kept : (i : ℕ) → 0 < waits' i → 0 < waits i
      kept i some =
          ⊎_elim (λ e. absurd
          (let zero_here = subst (λ (j : ℕ). waits' j ≡ 0) (sym e) none in omega (arith, some, zero_here)))
          (λ ne. omega (arith, some, others i ne)) (cases_eq i c)

  -- the entry taken out is done, with what is known of it
  close : (c : ℕ) (Covered' : List ℕ → ℕ → Type 0)
      → IsFront live height n P F waits (λ i. i ≡ c) Covered reached
      → ((path : List ℕ) (value : ℕ) → Covered path value → Covered' path value) →
      IsDone live height n P F Covered' reached c → IsFront live height n P F waits (λ _. ⊥) Covered' reached
  close c Covered' front on done_c = record {
    root = front.root;
    some = front.some;
    floors = front.floors;
    differ = front.differ;
    parents = front.parents;
    once = front.once;
    within = front.within;
    high = front.high;
    fresh = front.fresh;
    done = λ i within. ⊎_elim
        (λ wait. inl wait)
        (λ other. ⊎_elim
        (λ e. inr (inr (subst (λ (j : ℕ). IsDone live height n P F Covered' reached j) (sym e) done_c)))
        (λ h. inr
        (inr (record { low = h.low; children = h.children; leaf = λ long. on (P i) (F i) (h.leaf long) })))
        other)
        (front.done i within);
  }

  -- all its children stand in the arena
  pub IsFront-opened : (c k : ℕ) → IsFront live height n P F waits (λ i. i ≡ c) Covered reached
      → IsOpening live n P waits c k → width (P c) ≤ k → length (P c) < height → F c ≡ reached →
      IsFront live height n P F waits (λ _. ⊥) Covered reached
  IsFront-opened c k front opening all above level = close c Covered front (λ path value h. h) (record {
    low = omega (arith, level);
    children = λ j lives. let x = some_of (live (P c ++ j ∷ [])) lives in
        opening.mine j (omega (arith, all, child_within grows (P c) [] j x.0 x.1)) lives;
    leaf = λ long. absurd (omega (arith, long, above));
  })

  -- it is a leaf, and covered now
  pub IsFront-leaf : (c : ℕ) (Covered' : List ℕ → ℕ → Type 0)
      → IsFront live height n P F waits (λ i. i ≡ c) Covered reached
      → ((path : List ℕ) (value : ℕ) → Covered path value → Covered' path value) →
      length (P c) ≡ height → F c ≡ reached → Covered' (P c) (F c)
      → IsFront live height n P F waits (λ _. ⊥) Covered' reached
  IsFront-leaf c Covered' front on long level covered = close c Covered' front on (record {
    low = omega (arith, level);
    children = λ j lives. let x = some_of (live (P c ++ j ∷ [])) lives in
        absurd (omega (arith, long, (grows (P c) j x.0 x.1).above));
    leaf = λ _. covered;
  })
