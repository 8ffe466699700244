-- The paths that links give.
use Rattle.std.proofs.Common.{◌≡◌, ℕ, ◌+◌, ◌-◌, ◌<◌, ◌≤◌, List, [], ◌∷◌, ◌++◌, length, get_or, zero, suc, refl, sym, ap, ◌∙◌, arith}
use Rattle.std.proofs.lemmas.List.{get_or_append_left, get_or_push, length_push}
use Rattle.tree_search.specs.declared.links.Link.{Link}
use Rattle.tree_search.specs.Links.{paths_from, paths_of, path_in, IsLinked}

pub length-paths_from : (links : List Link) (known : List (List ℕ))
    → length (paths_from known links) ≡ length known + length links
length-paths_from [] known = omega arith
length-paths_from (l ∷ links) known =
    let x = get_or known l.parent [] ++ l.child ∷ [] in
    omega (arith, length-paths_from links (known ++ x ∷ []), length_push known x)

-- what is known stays
pub paths_from-known : (links : List Link) (known : List (List ℕ)) (i : ℕ) → i < length known
    → get_or (paths_from known links) i [] ≡ get_or known i []
paths_from-known [] known i within = refl
paths_from-known (l ∷ links) known i within =
    let x = get_or known l.parent [] ++ l.child ∷ [] in
    paths_from-known links (known ++ x ∷ []) i (omega (arith, length_push known x, within))
    ∙ get_or_append_left known (x ∷ []) [] i within

-- a path by its link
pub paths_from-link : (links : List Link) (known : List (List ℕ)) (k i : ℕ) (d : Link) → k < length links
    → i ≡ length known + k → (get_or links k d).parent < i →
    get_or (paths_from known links) i [] ≡ get_or (paths_from known links) (get_or links k d).parent
    [] ++ (get_or links k d).child ∷ []
paths_from-link [] known k i d within same before = absurd (omega (arith, within))
paths_from-link (l ∷ links) known zero i d within same before =
    let x = get_or known l.parent [] ++ l.child ∷ [] in
    let e : i ≡ length known = omega (arith, same) in
    let long : length (known ++ x ∷ []) ≡ length known + 1 = length_push known x in
    paths_from-known links (known ++ x ∷ []) i (omega (arith, e, long))
    ∙ get_or_push known x [] i (sym e)
    ∙ ap (λ (p : List ℕ). p ++ l.child ∷ [])
    (sym (paths_from-known links (known ++ x ∷ []) l.parent (omega (arith, e, long, before))
    ∙ get_or_append_left known (x ∷ []) [] l.parent (omega (arith, e, before))))
paths_from-link (l ∷ links) known (suc k) i d within same before =
    let x = get_or known l.parent [] ++ l.child ∷ [] in
    paths_from-link links (known ++ x ∷ []) k i d (omega (arith, within))
    (omega (arith, same, length_push known x)) before

-- one link more
pub paths_from-append : (links : List Link) (known : List (List ℕ)) (l : Link) →
    paths_from known (links ++ l ∷ []) ≡ paths_from known
    links ++ (get_or (paths_from known links) l.parent [] ++ l.child ∷ []) ∷ []
paths_from-append [] known l = refl
paths_from-append (m ∷ links) known l =
    paths_from-append links (known ++ (get_or known m.parent [] ++ m.child ∷ []) ∷ []) l

-- the path of an entry, by its link
pub path_by_link : (links : List Link) (i : ℕ) (d : Link) → IsLinked links → 0 < i → i ≤ length links →
    path_in links i ≡ path_in links (get_or links (i - 1) d).parent ++ (get_or links (i - 1) d).child ∷ []
path_by_link links i d linked some within =
    paths_from-link links ([] ∷ []) (i - 1) i d (omega arith) (omega arith)
    (omega (arith, linked (i - 1) d (omega arith)))

-- the earlier entries, after one link more
pub path_in-earlier : (links : List Link) (l : Link) (i : ℕ) → i ≤ length links
    → path_in (links ++ l ∷ []) i ≡ path_in links i
path_in-earlier links l i within =
    ap (λ (ps : List (List ℕ)). get_or ps i []) (paths_from-append links ([] ∷ []) l)
    ∙ get_or_append_left (paths_of links) (_ ∷ []) [] i (omega (arith, length-paths_from links ([] ∷ [])))

-- the new entry
pub path_in-last : (links : List Link) (l : Link) (i : ℕ) → i ≡ length links + 1
    → path_in (links ++ l ∷ []) i ≡ path_in links l.parent ++ l.child ∷ []
path_in-last links l i same =
    ap (λ (ps : List (List ℕ)). get_or ps i []) (paths_from-append links ([] ∷ []) l)
    ∙ get_or_push (paths_of links) _ [] i (omega (arith, same, length-paths_from links ([] ∷ [])))
