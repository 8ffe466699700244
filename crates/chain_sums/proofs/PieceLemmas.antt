-- What is gathered from the pieces of a row has the entries of all its columns
-- (`entries_gathered`): they are the row (`row_of_entries`), and none is more than one cost above
-- the next row (`small_of_entries`).
use Rattle.std.proofs.Common.{◌≡◌, ℕ, zero, suc, ◌+◌, ◌/◌, ◌%◌, ◌<◌, min, List, [], ◌∷◌, ◌++◌, length, take, get_or, IfOk, Option, Some, None, Ok, Err, ap, sym, subst, ◌∙◌, arith}
use Rattle.std.specs.List.{AllZip, flat_map}
use Rattle.std.specs.Result.{IsOk}
use Rattle.std.specs.Fork.{IsChunk, slice_chunk}
use Rattle.std.proofs.Math.Numerals.{add-one}
use Rattle.std.proofs.lemmas.List.{flat_map_more, get_or-map, length-map, take_more}
use Rattle.std.proofs.lemmas.Slice.Zip.{AllZip-long, all_zipped_more}
use Rattle.arrayvec.specs.ArrayVec.{ArrayVec}
use Rattle.chunk_laws.specs.Gathered.{AreGathered, items_in}
use Rattle.chunk_laws.proofs.Chunks.{chunks_elim}
use Rattle.fux_grid.specs.declared.cell.Cell.{Cell}
use Rattle.fux_grid.specs.Grid.{items_of}
use Rattle.chain_sums.specs.Chains.{AreFull, Chains, IsLeast}
use Rattle.chain_sums.specs.Pieces.{AreEntries, ArePieces, IsEntry, Piece}
use Rattle.chain_sums.specs.Rows.{AreOneCostAbove, IsRow}

zipped_append : {X Y : Type 0} (R : X → Y → Type 0) (xs zs : List X) (ys ws : List Y) → AllZip R xs ys → AllZip R zs ws
    → AllZip R (xs ++ zs) (ys ++ ws)
zipped_append R [] zs [] ws p q = q
zipped_append R [] zs (y ∷ ys) ws p q = absurd p
zipped_append R (x ∷ xs) zs [] ws p q = absurd p
zipped_append R (x ∷ xs) zs (y ∷ ys) ws p q = (p.0, zipped_append R xs zs ys ws p.1 q)

zipped_at : {X Y : Type 0} (R : X → Y → Type 0) (xs : List X) (ys : List Y) (k : ℕ) (d : X) (e : Y) → AllZip R xs ys
    → k < length xs → R (get_or xs k d) (get_or ys k e)
zipped_at R [] [] k d e p h = absurd (omega (arith, h))
zipped_at R [] (y ∷ ys) k d e p h = absurd p
zipped_at R (x ∷ xs) [] k d e p h = absurd p
zipped_at R (x ∷ xs) (y ∷ ys) zero d e p h = p.0
zipped_at R (x ∷ xs) (y ∷ ys) (suc k) d e p h = zipped_at R xs ys k d e p.1 (omega (arith, h))

-- one entry more
pub entry_more : (c : Chains) (i : ℕ) (next : List (Option ℕ)) (columns : List (ArrayVec Cell)) (sums : List (Option ℕ)) (k : ℕ)
    (column : ArrayVec Cell) (sum : Option ℕ) → k < length columns → column ≡ get_or columns k column
    → AreEntries c i next (take k columns) sums → IsEntry c i next column.items sum
    → AreEntries c i next (take (k + 1) columns) (sums ++ sum ∷ [])
entry_more c i next columns sums k column sum within is so_far here =
    let R = λ (col : ArrayVec Cell) (o : Option ℕ). IsEntry c i next col.items o in
    let last = subst (λ (col : ArrayVec Cell). R col sum) is here in
    subst (λ (cols : List (ArrayVec Cell)). AllZip R cols (sums ++ sum ∷ [])) (sym (take_more columns k column within))
    (all_zipped_more R (take k columns) sums (get_or columns k column) sum so_far last)

-- what a piece has, where it is there
piece_is : (c : Chains) (i : ℕ) (next : List (Option ℕ)) (columns : List (ArrayVec Cell)) (piece : Piece) → IsOk piece
    → IfOk piece (λ part. AreEntries c i next columns part.items) → AreEntries c i next columns (items_in piece)
piece_is c i next columns (Ok part) p q = q
piece_is c i next columns (Err fault) p q = cc

-- what is gathered from the pieces of a row has the entries of all columns
pub entries_gathered : (c : Chains) (i : ℕ) (next : List (Option ℕ)) (size : ℕ) (columns : List (ArrayVec Cell))
    (pieces read : List Piece) (row : List (Option ℕ)) → read ≡ pieces → AreGathered read row → 0 < size
    → length pieces ≡ length columns / size + min 1 (length columns % size) → ArePieces c i next size columns pieces
    → AreEntries c i next columns row
entries_gathered c i next size columns pieces read row same all some count each =
    let here : AreGathered pieces row = subst (λ ps. AreGathered ps row) same all in
    let lacking : Piece = Err (record {}) in
    subst (AreEntries c i next columns) (sym here.all)
    (chunks_elim P Q tt more size columns pieces lacking
    (λ n h. piece_is c i next (slice_chunk columns size n) (get_or pieces n lacking) (here.each n lacking h) (each n lacking h))
    some count)
  where
    P : List (ArrayVec Cell) → List Piece → Type 0
    P cols ps = AreEntries c i next cols (flat_map items_in ps)

    Q : List (ArrayVec Cell) → Piece → Type 0
    Q chunk piece = AreEntries c i next chunk (items_in piece)

    R : ArrayVec Cell → Option ℕ → Type 0
    R column sum = IsEntry c i next column.items sum

    more : (cols chunk : List (ArrayVec Cell)) (ps : List Piece) (piece : Piece) → P cols ps → Q chunk piece
        → P (cols ++ chunk) (ps ++ piece ∷ [])
    more cols chunk ps piece p q =
        subst (AreEntries c i next (cols ++ chunk)) (flat_map_more items_in [] ps piece)
        (zipped_append R cols chunk (flat_map items_in ps) (items_in piece) p q)

-- entries of all columns of a place's menu are its row
pub row_of_entries : (c : Chains) (i : ℕ) (next : List (Option ℕ)) (columns : List (ArrayVec Cell)) (row : List (Option ℕ))
    → items_of columns ≡ c.menu i → AreEntries c (i + 1) next columns row → IsRow c i row
row_of_entries c i next columns row is are = record {
  beside = AllZip-long (λ column sum. IsEntry c (i + 1) next column.items sum) columns row are ∙ sym long;
  least = least;
}
  where
    long : length (c.menu i) ≡ length columns
    long = ap length (sym is) ∙ length-map columns (λ (column : ArrayVec Cell). column.items)

    least : (k : ℕ) → k < length (c.menu i) → IsLeast c (suc i) (Some (get_or (c.menu i) k [])) (get_or row k None)
    least k h =
        let within : k < length columns = omega (arith, long) in
        let entry = zipped_at (λ (column : ArrayVec Cell) sum. IsEntry c (i + 1) next column.items sum) columns row k
        (record { items = [] }) None are within in
        let there : get_or (c.menu i) k [] ≡ (get_or columns k (record { items = [] })).items =
        ap (λ (cols : List (List Cell)). get_or cols k []) (sym is)
        ∙ get_or-map (λ (column : ArrayVec Cell). column.items) columns k (record { items = [] }) [] within in
        subst (λ (d : List Cell). IsLeast c (suc i) (Some d) (get_or row k None)) (sym there)
        (subst (λ (n : ℕ). IsLeast c n (Some (get_or columns k (record { items = [] })).items) (get_or row k None)) (add-one i)
        entry.least)

-- and none of them is more than one cost above those that it is worked from
pub small_of_entries : (c : Chains) (i : ℕ) (next : List (Option ℕ)) (columns : List (ArrayVec Cell)) (row : List (Option ℕ))
    → AreEntries c i next columns row → AreOneCostAbove next row
small_of_entries c i next [] [] are most h k within = absurd (omega (arith, within))
small_of_entries c i next [] (sum ∷ row) are most h k within = absurd are
small_of_entries c i next (column ∷ columns) [] are most h k within = absurd are
small_of_entries c i next (column ∷ columns) (sum ∷ row) are most h zero within = are.0.small most h
small_of_entries c i next (column ∷ columns) (sum ∷ row) are most h (suc k) within =
    small_of_entries c i next columns row are.1 most h k (omega (arith, within))

-- the column of a number is full where all are
pub full_at : (voices : ℕ) (columns : List (ArrayVec Cell)) (k : ℕ) (column : ArrayVec Cell) → AreFull voices (items_of columns)
    → k < length columns → column ≡ get_or columns k column → length column.items ≡ voices
full_at voices columns k column full within is =
    let cells = λ (c : ArrayVec Cell). c.items in
    let same : get_or (items_of columns) k column.items ≡ column.items =
    get_or-map cells columns k column column.items within ∙ ap cells (sym is) in
    ap length (sym same) ∙ full k column.items (omega (arith, length-map columns cells))

-- and so is each of a chunk
pub full_chunk : (voices size start : ℕ) (columns chunk : List (ArrayVec Cell)) → AreFull voices (items_of columns)
    → IsChunk columns size start chunk → AreFull voices (items_of chunk)
full_chunk voices size start columns chunk full is k d within =
    let cells = λ (c : ArrayVec Cell). c.items in
    let none : ArrayVec Cell = record { items = d } in
    let short : k < length chunk = omega (arith, length-map chunk cells) in
    let long : start + k < length columns = omega (arith, is.in_bounds) in
    let first : get_or (items_of chunk) k d ≡ (get_or chunk k none).items = get_or-map cells chunk k none d short in
    let moved : get_or chunk k none ≡ get_or columns (start + k) none = is.elements k none short in
    ap length (first ∙ ap cells moved ∙ sym (get_or-map cells columns (start + k) none d long))
    ∙ full (start + k) d (omega (arith, length-map columns cells))
