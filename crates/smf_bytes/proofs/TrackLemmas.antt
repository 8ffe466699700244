-- The next track, chunk by chunk: what reading tells of it, and just that (`track_told`,
-- `track_only`).
use Rattle.std.proofs.Common.{◌≡◌, ◌≢◌, ℕ, zero, suc, ◌<◌, ◌≤◌, Bool, true, false, List, [], ◌∷◌, length, Result, Ok, Err, refl, sym, ◌∙◌, ap, arith, cond, eqb, ne_eqb, subst, inl}
use Rattle.std.proofs.lemmas.Bool.{eqb-false, eqb-true}
use Rattle.smf_bytes.specs.declared.fault.ByteFault.{ByteFault}
use Rattle.smf_bytes.specs.declared.fault.ByteFault.TheVariants.{Truncated}
use Rattle.smf_bytes.specs.declared.chunks.TheConstants.{TRACK}
use Rattle.smf_bytes.specs.Numbers.{◌>>=◌}
use Rattle.smf_bytes.specs.Rows.{IsRow, IsRowFault, row_in}
use Rattle.smf_bytes.specs.Chunks.{Chunk, chunk_row, track_in}
use Rattle.smf_bytes.specs.Files.{ArePassed, IsTrack, IsTrackFault}
use Rattle.smf_bytes.proofs.PartLemmas.{PartTold, bytes_shorter}
use Rattle.smf_bytes.proofs.RowLemmas.{RowTold, row_tells}

pub chunk_shorter : (bytes : List ℕ) (chunk : Chunk) (rest : List ℕ) → IsRow chunk_row bytes chunk rest
    → length rest < length bytes
chunk_shorter bytes chunk rest h =
    omega (
      arith,
      bytes_shorter 4 bytes h.2.0 h.1 h.2.1,
      bytes_shorter 4 h.1 h.3.2.0 h.3.1 h.3.2.1,
      bytes_shorter h.3.0 h.3.1 h.3.3.0 h.3.3.1 h.3.3.2,
      ap length h.3.3.3.1,
    )

-- a chunk of a track
abbrev pub track_of : List ℕ → Chunk
track_of body = record { kind = TRACK; bytes = body }

-- what reading tells of the next track
abbrev pub TrackTold : ℕ → List ℕ → Result (Chunk × List ℕ) ByteFault → Type 0
TrackTold size bytes r =
    PartTold (λ (chunk : Chunk) rest. (chunk ≡ track_of chunk.bytes) × IsTrack bytes chunk.bytes rest)
    (IsTrackFault size bytes) r

-- one chunk more that is passed over
pub track_behind : (bytes after body rest : List ℕ) (c : Chunk) → IsRow chunk_row bytes c after → c.kind ≢ TRACK
    → IsTrack after body rest → IsTrack bytes body rest
track_behind bytes after body rest c row other h = record {
  chunks = c ∷ h.chunks;
  behind = h.behind;
  passed = (after, row, other, h.passed);
  stands = h.stands;
}

pub fault_behind : (size : ℕ) (bytes after : List ℕ) (c : Chunk) (f : ByteFault) → IsRow chunk_row bytes c after
    → c.kind ≢ TRACK → IsTrackFault size after f → IsTrackFault size bytes f
fault_behind size bytes after c f row other h = record {
  chunks = c ∷ h.chunks;
  behind = h.behind;
  passed = (after, row, other, h.passed);
  lacks = h.lacks;
}

passes : (size : ℕ) (bytes rest : List ℕ) (c : Chunk) → IsRow chunk_row bytes c rest → c.kind ≢ TRACK
    → (r : Result (Chunk × List ℕ) ByteFault) → TrackTold size rest r → TrackTold size bytes r
passes size bytes rest c row other (Ok x) told = (told.0, track_behind bytes rest x.0.bytes x.1 c row other told.1)
passes size bytes rest c row other (Err f) told = fault_behind size bytes rest c f row other told

-- the chunk at the front is that of a track
pub found_here : (bytes rest : List ℕ) (c : Chunk) → IsRow chunk_row bytes c rest → c.kind ≡ TRACK
    → IsTrack bytes c.bytes rest
found_here bytes rest c row is = record {
  chunks = [];
  behind = bytes;
  passed = refl;
  stands = subst (λ (x : Chunk). IsRow chunk_row bytes x rest) (ap (λ (k : ℕ). chunk k c.bytes) is) row;
}
  where
    chunk : ℕ → List ℕ → Chunk
    chunk kind body = record { kind = kind; bytes = body }

-- no chunk stands at the end of the file
pub none_left : (size : ℕ) (bytes : List ℕ) → length bytes ≡ 0 → IsTrackFault size bytes (Truncated size)
none_left size bytes none = record { chunks = []; behind = bytes; passed = refl; lacks = inl (omega arith, refl) }

pub track_told : (n size : ℕ) (bytes : List ℕ) → length bytes ≤ n → TrackTold size bytes (track_in n size bytes)
unfolding track_in
track_told zero size bytes few = none_left size bytes (omega arith)
track_told (suc n) size bytes few =
    at (row_in chunk_row size bytes) ((row_tells chunk_row size bytes).told) (λ rest short. track_told n size rest short)
  where
    chunk : ℕ → List ℕ → Chunk
    chunk kind body = record { kind = kind; bytes = body }

    found : (c : Chunk) (rest : List ℕ) (t : Bool) → eqb c.kind TRACK ≡ t → IsRow chunk_row bytes c rest
        → (length rest ≤ n → TrackTold size rest (track_in n size rest))
        → TrackTold size bytes (cond t (Ok (c, rest)) (track_in n size rest))
    found c rest true is row later =
        let kind = eqb-true c.kind TRACK is in
        (ap (λ (k : ℕ). chunk k c.bytes) kind, found_here bytes rest c row kind)
    found c rest false is row later =
        let less = chunk_shorter bytes c rest row in
        passes size bytes rest c row (eqb-false c.kind TRACK is) (track_in n size rest) (later (omega arith))

    at : (r : Result (Chunk × List ℕ) ByteFault) → RowTold chunk_row size bytes r
        → ((rest : List ℕ) → length rest ≤ n → TrackTold size rest (track_in n size rest))
        → TrackTold size bytes (r >>= λ c. cond (eqb c.0.kind TRACK) (Ok c) (track_in n size c.1))
    at (Err f) told later = record { chunks = []; behind = bytes; passed = refl; lacks = told }
    at (Ok c) told later = found c.0 c.1 (eqb c.0.kind TRACK) refl told (later c.1)

-- behind the chunks that are passed over reading goes on
passed_over : (chunks : List Chunk) (n size : ℕ) (bytes behind : List ℕ) → length bytes ≤ n
    → ArePassed chunks bytes behind
    → (m : ℕ) × (length behind ≤ m) × (track_in n size bytes ≡ track_in m size behind)
unfolding track_in
passed_over [] n size bytes behind few e = (n, omega (arith, ap length e), ap (track_in n size) e)
passed_over (c ∷ chunks) zero size bytes behind few (after, row, other, passed) =
    absurd (omega (arith, chunk_shorter bytes c after row))
passed_over (c ∷ chunks) (suc n) size bytes behind few (after, row, other, passed) =
    let later = passed_over chunks n size after behind (omega (arith, chunk_shorter bytes c after row)) passed in
    (later.0, later.1, rw ((row_tells chunk_row size bytes).only (Ok (c, after)) row, ne_eqb c.kind TRACK other) later.2)

pub track_only : (n size : ℕ) (bytes : List ℕ) (s : Result (Chunk × List ℕ) ByteFault) → length bytes ≤ n
    → TrackTold size bytes s → track_in n size bytes ≡ s
unfolding track_in row_in
track_only n size bytes (Ok (c, rest)) few (is, h) =
    let over = passed_over h.chunks n size bytes h.behind few h.passed in over.2 ∙ at over.0 over.1
  where
    at : (m : ℕ) → length h.behind ≤ m → track_in m size h.behind ≡ Ok (c, rest)
    at zero room = absurd (omega (arith, chunk_shorter h.behind (track_of c.bytes) rest h.stands))
    at (suc m) room =
        rw ((row_tells chunk_row size h.behind).only (Ok (track_of c.bytes, rest)) h.stands)
        (ap (λ (chunk : Chunk). Ok (chunk, rest)) (sym is))
track_only n size bytes (Err f) few h =
    let over = passed_over h.chunks n size bytes h.behind few h.passed in over.2 ∙ at over.0 h.behind over.1 h.lacks
  where
    at : (m : ℕ) (behind : List ℕ) → length behind ≤ m → IsRowFault chunk_row size behind f
        → track_in m size behind ≡ Err f
    at zero [] room lacks = (row_tells chunk_row size []).only (Err f) lacks
    at zero (b ∷ behind) room lacks = absurd (omega arith)
    at (suc m) behind room lacks = rw ((row_tells chunk_row size behind).only (Err f) lacks) refl

-- a chunk that was read, or the fault of one
pub chunk_row_is : (size : ℕ) (bytes rest : List ℕ) (c : Chunk) → row_in chunk_row size bytes ≡ Ok (c, rest)
    → IsRow chunk_row bytes c rest
chunk_row_is size bytes rest c e = subst (RowTold chunk_row size bytes) e ((row_tells chunk_row size bytes).told)

pub no_chunk : (size : ℕ) (bytes : List ℕ) (f : ByteFault) → row_in chunk_row size bytes ≡ Err f
    → IsTrackFault size bytes f
no_chunk size bytes f e = record {
  chunks = [];
  behind = bytes;
  passed = refl;
  lacks = subst (RowTold chunk_row size bytes) e ((row_tells chunk_row size bytes).told);
}
