-- The chunks of a file and its header, as rows; and what is read of them, or the first fault. A
-- file is given by its size and the bytes that are left.
use Rattle.std.specs.Prelude.{ℕ, zero, suc, ◌==◌, List, length, Result, Ok, Err, nat_lt, if◌then◌else◌}
use Rattle.std.specs.Int.{w16, w32}
use Rattle.smf_bytes.specs.declared.fault.ByteFault.{ByteFault}
use Rattle.smf_bytes.specs.declared.fault.ByteFault.TheVariants as faults
use Rattle.smf_bytes.specs.declared.chunks.Header.{Header}
use Rattle.smf_bytes.specs.declared.chunks.Chunk as declared
use Rattle.smf_bytes.specs.declared.chunks.TheConstants.{HEADER, TRACK}
use Rattle.smf_bytes.specs.Numbers.{◌>>=◌}
use Rattle.smf_bytes.specs.Rows.{Row, row_in}

-- a chunk: its type and its bytes
pub record Chunk : Type 0 where
  pub kind : ℕ
  pub bytes : List ℕ

abbrev pub chunk_seen : declared.Chunk → Chunk × List ℕ
chunk_seen chunk = (record { kind = chunk.kind; bytes = chunk.bytes.now }, chunk.rest.now)

-- a chunk is its type, its length and so many bytes
abbrev pub chunk_row : Row Chunk
chunk_row = Row.number w32 (λ kind. Row.number w32 (λ count. Row.block count (λ bytes.
    Row.says (record { kind = kind; bytes = bytes }))))

-- the header's chunk: its bytes are at least six
abbrev pub header_row : Row (List ℕ)
header_row = Row.number w32 (λ kind. if kind == HEADER
    then Row.number w32 (λ count. if nat_lt count 6 then Row.refused (λ at. faults.Chunk 4) else Row.block count Row.says)
    else Row.refused (λ at. faults.Chunk 0))

-- a header with a format of 0 or 1, and a division of ticks
abbrev pub checked_row : Header → Row Header
checked_row header =
    if nat_lt 2 header.format then Row.refused (λ at. faults.Chunk 8)
    else (if header.format == 2 then Row.refused (λ at. faults.Format2)
    else (if header.division == 0 then Row.refused (λ at. faults.Chunk 12)
    else (if nat_lt header.division 0x8000 then Row.says header else Row.refused (λ at. faults.Smpte))))

-- the header in its chunk's bytes: three numbers; what follows them is passed over
abbrev pub fields_row : Row Header
fields_row = Row.number w16 (λ format. Row.number w16 (λ tracks. Row.number w16 (λ division.
    checked_row (record { format = format; tracks = tracks; division = division }))))

-- ---- reading

-- the next track's chunk, where so many bytes at most are left; other chunks are passed over
unfoldable pub track_in : ℕ → ℕ → List ℕ → Result (Chunk × List ℕ) ByteFault
track_in zero size bytes = Err (faults.Truncated size)
track_in (suc fewer) size bytes = do
  chunk ← row_in chunk_row size bytes
  if chunk.0.kind == TRACK then Ok chunk else track_in fewer size chunk.1

-- the header of a file, and what follows it
unfoldable pub header_in : ℕ → List ℕ → Result (Header × List ℕ) ByteFault
header_in size bytes =
    if nat_lt (length bytes) 4 then Err (faults.Chunk 0)
    else (row_in header_row size bytes >>= λ body. row_in fields_row size body.0 >>= λ header. Ok (header.0, body.1))
