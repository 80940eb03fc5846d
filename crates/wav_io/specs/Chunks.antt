-- The chunks of a RIFF file.
use Rattle.std.specs.Prelude.{ℕ, zero, suc, ◌+◌, ◌%◌, nat_lt, if◌then◌else◌, List, [], ◌∷◌, length, take, drop}
use Rattle.std.specs.Int.{w32}
use Rattle.wav_io.specs.Fields.{number_at}

-- four bytes of name, the size that the chunk's head gives, and the bytes of its body that are there
pub record Chunk : Type 0 where
  pub name : List ℕ
  pub size : ℕ
  pub body : List ℕ

-- the size that the head of eight bytes gives
abbrev pub size_at : List ℕ → ℕ
size_at bytes = number_at w32 4 bytes

-- the first chunk; where the size passes the end its body is what is there
abbrev pub first_chunk : List ℕ → Chunk
first_chunk bytes = record { name = take 4 bytes; size = size_at bytes; body = take (size_at bytes) (drop 8 bytes) }

-- the bytes after the first chunk, and after a pad byte after an odd size
abbrev pub after_chunk : List ℕ → List ℕ
after_chunk bytes = drop (size_at bytes + size_at bytes % 2) (drop 8 bytes)

-- at most n chunks; fewer than eight bytes are the end
unfoldable pub chunks_in : ℕ → List ℕ → List Chunk
chunks_in zero bytes = []
chunks_in (suc n) bytes = if nat_lt (length bytes) 8 then [] else first_chunk bytes ∷ chunks_in n (after_chunk bytes)

-- all chunks: each takes at least one byte
unfoldable pub chunks : List ℕ → List Chunk
chunks bytes = chunks_in (length bytes) bytes
