-- How far a file is read, by the machine under all readers.
use Rattle.std.specs.Prelude.{◌≡◌, ℕ, ◌≤◌, List, [], ◌++◌, Option, Some, None, Result, Ok, Err}
use Rattle.wav_io.specs.declared.error.WavError.{WavError}
use Rattle.wav_io.specs.declared.format.Depths.{Depths}
use Rattle.wav_io.specs.declared.place.Place.{Place}
use Rattle.wav_io.specs.declared.place.Place.TheVariants.{Opening, Head, FormatBody, DataBody, Refused}
use Rattle.wav_io.specs.declared.scan.Scan.{Scan}
use Rattle.wav_io.specs.declared.scan.Part.{Part}
use Rattle.wav_io.specs.Pieces.{found_from, IsSoundPlace, HasSeen}
use Rattle.wav_io.specs.Reading.{Finding, refused, body_found, format_cut, ended, within_limit, most_bytes, Contents}

-- a place in a file of which no more bytes came than it may have
pub record IsScan (s : Scan) : Type 0 where
  pub place : IsSoundPlace s.place s.kept
  pub seen : HasSeen s.place s.kept s.seen
  pub limit : s.seen ≤ most_bytes

-- the result of scanning a file with the bytes that follow: its format, and the data that is still to be given
abbrev pub to_come : Depths → Scan → List ℕ → Result Contents WavError
to_come depths s more = within_limit s.seen (found_from depths s.place s.kept) more

-- the bytes of a part of the data
abbrev pub part_bytes : Option Part → List ℕ
part_bytes None = []
part_bytes (Some p) = p.body.now

-- more of the data in front of a finding
abbrev pub with_body : List ℕ → Finding → Finding
with_body front (refused e) = refused e
with_body front (body_found f body) = body_found f (front ++ body)
with_body front format_cut = format_cut
with_body front (ended format) = ended format

-- the place after a part of the data, or one that isn't in the data
abbrev pub IsAfterData : Option Part → Place → Type 0
IsAfterData (Some p) place = (n : ℕ) × (place ≡ DataBody p.format n)
IsAfterData None Opening = Unit {0}
IsAfterData None (Head format skip) = Unit {0}
IsAfterData None (FormatBody missing pad) = Unit {0}
IsAfterData None (DataBody format missing) = ⊥
IsAfterData None (Refused e) = Unit {0}

-- data is followed by more of it
abbrev pub ContinuesData : Place → Option Part → Type 0
ContinuesData Opening part = Unit {0}
ContinuesData (Head format skip) part = Unit {0}
ContinuesData (FormatBody missing pad) part = Unit {0}
ContinuesData (DataBody format missing) (Some p) = p.format ≡ format
ContinuesData (DataBody format missing) None = ⊥
ContinuesData (Refused e) part = Unit {0}

-- some bytes are gone through, which end with a part of the data or have none
pub record GoesThrough (depths : Depths) (old : Scan) (bytes : List ℕ) (part : Option Part) (new : Scan) : Type 0 where
  pub same : (more : List ℕ) → found_from depths old.place old.kept (bytes ++ more) ≡ with_body (part_bytes part) (found_from depths new.place new.kept more)
  pub place : IsSoundPlace new.place new.kept
  pub seen : (n : ℕ) → HasSeen old.place (old.kept ++ bytes) n → HasSeen new.place new.kept n
  pub behind : IsAfterData part new.place
  pub continues : ContinuesData old.place part
  pub counted : new.seen ≡ old.seen

-- data is followed by more of it or by a refusal, a refusal by itself
abbrev pub FollowsData : Place → Result (Option Part) WavError → Type 0
FollowsData Opening given = Unit {0}
FollowsData (Head format skip) given = Unit {0}
FollowsData (FormatBody missing pad) given = Unit {0}
FollowsData (DataBody format missing) (Ok (Some p)) = p.format ≡ format
FollowsData (DataBody format missing) (Ok None) = ⊥
FollowsData (DataBody format missing) (Err e) = Unit {0}
FollowsData (Refused d) (Ok part) = ⊥
FollowsData (Refused d) (Err e) = e ≡ d

-- the error that was answered, if there was one
abbrev pub refusal_of : Place → Option WavError
refusal_of Opening = None
refusal_of (Head format skip) = None
refusal_of (FormatBody missing pad) = None
refusal_of (DataBody format missing) = None
refusal_of (Refused e) = Some e
