-- The segments of a client, in two parts.
use Rattle.lab_clients.specs.Prelude.{ap, length, refl, ◌++◌, ◌+◌, ◌∙◌, ◌≡◌, append-nil, length-append, None, Option, Some, segments_of, LabClient, OpenClient}
use Rattle.lab_clients.specs.Prelude.{client_by, client_in, ended_of, ended_segments, last_by, open_of}

parts-by : (d : LabClient) (own : Option OpenClient) → segments_of (client_by (ended_of d) own) ≡ ended_segments d own ++ last_by d own
parts-by d None = append-nil (ended_of d)
parts-by d (Some o) = refl

pub segments_of-parts : (d : LabClient) → segments_of (client_in d) ≡ ended_segments d (open_of d) ++ last_by d (open_of d)
segments_of-parts d = parts-by d (open_of d)

pub length-parts : (d : LabClient) → length (segments_of (client_in d)) ≡ length (ended_segments d (open_of d)) + length (last_by d (open_of d))
length-parts d = ap length (segments_of-parts d) ∙ length-append (ended_segments d (open_of d)) (last_by d (open_of d))
