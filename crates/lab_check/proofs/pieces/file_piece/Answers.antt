use Rattle.lab_check.specs.Prelude.{ap, length, refl, take, ◌-◌, ◌/◌, ◌∙◌, ◌≡◌, min, sample_bytes}
use Rattle.lab_check.proofs.CanonicalPieces.{piece-is}
use Rattle.lab_check.proofs.pieces.file_piece.Goals as goal

pub returns : goal.returns
returns c =
    let first : c.min-first.result ≡ min ((c.args.from - 44) / 2) (length c.args.samples.now) =
    c.min-first.ensures ∙ ap (λ n. min (n / 2) (length c.args.samples.now)) c.saturating_sub.ensures in
    c.truncate.ensures.items
    ∙ ap (take c.args.most) c.in_ok-append_from.ensures
    ∙ piece-is sample_bytes (λ x. refl) c.args.head.now c.in_ok-bytes.bytes.items c.args.samples.now c.args.from c.args.most c.min-first.result c.min-count.result
    c.requires.head c.requires.even first c.min-count.ensures c.in_ok-bytes.ensures
