use Rattle.lab_refine.proofs.answers.first_space.Goals as goal

pub unreachable-requires : goal.unreachable-requires
unreachable-requires c =
    let held = c.widest-space.ensures.some in
    c.in-Err.ensures.left.configurations held.0 held.1 held.2
