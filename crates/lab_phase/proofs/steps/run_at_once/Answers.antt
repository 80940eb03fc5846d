use Rattle.std.proofs.Common.{rules}
use Rattle.lab_phase.proofs.steps.run_at_once.Goals as goal

pub join_mut-requires-after_bounds : goal.join_mut-requires-after_bounds
join_mut-requires-after_bounds g c κs within = (
  c.requires.card,
  (
    record { shared = c.type_bounds.sync-R.shared },
    (
      record { owned = c.type_bounds.send-G.owned; leaving = search rules },
      (
        c.requires.clients,
        (c.requires.readers, (record { owned = c.type_bounds.send-G.owned; leaving = search rules }, record { shared = c.type_bounds.sync-R.shared })),
      ),
    ),
  ),
)
