use Rattle.std.proofs.Common.{Some, refl}
use Rattle.wav_io.proofs.Places.{leads_head, leads_refused}
use Rattle.wav_io.proofs.next_places.after_format.Goals as goal

pub returns-in-Ok : goal.returns-in-Ok
returns-in-Ok c = leads_head c.args.depths (Some c.in-Ok.format) c.args.pad _ (λ more. rw (← c.in-Ok.ensures.value) refl) c.in-Ok.ensures.in_order

pub returns-in-Err : goal.returns-in-Err
returns-in-Err c = leads_refused c.args.depths c.in-Err.error _ (λ more. rw (← c.in-Err.ensures.value) refl) c.in-Err.ensures.refused
