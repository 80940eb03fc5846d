use Rattle.lab_input.proofs.Sounds.{Loading}
use Rattle.lab_input.proofs.wavs.read_wavs.Given as goal

abbrev pub invariant-loop-client : goal.invariant-loop-client
invariant-loop-client g l = Loading g.S.Shelf l.fn.shelf l.shelf l.card l.clients l.client-index l.wavs.items l.before l.total
