use Rattle.wav_io.specs.Prelude.{List, None, subst, ℕ, [], ◌≡◌, IsOk, error_of, IsOfHead, raw_to_come, Reader}
use Rattle.wav_io.proofs.Raws.{raw_to_come-ends, raw_to_come-head}
use Rattle.wav_io.proofs.raw.RawReader.head.Goals as goal

pub returns-in-DataBody-clause-to_come : goal.returns-in-DataBody-clause-to_come
returns-in-DataBody-clause-to_come c =
    let f = c.in-DataBody.format in
    let r : Reader = record { scan = c.self.inside.scan; part = c.self.inside.part; starved = c.self.inside.is_starved } in
    subst (λ (s : Reader). error_of s ≡ None → (more : List ℕ) → IsOfHead f.channels f.rate f.bits (raw_to_come s more)) c.self.view_is
    (raw_to_come-head r f c.in-DataBody.missing c.in-DataBody.is)

pub returns-in-DataBody-clause-ends : goal.returns-in-DataBody-clause-ends
returns-in-DataBody-clause-ends c =
    let r : Reader = record { scan = c.self.inside.scan; part = c.self.inside.part; starved = c.self.inside.is_starved } in
    subst (λ (s : Reader). error_of s ≡ None → IsOk (raw_to_come s [])) c.self.view_is
    (raw_to_come-ends r c.in-DataBody.format c.in-DataBody.missing c.self.invariant.scan c.in-DataBody.is)
