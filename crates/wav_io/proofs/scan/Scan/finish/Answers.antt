use Rattle.wav_io.specs.Prelude.{ap, false, List, sym, take, true, ℕ, [], ◌∙◌, ◌≡◌, codes, bytes_eq}
use Rattle.wav_io.proofs.Scans.{ends_at, ends_not_riff, ends_not_wave, ends_head, ends_cut, ends_data, refused_comes}
use Rattle.wav_io.proofs.scan.Scan.finish.Goals as goal

pub returns-in-Opening-clause-err : goal.returns-in-Opening-clause-err
returns-in-Opening-clause-err c =
    let kept = c.args.self.now.kept in
    let few = rw c.in-Opening.is at c.requires.place in
    let is : bytes_eq (take 4 kept) (codes "RIFF") ≡ true = sym (c.is_at.ensures ∙ ap (λ (b : List ℕ). bytes_eq (take 4 b) (codes "RIFF")) c.as_slice.ensures) ∙ c.if-is_at.true in
    ends_at c.args.depths c.args.self.now _ _ c.requires c.in-Opening.is (ends_not_wave c.args.depths kept few is)

pub returns-in-Opening-2-clause-err : goal.returns-in-Opening-2-clause-err
returns-in-Opening-2-clause-err c =
    let kept = c.args.self.now.kept in
    let isnt : bytes_eq (take 4 kept) (codes "RIFF") ≡ false = sym (c.is_at.ensures ∙ ap (λ (b : List ℕ). bytes_eq (take 4 b) (codes "RIFF")) c.as_slice.ensures) ∙ c.if-is_at.false in
    ends_at c.args.depths c.args.self.now _ _ c.requires c.in-Opening-2.is (ends_not_riff c.args.depths kept isnt)

pub returns-in-Head-clause-err : goal.returns-in-Head-clause-err
returns-in-Head-clause-err c =
    let place = rw c.in-Head.is at c.requires.place in
    ends_at c.args.depths c.args.self.now _ _ c.requires c.in-Head.is (ends_head c.args.depths c.in-Head.format c.in-Head.skip c.args.self.now.kept place.0) ∙ c.without_data.ensures.value

pub returns-in-FormatBody-clause-err : goal.returns-in-FormatBody-clause-err
returns-in-FormatBody-clause-err c =
    let place = rw c.in-FormatBody.is at c.requires.place in
    ends_at c.args.depths c.args.self.now _ _ c.requires c.in-FormatBody.is (ends_cut c.args.depths c.in-FormatBody.missing c.in-FormatBody.pad c.args.self.now.kept place.0)

pub returns-in-DataBody-clause-ok : goal.returns-in-DataBody-clause-ok
returns-in-DataBody-clause-ok c =
    ends_at c.args.depths c.args.self.now _ _ c.requires c.in-DataBody.is (ends_data c.args.depths c.in-DataBody.format c.in-DataBody.missing c.args.self.now.kept)

pub returns-in-Refused-clause-err : goal.returns-in-Refused-clause-err
returns-in-Refused-clause-err c = refused_comes c.args.depths c.args.self.now c.in-Refused.error c.in-Refused.is []
