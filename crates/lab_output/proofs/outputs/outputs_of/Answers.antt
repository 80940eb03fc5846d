use Rattle.lab_output.specs.Prelude.{length, List, rules, subst, sym, ℕ, ◌≡◌, All, OutputFile, AreApart, IsOutputFile}
use Rattle.lab_output.proofs.Heads.{output_files-heads, few-nothing}
use Rattle.lab_output.proofs.Names.{output_files-AreApart}
use Rattle.lab_output.proofs.outputs.outputs_of.Goals as goal

pub returns-clause-outputs : goal.returns-clause-outputs
returns-clause-outputs c =
    let zeros : All (λ (n : ℕ). n ≡ 0) c.resize.new.self.items = search rules in
    let number : length c.resize.new.self.items ≡ length c.in_ok-files.files.items = search rules in
    let is = sym c.in_ok-files.ensures.files in
    record {
      files = subst (λ (os : List OutputFile). All IsOutputFile os) is (output_files-heads c.args.script.now c.args.out.now c.requires.script);
      apart = subst (λ (os : List OutputFile). AreApart os) is (output_files-AreApart c.args.script.now c.args.out.now c.requires.script);
      number = number;
      few = few-nothing c.resize.new.self.items zeros;
    }
