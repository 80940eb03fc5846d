use Rattle.std.proofs.Common.{rules}
use Rattle.std.proofs.lemmas.Str.{IsUtf8-from_ascii}
use Rattle.lab_script.proofs.values.text_of.Goals as goal

pub unwrap-text-requires : goal.unwrap-text-requires
unwrap-text-requires c =
    let text = IsUtf8-from_ascii c.args.bytes.now c.requires in
    search (rules, text, c.from_utf8.ensures.cases)
