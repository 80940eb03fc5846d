use Rattle.asound_conf.specs.Prelude.{ap₂, List, subst, Leads, put_key, State, state_of}
use Rattle.asound_conf.specs.Key.{Part, key_defect, word_parts}
use Rattle.asound_conf.proofs.Readers.{keyed}
use Rattle.asound_conf.proofs.reading.Reading.take_word_key.Goals as goal

pub take_key-requires : goal.take_key-requires
take_key-requires c =
    let r = c.args.self.now in
    let pushed = c.in_ok-push_parts.ensures in
    let it = keyed r c.push_parts.new.parts.items (word_parts c.args.word.now) c.requires.valid c.requires.none pushed.kept pushed.more (pushed.parts r.table.text c.requires.at.are) in
    record { valid = it.valid; some = it.some }

pub returns-clause-leads : goal.returns-clause-leads
returns-clause-leads c =
    let r = c.args.self.now in
    let pushed = c.in_ok-push_parts.ensures in
    let it = keyed r c.push_parts.new.parts.items (word_parts c.args.word.now) c.requires.valid c.requires.none pushed.kept pushed.more (pushed.parts r.table.text c.requires.at.are) in
    subst (λ given. Leads c.take_key.result (state_of c.take_key.new.self) given) (ap₂ (λ (s : State) (w : List Part). put_key s (key_defect w) w) it.same it.are) c.take_key.ensures.leads
