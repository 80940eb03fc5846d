use Rattle.dmix_client.specs.Prelude.{◌%◌, ◌∙◌, add-mod-mod, mod-add-mod}
use Rattle.dmix_client.proofs.commit.slot_of.Goals as goal

pub returns-in-None-clause-value : goal.returns-in-None-clause-value
returns-in-None-clause-value c =
    add-mod-mod (c.args.from % c.args.buffer_size) c.args.frame c.args.buffer_size ∙ mod-add-mod c.args.from c.args.buffer_size c.args.frame
