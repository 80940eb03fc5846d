use Rattle.std.proofs.Common.{◌-◌, arith}
use Rattle.std.proofs.lemmas.Nat.{and_le_r}
use Rattle.asound_conf.proofs.table.bucket_of.Goals as goal

pub returns-clause-within : goal.returns-clause-within
returns-clause-within c = let most = and_le_r c.hash_of.result (c.args.buckets - 1) in omega (arith, most)
