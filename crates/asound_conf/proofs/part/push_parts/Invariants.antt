use Rattle.asound_conf.specs.Prelude.{length, List, take, ℕ, ◌+◌, ◌<◌, ◌^◌, ◌≡◌, span_in}
use Rattle.asound_conf.proofs.PartLists.{IsPushed}
use Rattle.asound_conf.proofs.part.push_parts.Given as goal

abbrev pub invariant-loop-piece : goal.invariant-loop-piece
invariant-loop-piece l = record {
  small : l.at + length l.rest < 2 ^ 32;
  are : (text : List ℕ) → span_in text (record { start = l.fn.start; count = length l.fn.word }) ≡ l.fn.word → IsPushed text l.fn.parts.items l.parts.items l.fn.word l.rest l.at;
  kept : take (length l.fn.parts.items) l.parts.items ≡ l.fn.parts.items;
}

abbrev pub decreases-loop-piece : goal.decreases-loop-piece
decreases-loop-piece l = length l.rest
