use Rattle.examples.specs.Prelude.{length, List, [], ◌≡◌, Entry, HasMixed}
use Rattle.examples.proofs.two_clients.play.Given as goal

abbrev pub invariant-loop-word : goal.invariant-loop-word
invariant-loop-word l = record {
  mixed : (placed : List Entry) → HasMixed l.fn.core placed [] → HasMixed l.core placed l.all.items;
  count : length l.all.items ≡ l._word;
  geometry : l.core.geometry ≡ l.fn.core.geometry;
}
