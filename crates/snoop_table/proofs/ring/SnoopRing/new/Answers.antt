use Rattle.snoop_table.specs.Prelude.{ap, set, ◌∙◌, ◌≡◌, replicate, words_of}
use Rattle.snoop_table.proofs.Opens.{new_words, opens}
use Rattle.snoop_table.proofs.ring.SnoopRing.new.Goals as goal

pub of_words-requires : goal.of_words-requires
of_words-requires c =
    let items : c.in_ok-words.words.items ≡ replicate (words_of c.args.geometry) c.snoop_word-silent.result = c.in_ok-words.ensures.items_if_clones_equal (λ _ e. e) in
    let words : c.as_slice.result.now ≡ new_words c.args.geometry c.snoop_word-silent.result =
    c.as_slice.ensures.value ∙ (ap (λ l. set l 0 c.position_word.result) items ∙ ap (set (replicate (words_of c.args.geometry) c.snoop_word-silent.result) 0) (c.position_word.ensures ∙ c.first_frame.ensures)) in
    rw words (opens _ c.snoop_word-silent.result c.snoop_word-silent.ensures)
