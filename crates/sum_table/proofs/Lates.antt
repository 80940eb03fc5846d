-- What an add that is late leaves alone: the replies to all events after it.
use Rattle.sum_table.specs.Prelude.{append_assoc, List, subst, sym, ℕ, [], ◌++◌, ◌∙◌, ◌∷◌, append-nil, filter_map-append, fold_push, Geometry, first_frame}
use Rattle.sum_table.specs.Prelude.{Late, Entry, AreReplies, entry_of, IsReply, laid_of, late_row, position_after, position_of, Row, taken_words, taking_of}
use Rattle.sum_table.specs.Prelude.{entry_of-late, position_after-row, taking_of-row}
use Rattle.mix_core.specs.KeptLaws.{AreAlike, AreReplies-alike}

-- a history stays what it was after an add that is late
late_same : (g : Geometry) (h : List Row) (e : Entry) → AreAlike g h (h ++ late_row e ∷ [])
late_same g h e = record {
  laid = sym (filter_map-append entry_of h (late_row e ∷ []) ∙ rw (entry_of-late e) (append-nil (laid_of h)));
  taken = sym (filter_map-append taking_of h (late_row e ∷ []) ∙ rw (taking_of-row e Late) (append-nil (taken_words h)));
  position = sym (fold_push position_after (first_frame g) h (late_row e) ∙ position_after-row (position_of g h) e Late);
}

-- so an add that is late after the first of some replies can be there
pub replies-late : (g : Geometry) (members : ℕ) (k h rs : List Row) (e : Entry) → AreReplies g members k (h ++ rs) → IsReply g members (k ++ h) (late_row e) → AreReplies g members k (h ++ late_row e ∷ rs)
replies-late g members k [] rs e are late =
    (subst (λ x. IsReply g members x (late_row e)) (append-nil k) late, AreReplies-alike g members k (k ++ late_row e ∷ []) rs (late_same g k e) are)
replies-late g members k (x ∷ h) rs e are late =
    (are.0, replies-late g members (k ++ x ∷ []) h rs e are.1 (subst (λ z. IsReply g members z (late_row e)) (sym (append_assoc k (x ∷ []) h)) late))
