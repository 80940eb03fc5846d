-- What a client places are adds, which continue every history.
use Rattle.examples.specs.Prelude.{length, List, subst, sym, ℕ, [], ◌++◌, ◌∷◌, ℤ, Geometry, Segment, Entry, entry_row, Row, AreAdds, AllContinue, continues}
use Rattle.examples.specs.Prelude.{member_entries}
use Rattle.std.specs.List.{range_with_len}
use Rattle.bindings.specs.Bound.{identity}
use Rattle.dmix_client.specs.StandingLaws.{AreAdds-append, AreAdds-frame, AreAdds-frames}

-- the entries of a segment
pub AreAdds-entries : (g : Geometry) (member : ℕ) (s : Segment) (samples : List ℤ) → AreAdds (member_entries g member s samples)
AreAdds-entries g member s samples = AreAdds-append _ _
    (AreAdds-frames _ (λ j. AreAdds-frame member (identity g.channels) _ (length (identity g.channels)) _) (range_with_len 0 s.whole))
    (AreAdds-frame member (identity g.channels) _ s.part _)

pub AllContinue-adds : (g : Geometry) (members : ℕ) (h : List Row) (es : List Entry) → AreAdds es → AllContinue g members h es
AllContinue-adds g members h [] adds = tt
AllContinue-adds g members h (e ∷ es) adds =
    (subst (λ k. continues k g members h e.member e.frame e.channel e.sample) (sym adds.0) tt, AllContinue-adds g members (h ++ entry_row e ∷ []) es adds.1)
