-- What the standing adds of a run are after one more event, and what a withdrawal replies by them.
use Rattle.mix_core.specs.Prelude.{ap, append_assoc, arith, drop, false, fold, inl, inr, length, List, nat_lt, None, refl, Some, subst, sym, take, true, ℕ, ℤ}
use Rattle.mix_core.specs.Prelude.{[], ◌++◌, ◌+◌, ◌<◌, ◌∙◌, ◌∷◌, ◌≡◌, ◌≢◌, ◌≤◌, cases_eq, nat_tests, append-nil, filter-append, filter_map-append, fold-append}
use Rattle.mix_core.specs.Prelude.{fold_push, slice_index_or, ⊤, Geometry, first_frame, first_free, IsFrom, Event, Take, Withdraw, Reply, In, LapEnd, Late}
use Rattle.mix_core.specs.Prelude.{Outside, Published, Took, Marks, Entry, Added, Withdrawn, IsLaidBy, held-at, HeldPlace, last_is, missed-back, entry_of}
use Rattle.mix_core.specs.Prelude.{is_taken, IsHeld, IsReply, IsSample, laid_of, Row, AreAlike-kept, IsReply-alike, laid_of-kept, a_withdrawal, last_entry}
use Rattle.mix_core.specs.Prelude.{marks_of, own_entries, stand_after, standing, standing_of, standing_with, without_last, AreLeast, marks_of-least}
use Rattle.mix_core.specs.Prelude.{without_last-more, last_entry-more, own-more, own-more_other, standing_of-other, standing_of-own, IsAnswered, IsHeldSince}
use Rattle.mix_core.specs.Prelude.{IsLastOf, IsReplied, IsReplySince, KeepsAdds, kept_rows, MayWithdraw, RepresentsHistory, View}

-- a row that places nothing
pub keeps-nothing : (st : List Entry) (rows : List Row) (r : Row) → entry_of r ≡ None → KeepsAdds st rows → KeepsAdds st (rows ++ r ∷ [])
keeps-nothing st rows r none k =
    let same : laid_of (rows ++ r ∷ []) ≡ laid_of rows = filter_map-append entry_of rows (r ∷ []) ∙ rw none (append-nil (laid_of rows)) in
    record {
      holds = λ m. k.holds m ∙ ap (standing_of m) (sym same);
      backed = λ m before. subst (λ es. fold stand_after before (own_entries m es) ≡ before ++ standing_of m es) (sym same) (k.backed m before);
    }

-- a take places nothing, whatever its reply
pub keeps-replied : (st : List Entry) (r : Reply) (rows : List Row) → KeepsAdds st rows → KeepsAdds st (rows ++ (Take, r) ∷ [])
keeps-replied st r rows k = keeps-nothing st rows (Take, r) (none r) k where
  none : (r : Reply) → entry_of (Take, r) ≡ None
  none In = refl
  none Late = refl
  none Outside = refl
  none (Took f c v) = refl
  none (Published f) = refl
  none LapEnd = refl

-- the standing adds after one more entry of a row
laid_of-more : (rows : List Row) (r : Row) (e : Entry) → entry_of r ≡ Some e → laid_of (rows ++ r ∷ []) ≡ laid_of rows ++ e ∷ []
laid_of-more rows r e some = filter_map-append entry_of rows (r ∷ []) ∙ rw some refl

pub keeps-add : (st : List Entry) (rows : List Row) (r : Row) (e : Entry) → entry_of r ≡ Some e → e.kind ≡ Added → KeepsAdds st rows → KeepsAdds (st ++ e ∷ []) (rows ++ r ∷ [])
keeps-add st rows r e some kind k =
    let es : List Entry = laid_of rows in
    let more : laid_of (rows ++ r ∷ []) ≡ es ++ e ∷ [] = laid_of-more rows r e some in
    let put : (held : List Entry) → stand_after held e ≡ held ++ e ∷ [] = λ held. ap (λ d. standing_with d held e) kind in
    record {
      holds = λ m. subst (λ xs. own_entries m (st ++ e ∷ []) ≡ standing_of m xs) (sym more) (elim (cases_eq e.member m) [
        | inl same ↦ own-more m st e same ∙ (ap (λ xs. xs ++ e ∷ []) (k.holds m) ∙ sym (standing_of-own m es e same ∙ put (standing_of m es)))
        | inr other ↦ own-more_other m st e other ∙ (k.holds m ∙ sym (standing_of-other m es e other))
      ]);
      backed = λ m before. subst (λ xs. fold stand_after before (own_entries m xs) ≡ before ++ standing_of m xs) (sym more) (elim (cases_eq e.member m) [
        | inl same ↦
            ap (fold stand_after before) (own-more m es e same)
            ∙ (fold_push stand_after before (own_entries m es) e
            ∙ (put (fold stand_after before (own_entries m es))
            ∙ (ap (λ xs. xs ++ e ∷ []) (k.backed m before)
            ∙ (append_assoc before (standing_of m es) (e ∷ []) ∙ ap (λ xs. before ++ xs) (sym (standing_of-own m es e same ∙ put (standing_of m es)))))))
        | inr other ↦
            ap (fold stand_after before) (own-more_other m es e other) ∙ (k.backed m before ∙ ap (λ xs. before ++ xs) (sym (standing_of-other m es e other)))
      ]);
    }

-- a list, at the last entry of a member
pub record AtLast (st : List Entry) (m i : ℕ) (x : Entry) : Type 0 where
  pub early : List Entry
  pub of_member : x.member ≡ m
  pub own_is : own_entries m st ≡ early ++ x ∷ []
  pub own_left : own_entries m (take i st ++ drop (i + 1) st) ≡ early
  pub own_other : (k : ℕ) → k ≢ m → own_entries k (take i st ++ drop (i + 1) st) ≡ own_entries k st

split_at : (st : List Entry) (i : ℕ) (d : Entry) → i < length st → st ≡ take i st ++ slice_index_or st i d ∷ drop (i + 1) st
split_at [] i d within = absurd (omega (arith, within))
split_at (x ∷ xs) Rattle.std.proofs.Common.zero d within = refl
split_at (x ∷ xs) (Rattle.std.proofs.Common.suc i) d within =
    let next : Rattle.std.proofs.Common.suc i + 1 ≡ Rattle.std.proofs.Common.suc (i + 1) = omega arith in
    rw next (ap (λ ys. x ∷ ys) (split_at xs i d (omega (arith, within))))

own-cons : (m : ℕ) (x : Entry) (xs : List Entry) → x.member ≡ m → own_entries m (x ∷ xs) ≡ x ∷ own_entries m xs
own-cons m x xs same = grind (arith, nat_tests)

pub own-cons_other : (m : ℕ) (x : Entry) (xs : List Entry) → x.member ≢ m → own_entries m (x ∷ xs) ≡ own_entries m xs
own-cons_other m x xs other = grind (arith, nat_tests)

own-append : (m : ℕ) (xs ys : List Entry) → own_entries m (xs ++ ys) ≡ own_entries m xs ++ own_entries m ys
own-append m xs ys = filter-append _ xs ys

pub at_last : (st : List Entry) (m i : ℕ) (d : Entry) → IsLastOf st m i → AtLast st m i (slice_index_or st i d)
at_last st m i d last =
    let x : Entry = slice_index_or st i d in
    let is : st ≡ take i st ++ x ∷ drop (i + 1) st = split_at st i d last.within in
    record {
      early = own_entries m (take i st);
      of_member = last.of_member d;
      own_is =
          ap (own_entries m) is
          ∙ (own-append m (take i st) (x ∷ drop (i + 1) st)
          ∙ ap (λ xs. own_entries m (take i st) ++ xs) (own-cons m x (drop (i + 1) st) (last.of_member d) ∙ ap (λ xs. x ∷ xs) last.none_later));
      own_left = own-append m (take i st) (drop (i + 1) st) ∙ (ap (λ xs. own_entries m (take i st) ++ xs) last.none_later ∙ append-nil (own_entries m (take i st)));
      own_other = λ k other.
          own-append k (take i st) (drop (i + 1) st)
          ∙ (ap (λ xs. own_entries k (take i st) ++ xs) (sym (own-cons_other k x (drop (i + 1) st) (λ same. other (sym same ∙ last.of_member d))))
          ∙ (sym (own-append k (take i st) (x ∷ drop (i + 1) st)) ∙ ap (own_entries k) (sym is)));
    }

-- a withdrawal takes the last standing add of its member away
pub keeps-withdrawal : (st : List Entry) (rows : List Row) (r : Row) (e x : Entry) (i : ℕ) → entry_of r ≡ Some e → e.kind ≡ Withdrawn → AtLast st e.member i x
    → KeepsAdds st rows → KeepsAdds (take i st ++ drop (i + 1) st) (rows ++ r ∷ [])
keeps-withdrawal st rows r e x i some kind last k =
    let es : List Entry = laid_of rows in
    let m : ℕ = e.member in
    let more : laid_of (rows ++ r ∷ []) ≡ es ++ e ∷ [] = laid_of-more rows r e some in
    let back : (held : List Entry) → stand_after held e ≡ without_last held = λ held. ap (λ d. standing_with d held e) kind in
    let was : standing_of m es ≡ last.early ++ x ∷ [] = sym (k.holds m) ∙ last.own_is in
    let left : standing_of m (es ++ e ∷ []) ≡ last.early = standing_of-own m es e refl ∙ (back (standing_of m es) ∙ (ap without_last was ∙ without_last-more last.early x)) in
    record {
      holds = λ n. subst (λ xs. own_entries n (take i st ++ drop (i + 1) st) ≡ standing_of n xs) (sym more) (elim (cases_eq m n) [
        | inl same ↦ subst (λ j. own_entries j (take i st ++ drop (i + 1) st) ≡ standing_of j (es ++ e ∷ [])) same (last.own_left ∙ sym left)
        | inr other ↦ last.own_other n (λ same. other (sym same)) ∙ (k.holds n ∙ sym (standing_of-other n es e other))
      ]);
      backed = λ n before. subst (λ xs. fold stand_after before (own_entries n xs) ≡ before ++ standing_of n xs) (sym more) (elim (cases_eq m n) [
        | inl same ↦ subst (λ j. fold stand_after before (own_entries j (es ++ e ∷ [])) ≡ before ++ standing_of j (es ++ e ∷ [])) same
            (ap (fold stand_after before) (own-more m es e refl)
            ∙ (fold_push stand_after before (own_entries m es) e
            ∙ (back (fold stand_after before (own_entries m es))
            ∙ (ap without_last (k.backed m before ∙ (ap (λ xs. before ++ xs) was ∙ sym (append_assoc before last.early (x ∷ []))))
            ∙ (without_last-more (before ++ last.early) x ∙ ap (λ xs. before ++ xs) (sym left))))))
        | inr other ↦
            ap (fold stand_after before) (own-more_other n es e other) ∙ (k.backed n before ∙ ap (λ xs. before ++ xs) (sym (standing_of-other n es e other)))
      ]);
    }

-- the last standing add among the rows of a run is the last in the whole history
pub last-since : (h rows : List Row) (st : List Entry) (m f c : ℕ) (s : ℤ) → KeepsAdds st rows → IsSample (last_entry (standing_of m (laid_of rows))) f c s
    → IsSample (last_entry (standing_of m (laid_of (h ++ kept_rows rows)))) f c s
last-since h rows st m f c s k is =
    let es : List Entry = laid_of rows in
    let last = last_is (standing_of m es) f c s is in
    let laid : laid_of (h ++ kept_rows rows) ≡ laid_of h ++ es = filter_map-append entry_of h (kept_rows rows) ∙ ap (λ xs. laid_of h ++ xs) (laid_of-kept rows) in
    let whole : standing_of m (laid_of (h ++ kept_rows rows)) ≡ (standing_of m (laid_of h) ++ last.0) ++ last.1 ∷ [] =
    ap (standing_of m) laid
    ∙ (ap standing (own-append m (laid_of h) es)
    ∙ (fold-append stand_after [] (own_entries m (laid_of h)) (own_entries m es)
    ∙ (k.backed m (standing_of m (laid_of h))
    ∙ (ap (λ xs. standing_of m (laid_of h) ++ xs) last.2 ∙ sym (append_assoc (standing_of m (laid_of h)) last.0 (last.1 ∷ [])))))) in
    subst (λ o. IsSample o f c s) (sym (ap last_entry whole ∙ last_entry-more (standing_of m (laid_of h) ++ last.0) last.1)) (last.3, last.4, last.5)

-- so what a run may withdraw, the whole history may
pub held-since : (g : Geometry) (members : ℕ) (h rows : List Row) (st : List Entry) (m f c : ℕ) (s : ℤ) → KeepsAdds st rows → IsHeldSince g members h rows m f c s
    → IsHeld g members (h ++ kept_rows rows) m f c s
held-since g members h rows st m f c s k held = record {
  member_in_range = held.member_in_range;
  channel_in_range = held.channel_in_range;
  last = last-since h rows st m f c s k held.last;
  from_floor = subst (λ es. IsFrom (marks_of g m es).floor f c) (sym (AreAlike-kept g h rows).laid) held.from_floor;
}

-- an entry that its member may withdraw, by the standing adds of the run
pub since-may : (v : View) (h rows : List Row) (st : List Entry) (e x : Entry) (i : ℕ) → KeepsAdds st rows → AtLast st e.member i x → RepresentsHistory v (h ++ kept_rows rows) → MayWithdraw v e x
    → IsHeldSince v.geometry (length v.marks) h rows e.member e.frame e.channel e.sample
since-may v h rows st e x i k last s may = record {
  member_in_range = may.member_in_range;
  channel_in_range = may.channel_in_range;
  last = subst (λ o. IsSample o e.frame e.channel e.sample) (sym (ap last_entry (sym (k.holds e.member) ∙ last.own_is) ∙ last_entry-more last.early x)) (may.frame, may.channel, may.sample);
  from_floor = subst (λ es. IsFrom (marks_of v.geometry e.member es).floor e.frame e.channel) (AreAlike-kept v.geometry h rows).laid
      (subst (λ (y : Marks). IsFrom y.floor e.frame e.channel) (s.agrees.marks e.member _ may.member_in_range) may.from_floor);
}

-- and what the run may withdraw, the core sees that it may
pub may-since : (v : View) (h rows : List Row) (st : List Entry) (e x : Entry) (i : ℕ) → KeepsAdds st rows → AtLast st e.member i x → RepresentsHistory v (h ++ kept_rows rows)
    → IsHeldSince v.geometry (length v.marks) h rows e.member e.frame e.channel e.sample → MayWithdraw v e x
may-since v h rows st e x i k last s held =
    let one : IsSample (Some x) e.frame e.channel e.sample = subst (λ o. IsSample o e.frame e.channel e.sample) (ap last_entry (sym (k.holds e.member) ∙ last.own_is) ∙ last_entry-more last.early x) held.last in
    let place : HeldPlace v e.member e.frame e.channel = held-at v (h ++ kept_rows rows) e.member e.frame e.channel e.sample s held.member_in_range (last-since h rows st e.member e.frame e.channel e.sample k held.last) in
    record {
      member_in_range = held.member_in_range;
      channel_in_range = held.channel_in_range;
      frame = one.0;
      channel = one.1;
      sample = one.2;
      from_floor = subst (λ (y : Marks). IsFrom y.floor e.frame e.channel) (sym (s.agrees.marks e.member _ held.member_in_range))
          (subst (λ es. IsFrom (marks_of v.geometry e.member es).floor e.frame e.channel) (sym (AreAlike-kept v.geometry h rows).laid) held.from_floor);
      before = place.before;
      ahead = place.ahead;
    }

-- a withdrawal that the run may not make
answered-refused : (v : View) (st : List Entry) (m f c : ℕ) (s : ℤ)
    → ((h rows : List Row) → KeepsAdds st rows → RepresentsHistory v (h ++ kept_rows rows) → ¬ IsHeldSince v.geometry (length v.marks) h rows m f c s)
    → IsAnswered v v st st (Withdraw m f c s) Outside
answered-refused v st m f c s not_held = record {
  geometry = refl;
  members = refl;
  gone = refl;
  reply = not_held;
  stands = λ h rows k stands. subst (RepresentsHistory v) (sym (append-nil (h ++ kept_rows rows))) stands;
  keeps = λ rows k. keeps-nothing st rows (Withdraw m f c s, Outside) refl k;
}

-- one of a member that has no standing add
pub answered-none : (v : View) (st : List Entry) (m f c : ℕ) (s : ℤ) → own_entries m st ≡ [] → IsAnswered v v st st (Withdraw m f c s) Outside
answered-none v st m f c s none =
    answered-refused v st m f c s (λ h rows k stands held. subst (λ o. IsSample o f c s) (ap last_entry (sym (k.holds m) ∙ none)) held.last)

-- one of another sample, or before the floor, or out of range
pub answered-outside : (v : View) (st : List Entry) (e x : Entry) (i : ℕ) → AtLast st e.member i x → ¬ (MayWithdraw v e x)
    → IsAnswered v v st st (Withdraw e.member e.frame e.channel e.sample) Outside
answered-outside v st e x i last not_may =
    answered-refused v st e.member e.frame e.channel e.sample (λ h rows k stands held. not_may (may-since v h rows st e x i k last stands held))

-- one of a frame and channel that were taken
pub answered-late : (v : View) (st : List Entry) (m f c : ℕ) (s : ℤ) (x : Entry) (i : ℕ) → AtLast st m i x → MayWithdraw v (a_withdrawal m f c s) x → f < first_free v.next c
    → IsAnswered v v st st (Withdraw m f c s) Late
answered-late v st m f c s x i last may taken =
    let held : (h rows : List Row) → KeepsAdds st rows → RepresentsHistory v (h ++ kept_rows rows) → IsHeldSince v.geometry (length v.marks) h rows m f c s = λ h rows k stands.
    since-may v h rows st (a_withdrawal m f c s) x i k last stands may in
    record {
      geometry = refl;
      members = refl;
      gone = refl;
      reply = λ h rows k stands.
          let is : IsHeldSince v.geometry (length v.marks) h rows m f c s = held h rows k stands in
          let least : AreLeast v.geometry (marks_of v.geometry m (laid_of (h ++ kept_rows rows))) = marks_of-least v.geometry (length v.marks) (h ++ kept_rows rows) m stands.legal in
          let low : first_frame v.geometry ≤ f = grind (arith, nat_tests, least.floor, (held-since v.geometry (length v.marks) h rows st m f c s k is).from_floor) in
          let before : nat_lt f (first_free v.next c) ≡ true = grind (arith, nat_tests, taken) in
          (is, subst (λ ts. is_taken ts f c ≡ true) (AreAlike-kept v.geometry h rows).taken (stands.agrees.taken f c may.channel_in_range low ∙ before));
      stands = λ h rows k stands. missed-back v (h ++ kept_rows rows) m f c s (held-since v.geometry (length v.marks) h rows st m f c s k (held h rows k stands)) taken stands;
      keeps = λ rows k. keeps-nothing st rows (Withdraw m f c s, Late) refl k;
    }

-- one that was made
pub answered-in : (v w : View) (st : List Entry) (m f c : ℕ) (s : ℤ) (x : Entry) (i : ℕ) → AtLast st m i x → MayWithdraw v (a_withdrawal m f c s) x → IsLaidBy v w (a_withdrawal m f c s)
    → IsAnswered v w st (take i st ++ drop (i + 1) st) (Withdraw m f c s) In
answered-in v w st m f c s x i last may laid =
    let held : (h rows : List Row) → KeepsAdds st rows → RepresentsHistory v (h ++ kept_rows rows) → IsHeldSince v.geometry (length v.marks) h rows m f c s = λ h rows k stands.
    since-may v h rows st (a_withdrawal m f c s) x i k last stands may in
    record {
      geometry = laid.geometry;
      members = laid.members;
      gone = laid.gone;
      reply = λ h rows k stands. (held h rows k stands, subst (λ ts. is_taken ts f c ≡ false) (AreAlike-kept v.geometry h rows).taken (laid.untaken (h ++ kept_rows rows) stands));
      stands = λ h rows k stands.
          laid.stands (h ++ kept_rows rows) stands
          (held-since v.geometry (length v.marks) h rows st m f c s k (held h rows k stands), laid.untaken (h ++ kept_rows rows) stands);
      keeps = λ rows k. keeps-withdrawal st rows (Withdraw m f c s, In) (a_withdrawal m f c s) x i refl refl last k;
    }

-- an event that is no withdrawal
abbrev pub IsOther : Event → Type 0
IsOther (Withdraw m f c s) = ⊥
IsOther e = ⊤

-- every other event is answered as after any history
since-other : (g : Geometry) (members : ℕ) (h rows : List Row) (e : Event) (r : Reply) → IsOther e → IsReply g members (h ++ rows) (e, r) → IsReplySince g members h rows (e, r)
since-other g members h rows e r other is = grind (arith, nat_tests)

pub answered-other : (v w : View) (st su : List Entry) (e : Event) (r : Reply) → IsOther e → IsReplied v w e r → ((rows : List Row) → KeepsAdds st rows → KeepsAdds su (rows ++ (e, r) ∷ []))
    → IsAnswered v w st su e r
answered-other v w st su e r other one keeps = record {
  geometry = one.geometry;
  members = one.members;
  gone = one.gone;
  reply = λ h rows k stands.
      since-other v.geometry (length v.marks) h rows e r other
      (IsReply-alike v.geometry (length v.marks) (h ++ kept_rows rows) (h ++ rows) (e, r) (AreAlike-kept v.geometry h rows) (one.reply (h ++ kept_rows rows) stands));
  stands = λ h rows k stands. one.stands (h ++ kept_rows rows) stands;
  keeps = keeps;
}
