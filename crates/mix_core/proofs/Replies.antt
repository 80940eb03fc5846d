-- What a core does at an event is a reply to it after every history that the core represents.
use Rattle.mix_core.specs.Prelude.{ap, append_assoc, arith, length, List, None, Option, refl, Some, subst, sym, true, ℕ, [], ◌++◌, ◌+◌, ◌<◌, ◌∙◌, ◌∷◌, ◌≡◌}
use Rattle.mix_core.specs.Prelude.{nat_tests, append-nil, length-append, filter-append, zip, is_some, MatchOption, Geometry, first_free, IsFrom, Event, Add}
use Rattle.mix_core.specs.Prelude.{Publish, Take, Reply, In, Late, Outside, Published, Took, Taken, Marks, Entry, Added, IsLaidBy, IsPublished, IsTaken}
use Rattle.mix_core.specs.Prelude.{event_by, IsReply, Row, kept_rows-kept, AreReplies-last, AreRepliesSince, is_kept, IsAnswered, IsReplied, IsReplySince}
use Rattle.mix_core.specs.Prelude.{IsRun, KeepsAdds, kept_rows, RepresentsHistory, CanMiss, RepresentsHistory-missed, IsLateWord, IsUntaken, MayAdd, View}

-- a row that is at the end of a core's history is a reply after what is before it
pub IsReply-last : (v w : View) (h : List Row) (r : Row) → w.geometry ≡ v.geometry → length w.marks ≡ length v.marks
    → RepresentsHistory w (h ++ r ∷ []) → IsReply v.geometry (length v.marks) h r
IsReply-last v w h r geometry members s =
    subst (λ n. IsReply v.geometry n h r) members
    (subst (λ g. IsReply g (length w.marks) h r) geometry (AreReplies-last w.geometry (length w.marks) [] h r s.legal))

-- an event whose row is kept is answered where each history goes on with this row
pub IsReplied-kept : (v w : View) (e : Event) (r : Reply) → is_kept (e, r) ≡ true
    → w.geometry ≡ v.geometry → length w.marks ≡ length v.marks → w.gone ≡ v.gone
    → ((h : List Row) → RepresentsHistory v h → RepresentsHistory w (h ++ (e, r) ∷ [])) → IsReplied v w e r
IsReplied-kept v w e r kept geometry members gone stands = record {
  geometry = geometry;
  members = members;
  gone = gone;
  reply = λ h s. IsReply-last v w h (e, r) geometry members (stands h s);
  stands = λ h s. subst (λ rs. RepresentsHistory w (h ++ rs)) (kept_rows-kept (e, r) [] kept) (stands h s);
}

-- an add whose frame and channel were taken
pub IsReplied-late : (v : View) (e : Entry) → e.kind ≡ Added → MayAdd v e → e.frame < first_free v.next e.channel
    → IsReplied v v (Add e.member e.frame e.channel e.sample) Late
IsReplied-late v e kind may taken =
    let can : CanMiss v e = record {
      kind = kind;
      member = may.member_in_range;
      channel = may.channel_in_range;
      from_cursor = may.from_cursor;
      ahead = may.ahead;
      taken = taken;
    } in
    IsReplied-kept v v _ Late refl refl refl refl (λ h s. subst (λ k. RepresentsHistory v (h ++ (event_by k e.member e.frame e.channel e.sample, Late) ∷ [])) kind (RepresentsHistory-missed v h e can s))

-- a word that was seen was taken
pub late-taken : (v : View) (f c : ℕ) (o : Option ℕ) → is_some o ≡ true → MatchOption o (IsUntaken v f c) (λ word. IsLateWord v f c word) → f < first_free v.next c
late-taken v f c None some seen = cc
late-taken v f c (Some word) some seen = seen.taken

-- an add that its member may not make
pub IsReplied-outside : (v : View) (e : Entry) → ¬ (MayAdd v e) → IsReplied v v (Add e.member e.frame e.channel e.sample) Outside
IsReplied-outside v e not_may = record {
  geometry = refl;
  members = refl;
  gone = refl;
  reply = λ h s inside. not_may (record {
    member_in_range = inside.member_in_range;
    channel_in_range = inside.channel_in_range;
    from_cursor = subst (λ (m : Marks). IsFrom m.cursor e.frame e.channel) (sym (s.agrees.marks e.member _ inside.member_in_range)) inside.from_cursor;
    lap_fits = inside.lap_fits;
    ahead = subst (λ p. e.frame < p + v.geometry.frames) (sym s.position) inside.ahead;
  });
  stands = λ h s. subst (RepresentsHistory v) (sym (append-nil h)) s;
}

-- an add that was made
pub IsReplied-added : (v w : View) (e : Entry) → e.kind ≡ Added → MayAdd v e → IsLaidBy v w e → IsReplied v w (Add e.member e.frame e.channel e.sample) In
IsReplied-added v w e kind may laid = grind (arith, nat_tests)

-- a take
pub IsReplied-took : (v w : View) (t : Taken) → IsTaken v w t → IsReplied v w Take (Took t.frame t.channel t.value)
IsReplied-took v w t taken = IsReplied-kept v w Take _ refl taken.geometry (ap length taken.marks) taken.gone taken.stands

-- a publication
pub IsReplied-published : (v w : View) (frame : ℕ) → IsPublished v w → frame ≡ w.position → IsReplied v w Publish (Published frame)
IsReplied-published v w frame published is = grind (arith, nat_tests)

-- rows with one more event and its reply
pub zip-more : {A B : Type 0} (xs : List A) (ys : List B) (x : A) (y : B) → length ys ≡ length xs → zip (xs ++ x ∷ []) (ys ++ y ∷ []) ≡ zip xs ys ++ (x, y) ∷ []
zip-more [] [] x y same = refl
zip-more [] (b ∷ ys) x y same = absurd (omega arith)
zip-more (a ∷ xs) [] x y same = absurd (omega arith)
zip-more (a ∷ xs) (b ∷ ys) x y same = ap (λ zs. (a, b) ∷ zs) (zip-more xs ys x y (omega arith))

-- one more reply of a run
AreRepliesSince-more : (g : Geometry) (members : ℕ) (h rows rs : List Row) (r : Row)
    → AreRepliesSince g members h rows rs → IsReplySince g members h (rows ++ rs) r → AreRepliesSince g members h rows (rs ++ r ∷ [])
AreRepliesSince-more g members h rows [] r are is = (subst (λ x. IsReplySince g members h x r) (append-nil rows) is, tt)
AreRepliesSince-more g members h rows (x ∷ xs) r are is =
    (are.0, AreRepliesSince-more g members h (rows ++ x ∷ []) xs r are.1 (subst (λ y. IsReplySince g members h y r) (sym (append_assoc rows (x ∷ []) xs)) is))

-- one more event
pub IsRun-more : (u v w : View) (st su : List Entry) (es : List Event) (rs : List Reply) (e : Event) (r : Reply)
    → KeepsAdds st (zip es rs) → IsRun u v es rs → IsAnswered v w st su e r → IsRun u w (es ++ e ∷ []) (rs ++ r ∷ [])
IsRun-more u v w st su es rs e r keeps run one =
    let rows : List Row = zip es rs in
    let more : zip (es ++ e ∷ []) (rs ++ r ∷ []) ≡ rows ++ (e, r) ∷ [] = zip-more es rs e r run.one_each in
    let reply : (h : List Row) → RepresentsHistory u h → IsReplySince u.geometry (length u.marks) h rows (e, r) = λ h s.
    subst (λ n. IsReplySince u.geometry n h rows (e, r)) run.members
    (subst (λ g. IsReplySince g (length v.marks) h rows (e, r)) run.geometry (one.reply h rows keeps (run.stands h s))) in
    let kept : kept_rows (rows ++ (e, r) ∷ []) ≡ kept_rows rows ++ kept_rows ((e, r) ∷ []) = filter-append is_kept rows ((e, r) ∷ []) in
    record {
      geometry = one.geometry ∙ run.geometry;
      members = one.members ∙ run.members;
      gone = one.gone ∙ run.gone;
      one_each = length-append rs (r ∷ []) ∙ (ap (λ n. n + 1) run.one_each ∙ sym (length-append es (e ∷ [])));
      replies = λ h s. subst (AreRepliesSince u.geometry (length u.marks) h []) (sym more)
          (AreRepliesSince-more u.geometry (length u.marks) h [] rows (e, r) (run.replies h s) (reply h s));
      stands = λ h s. subst (λ x. RepresentsHistory w (h ++ kept_rows x)) (sym more)
          (subst (λ x. RepresentsHistory w (h ++ x)) (sym kept)
          (subst (RepresentsHistory w) (append_assoc h (kept_rows rows) (kept_rows ((e, r) ∷ []))) (one.stands h rows keeps (run.stands h s))));
    }
