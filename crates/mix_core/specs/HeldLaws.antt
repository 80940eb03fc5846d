-- What is true of the standing adds in every legal history, and of a core's words and marks there.
use Rattle.std.specs.Prelude.{◌≡◌, ℕ, ◌+◌, ◌<◌, ◌≤◌, false, Some, List, [], ◌∷◌, ◌++◌, length, ℤ, ◌==◌}
use Rattle.std.specs.List.{slice_index_or}
use Rattle.std.proofs.Common.{refl, sym, subst, ap, ◌∙◌, append_assoc, arith, inl, inr}
use Rattle.std.proofs.lemmas.Bool.{cases_eq, cases_lt}
use Rattle.std.proofs.lemmas.Bool.Decides.{nat_tests}
use Rattle.std.proofs.lemmas.List.{append-nil}
use Rattle.std.proofs.lemmas.List.Elements.{filter_map-append}
use Rattle.snd_base.specs.declared.geometry.Geometry.{Geometry}
use Rattle.snd_base.specs.Places.{IsFrom, first_free, lap}
use Rattle.mix_core.specs.declared.marks.Marks.{Marks}
use Rattle.mix_core.specs.declared.port.Entry.{Entry}
use Rattle.mix_core.specs.declared.port.Kind.{Kind}
use Rattle.mix_core.specs.declared.port.Kind.TheVariants.{Added, Withdrawn}
use Rattle.mix_core.specs.declared.turn.Turn.{Turn}
use Rattle.mix_core.specs.Calls.{IsLaidBy}
use Rattle.mix_core.specs.History.{IsHeld, IsInside, IsLegal, IsReply, IsSample, Row, entry_of, is_taken, laid_of, entry_row, taken_words}
use Rattle.mix_core.specs.HistoryLaws.{laid_of-append_rows}
use Rattle.mix_core.specs.Laid.{EndsIn, a_withdrawal, an_add, count, last_entry, marks_with, marks_after, marks_of, own_entries, stand_after, standing_of, standing_with, without_last}
use Rattle.mix_core.specs.LegalLaws.{AreLeast, AreReplies-keep, entry_of-cases, marks_of-least, may_lay}
use Rattle.mix_core.specs.MarkLaws.{Each, Each-right, IsBeforeCursor, IsHolding, IsHolding-add, IsHolding-withdraw, each_counted, each_filter, last_cases, later_up_to, place_up_to, standing-each, without_last-more}
use Rattle.mix_core.specs.Marks.{withdrawn_at}
use Rattle.mix_core.specs.OwnLaws.{last_entry-more, marks_of-other, marks_of-own, standing_of-other, standing_of-own}
use Rattle.mix_core.specs.Stands.{RepresentsHistory}
use Rattle.mix_core.specs.Turn.{ContinuesRows, TurnEndsIn, TurnLaid, core_of}
use Rattle.mix_core.specs.TurnLaws.{RepresentsHistory-late}
use Rattle.mix_core.specs.View.{View, cursor_at, marks_at}

-- the last of some entries, as they are written
pub last_is : (st : List Entry) (f c : ℕ) (s : ℤ) → IsSample (last_entry st) f c s → (early : List Entry) × (x : Entry) × (st ≡ early ++ x ∷ []) × (x.frame ≡ f) × (x.channel ≡ c) × (x.sample ≡ s)
last_is st f c s is = elim (last_cases st) [
  | inl none ↦ absurd (subst (λ o. IsSample o f c s) (ap last_entry none) is)
  | inr some ↦
      let one : IsSample (Some some.1) f c s = subst (λ o. IsSample o f c s) (ap last_entry some.2 ∙ last_entry-more some.0 some.1) is in
      (some.0, some.1, some.2, one.0, one.1, one.2)
]

-- a member's standing adds are in the order of its marks
pub record HoldsAdds (g : Geometry) (m : Marks) (held : List Entry) : Type 0 where
  pub cursor_high : (c : ℕ) → first_free m.cursor c ≤ first_free m.high c
  pub holding : (free : List Entry) × IsHolding g m held free

holds-laid : (g : Geometry) (members : ℕ) (h : List Row) (e : Entry) → may_lay e.kind g members h e.member e.frame e.channel e.sample
    → HoldsAdds g (marks_of g e.member (laid_of h)) (standing_of e.member (laid_of h))
    → HoldsAdds g (marks_after g (marks_of g e.member (laid_of h)) e) (stand_after (standing_of e.member (laid_of h)) e)
holds-laid g members h e may x = by_kind e.kind may where
  m : Marks
  m = marks_of g e.member (laid_of h)

  held : List Entry
  held = standing_of e.member (laid_of h)

  by_kind : (k : Kind) → may_lay k g members h e.member e.frame e.channel e.sample → HoldsAdds g (marks_with k g (marks_of g e.member (laid_of h)) e.frame e.channel) (standing_with k (standing_of e.member (laid_of h)) e)
  by_kind Added may = record {
    cursor_high = λ d. later_up_to (marks_of g e.member (laid_of h)).high _ d;
    holding = (_, IsHolding-add g (marks_of g e.member (laid_of h)) (standing_of e.member (laid_of h)) x.holding.0 e x.holding.1 x.cursor_high may.channel_in_range may.from_cursor);
  }
  by_kind Withdrawn may =
      let last = last_is (standing_of e.member (laid_of h)) e.frame e.channel e.sample may.last in
      let was : IsHolding g (marks_of g e.member (laid_of h)) (last.0 ++ last.1 ∷ []) x.holding.0 = subst (λ zs. IsHolding g (marks_of g e.member (laid_of h)) zs x.holding.0) last.2 x.holding.1 in
      let before : Each (IsBeforeCursor g (marks_of g e.member (laid_of h)).cursor) (last.1 ∷ []) = Each-right (IsBeforeCursor g (marks_of g e.member (laid_of h)).cursor) last.0 (last.1 ∷ []) was.before in
      let near : e.frame < first_free (marks_of g e.member (laid_of h)).cursor e.channel =
      subst (λ d. e.frame < first_free (marks_of g e.member (laid_of h)).cursor d) last.4 (subst (λ f. f < first_free (marks_of g e.member (laid_of h)).cursor last.1.channel) last.3 before.0.1) in
      let from_last : IsFrom (marks_of g e.member (laid_of h)).floor last.1.frame last.1.channel =
      subst (λ d. IsFrom (marks_of g e.member (laid_of h)).floor last.1.frame d) (sym last.4) (subst (λ f. IsFrom (marks_of g e.member (laid_of h)).floor f e.channel) (sym last.3) may.from_floor) in
      let now : IsHolding g (withdrawn_at (marks_of g e.member (laid_of h)) e.frame e.channel) last.0 (without_last x.holding.0) =
      subst (λ d. IsHolding g (withdrawn_at (marks_of g e.member (laid_of h)) e.frame d) last.0 (without_last x.holding.0)) last.4
      (subst (λ f. IsHolding g (withdrawn_at (marks_of g e.member (laid_of h)) f last.1.channel) last.0 (without_last x.holding.0)) last.3
      (IsHolding-withdraw g (marks_of g e.member (laid_of h)) last.0 x.holding.0 last.1 was from_last)) in
      record {
        cursor_high = λ d. omega (arith, place_up_to (marks_of g e.member (laid_of h)).cursor e.frame e.channel d near, x.cursor_high d);
        holding = (
          without_last x.holding.0,
          subst (λ zs. IsHolding g (withdrawn_at (marks_of g e.member (laid_of h)) e.frame e.channel) zs (without_last x.holding.0)) (sym (ap without_last last.2 ∙ without_last-more last.0 last.1)) now,
        );
      }

pub legal-holds : (g : Geometry) (members : ℕ) (h : List Row) (m : ℕ) → IsLegal g members h → HoldsAdds g (marks_of g m (laid_of h)) (standing_of m (laid_of h))
legal-holds g members h m legal =
    let P : List Row → Type 0 = λ x. (k : ℕ) → HoldsAdds g (marks_of g k (laid_of x)) (standing_of k (laid_of x)) in
    AreReplies-keep g members P (
    λ x r is holds k. elim (entry_of-cases g members x r is) [
      | inl none ↦ rw (filter_map-append entry_of x (r ∷ []), none, append-nil (laid_of x)) (holds k)
      | inr one ↦
          let e : Entry = one.0 in
          rw (filter_map-append entry_of x (r ∷ []), one.1.0)
          (elim (cases_eq e.member k) [
            | inl same ↦
                subst (λ n. HoldsAdds g (marks_of g n (laid_of x ++ e ∷ [])) (standing_of n (laid_of x ++ e ∷ []))) same
                (subst (λ zs. HoldsAdds g (marks_of g e.member (laid_of x ++ e ∷ [])) zs) (sym (standing_of-own e.member (laid_of x) e refl))
                (subst (λ y. HoldsAdds g y (stand_after (standing_of e.member (laid_of x)) e)) (sym (marks_of-own g e.member (laid_of x) e refl))
                (holds-laid g members x e one.1.1 (holds e.member))))
            | inr other ↦
                subst (λ zs. HoldsAdds g (marks_of g k (laid_of x ++ e ∷ [])) zs) (sym (standing_of-other k (laid_of x) e other))
                (subst (λ y. HoldsAdds g y (standing_of k (laid_of x))) (sym (marks_of-other g k (laid_of x) e other)) (holds k))
          ])
    ]
    ) [] h (λ k. record { cursor_high = λ c. omega arith; holding = ([], record { before = tt; rising = tt; ends = ([], refl, tt) }) }) legal m

-- where a member's last standing add is
pub record HeldPlace (v : View) (m f c : ℕ) : Type 0 where
  pub channel : c < v.geometry.channels
  pub before : f < first_free (cursor_at v m) c
  pub ahead : f < v.position + v.geometry.frames

pub held-entry : (v : View) (h : List Row) (m : ℕ) (early : List Entry) (x : Entry) → RepresentsHistory v h → m < length v.marks → standing_of m (laid_of h) ≡ early ++ x ∷ [] → HeldPlace v m x.frame x.channel
held-entry v h m early x st inside is =
    let g : Geometry = v.geometry in
    let marks_is : marks_at v m ≡ marks_of g m (laid_of h) = st.agrees.marks m _ inside in
    let holds : HoldsAdds g (marks_of g m (laid_of h)) (standing_of m (laid_of h)) = legal-holds g (length v.marks) h m st.legal in
    let b : Each (IsBeforeCursor g (marks_of g m (laid_of h)).cursor) (x ∷ []) =
    Each-right (IsBeforeCursor g (marks_of g m (laid_of h)).cursor) early (x ∷ []) (subst (Each (IsBeforeCursor g (marks_of g m (laid_of h)).cursor)) is holds.holding.1.before) in
    let Counted : Entry → Type 0 = λ e. 1 ≤ count (laid_of h) e.frame e.channel in
    let counted : Each Counted (standing_of m (laid_of h)) = standing-each Counted (own_entries m (laid_of h)) (each_filter Counted (λ (e : Entry). e.member == m) (laid_of h) (each_counted (laid_of h))) in
    let one : Each Counted (x ∷ []) = Each-right Counted early (x ∷ []) (subst (Each Counted) is counted) in
    record {
      channel = b.0.0;
      before = subst (λ (y : Marks). x.frame < first_free y.cursor x.channel) (sym marks_is) b.0.1;
      ahead = elim (cases_lt x.frame (v.position + g.frames)) [
        | inl near ↦ near
        | inr far ↦ absurd (omega (arith, one.0, ap length (st.agrees.ahead x.frame x.channel (omega (arith, far)))))
      ];
    }

pub held-at : (v : View) (h : List Row) (m f c : ℕ) (s : ℤ) → RepresentsHistory v h → m < length v.marks → IsSample (last_entry (standing_of m (laid_of h))) f c s → HeldPlace v m f c
held-at v h m f c s st inside is =
    let last = last_is (standing_of m (laid_of h)) f c s is in
    let place : HeldPlace v m last.1.frame last.1.channel = held-entry v h m last.0 last.1 st inside last.2 in
    subst (λ d. HeldPlace v m f d) last.4 (subst (λ k. HeldPlace v m k last.1.channel) last.3 place)

pub held-place : (v : View) (h : List Row) (m f c : ℕ) (s : ℤ) → RepresentsHistory v h → m < length v.marks → EndsIn (standing_of m (laid_of h)) (an_add m f c s ∷ []) → HeldPlace v m f c
held-place v h m f c s st inside ends = held-entry v h m ends.0 (an_add m f c s) st inside ends.1

-- it may be withdrawn, from the floor on
pub held-in : (v : View) (h : List Row) (m f c : ℕ) (s : ℤ) → RepresentsHistory v h → m < length v.marks → IsFrom (marks_at v m).floor f c
    → EndsIn (standing_of m (laid_of h)) (an_add m f c s ∷ []) → IsHeld v.geometry (length v.marks) h m f c s
held-in v h m f c s st inside from ends = record {
  member_in_range = inside;
  channel_in_range = (held-place v h m f c s st inside ends).channel;
  last = subst (λ o. IsSample o f c s) (sym (ap last_entry ends.1 ∙ last_entry-more ends.0 (an_add m f c s))) (refl, refl, refl);
  from_floor = subst (λ (y : Marks). IsFrom y.floor f c) (st.agrees.marks m _ inside) from;
}

-- a withdrawal that is late goes on each history that it legally continues
pub missed-back : (v : View) (h : List Row) (m f c : ℕ) (s : ℤ) → IsHeld v.geometry (length v.marks) h m f c s → f < first_free v.next c → RepresentsHistory v h
    → RepresentsHistory v (h ++ Rattle.mix_core.specs.History.late_row (a_withdrawal m f c s) ∷ [])
missed-back v h m f c s held taken st =
    let least : AreLeast v.geometry (marks_of v.geometry m (laid_of h)) = marks_of-least v.geometry (length v.marks) h m st.legal in
    RepresentsHistory-late v h (a_withdrawal m f c s) held held.channel_in_range (grind (arith, nat_tests, least.floor, held.from_floor)) taken st

-- an entry that goes on a history legally, at a frame and channel that weren't taken, has the reply In
abbrev pub MayIn : View → Entry → Type 0
MayIn v e =
    (h : List Row) → RepresentsHistory v h → ContinuesRows v.geometry (length v.marks) h e → is_taken (taken_words h) e.frame e.channel ≡ false
    → IsReply v.geometry (length v.marks) h (entry_row e)

pub may_in-add : (v : View) (m f c : ℕ) (s : ℤ) → m < length v.marks → c < v.geometry.channels → IsFrom (cursor_at v m) f c
    → f < v.position + v.geometry.frames → lap v.geometry f < 4294967295 → MayIn v (an_add m f c s)
may_in-add v m f c s inside channel from ahead fits h st all untaken =
    let may : IsInside v.geometry (length v.marks) h m f c = record {
      member_in_range = inside;
      channel_in_range = channel;
      from_cursor = subst (λ (y : Marks). IsFrom y.cursor f c) (st.agrees.marks m _ inside) from;
      lap_fits = fits;
      ahead = subst (λ p. f < p + v.geometry.frames) st.position ahead;
    } in
    (may, untaken)

pub may_in-back : (v : View) (m f c : ℕ) (s : ℤ) → MayIn v (a_withdrawal m f c s)
may_in-back v m f c s h st held untaken = (held, untaken)

-- a turn placed one entry
pub TurnLaid-one : (t u : Turn) (e : Entry) → u.core.ghost_name ≡ t.core.ghost_name → u.member ≡ t.member → e.member ≡ t.member → IsLaidBy (core_of t) (core_of u) e
    → first_free (core_of t).next e.channel ≤ e.frame → MayIn (core_of t) e → TurnLaid t u (e ∷ [])
TurnLaid-one t u e core member own_it laid untaken may = record {
  same_core = core;
  same_member = member;
  rest = record { geometry = laid.geometry; members = laid.members; next = laid.next; position = laid.position; gone = laid.gone };
  own = λ i d inside. one (λ (x : Entry). x.member ≡ t.member) e own_it i d inside;
  in_time = λ i d inside. one (λ (x : Entry). first_free (core_of t).next x.channel ≤ x.frame) e untaken i d inside;
  marks =
      let at_own : marks_at (core_of u) e.member ≡ marks_after (core_of t).geometry (marks_at (core_of t) e.member) e = laid.own _ in
      subst (λ m. marks_at (core_of u) m ≡ marks_after (core_of t).geometry (marks_at (core_of t) t.member) e) (own_it ∙ sym member)
      (subst (λ m. marks_at (core_of u) e.member ≡ marks_after (core_of t).geometry (marks_at (core_of t) m) e) own_it at_own);
  words = laid.words;
  others = λ m d other. laid.others m d (λ same. other (same ∙ own_it));
  stands = λ h st all. laid.stands h st (may h st all.0 (laid.untaken h st));
} where
  one : (P : Entry → Type 0) (e : Entry) → P e → (i : ℕ) (d : Entry) → i < length (e ∷ []) → P (slice_index_or (e ∷ []) i d)
  one P e p Rattle.std.proofs.Common.zero d inside = p
  one P e p (Rattle.std.proofs.Common.suc i) d inside = absurd (omega arith)

-- a withdrawal takes the last of the standing adds
pub TurnEndsIn-back : (t u : Turn) (xs : List Entry) (f c : ℕ) (s : ℤ) → IsFrom (marks_at (core_of t) t.member).floor f c
    → TurnLaid t u (a_withdrawal t.member f c s ∷ []) → TurnEndsIn t (xs ++ an_add t.member f c s ∷ []) → TurnEndsIn u xs
TurnEndsIn-back t u xs f c s from laid ends =
    let h : List Row = ends.0 in
    let m : ℕ = t.member in
    let st : RepresentsHistory (core_of t) h = ends.1.0 in
    let early : List Entry = ends.1.1.0 in
    let is : standing_of m (laid_of h) ≡ (early ++ xs) ++ an_add m f c s ∷ [] = ends.1.1.1 ∙ sym (append_assoc early xs (an_add m f c s ∷ [])) in
    let held : IsHeld (core_of t).geometry (length (core_of t).marks) h m f c s = held-in (core_of t) h m f c s st t.in_range from (early ++ xs, is) in
    let r : Row = entry_row (a_withdrawal m f c s) in
    let more : standing_of m (laid_of (h ++ r ∷ [])) ≡ early ++ xs =
    ap (standing_of m) (laid_of-append_rows h (a_withdrawal m f c s ∷ [])) ∙ (standing_of-own m (laid_of h) (a_withdrawal m f c s) refl ∙ (ap without_last is ∙ without_last-more (early ++ xs) (an_add m f c s))) in
    (h ++ r ∷ [], (laid.stands h st (held, tt), (early, subst (λ n. standing_of n (laid_of (h ++ r ∷ [])) ≡ early ++ xs) (sym laid.same_member) more)))
