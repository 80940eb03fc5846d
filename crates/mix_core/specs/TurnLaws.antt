-- What a turn places and loads in two steps is joined, and an add that is late goes on each history.
use Rattle.std.specs.Prelude.{◌≡◌, ◌+◌, ◌<◌, ◌≤◌, ℕ, ℤ, true, All, Some, List, [], ◌∷◌, ◌++◌, length, map, nat_lt, slice_index, ◌/◌, ◌==◌}
use Rattle.std.proofs.Common.{suc, get_or, refl, sym, subst, ap, ◌∙◌, append_assoc, arith}
use Rattle.std.proofs.lemmas.Bool.Decides.{nat_tests}
use Rattle.std.proofs.lemmas.List.{append-nil, map-append}
use Rattle.std.proofs.lemmas.List.Elements.{All-append, filter-append, filter_map-append}
use Rattle.std.proofs.lemmas.List.Sums.{fold-append, fold_push}
use Rattle.snd_base.specs.Relations.{Composes}
use Rattle.snd_base.specs.declared.places.Cursor.{Cursor}
use Rattle.snd_base.specs.Places.{IsFrom, first_frame, first_free, word_index}
use Rattle.mix_core.specs.declared.port.Entry.{Entry}
use Rattle.mix_core.specs.declared.port.Position.{Position}
use Rattle.mix_core.specs.declared.turn.Turn.{Turn}
use Rattle.mix_core.specs.History.{IsInside, IsReply, Row, entry_of, event_by, is_taken, laid_of, late_row, position_after, position_of, entry_row, taken_words, taking_of}
use Rattle.mix_core.specs.HistoryLaws.{entry_of-late, laid_of-append_rows, position_after-row, taking_of-row}
use Rattle.mix_core.specs.declared.event.Reply.TheVariants.{Late}
use Rattle.mix_core.specs.declared.marks.Marks.{Marks}
use Rattle.mix_core.specs.declared.port.Kind.{Kind}
use Rattle.mix_core.specs.declared.port.Kind.TheVariants.{Added, Withdrawn}
use Rattle.snd_base.specs.declared.geometry.Geometry.{Geometry}
use Rattle.mix_core.specs.Laid.{AreAdds, cursor_of, marks_after, marks_from, own_entries, standing, standing_of}
use Rattle.mix_core.specs.Port.{AreRisingFrom, ShowsFrom, last_frame}
use Rattle.mix_core.specs.PortLaws.{IsNotBefore-refl, IsNotBefore-trans, standing-append_adds}
use Rattle.mix_core.specs.LegalLaws.{IsLegal-more, MayLay, cursor_of-least, lap-taken, may_lay}
use Rattle.mix_core.specs.Stands.{Agrees, RepresentsHistory}
use Rattle.mix_core.specs.Turn.{AllContinue, KeepsRest, TurnEndsIn, TurnLaid, TurnLoaded, TurnMissed, continues, core_of, cursor_of_turn, marks_of_turn, word_of_turn}
use Rattle.mix_core.specs.View.{View, cursor_at, word_at}

pub KeepsRest-joined : (u v w : View) → KeepsRest u v → KeepsRest v w → KeepsRest u w
KeepsRest-joined u v w first then = record {
  geometry = then.geometry ∙ first.geometry;
  members = then.members ∙ first.members;
  next = then.next ∙ first.next;
  position = then.position ∙ first.position;
  gone = then.gone ∙ first.gone;
}

-- the rows of joined lists are one after the other
pub rows-joined : (h : List Row) (xs ys : List Entry) → (h ++ map entry_row xs) ++ map entry_row ys ≡ h ++ map entry_row (xs ++ ys)
rows-joined h xs ys = append_assoc h (map entry_row xs) (map entry_row ys) ∙ ap (λ rs. h ++ rs) (sym (map-append entry_row xs ys))

-- entries of joined lists
pub AllContinue-left : (g : Geometry) (members : ℕ) (h : List Row) (xs ys : List Entry) → AllContinue g members h (xs ++ ys) → AllContinue g members h xs
AllContinue-left g members h [] ys all = tt
AllContinue-left g members h (x ∷ xs) ys all = (all.0, AllContinue-left g members (h ++ entry_row x ∷ []) xs ys all.1)

pub AllContinue-right : (g : Geometry) (members : ℕ) (h : List Row) (xs ys : List Entry) → AllContinue g members h (xs ++ ys) → AllContinue g members (h ++ map entry_row xs) ys
AllContinue-right g members h [] ys all = subst (λ x. AllContinue g members x ys) (sym (append-nil h)) all
AllContinue-right g members h (x ∷ xs) ys all = subst (λ z. AllContinue g members z ys) (append_assoc h (entry_row x ∷ []) (map entry_row xs)) (AllContinue-right g members (h ++ entry_row x ∷ []) xs ys all.1)

pub TurnLaid-joined : (p q r : Turn) (xs ys : List Entry) → TurnLaid p q xs → TurnLaid q r ys → TurnLaid p r (xs ++ ys)
TurnLaid-joined p q r xs ys first then = record {
  same_core = then.same_core ∙ first.same_core;
  same_member = then.same_member ∙ first.same_member;
  rest = KeepsRest-joined (core_of p) (core_of q) (core_of r) first.rest then.rest;
  own = All-append (λ (e : Entry). e.member ≡ p.member) xs ys first.own (λ k d within. then.own k d within ∙ first.same_member);
  in_time = All-append (λ (e : Entry). first_free (core_of p).next e.channel ≤ e.frame) xs ys first.in_time
      (λ k d within. subst (λ (next : Cursor). first_free next (get_or ys k d).channel ≤ (get_or ys k d).frame) first.rest.next (then.in_time k d within));
  marks =
      then.marks
      ∙ (ap (λ g. marks_from g (marks_of_turn q) ys) first.rest.geometry
      ∙ (ap (λ m. marks_from (core_of p).geometry m ys) first.marks ∙ sym (fold-append (marks_after (core_of p).geometry) (marks_of_turn p) xs ys)));
  words = λ i. IsNotBefore-trans (slice_index (core_of p).words i) (slice_index (core_of q).words i) (slice_index (core_of r).words i) (first.words i) (then.words i);
  others = λ m d other. then.others m d (λ same. other (same ∙ first.same_member)) ∙ first.others m d other;
  stands = λ h s all.
      let right : AllContinue (core_of q).geometry (length (core_of q).marks) (h ++ map entry_row xs) ys =
      subst (λ n. AllContinue (core_of q).geometry n (h ++ map entry_row xs) ys) (sym first.rest.members)
      (subst (λ g. AllContinue g (length (core_of p).marks) (h ++ map entry_row xs) ys) (sym first.rest.geometry) (AllContinue-right (core_of p).geometry (length (core_of p).marks) h xs ys all)) in
      subst (RepresentsHistory (core_of r)) (rows-joined h xs ys)
      (then.stands (h ++ map entry_row xs) (first.stands h s (AllContinue-left (core_of p).geometry (length (core_of p).marks) h xs ys all)) right);
}

pub TurnLaid-composes : Composes TurnLaid
TurnLaid-composes = record {
  none = λ p. record {
    same_core = refl;
    same_member = refl;
    rest = record { geometry = refl; members = refl; next = refl; position = refl; gone = refl };
    own = λ k d within. absurd (omega arith);
    in_time = λ k d within. absurd (omega arith);
    marks = refl;
    words = λ i. IsNotBefore-refl (slice_index (core_of p).words i);
    others = λ m d other. refl;
    stands = λ h s all. subst (RepresentsHistory (core_of p)) (sym (append-nil h)) s;
  };
  joined = TurnLaid-joined;
}

pub TurnLoaded-joined : (p q r : Turn) (xs ys : List Position) → TurnLoaded p q xs → TurnLoaded q r ys → TurnLoaded p r (xs ++ ys)
TurnLoaded-joined p q r xs ys first then = record {
  same_frame = then.same_frame ∙ first.same_frame;
  same_gone = then.same_gone ∙ first.same_gone;
  each = All-append (λ (x : Position). (x.frame ≡ (core_of p).position) × (x.gone ≡ (core_of p).gone)) xs ys first.each
      (λ k d within. ((then.each k d within).0 ∙ first.same_frame, (then.each k d within).1 ∙ first.same_gone));
}

pub TurnLoaded-composes : Composes TurnLoaded
TurnLoaded-composes = record {
  none = λ p. record { same_frame = refl; same_gone = refl; each = λ k d within. absurd (omega arith) };
  joined = TurnLoaded-joined;
}

-- an entry whose frame and channel were taken goes on each history that it legally continues, and changes nothing
pub RepresentsHistory-late : (v : View) (h : List Row) (e : Entry) → MayLay v.geometry (length v.marks) h e → e.channel < v.geometry.channels → first_frame v.geometry ≤ e.frame
    → e.frame < first_free v.next e.channel → RepresentsHistory v h → RepresentsHistory v (h ++ late_row e ∷ [])
RepresentsHistory-late v h e may channel least taken_before s =
    let r : Row = late_row e in
    let g = v.geometry in
    let laid : laid_of (h ++ r ∷ []) ≡ laid_of h = filter_map-append entry_of h (r ∷ []) ∙ rw (entry_of-late e) (append-nil (laid_of h)) in
    let taken : taken_words (h ++ r ∷ []) ≡ taken_words h = filter_map-append taking_of h (r ∷ []) ∙ rw (taking_of-row e Late) (append-nil (taken_words h)) in
    let before : nat_lt e.frame (first_free v.next e.channel) ≡ true = grind (arith, nat_tests, taken_before) in
    let is : is_taken (taken_words h) e.frame e.channel ≡ true = s.agrees.taken e.frame e.channel channel least ∙ before in
    record {
      legal = IsLegal-more g (length v.marks) h r s.legal (late-reply g (length v.marks) h e may is);
      position = s.position ∙ sym (fold_push position_after (first_frame g) h r ∙ position_after-row (position_of g h) e Late);
      agrees = subst (λ ts. Agrees v (laid_of (h ++ r ∷ [])) ts) (sym taken) (subst (λ es. Agrees v es (taken_words h)) (sym laid) s.agrees);
    } where
      by_kind : (k : Kind) (g : Geometry) (members : ℕ) (h : List Row) (m f c : ℕ) (x : ℤ) → may_lay k g members h m f c x → is_taken (taken_words h) f c ≡ true → IsReply g members h (event_by k m f c x, Late)
      by_kind Added g members h m f c x may is = (may, is)
      by_kind Withdrawn g members h m f c x may is = (may, is)

      late-reply : (g : Geometry) (members : ℕ) (h : List Row) (e : Entry) → MayLay g members h e → is_taken (taken_words h) e.frame e.channel ≡ true → IsReply g members h (late_row e)
      late-reply g members h e may is = by_kind e.kind g members h e.member e.frame e.channel e.sample may is

-- a member may add at a frame and channel, and they were taken
pub record CanMiss (v : View) (e : Entry) : Type 0 where
  pub kind : e.kind ≡ Added
  pub member : e.member < length v.marks
  pub channel : e.channel < v.geometry.channels
  pub from_cursor : IsFrom (cursor_at v e.member) e.frame e.channel
  pub ahead : e.frame < v.position + v.geometry.frames
  pub taken : e.frame < first_free v.next e.channel

-- the frame of such an add is not before the first, and the history says that the member may make it
pub least-missed : (v : View) (h : List Row) (e : Entry) → CanMiss v e → RepresentsHistory v h → first_frame v.geometry ≤ e.frame
least-missed v h e can s =
    let g = v.geometry in
    let from : IsFrom (cursor_of g e.member (laid_of h)) e.frame e.channel = subst (λ (m : Marks). IsFrom m.cursor e.frame e.channel) (s.agrees.marks e.member _ can.member) can.from_cursor in
    let first : first_frame g ≤ (cursor_of g e.member (laid_of h)).frame = cursor_of-least g (length v.marks) h e.member s.legal in
    grind (arith, nat_tests)

pub inside-missed : (v : View) (h : List Row) (e : Entry) → CanMiss v e → RepresentsHistory v h → IsInside v.geometry (length v.marks) h e.member e.frame e.channel
inside-missed v h e can s = record {
  member_in_range = can.member;
  channel_in_range = can.channel;
  from_cursor = subst (λ (m : Marks). IsFrom m.cursor e.frame e.channel) (s.agrees.marks e.member _ can.member) can.from_cursor;
  lap_fits = lap-taken v.geometry (length v.marks) h e.frame e.channel s.legal (subst (λ (at : Cursor). e.frame < first_free at e.channel) s.agrees.next can.taken);
  ahead = subst (λ p. e.frame < p + v.geometry.frames) s.position can.ahead;
}

-- an add that is late goes on each history that the core represents
pub RepresentsHistory-missed : (v : View) (h : List Row) (e : Entry) → CanMiss v e → RepresentsHistory v h → RepresentsHistory v (h ++ late_row e ∷ [])
RepresentsHistory-missed v h e can s =
    let may : MayLay v.geometry (length v.marks) h e = subst (λ k. may_lay k v.geometry (length v.marks) h e.member e.frame e.channel e.sample) (sym can.kind) (inside-missed v h e can s) in
    RepresentsHistory-late v h e may can.channel (least-missed v h e can s) can.taken s

-- from a turn whose member may add at a frame and channel that were taken, a turn that placed nothing missed this add
pub TurnLaid-late : (t u : Turn) (e : Entry) → e.kind ≡ Added → e.member ≡ t.member
    → e.channel < (core_of t).geometry.channels → IsFrom (cursor_of_turn t) e.frame e.channel
    → e.frame < (core_of t).position + (core_of t).geometry.frames → e.frame < first_free (core_of t).next e.channel
    → TurnLaid t u [] → TurnMissed t u e
TurnLaid-late t u e kind own channel from ahead taken laid h s all =
    let can : CanMiss (core_of t) e = record {
      kind = kind;
      member = subst (λ m. m < length (core_of t).marks) (sym own) t.in_range;
      channel = channel;
      from_cursor = subst (λ m. IsFrom (cursor_at (core_of t) m) e.frame e.channel) (sym own) from;
      ahead = ahead;
      taken = taken;
    } in
    subst (RepresentsHistory (core_of u)) (append-nil (h ++ late_row e ∷ [])) (laid.stands (h ++ late_row e ∷ []) (RepresentsHistory-missed (core_of t) h e can s) tt)

-- a turn's standing adds end in each part at the end of a list in which they end
pub TurnEndsIn-part : (t : Turn) (xs ys : List Entry) → TurnEndsIn t (xs ++ ys) → TurnEndsIn t ys
TurnEndsIn-part t xs ys ends = (ends.0, (ends.1.0, (ends.1.1.0 ++ xs, ends.1.1.1 ∙ sym (append_assoc ends.1.1.0 xs ys))))

-- what a turn placed moves the marks, and no word that it shows falls
pub TurnLaid-shown : (t u : Turn) (es : List Entry) (f c word : ℕ) → TurnLaid t u es → word_of_turn t f c ≡ Some word → ShowsFrom word_of_turn u f c word
TurnLaid-shown t u es f c word laid is = record {
  now = word_at (core_of u) f c;
  shown = refl;
  not_before = subst (λ w. w / 16777216 ≤ word_at (core_of u) f c / 16777216) (the_word is)
      (subst (λ g. word_at (core_of t) f c / 16777216 ≤ slice_index (core_of u).words (word_index g f c) / 16777216) (sym laid.rest.geometry)
      (laid.words (word_index (core_of t).geometry f c)));
} where
  the_word : word_of_turn t f c ≡ Some word → word_at (core_of t) f c ≡ word
  the_word some = cc some

-- the positions that a turn loaded are all the core's
loaded-each : (d : ℕ) (ps : List Position) → All (λ (p : Position). p.frame ≡ d) ps → AreRisingFrom d ps × (last_frame d ps ≡ d)
loaded-each d [] all = (tt, refl)
loaded-each d (p ∷ ps) all =
    let is : p.frame ≡ d = all 0 p (omega arith) in
    let rest = loaded-each d ps (λ k x within. all (suc k) x (omega (arith, within))) in
    ((omega (arith, is), rw is rest.0), rw is rest.1)

pub TurnLoaded-rising : (t u : Turn) (ps : List Position) → TurnLoaded t u ps → AreRisingFrom (core_of t).position ps
TurnLoaded-rising t u ps loaded = (loaded-each (core_of t).position ps (λ k d within. (loaded.each k d within).0)).0

pub TurnLoaded-last : (t u : Turn) (ps : List Position) → TurnLoaded t u ps → (core_of u).position ≡ last_frame (core_of t).position ps
TurnLoaded-last t u ps loaded = loaded.same_frame ∙ sym (loaded-each (core_of t).position ps (λ k d within. (loaded.each k d within).0)).1

-- adds go on each history
all_continue : (g : Geometry) (members : ℕ) (h : List Row) (es : List Entry) → AreAdds es → AllContinue g members h es
all_continue g members h [] adds = tt
all_continue g members h (e ∷ es) adds =
    (subst (λ k. continues k g members h e.member e.frame e.channel e.sample) (sym adds.0) tt, all_continue g members (h ++ entry_row e ∷ []) es adds.1)

-- entries that are all of a member are its own
own-all : (m : ℕ) (es : List Entry) → All (λ (e : Entry). e.member ≡ m) es → own_entries m es ≡ es
own-all m [] all = refl
own-all m (e ∷ es) all =
    let is : e.member ≡ m = all 0 e (omega arith) in
    let test : (e.member == m) ≡ true = grind (arith, nat_tests) in
    rw test (ap (λ xs. e ∷ xs) (own-all m es (λ k d within. all (suc k) d (omega (arith, within)))))

standing_of-append_adds : (m : ℕ) (xs es : List Entry) → AreAdds es → All (λ (e : Entry). e.member ≡ m) es → standing_of m (xs ++ es) ≡ standing_of m xs ++ es
standing_of-append_adds m xs es adds all =
    ap standing (filter-append (λ (e : Entry). e.member == m) xs es ∙ ap (λ ys. own_entries m xs ++ ys) (own-all m es all)) ∙ standing-append_adds (own_entries m xs) es adds

-- the standing adds of a turn that added have its adds at their end
pub TurnEndsIn-laid : (t u : Turn) (xs es : List Entry) → AreAdds es → TurnLaid t u es → TurnEndsIn t xs → TurnEndsIn u (xs ++ es)
TurnEndsIn-laid t u xs es adds laid ends =
    let h : List Row = ends.0 in
    let early : List Entry = ends.1.1.0 in
    let st : RepresentsHistory (core_of u) (h ++ map entry_row es) = laid.stands h ends.1.0 (all_continue (core_of t).geometry (length (core_of t).marks) h es adds) in
    let is : standing_of t.member (laid_of (h ++ map entry_row es)) ≡ early ++ (xs ++ es) =
    ap (standing_of t.member) (laid_of-append_rows h es)
    ∙ (standing_of-append_adds t.member (laid_of h) es adds laid.own
    ∙ (ap (λ ys. ys ++ es) ends.1.1.1 ∙ append_assoc early xs es)) in
    (h ++ map entry_row es, (st, (early, subst (λ m. standing_of m (laid_of (h ++ map entry_row es)) ≡ early ++ (xs ++ es)) (sym laid.same_member) is)))

pub TurnEndsIn-nothing : (t u : Turn) (xs : List Entry) → TurnLaid t u [] → TurnEndsIn t xs → TurnEndsIn u xs
TurnEndsIn-nothing t u xs laid ends = subst (TurnEndsIn u) (append-nil xs) (TurnEndsIn-laid t u xs [] tt laid ends)
