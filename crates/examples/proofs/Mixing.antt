-- What a core has mixed after each of the calls of two clients and of the card.
use Rattle.examples.specs.Prelude.{ap, arith, length, List, map, refl, subst, sym, ℕ, [], ◌++◌, ◌+◌, ◌∙◌, ◌∷◌, ◌≡◌, ℤ, Geometry, Segment, Taken, Entry}
use Rattle.examples.specs.Prelude.{AreExact, AreInOrder, entry_row, Row, taken_words, core_of, TurnLaid, View, segment_of, AreSums, HasMixed, IsFresh}
use Rattle.examples.specs.Prelude.{member_entries}
use Rattle.mix_core.specs.declared.event.Event.TheVariants.{Publish, Take}
use Rattle.mix_core.specs.declared.event.Reply.TheVariants.{Published, Took}
use Rattle.mix_core.specs.declared.turn.Turn.{Turn}
use Rattle.mix_core.specs.Calls.{IsNew, IsPublished, IsTaken}
use Rattle.mix_core.specs.HistoryLaws.{laid_of-append_published, laid_of-append_rows, laid_of-append_took, taken_words-append_published, taken_words-append_rows, taken_words-append_took}
use Rattle.mix_core.specs.Stands.{RepresentsHistory}
use Rattle.dmix_client.specs.declared.stream.PlaybackStream.{PlaybackStream}
use Rattle.dmix_client.specs.declared.stream.Stretch.{Stretch}
use Rattle.dmix_client.specs.Expansion.{expand, sample_at}
use Rattle.dmix_client.specs.Growth.{Follows, Grows, StandsFor, segment_entries}
use Rattle.dmix_client.specs.GrowthLaws.{StandsFor-nothing}
use Rattle.examples.proofs.Adds.{AllContinue-adds, AreAdds-entries}

-- a new core
pub HasMixed-new : (v : View) (g : Geometry) (members : ℕ) → IsNew v g members → HasMixed v [] []
HasMixed-new v g members new = record { history = []; represented = new.stands; placed_is = refl; taken_is = refl }

-- entries were placed
HasMixed-placed : (v w : View) (placed es : List Entry) (taken : List Taken) → ((h : List Row) → RepresentsHistory v h → RepresentsHistory w (h ++ map entry_row es))
    → HasMixed v placed taken → HasMixed w (placed ++ es) taken
HasMixed-placed v w placed es taken goes mixed = record {
  history = mixed.history ++ map entry_row es;
  represented = goes mixed.history mixed.represented;
  placed_is = laid_of-append_rows mixed.history es ∙ ap (λ (xs : List Entry). xs ++ es) mixed.placed_is;
  taken_is = taken_words-append_rows mixed.history es ∙ mixed.taken_is;
}

-- a word was taken
pub HasMixed-taken : (v w : View) (placed : List Entry) (taken : List Taken) (t : Taken) → IsTaken v w t → HasMixed v placed taken → HasMixed w placed (taken ++ t ∷ [])
HasMixed-taken v w placed taken t step mixed = record {
  history = mixed.history ++ (Take, Took t.frame t.channel t.value) ∷ [];
  represented = step.stands mixed.history mixed.represented;
  placed_is = laid_of-append_took mixed.history t.frame t.channel t.value ∙ mixed.placed_is;
  taken_is = taken_words-append_took mixed.history t.frame t.channel t.value ∙ ap (λ (ts : List Taken). ts ++ t ∷ []) mixed.taken_is;
}

-- the position was published
pub HasMixed-published : (v w : View) (placed : List Entry) (taken : List Taken) → IsPublished v w → HasMixed v placed taken → HasMixed w placed taken
HasMixed-published v w placed taken step mixed = record {
  history = mixed.history ++ (Publish, Published v.next.frame) ∷ [];
  represented = step.stands mixed.history mixed.represented;
  placed_is = laid_of-append_published mixed.history v.next.frame ∙ mixed.placed_is;
  taken_is = taken_words-append_published mixed.history v.next.frame ∙ mixed.taken_is;
}

-- what was taken are the sums of what was placed
pub HasMixed-sums : (v : View) (g : Geometry) (placed : List Entry) (taken : List Taken) → v.geometry ≡ g → HasMixed v placed taken → AreSums g placed taken
HasMixed-sums v g placed taken same mixed =
    let in_order : AreInOrder g (taken_words mixed.history) = subst (λ (x : Geometry). AreInOrder x (taken_words mixed.history)) same mixed.represented.agrees.in_order in
    let exact : AreExact placed (taken_words mixed.history) = subst (λ (es : List Entry). AreExact es (taken_words mixed.history)) mixed.placed_is mixed.represented.agrees.exact in
    record {
      in_order = subst (AreInOrder g) mixed.taken_is in_order;
      exact = subst (AreExact placed) mixed.taken_is exact;
    }

-- a client that has written nothing has placed nothing
member_entries-fresh : (g : Geometry) (m : ℕ) (c : PlaybackStream) (samples : List ℤ) → IsFresh c g m → member_entries g m (segment_of c) samples ≡ []
member_entries-fresh g m c samples fresh =
    ap (λ (s : Stretch). member_entries g m (record { source = s.source; card = s.card; whole = s.committed; part = s.part }) samples) fresh.stretch

-- its samples are those that it is offered
Follows-fresh : (g : Geometry) (m : ℕ) (c : PlaybackStream) (samples : List ℤ) (n : ℕ) → IsFresh c g m → Follows c samples samples n
Follows-fresh g m c samples n fresh k q below within =
    let source : c.stretch.source ≡ 0 = ap (λ (s : Stretch). s.source) fresh.stretch in
    let written : c.stretch.written ≡ 0 = ap (λ (s : Stretch). s.written) fresh.stretch in
    let at : c.stretch.source + (c.stretch.written + k) ≡ k = omega (arith, source, written) in
    ap (λ (j : ℕ). sample_at samples (length c.setup.bindings) j q) at

-- the first write of a client: its segment grows from nothing by what its turn placed
pub Grows-fresh : (t u : Turn) (g : Geometry) (m : ℕ) (c d : PlaybackStream) (ring samples : List ℤ) (n : ℕ) → IsFresh c g m
    → ((all : List ℤ) → StandsFor c ring all → Follows c all samples n → Grows TurnLaid t u c d all) → Grows TurnLaid t u c d samples
Grows-fresh t u g m c d ring samples n fresh keeps =
    keeps samples (StandsFor-nothing c ring samples (ap (λ (s : Stretch). s.written) fresh.stretch)) (Follows-fresh g m c samples n fresh)

-- what it placed is its segment
member_entries-written : (t u : Turn) (g : Geometry) (m : ℕ) (c d : PlaybackStream) (samples : List ℤ) → IsFresh c g m → (grows : Grows TurnLaid t u c d samples)
    → grows.entries ≡ member_entries g m (segment_of d) samples
member_entries-written t u g m c d samples fresh grows =
    let before : segment_entries c samples ≡ [] =
    ap (λ (b : List ℕ). expand c.identity.member (segment_of c) samples b) fresh.bindings
    ∙ ap (λ (k : ℕ). member_entries g k (segment_of c) samples) fresh.member_is
    ∙ member_entries-fresh g m c samples fresh in
    let after : segment_entries d samples ≡ member_entries g m (segment_of d) samples =
    ap (λ (b : List ℕ). expand d.identity.member (segment_of d) samples b) (grows.same_bindings ∙ fresh.bindings)
    ∙ ap (λ (k : ℕ). member_entries g k (segment_of d) samples) (grows.same_member ∙ fresh.member_is) in
    ap (λ (es : List Entry). es ++ grows.entries) (sym before) ∙ sym grows.grown ∙ after

-- the core has it at its end
pub HasMixed-written : (t u : Turn) (g : Geometry) (m : ℕ) (c d : PlaybackStream) (samples : List ℤ) (placed : List Entry) (taken : List Taken) → IsFresh c g m
    → Grows TurnLaid t u c d samples → HasMixed (core_of t) placed taken → HasMixed (core_of u) (placed ++ member_entries g m (segment_of d) samples) taken
HasMixed-written t u g m c d samples placed taken fresh grows mixed =
    let laid : TurnLaid t u (member_entries g m (segment_of d) samples) = subst (TurnLaid t u) (member_entries-written t u g m c d samples fresh grows) grows.laid_them in
    HasMixed-placed (core_of t) (core_of u) placed (member_entries g m (segment_of d) samples) taken
    (λ h stands. laid.stands h stands (AllContinue-adds (core_of t).geometry (length (core_of t).marks) h _ (AreAdds-entries g m (segment_of d) samples)))
    mixed

-- two writes and then the takes, from a new core on
pub AreSums-two : (v w x y : View) (g : Geometry) (members : ℕ) (es fs : List Entry) (taken : List Taken) → IsNew v g members
    → w.geometry ≡ v.geometry → x.geometry ≡ w.geometry → y.geometry ≡ x.geometry
    → ((placed : List Entry) → HasMixed v placed [] → HasMixed w (placed ++ es) [])
    → ((placed : List Entry) → HasMixed w placed [] → HasMixed x (placed ++ fs) [])
    → ((placed : List Entry) → HasMixed x placed [] → HasMixed y placed taken)
    → AreSums g (es ++ fs) taken
AreSums-two v w x y g members es fs taken new same_w same_x same_y one two play =
    HasMixed-sums y g (es ++ fs) taken (same_y ∙ same_x ∙ same_w ∙ new.geometry) (play (es ++ fs) (two es (one [] (HasMixed-new v g members new))))

-- the same by the segments of two clients
pub AreSums-segments : (v w x y : View) (g : Geometry) (members : ℕ) (s t one two : Segment) (first second : List ℤ) (taken : List Taken) → IsNew v g members
    → w.geometry ≡ v.geometry → x.geometry ≡ w.geometry → y.geometry ≡ x.geometry
    → ((placed : List Entry) → HasMixed v placed [] → HasMixed w (placed ++ member_entries v.geometry 0 s first) [])
    → ((placed : List Entry) → HasMixed w placed [] → HasMixed x (placed ++ member_entries w.geometry 1 t second) [])
    → ((placed : List Entry) → HasMixed x placed [] → HasMixed y placed taken)
    → one ≡ s → two ≡ t
    → AreSums g (member_entries g 0 one first ++ member_entries g 1 two second) taken
AreSums-segments v w x y g members s t one two first second taken new same_w same_x same_y left right play is_one is_two =
    let es : member_entries v.geometry 0 s first ≡ member_entries g 0 one first =
    ap (λ (k : Geometry). member_entries k 0 s first) new.geometry ∙ ap (λ (a : Segment). member_entries g 0 a first) (sym is_one) in
    let fs : member_entries w.geometry 1 t second ≡ member_entries g 1 two second =
    ap (λ (k : Geometry). member_entries k 1 t second) (same_w ∙ new.geometry) ∙ ap (λ (a : Segment). member_entries g 1 a second) (sym is_two) in
    subst (λ (xs : List Entry). AreSums g (member_entries g 0 one first ++ xs) taken) fs
    (subst (λ (xs : List Entry). AreSums g (xs ++ member_entries w.geometry 1 t second) taken) es
    (AreSums-two v w x y g members _ _ taken new same_w same_x same_y left right play))
