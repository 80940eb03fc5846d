-- What the steps of a phase keep of a client: what it holds, and with what it was opened.
use Rattle.std.specs.Prelude.{◌≡◌, ℕ, ◌+◌, ◌+ℤ◌, List, [], ◌∷◌, ◌++◌, map, Option, None, Some, slice_index_or, ⊤}
use Rattle.std.proofs.Common.{refl, sym, ◌∙◌, ap, subst}
use Rattle.mix_core.specs.declared.port.Entry.{Entry}
use Rattle.sum_table.specs.declared.seats.mix.MixSeat.{MixSeat}
use Rattle.sum_table.specs.declared.view.Key.{Key}
use Rattle.sum_table.specs.Seats.{TableId, member_of}
use Rattle.wav_io.specs.Sound.{Sound}
use Rattle.dmix_client.specs.View.{ClientView}
use Rattle.card_sim.specs.declared.card.Card.{Card}
use Rattle.lab_lines.specs.declared.line.Line.{Line}
use Rattle.lab_run.specs.Client.{Client, stretch_of}
use Rattle.lab_run.specs.Rules.{AtPort}
use Rattle.lab_run.specs.Stage.{Session, Setup}
use Rattle.lab_places.specs.Holdings.{Holding, Holdings}
use Rattle.lab_places.specs.Laid.{laid_list}
use Rattle.lab_actors.specs.Walks.{AreEach}
use Rattle.lab_clients.specs.declared.client.LabClient.{LabClient}
use Rattle.lab_clients.specs.declared.open_client.OpenClient.{OpenClient}
use Rattle.lab_clients.specs.OneClient.{AllRefused, IsAtBy, IsClientHeard, IsClientInformed, IsSameBut, RunsLines, GoesOrRests, number_of, open_of}
use Rattle.lab_clients.specs.OneClientLaws.{IsAt-same, client_in-same}
use Rattle.lab_clients.specs.OpenClient.{HasRun, IsHeard, IsInformed, IsSameOpen, IsSameOpening, stream_of}
use Rattle.lab_clients.specs.AtStage.{IsClientDone, IsClientIn, IsSetUp, holding_by}
use Rattle.lab_clients.specs.Placed.{IsClientPlaced, IsPlacedBy, IsPlacedFor, IsReported, SeatSegment, laid_for, open_lists, place_segments, with_number, worth_all}
use Rattle.lab_clients.specs.Steps.{HasGivenRows, sound_at}

-- ---- an opening

-- a client that is open keeps its opening, and one that isn't stays so
abbrev pub IsSameOpened : Option OpenClient → Option OpenClient → Type 0
IsSameOpened o p = GoesOrRests IsSameOpening ⊤ o p

GoesOrRests-map : (P Q : OpenClient → OpenClient → Type 0) (R S : Type 0) (o p : Option OpenClient) → ((a b : OpenClient) → P a b → Q a b) → (R → S) → GoesOrRests P R o p → GoesOrRests Q S o p
GoesOrRests-map P Q R S None None goes rests stays = rests stays
GoesOrRests-map P Q R S (Some o) (Some p) goes rests stays = goes o p stays
GoesOrRests-map P Q R S None (Some p) goes rests never = absurd never
GoesOrRests-map P Q R S (Some o) None goes rests never = absurd never

pub IsSameOpened-joined : (o p q : Option OpenClient) → IsSameOpened o p → IsSameOpened p q → IsSameOpened o q
IsSameOpened-joined None None None one two = tt
IsSameOpened-joined (Some o) (Some p) (Some q) one two =
    record { bindings = two.bindings ∙ one.bindings; opened_at = two.opened_at ∙ one.opened_at; member = two.member ∙ one.member }
IsSameOpened-joined None (Some p) q one two = absurd one
IsSameOpened-joined (Some o) None q one two = absurd one
IsSameOpened-joined None None (Some q) one two = absurd two
IsSameOpened-joined (Some o) (Some p) None one two = absurd two

pub IsSameOpened-same : (d e : LabClient) → IsSameBut d e → IsSameOpened (open_of d) (open_of e)
IsSameOpened-same d e same = GoesOrRests-map IsSameOpen IsSameOpening ⊤ ⊤ (open_of d) (open_of e) (λ o p is. is.same) (λ rests. rests) same.own

pub IsSameOpened-informed : (c : Card) (d e : LabClient) → IsClientInformed c d e → IsSameOpened (open_of d) (open_of e)
IsSameOpened-informed c d e informed =
    GoesOrRests-map (IsInformed c) IsSameOpening (e.rows ≡ d.rows) ⊤ (open_of d) (open_of e) (λ o p is. is.same) (λ rests. tt) informed.own

pub IsSameOpened-run : (before after asks phase : ℕ) (wav : Sound) (lines : List Line) (d e : LabClient) → RunsLines before after asks phase wav lines d e
    → IsSameOpened (open_of d) (open_of e)
IsSameOpened-run before after asks phase wav lines d e run =
    GoesOrRests-map (HasRun before after asks phase wav lines) IsSameOpening (AllRefused before after asks phase (number_of d) lines d.rows.items e.rows.items) ⊤ (open_of d) (open_of e)
    (λ o p is. is.same) (λ rests. tt) run.own

pub IsSameOpened-heard : (c : Card) (d e : LabClient) → IsClientHeard c d e → IsSameOpened (open_of d) (open_of e)
IsSameOpened-heard c d e heard =
    GoesOrRests-map (IsHeard c) IsSameOpening (e.rows ≡ d.rows) ⊤ (open_of d) (open_of e) (λ o p is. is.same) (λ rests. tt) heard.own

-- ---- what it holds

abbrev holding : ℕ → Option ℕ → List ℕ → Option Holding
holding place before channels =
    Some (record { place = place; before = before; channels = channels })

-- a client that keeps its opening holds what it held
pub holding_by-same : (last : Option ℕ) (o p : Option OpenClient) → IsSameOpened o p → holding_by last p ≡ holding_by last o
holding_by-same last None None same = refl
holding_by-same last (Some o) (Some p) same =
    ap (λ (place : ℕ). holding place last p.bindings) same.member ∙ ap (λ (channels : List ℕ). holding (member_of o.seat) last channels) same.bindings
holding_by-same last None (Some p) same = absurd same
holding_by-same last (Some o) None same = absurd same

-- and its stream is set up as it was, as its bindings are those of its opening
pub IsSetUp-same : (setup : Option Setup) (ring : TableId) (key : Key) (wav : Sound) (last : Option ℕ) (m n : ℕ) (a b : AtPort) (o p : Option OpenClient) → IsSameOpened o p
    → IsAtBy ring key wav last m o a → IsAtBy ring key wav last n p b → IsSetUp setup o → IsSetUp setup p
IsSetUp-same setup ring key wav last m n a b None None same before after is = tt
IsSetUp-same setup ring key wav last m n a b (Some o) (Some p) same before after is =
    (is.0, is.1, sym after.bindings ∙ (same.bindings ∙ (before.bindings ∙ is.2)))
IsSetUp-same setup ring key wav last m n a b None (Some p) same before after is = absurd same
IsSetUp-same setup ring key wav last m n a b (Some o) None same before after is = absurd same

-- ---- one that is the same but for its rows

-- it is the same client of a run
pub IsClientIn-same : (session : Session) (ring : TableId) (key : Key) (holdings : Holdings) (number : ℕ) (d e : LabClient) (x : AtPort × Client) → IsSameBut d e
    → IsClientIn session ring key holdings number d x → IsClientIn session ring key holdings number e x
IsClientIn-same session ring key holdings number d e x same is =
    let wav : Sound = sound_at session.sounds number in
    let opened = IsSameOpened-same d e same in
    let at = IsAt-same ring key wav is.last d e x.0 same is.at in
    record {
      numbered = same.rest.number ∙ is.numbered;
      client = client_in-same d e same ∙ is.client;
      last = is.last;
      at = at;
      holds = is.holds ∙ sym (holding_by-same is.last (open_of d) (open_of e) opened);
      setup = IsSetUp-same (slice_index_or session.clients number None) ring key wav is.last (number_of d) (number_of e) x.0 x.0 (open_of d) (open_of e) opened is.at at is.setup;
    }

-- and so is what its seat placed
pub laid_for-same : (d e : LabClient) → IsSameBut d e → laid_for (open_of e) ≡ laid_for (open_of d)
laid_for-same d e same = by_open (open_of d) (open_of e) same.own
  where
    by_open : (o p : Option OpenClient) → GoesOrRests IsSameOpen ⊤ o p → laid_for p ≡ laid_for o
    by_open None None stays = refl
    by_open (Some o) (Some p) stays = ap (λ (s : MixSeat). Some (laid_list s)) stays.seat
    by_open None (Some p) never = absurd never
    by_open (Some o) None never = absurd never

pub IsPlacedFor-same : (session : Session) (history : List SeatSegment) (number : ℕ) (client : Client) (d e : LabClient) → IsSameBut d e
    → IsPlacedFor session history number (open_of d) client → IsPlacedFor session history number (open_of e) client
IsPlacedFor-same session history number client d e same = by_open (open_of d) (open_of e) same.own
  where
    by_open : (o p : Option OpenClient) → GoesOrRests IsSameOpen ⊤ o p → IsPlacedFor session history number o client → IsPlacedFor session history number p client
    by_open None None stays is = is
    by_open (Some o) (Some p) stays is = record {
      stretches = is.stretches;
      ended_are = is.ended_are;
      placed = subst (λ (s : MixSeat). IsPlacedBy session (laid_list s) (place_segments (member_of s) history ++ map (with_number number) (is.stretches ++ stretch_of (stream_of p)))) (sym stays.seat)
          (subst (λ (v : ClientView). IsPlacedBy session (laid_list o.seat) (place_segments (member_of o.seat) history ++ map (with_number number) (is.stretches ++ stretch_of v.stream)))
          (sym stays.client) is.placed);
    }
    by_open None (Some p) never is = absurd never
    by_open (Some o) None never is = absurd never

-- ---- clients whose rows were taken

module _ (session : Session) (ring : TableId) (key : Key) (holdings : Holdings) where
  pub AreEach-rows : (number : ℕ) (ds es : List LabClient) (xs : List (AtPort × Client)) → AreEach HasGivenRows number ds es
      → AreEach (IsClientIn session ring key holdings) number ds xs → AreEach (IsClientDone session ring key holdings) number es xs
  AreEach-rows number [] [] [] taken are = tt
  AreEach-rows number (d ∷ ds) (e ∷ es) (x ∷ xs) taken are = (
    record { is = IsClientIn-same session ring key holdings number d e x taken.0.same are.0; rows = taken.0.none },
    AreEach-rows (number + 1) ds es xs taken.1 are.1,
  )
  AreEach-rows number [] (e ∷ es) xs taken are = absurd taken
  AreEach-rows number (d ∷ ds) [] xs taken are = absurd taken
  AreEach-rows number [] [] (x ∷ xs) taken are = absurd are
  AreEach-rows number (d ∷ ds) (e ∷ es) [] taken are = absurd are

-- ---- clients of which each is the same but for its rows

module _ (R : ℕ → LabClient → LabClient → Type 0) (same : (n : ℕ) (d e : LabClient) → R n d e → IsSameBut d e) where
  open_lists-same : (number : ℕ) (ds es : List LabClient) → AreEach R number ds es → open_lists es ≡ open_lists ds
  open_lists-same number [] [] are = refl
  open_lists-same number (d ∷ ds) (e ∷ es) are =
      ap (λ (own : Option (List Entry)). own ∷ open_lists es) (laid_for-same d e (same number d e are.0))
      ∙ ap (λ (others : List (Option (List Entry))). laid_for (open_of d) ∷ others) (open_lists-same (number + 1) ds es are.1)
  open_lists-same number [] (e ∷ es) are = absurd are
  open_lists-same number (d ∷ ds) [] are = absurd are

  IsClientPlaced-same : (session : Session) (history : List SeatSegment) (number : ℕ) (ds es : List LabClient) (xs : List (AtPort × Client)) → AreEach R number ds es
      → AreEach (IsClientPlaced session history) number ds xs → AreEach (IsClientPlaced session history) number es xs
  IsClientPlaced-same session history number [] [] [] are placed = tt
  IsClientPlaced-same session history number (d ∷ ds) (e ∷ es) (x ∷ xs) are placed =
      (IsPlacedFor-same session history number x.1 d e (same number d e are.0) placed.0, IsClientPlaced-same session history (number + 1) ds es xs are.1 placed.1)
  IsClientPlaced-same session history number [] (e ∷ es) xs are placed = absurd are
  IsClientPlaced-same session history number (d ∷ ds) [] xs are placed = absurd are
  IsClientPlaced-same session history number [] [] (x ∷ xs) are placed = absurd placed
  IsClientPlaced-same session history number (d ∷ ds) (e ∷ es) [] are placed = absurd placed

  -- all that was placed is still what the segments say
  pub IsReported-same : (session : Session) (lists : List (Option (List Entry))) (ds es : List LabClient) (xs : List (AtPort × Client)) → AreEach R 0 ds es
      → IsReported session lists ds xs → IsReported session lists es xs
  IsReported-same session lists ds es xs are reported = record {
    history = reported.history;
    free = reported.free;
    clients = IsClientPlaced-same session reported.history 0 ds es xs are reported.clients;
    as_often = λ worth.
        ap (λ (own : List (Option (List Entry))). worth_all worth lists +ℤ worth_all worth own) (open_lists-same 0 ds es are) ∙ reported.as_often worth;
  }
