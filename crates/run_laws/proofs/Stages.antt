-- What is so of a run's clients, claims and position in each of its stages; and what is kept of each client, by its number.
use Rattle.run_laws.specs.Prelude.{ap, arith, length, List, None, Option, refl, Some, subst, sym, ℕ, [], ◌++◌, ◌+◌, ◌-◌, ◌<◌, ◌∙◌, ◌∷◌, ◌≡◌, ◌≤◌, false≢true}
use Rattle.run_laws.specs.Prelude.{append_assoc, get_or-append_right, length-append, set-append_right, Bool, Contains, false, map, slice_index_or, slice_set}
use Rattle.run_laws.specs.Prelude.{suc, true, zero, ClaimRow as Claim, PlaybackStream, Actor, Item, Op, Answer, Row, first_frame, claim_refusal, with_claim}
use Rattle.run_laws.specs.Prelude.{Client, client_kind, segments_of, client_kinds, Held, held_after, held_of, held_without, is_stopped, ItemMay, ItemsMay}
use Rattle.run_laws.specs.Prelude.{no_sound, reaped_client, reaped_client_if, reaped_one, rules_of, EachMay, Kind, LineMay, LinesMay, is_client, ops_by, AtPort}
use Rattle.run_laws.specs.Prelude.{Rules, claims_without, ended_client, first_stage, no_client, opened_client, renewed_port, Session, Setup, Stage, AtBorder}
use Rattle.run_laws.specs.Prelude.{closes-to, opens-to}
use Rattle.run_laws.proofs.Published.{published-past}
use Rattle.lab_lines.specs.declared.line.Item.TheVariants as item
use Rattle.lab_lines.specs.declared.line.Op.TheVariants as op

-- ---- the clients of a run

-- the client of a number
abbrev pub at : Session → List (AtPort × Client) → ℕ → AtPort × Client
at session clients n = slice_index_or clients n (no_client session.ring)

-- it, opened
abbrev pub client_opened : Session → List (AtPort × Client) → ℕ → Setup → AtPort × Client
client_opened session clients n setup =
    (renewed_port session.ring (at session clients n).0, record (at session clients n).1 { own = Some (opened_client session.ring n setup) })

abbrev pub kind_at : Session → ℕ → ℕ → Kind Client
kind_at session phase n = client_kind phase (slice_index_or session.sounds n no_sound) n

-- a fact of each of some, after one of them was set
pub set-fact : {X : Type 0} (d : X) (Q : ℕ → X → Type 0) (xs : List X) (n : ℕ) (y : X) → Q n y
    → ((m : ℕ) → (n ≡ m → n < length xs → ⊥) → Q m (slice_index_or xs m d)) → (m : ℕ) → Q m (slice_index_or (slice_set xs n y) m d)
set-fact d Q [] n y new old m = old m (λ same within. omega (arith, within))
set-fact d Q (x ∷ xs) zero y new old zero = new
set-fact d Q (x ∷ xs) zero y new old (suc m) = old (suc m) (λ same within. omega (arith, same))
set-fact d Q (x ∷ xs) (suc n) y new old zero = old 0 (λ same within. omega (arith, same))
set-fact d Q (x ∷ xs) (suc n) y new old (suc m) = set-fact d (λ k. Q (suc k)) xs n y new
    (λ k not. old (suc k) (λ same within. not (let is : n ≡ k = omega (arith, same) in is) (omega (arith, within)))) m

pub set-so : (session : Session) (Q : ℕ → AtPort × Client → Type 0) (clients : List (AtPort × Client)) (n : ℕ) (y : AtPort × Client) → Q n y
    → ((m : ℕ) → (n ≡ m → n < length clients → ⊥) → Q m (at session clients m)) → (m : ℕ) → Q m (at session (slice_set clients n y) m)
set-so session Q clients n y new old = set-fact (no_client session.ring) Q clients n y new old

pub first-none : (session : Session) (setups : List (Option Setup)) (n : ℕ) → at session (map (λ setup. no_client session.ring) setups) n ≡ no_client session.ring
first-none session [] n = refl
first-none session (setup ∷ setups) zero = refl
first-none session (setup ∷ setups) (suc n) = first-none session setups n

-- a client that is open is one of some
open-within : (session : Session) (clients : List (AtPort × Client)) (n : ℕ) (c : PlaybackStream) → (at session clients n).1.own ≡ Some c → n < length clients
open-within session [] n c is = absurd (cc)
open-within session (x ∷ clients) zero c is = omega arith
open-within session (x ∷ clients) (suc n) c is = let rest = open-within session clients n c is in omega (arith, rest)

-- the one after some, and it set
pub middle-at : {X : Type 0} (done rest : List X) (n : ℕ) (x d : X) → length done ≡ n → slice_index_or (done ++ x ∷ rest) n d ≡ x
middle-at done rest n x d is = get_or-append_right done (x ∷ rest) n n d is (omega arith) ∙ ap (λ k. slice_index_or (x ∷ rest) k d) (let none : n - n ≡ 0 = omega arith in none)

pub middle-set : {X : Type 0} (done rest : List X) (n : ℕ) (x y : X) → length done ≡ n → slice_set (done ++ x ∷ rest) n y ≡ done ++ y ∷ rest
middle-set done rest n x y is = set-append_right done (x ∷ rest) n n y is (omega arith) ∙ ap (λ k. done ++ slice_set (x ∷ rest) k y) (let none : n - n ≡ 0 = omega arith in none)

-- ---- the lines of a phase

pub next-within : {X : Type 0} (done rest : List X) (n : ℕ) (x : X) → length done ≡ n → n < length (done ++ x ∷ rest)
next-within done rest n x is = omega (arith, length-append done (x ∷ rest), is)

-- a fact of an actor stays so by each line of some, where it does by one
pub lines-last : {S : Type 0} (kind : Kind S) (rules : Rules) (J : AtPort × S → Type 0)
    → ((x y : AtPort × S) (asked : Op) (answer : Answer) → LineMay kind rules x asked y answer → J x → J y)
    → (x y : AtPort × S) (ops : List Op) (rows : List Row) → LinesMay kind rules x ops y rows → J x → J y
lines-last kind rules J line x y [] rows (same, none) so = subst J (sym same) so
lines-last kind rules J line x y (asked ∷ ops) rows (between, answer, others, may, more, are) so =
    lines-last kind rules J line between y ops others more (line x between asked answer may so)

-- a fact of the actors of a kind stays so by each line of one of them, so by all lines of all of them
module _ {S : Type 0} (kind : ℕ → Kind S) (rules : Rules) (d : AtPort × S) (J : List (AtPort × S) → Type 0)
    (line : (xs : List (AtPort × S)) (n : ℕ) (y : AtPort × S) (asked : Op) (answer : Answer) → n < length xs → LineMay (kind n) rules (slice_index_or xs n d) asked y answer
    → J xs → J (slice_set xs n y)) where
  lines-walked : (done rest : List (AtPort × S)) (n : ℕ) (x y : AtPort × S) (ops : List Op) (rows : List Row) → length done ≡ n
      → LinesMay (kind n) rules x ops y rows → J (done ++ x ∷ rest) → J (done ++ y ∷ rest)
  lines-walked done rest n x y ops rows at_n may so = lines-last (kind n) rules (λ z. J (done ++ z ∷ rest)) (λ z between asked answer one is.
      subst J (middle-set done rest n z between at_n) (line (done ++ z ∷ rest) n between asked answer (next-within done rest n z at_n)
      (subst (λ (w : AtPort × S). LineMay (kind n) rules w asked between answer) (sym (middle-at done rest n z d at_n)) one) is)) x y ops rows may so

  pub each-walked : (ops : ℕ → List Op) (done xs ys : List (AtPort × S)) (n : ℕ) (rows : List Row) → length done ≡ n
      → EachMay kind rules ops n xs ys rows → J (done ++ xs) → J (done ++ ys)
  each-walked ops done [] ys n rows at_n (same, none) so = rw same so
  each-walked ops done (x ∷ xs) ys n rows at_n (own, others, own_rows, other_rows, may, more, same, are) so =
      rw same (subst J (append_assoc done (own ∷ []) others)
      (each-walked ops (done ++ own ∷ []) xs others (n + 1) other_rows (omega (arith, length-append done (own ∷ []), at_n)) more
      (subst J (sym (append_assoc done (own ∷ []) xs)) (lines-walked done xs n x own (ops n) own_rows at_n may so))))

-- ---- a run

-- A fact of the clients, the claims and the card's position stays so by each line of a phase that publishes no position before it, by an opening that is
-- granted, where a client ends, and while the card goes on.
pub record IsLasting (session : Session) (I : List (AtPort × Client) → List Claim → ℕ → Type 0) : Type 0 where
  pub line : (rules : Rules) (phase : ℕ) (clients : List (AtPort × Client)) (claims : List Claim) (position n : ℕ) (y : AtPort × Client) (asked : Op) (answer : Answer)
      → ((q : ℕ) → Contains rules.published q → position ≤ q) → n < length clients → LineMay (kind_at session phase n) rules (at session clients n) asked y answer
      → I clients claims position → I (slice_set clients n y) claims position
  pub opens : (clients : List (AtPort × Client)) (claims : List Claim) (position n : ℕ) (setup : Setup) → slice_index_or session.clients n None ≡ Some setup
      → (at session clients n).1.own ≡ None → claim_refusal session.card.share claims setup.bindings position ≡ None
      → I clients claims position → I (slice_set clients n (client_opened session clients n setup)) (with_claim session.card.share setup.bindings claims) position
  pub ends : (clients : List (AtPort × Client)) (claims : List Claim) (position n : ℕ) (c : PlaybackStream) → n < length clients → (at session clients n).1.own ≡ Some c
      → I clients claims position
      → I (slice_set clients n (ended_client session.ring (at session clients n))) (claims_without session (at session clients n).0 c claims) position
  pub later : (clients : List (AtPort × Client)) (claims : List Claim) (position q : ℕ) → position ≤ q → I clients claims position → I clients claims q

module _ (session : Session) (I : List (AtPort × Client) → List Claim → ℕ → Type 0) (held : IsLasting session I) where
  -- each client that was stopped ends
  pub reaped-held : (position : ℕ) (done xs : List (AtPort × Client)) (n : ℕ) (kept : Held) → length done ≡ n → I (done ++ xs) kept.claims position
      → I (done ++ map (reaped_client session.ring) xs) (held_after session n xs kept).claims position
  reaped-held position done [] n kept at_n so = so
  reaped-held position done (x ∷ xs) n kept at_n so = subst (λ l. I l (held_after session n (x ∷ xs) kept).claims position) (append_assoc done (reaped_client session.ring x ∷ []) _)
      (reaped-held position (done ++ reaped_client session.ring x ∷ []) xs (n + 1) (reaped_one session n x (is_stopped x.1.own) kept)
      (omega (arith, length-append done (reaped_client session.ring x ∷ []), at_n))
      (subst (λ l. I l (reaped_one session n x (is_stopped x.1.own) kept).claims position) (sym (append_assoc done (reaped_client session.ring x ∷ []) xs))
      (by_stop (is_stopped x.1.own) x.1.own refl refl)))
    where
      here : at session (done ++ x ∷ xs) n ≡ x
      here = middle-at done xs n x (no_client session.ring) at_n

      ends : (c : PlaybackStream) → x.1.own ≡ Some c → I (done ++ ended_client session.ring x ∷ xs) (claims_without session x.0 c kept.claims) position
      ends c is = subst (λ l. I l (claims_without session x.0 c kept.claims) position) (middle-set done xs n x (ended_client session.ring x) at_n)
          (subst (λ (z : AtPort × Client). I (slice_set (done ++ x ∷ xs) n (ended_client session.ring z)) (claims_without session z.0 c kept.claims) position) here
          (held.ends (done ++ x ∷ xs) kept.claims position n c (next-within done xs n x at_n)
          (subst (λ (z : AtPort × Client). z.1.own ≡ Some c) (sym here) is) so))

      by_stop : (stopped : Bool) (own : Option PlaybackStream) → x.1.own ≡ own → is_stopped own ≡ stopped
          → I (done ++ reaped_client_if stopped session.ring x ∷ xs) (reaped_one session n x stopped kept).claims position
      by_stop false own is stops = so
      by_stop true None is stops = absurd (false≢true stops)
      by_stop true (Some c) is stops = subst (λ own. I (done ++ ended_client session.ring x ∷ xs) (held_without session n x.0 own kept).claims position) (sym is) (ends c is)

  -- ---- the items of a body

  abbrev pub IsSoAt : Stage → Type 0
  IsSoAt stage = I stage.clients stage.claims stage.position

  border-held : (stage : Stage) (who : Actor) (asked : Op) → IsSoAt stage → AtBorder session stage who asked IsSoAt
  border-held stage who asked so = record {
    none = λ card. so;
    refused = λ lobby e s seen refusal own. so;
    opens = λ n setup lobby who_is there closed granted. held.opens stage.clients stage.claims stage.position n setup there closed granted so;
    ends = λ n c who_is is. held.ends stage.clients stage.claims stage.position n c (open-within session stage.clients n c is) is so;
    reader_opens = λ n setup who_is there. so;
    reader_ends = λ n seen who_is. so;
  }

  pub item-held : (stage after : Stage) (one : Item) → ItemMay session stage one after → IsSoAt stage → IsSoAt after
  item-held stage after (item.Opens number who) is so = rw is (opens-to session stage IsSoAt who (border-held stage who op.Opens so))
  item-held stage after (item.Closes number who) is so = rw is (closes-to session stage IsSoAt who (border-held stage who op.Closes so))
  item-held stage after (item.Phase lines) may so = rw may.is (held.later _ _ stage.position _ (omega arith)
      (reaped-held stage.position [] may.clients 0 (held_of stage) refl
      (each-walked (client_kinds session stage) (rules_of session stage lines) (no_client session.ring) (λ clients. I clients stage.claims stage.position)
      (λ clients n y asked answer within one. held.line (rules_of session stage lines) (stage.phases + 1) clients stage.claims stage.position n y asked answer
      (published-past session.card.period stage.position stage.position lines (omega arith)) within one)
      (λ n. ops_by (is_client n) lines) [] stage.clients may.clients 0 may.client_rows refl may.clients_may so)))

  pub items-held : (stage after : Stage) (items : List Item) → ItemsMay session stage items after → IsSoAt stage → IsSoAt after
  items-held stage after [] is so = rw is so
  items-held stage after (one ∷ items) (between, may, rest) so = items-held between after items rest (item-held stage between one may so)

-- ---- what is kept of each client, by its number

-- A fact of the client of a number is so of one that was never open, and stays so by each line of a phase that publishes no position before a frame, by an
-- opening, and where the client ends.
pub record IsKeptFrom (session : Session) (from : ℕ) (P : ℕ → Client → Type 0) : Type 0 where
  pub never : (number : ℕ) → P number (record { own = None; ended = [] })
  pub lines : (rules : Rules) → ((q : ℕ) → Contains rules.published q → from ≤ q) → (phase number : ℕ) (a b : AtPort) (client after : Client) (asked : Op) (answer : Answer)
      → P number client → LineMay (kind_at session phase number) rules (a, client) asked (b, after) answer → P number after
  pub opens : (number : ℕ) (setup : Setup) → slice_index_or session.clients number None ≡ Some setup → (client : Client) → P number client
      → P number (record client { own = Some (opened_client session.ring number setup) })
  pub ends : (number : ℕ) (client : Client) → P number client → P number (record { own = None; ended = segments_of client })

module _ (session : Session) (from : ℕ) (P : ℕ → Client → Type 0) (kept : IsKeptFrom session from P) where
  -- the card isn't before the frame, and each client has the fact
  abbrev pub EachFrom : List (AtPort × Client) → List Claim → ℕ → Type 0
  EachFrom clients claims position = (from ≤ position) × ((n : ℕ) → P n (at session clients n).1)

  pub each-from : IsLasting session EachFrom
  each-from = record {
    line = λ rules phase clients claims position n y asked answer least within may so. (
      so.0,
      set-so session (λ m z. P m z.1) clients n y
          (kept.lines rules (λ q there. past position q so.0 (least q there)) phase n (at session clients n).0 y.0 (at session clients n).1 y.1 asked answer (so.1 n) may) (λ m not. so.1 m),
    );
    opens = λ clients claims position n setup there closed granted so.
        (so.0, set-so session (λ m z. P m z.1) clients n (client_opened session clients n setup) (kept.opens n setup there (at session clients n).1 (so.1 n)) (λ m not. so.1 m));
    ends = λ clients claims position n c within is so. (
      so.0,
      set-so session (λ m z. P m z.1) clients n (ended_client session.ring (at session clients n))
          (kept.ends n (at session clients n).1 (so.1 n)) (λ m not. so.1 m),
    );
    later = λ clients claims position q after so. (past position q so.0 after, so.1);
  }
    where
      past : (p q : ℕ) → from ≤ p → p ≤ q → from ≤ q
      past p q one two = omega (arith, one, two)

  pub first-each : from ≤ first_frame session.card → (let stage : Stage = first_stage session in EachFrom stage.clients stage.claims stage.position)
  first-each low = (low, λ n. subst (λ (z : AtPort × Client). P n z.1) (sym (first-none session session.clients n)) (kept.never n))

  -- each client of a stage that a run reaches
  pub reached-each : (items : List Item) (stage : Stage) → from ≤ first_frame session.card → ItemsMay session (first_stage session) items stage
      → EachFrom stage.clients stage.claims stage.position
  reached-each items stage low may = items-held session EachFrom each-from (first_stage session) stage items may (first-each low)
