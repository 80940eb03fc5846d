-- What a turn's placements and withdrawals end in, by their asks.
use Rattle.mix_core.specs.Prelude.{ap, arith, length, List, refl, Some, subst, sym, ℕ, [], ◌+◌, ◌-◌, ◌<◌, ◌∷◌, ◌≡◌, Entry, IsAskNumber, Lays, core_of}
use Rattle.mix_core.specs.Prelude.{TurnFinds, TurnLaid, TurnLoaded, TurnMissed, view_of_turn, word_of_turn, IsLateWord, IsUntaken, word_at}
use Rattle.mix_core.specs.declared.gate.Pass.{Pass}
use Rattle.mix_core.specs.declared.gate.Pass.TheVariants.{Go, Stop}
use Rattle.mix_core.specs.declared.gate.StepKind.{StepKind}
use Rattle.mix_core.specs.declared.gate.StepKind.TheVariants.{Look, Exchange}
use Rattle.mix_core.specs.declared.port.Ended.TheVariants.{Late, Stopped, Whole}
use Rattle.mix_core.specs.declared.turn.Turn.{Turn}
use Rattle.mix_core.specs.Gate.{placement_asks}

-- a turn as it was, but for how its core is borrowed
pub record IsSame (t u : Turn) : Type 0 where
  pub name : u.core.ghost_name ≡ t.core.ghost_name
  pub member : u.member ≡ t.member
  pub core : core_of u ≡ core_of t

pub view_stays : (t u : Turn) → IsSame t u → view_of_turn u ≡ view_of_turn t
view_stays t u same = rw (same.core, same.member) refl

pub laid_nothing : (t u : Turn) → IsSame t u → TurnLaid t u []
laid_nothing t u same = record {
  same_core = same.name;
  same_member = same.member;
  rest = rw same.core (record { geometry = refl; members = refl; next = refl; position = refl; gone = refl });
  own = λ k d within. absurd (omega arith);
  in_time = λ k d within. absurd (omega arith);
  marks = rw (same.core, same.member) refl;
  words = rw same.core (λ i. omega arith);
  others = rw same.core (λ m d other. refl);
  stands = λ h st all. rw same.core (subst (λ x. Rattle.mix_core.specs.Stands.RepresentsHistory (core_of t) x) (sym (Rattle.std.proofs.lemmas.List.append-nil h)) st);
}

pub loaded_nothing : (t u : Turn) → IsSame t u → TurnLoaded t u []
loaded_nothing t u same = record { same_frame = rw same.core refl; same_gone = rw same.core refl; each = λ k d within. absurd (omega arith) }

-- an entry that is late goes on each history of the core
abbrev pub MayMiss : Turn → Entry → Type 0
MayMiss t e = TurnMissed t t e

-- the look finds the word of a later lap
pub lays-late : {T : Type 0} (stops : T → ℕ) (asked : T → T → List StepKind → Pass → Type 0) (t u : Turn) (g h : T) (e : Entry) (word : ℕ)
    → IsSame t u → e.channel < (core_of t).geometry.channels → IsLateWord (core_of t) e.frame e.channel word → MayMiss t e
    → asked g h (Look ∷ []) Go → stops h ≡ stops g → Lays view_of_turn TurnLaid TurnLoaded word_of_turn TurnFinds stops asked t g e (Late word) u h
lays-late stops asked t u g h e word same channel late missed asks told = record {
  view_is = view_stays t u same;
  laid_it = laid_nothing t u same;
  loaded_nothing = loaded_nothing t u same;
  not_before_seen = tt;
  shown = record { channel = rw same.core channel; shown = rw same.core (ap Some late.shown); past = rw same.core late.past };
  words = word ∷ [];
  found = record { in_time = tt; late = late.taken; missed = λ h st all. rw same.core (missed h st all); are_found = sym late.shown };
  found_last = ([], refl);
  asks = 1;
  asks_number = (omega arith, λ before. refl);
  words_number = refl;
  asked_them = asks;
  stopped = told;
}

-- the gate stops the look, or the exchange
pub lays-stopped : {T : Type 0} (stops : T → ℕ) (asked : T → T → List StepKind → Pass → Type 0) (t u : Turn) (g h : T) (e : Entry) (words : List ℕ) (n : ℕ)
    → IsSame t u → TurnFinds t u e Stopped words → IsAskNumber Stopped e.frame (view_of_turn t).seen n → length words ≡ n - 1
    → asked g h (placement_asks n) Stop → stops h ≡ stops g + 1
    → Lays view_of_turn TurnLaid TurnLoaded word_of_turn TurnFinds stops asked t g e Stopped u h
lays-stopped stops asked t u g h e words n same found number words_number asks told = record {
  view_is = view_stays t u same;
  laid_it = laid_nothing t u same;
  loaded_nothing = loaded_nothing t u same;
  not_before_seen = tt;
  shown = tt;
  words = words;
  found = found;
  found_last = tt;
  asks = n;
  asks_number = number;
  words_number = words_number;
  asked_them = asks;
  stopped = told;
}

pub lays-unseen : {T : Type 0} (stops : T → ℕ) (asked : T → T → List StepKind → Pass → Type 0) (t u : Turn) (g h : T) (e : Entry)
    → IsSame t u → asked g h (Look ∷ []) Stop → stops h ≡ stops g + 1 → Lays view_of_turn TurnLaid TurnLoaded word_of_turn TurnFinds stops asked t g e Stopped u h
lays-unseen stops asked t u g h e same asks told =
    lays-stopped stops asked t u g h e [] 1 same (record { in_time = tt; late = tt; missed = tt; are_found = tt }) (omega arith, λ before. refl) refl asks told

pub lays-unmade : {T : Type 0} (stops : T → ℕ) (asked : T → T → List StepKind → Pass → Type 0) (t u : Turn) (g h : T) (e : Entry)
    → IsSame t u → IsUntaken (core_of t) e.frame e.channel → asked g h (Look ∷ Exchange ∷ []) Stop → stops h ≡ stops g + 1
    → Lays view_of_turn TurnLaid TurnLoaded word_of_turn TurnFinds stops asked t g e Stopped u h
lays-unmade stops asked t u g h e same untaken asks told =
    lays-stopped stops asked t u g h e (word_at (core_of t) e.frame e.channel ∷ []) 2 same (record { in_time = tt; late = tt; missed = tt; are_found = refl })
    (omega arith, λ before. absurd (omega (arith, before, untaken.published))) refl asks told

-- the look finds the frame's own lap, and the exchange is made
pub lays-whole : {T : Type 0} (stops : T → ℕ) (asked : T → T → List StepKind → Pass → Type 0) (t u : Turn) (g h : T) (e : Entry)
    → TurnLaid t u (e ∷ []) → IsUntaken (core_of t) e.frame e.channel → asked g h (Look ∷ Exchange ∷ []) Go → stops h ≡ stops g
    → Lays view_of_turn TurnLaid TurnLoaded word_of_turn TurnFinds stops asked t g e Whole u h
lays-whole stops asked t u g h e laid untaken asks told = record {
  view_is = rw (laid.rest.geometry, laid.marks, laid.same_member, laid.rest.position) refl;
  laid_it = laid;
  loaded_nothing = record { same_frame = laid.rest.position; same_gone = laid.rest.gone; each = λ k d within. absurd (omega arith) };
  not_before_seen = untaken.published;
  shown = tt;
  words = word_at (core_of t) e.frame e.channel ∷ [];
  found = record { in_time = untaken.untaken; late = tt; missed = tt; are_found = refl };
  found_last = tt;
  asks = 2;
  asks_number = omega arith;
  words_number = refl;
  asked_them = asks;
  stopped = told;
}
