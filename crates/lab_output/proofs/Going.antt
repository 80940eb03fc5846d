-- A run's files from call to call.
use Rattle.lab_output.specs.Prelude.{ap, arith, drop, get_or, inl, inr, length, List, map, None, option_map, refl, Some, subst, suc, sym, take, zero, ℕ, []}
use Rattle.lab_output.specs.Prelude.{◌++◌, ◌-◌, ◌<◌, ◌∙◌, ◌∷◌, ◌≡◌, length-set, set, get_or-set_same, get_or_default, length-drop, take_all, on_ok_weaker}
use Rattle.lab_output.specs.Prelude.{flat_map, option_map_or, All, Err, Ok, OnErr, OnOk, Option, Result, ℤ, sample_bytes, bytes_under, Files, IsPartAppended}
use Rattle.lab_output.specs.Prelude.{IsPartFinished, with_change, with_file, with_first_bytes, OutputFile, AreApart, finished_file, finished_files, head_of}
use Rattle.lab_output.specs.Prelude.{MayHold, nothing, open_file, open_head_of, unfinished_files, AreLonger, closed_files, ClosedInPart, IsGoingOn, IsPartOf}
use Rattle.lab_output.specs.Prelude.{opened_files, OpenedInPart, AreLonger-forms, Into, IsGoingOn-Changes, open_file-more, with_outputs-Changes}
use Rattle.lab_output.specs.Prelude.{written-Changes}
use Rattle.lab_shelf.specs.Changes.{Changes, Changes-nothing, Changes-then, Changes-with_file, Changes-part}
use Rattle.lab_output.proofs.Forms.{AllForms-open, AllForms-finished, IsFormOf-head, IsFormOf-closing, IsFormOf-finished, MayHold-at, IsFormOf-open}
use Rattle.lab_output.proofs.Longer.{longer-at, longer-before, longer-form, longer-length}
use Rattle.lab_output.proofs.Shelves.{changed-first, changed-output, bytes_under-with_outputs}

-- outputs that were begun have an open head and no sample
opened_files-begun : (outputs : List OutputFile) (m : Files) → opened_files outputs m ≡ unfinished_files outputs (nothing outputs) m
opened_files-begun [] m = refl
opened_files-begun (output ∷ outputs) m = opened_files-begun outputs (with_file m output.name (open_head_of output))

-- the same of files that may not be known
pub opened_where-begun : (outputs : List OutputFile) (before after : Option Files) → after ≡ option_map (opened_files outputs) before
    → after ≡ option_map (unfinished_files outputs (nothing outputs)) before
opened_where-begun outputs None after is = is
opened_where-begun outputs (Some m) after is = is ∙ ap Some (opened_files-begun outputs m)

-- outputs of which some were begun have changed so
opened_files-Changes : (may_hold : List ℕ → List ℕ → Type 0) (outputs : List OutputFile) (before after : Option Files)
    → Into outputs (nothing outputs) may_hold → OpenedInPart outputs before after → Changes may_hold before after
opened_files-Changes may_hold [] before after into is = rw is (Changes-nothing may_hold before)
opened_files-Changes may_hold (output ∷ outputs) before after into (inl part) =
    Changes-part may_hold before after output.name (open_head_of output)
    (λ k. into output.name (take k (open_head_of output)) (inl (refl, IsFormOf-head output k))) part
opened_files-Changes may_hold (output ∷ outputs) before after into (inr rest) =
    Changes-then may_hold before (option_map (λ files. with_file files output.name (open_head_of output)) before) after
    (Changes-with_file may_hold before output.name (open_head_of output)
    (into output.name (open_head_of output) (inl (refl, IsFormOf-open output []))))
    (opened_files-Changes may_hold outputs (option_map (λ files. with_file files output.name (open_head_of output)) before) after
    (λ name bytes may. into name bytes (inr may)) rest)

-- outputs with true heads are finished
closed_files-stored : (outputs : List OutputFile) (sounds : List (List ℤ)) (m : Files) → AreApart outputs
    → closed_files outputs (map length sounds) (unfinished_files outputs sounds m) ≡ finished_files outputs sounds m
closed_files-stored (output ∷ outputs) (samples ∷ sounds) m apart =
    ap (closed_files outputs (map length sounds)) (changed-first open_file (with_first_bytes (head_of output (length samples))) output outputs samples sounds m apart)
    ∙ closed_files-stored outputs sounds (with_file m output.name (finished_file output samples)) apart.1
closed_files-stored outputs sounds m apart = refl

-- the same of files that may not be known
closed_where-stored : (outputs : List OutputFile) (sounds : List (List ℤ)) (before : Option Files) → AreApart outputs
    → option_map (closed_files outputs (map length sounds)) (option_map (unfinished_files outputs sounds) before) ≡ option_map (finished_files outputs sounds) before
closed_where-stored outputs sounds None apart = refl
closed_where-stored outputs sounds (Some m) apart = ap Some (closed_files-stored outputs sounds m apart)

-- a run's files are finished
pub IsGoingOn-stored : (outputs : List OutputFile) (counts : List ℕ) (sounds : List (List ℤ)) (before now after : Option Files)
    → AreApart outputs → IsGoingOn outputs counts sounds before now → after ≡ option_map (closed_files outputs counts) now
    → after ≡ option_map (finished_files outputs sounds) before
IsGoingOn-stored outputs counts sounds before now after apart going is =
    is
    ∙ ap (option_map (closed_files outputs counts)) going.files
    ∙ ap (λ (ns : List ℕ). option_map (closed_files outputs ns) (option_map (unfinished_files outputs sounds) before)) (sym going.counted)
    ∙ closed_where-stored outputs sounds before apart

-- outputs of which some have true heads have changed so
closed_files-Changes : (may_hold : List ℕ → List ℕ → Type 0) (outputs : List OutputFile) (sounds : List (List ℤ)) (m : Files) (after : Option Files)
    → AreApart outputs → Into outputs sounds may_hold → ClosedInPart outputs (map length sounds) (Some (unfinished_files outputs sounds m)) after
    → Changes may_hold (Some m) after
closed_files-Changes may_hold (output ∷ outputs) (samples ∷ sounds) m after apart into (inl (inl same)) =
    rw same (with_outputs-Changes may_hold open_file (output ∷ outputs) (samples ∷ sounds) (samples ∷ sounds) m (AllForms-open (output ∷ outputs) (samples ∷ sounds)) into)
closed_files-Changes may_hold (output ∷ outputs) (samples ∷ sounds) m after apart into (inl (inr part)) =
    let head : List ℕ = take part.0 (head_of output (length samples)) in
    let bytes : List ℕ = with_first_bytes head (open_file output samples) in
    let is : after ≡ Some (unfinished_files outputs sounds (with_file m output.name bytes)) =
    part.2 ∙ ap Some (changed-first open_file (with_first_bytes head) output outputs samples sounds m apart) in
    rw is (Changes-then may_hold (Some m) (Some (with_file m output.name bytes)) (Some (unfinished_files outputs sounds (with_file m output.name bytes)))
    (Changes-with_file may_hold (Some m) output.name bytes (into output.name bytes (inl (refl, IsFormOf-closing output samples part.0 part.1))))
    (with_outputs-Changes may_hold open_file outputs sounds sounds (with_file m output.name bytes) (AllForms-open outputs sounds) (λ name b may. into name b (inr may))))
closed_files-Changes may_hold (output ∷ outputs) (samples ∷ sounds) m after apart into (inr rest) =
    let bytes : List ℕ = finished_file output samples in
    Changes-then may_hold (Some m) (Some (with_file m output.name bytes)) after
    (Changes-with_file may_hold (Some m) output.name bytes (into output.name bytes (inl (refl, IsFormOf-finished output samples))))
    (closed_files-Changes may_hold outputs sounds (with_file m output.name bytes) after apart.1 (λ name b may. into name b (inr may))
    (subst (λ (f : Files). ClosedInPart outputs (map length sounds) (Some f) after)
    (changed-first open_file (with_first_bytes (head_of output (length samples))) output outputs samples sounds m apart) rest))
closed_files-Changes may_hold outputs sounds m after apart into is = rw is (Changes-nothing may_hold (Some m))

-- no file is known
closed_files-untold : (may_hold : List ℕ → List ℕ → Type 0) (after : Option Files) → Changes may_hold None after
closed_files-untold may_hold after m is = cc

-- what finishes that fail leave
pub IsGoingOn-closing : (outputs : List OutputFile) (counts : List ℕ) (sounds : List (List ℤ)) (before now after : Option Files)
    → AreApart outputs → IsGoingOn outputs counts sounds before now → ClosedInPart outputs counts now after
    → Changes (MayHold outputs sounds) before after
IsGoingOn-closing outputs counts sounds None now after apart going part = closed_files-untold (MayHold outputs sounds) after
IsGoingOn-closing outputs counts sounds (Some m) now after apart going part =
    closed_files-Changes (MayHold outputs sounds) outputs sounds m after apart (λ name bytes may. may)
    (rw going.counted (subst (λ (f : Option Files). ClosedInPart outputs counts f after) going.files part))

-- the lengths of samples of which one output has others
map-length-set : (sounds : List (List ℤ)) (n : ℕ) (samples : List ℤ) → map length (set sounds n samples) ≡ set (map length sounds) n (length samples)
map-length-set [] n samples = refl
map-length-set (sound ∷ sounds) zero samples = refl
map-length-set (sound ∷ sounds) (suc n) samples = ap (λ (ns : List ℕ). length sound ∷ ns) (map-length-set sounds n samples)

-- a change of one file, which it may hold
changed-Changes : (may_hold : List ℕ → List ℕ → Type 0) (make : List ℕ → List ℕ) (m : Files) (name content : List ℕ)
    → bytes_under m name ≡ Some content → may_hold name (make content) → Changes may_hold (Some m) (Some (with_change make m name))
changed-Changes may_hold make m name content is may =
    subst (λ (o : Option (List ℕ)). Changes may_hold (Some m) (Some (option_map_or (λ c. with_file m name (make c)) o m))) (sym is)
    (Changes-with_file may_hold (Some m) name (make content) may)

-- the files of a run that is done have changed so
pub stored-Changes : (outputs : List OutputFile) (sounds : List (List ℤ)) (before after : Option Files)
    → after ≡ option_map (finished_files outputs sounds) before → Changes (MayHold outputs sounds) before after
stored-Changes outputs sounds before after is =
    rw is (written-Changes finished_file outputs sounds sounds before (AllForms-finished outputs sounds))

-- no sample is counted of outputs that have none
counted-nothing : (outputs : List OutputFile) (counts : List ℕ) → length counts ≡ length outputs
    → ((k d : ℕ) → k < length counts → get_or counts k d ≡ 0) → map length (nothing outputs) ≡ counts
counted-nothing [] [] even zeros = refl
counted-nothing (output ∷ outputs) (n ∷ counts) even zeros =
    ap (λ (m : ℕ). m ∷ map length (nothing outputs)) (sym (zeros 0 0 (omega arith)))
    ∙ ap (λ (ns : List ℕ). n ∷ ns) (counted-nothing outputs counts (omega (arith, even)) (λ k d within. zeros (suc k) d (omega (arith, within))))
counted-nothing outputs counts even zeros = absurd (omega (arith, even))

-- so many outputs that have no sample
length-nothing : (outputs : List OutputFile) → length (nothing outputs) ≡ length outputs
length-nothing [] = refl
length-nothing (output ∷ outputs) = ap suc (length-nothing outputs)

-- a run begins
pub IsGoingOn-begun : (outputs : List OutputFile) (counts : List ℕ) (before after : Option Files) → length counts ≡ length outputs
    → All (λ (n : ℕ). n ≡ 0) counts → after ≡ option_map (opened_files outputs) before
    → IsGoingOn outputs counts (nothing outputs) before after
IsGoingOn-begun outputs counts before after even zeros is = record {
  counted = counted-nothing outputs counts even (λ k d within. zeros k d within);
  number = length-nothing outputs;
  files = opened_where-begun outputs before after is;
}

-- a run that has begun has changed its files so
pub opened_all-Changes : (outputs : List OutputFile) (before after : Option Files) → after ≡ option_map (opened_files outputs) before
    → Changes (MayHold outputs (nothing outputs)) before after
opened_all-Changes outputs before after is =
    rw (opened_where-begun outputs before after is) (written-Changes open_file outputs (nothing outputs) (nothing outputs) before (AllForms-open outputs (nothing outputs)))

-- a run begins, where all files were begun
pub begin-going_on : {T E : Type 0} (result : Result T E) (files outputs : List OutputFile) (counts : List ℕ) (before after : Option Files)
    → files ≡ outputs → length counts ≡ length outputs → All (λ (n : ℕ). n ≡ 0) counts
    → OnOk result (after ≡ option_map (opened_files files) before)
    → OnOk result (IsGoingOn outputs counts (nothing outputs) before after)
begin-going_on result files outputs counts before after same even zeros is =
    on_ok_weaker result (λ opened. IsGoingOn-begun outputs counts before after even zeros (opened ∙ ap (λ (os : List OutputFile). option_map (opened_files os) before) same)) is

-- what begins leave, whatever they answer
pub begin-Changes : {T E : Type 0} (result : Result T E) (files outputs : List OutputFile) (before after : Option Files)
    → files ≡ outputs → OnOk result (after ≡ option_map (opened_files files) before) → OnErr result (OpenedInPart files before after)
    → Changes (MayHold outputs (nothing outputs)) before after
begin-Changes (Ok x) files outputs before after same is part = opened_all-Changes outputs before after (is ∙ ap (λ (os : List OutputFile). option_map (opened_files os) before) same)
begin-Changes (Err e) files outputs before after same is part =
    opened_files-Changes (MayHold outputs (nothing outputs)) outputs before after (λ name bytes may. may) (subst (λ (os : List OutputFile). OpenedInPart os before after) same part)

-- a run's files are finished, where all finishes worked
pub finish-stored : {T E : Type 0} (result : Result T E) (files outputs : List OutputFile) (numbers counts : List ℕ) (sounds : List (List ℤ))
    (before now after : Option Files) → files ≡ outputs → numbers ≡ counts → AreApart outputs → IsGoingOn outputs counts sounds before now
    → OnOk result (after ≡ option_map (closed_files files numbers) now)
    → OnOk result (after ≡ option_map (finished_files outputs sounds) before)
finish-stored result files outputs numbers counts sounds before now after same counted apart going is =
    on_ok_weaker result (λ closed. IsGoingOn-stored outputs counts sounds before now after apart going
    (closed ∙ ap (λ (os : List OutputFile). option_map (closed_files os numbers) now) same ∙ ap (λ (ns : List ℕ). option_map (closed_files outputs ns) now) counted)) is

-- what finishes leave, whatever they answer
pub finish-Changes : {T E : Type 0} (result : Result T E) (files outputs : List OutputFile) (numbers counts : List ℕ) (sounds : List (List ℤ))
    (before now after : Option Files) → files ≡ outputs → numbers ≡ counts → AreApart outputs → IsGoingOn outputs counts sounds before now
    → OnOk result (after ≡ option_map (closed_files files numbers) now) → OnErr result (ClosedInPart files numbers now after)
    → Changes (MayHold outputs sounds) before after
finish-Changes (Ok x) files outputs numbers counts sounds before now after same counted apart going is part =
    stored-Changes outputs sounds before after
    (finish-stored {T = Unit {0}} {E = Unit {0}} (Ok tt) files outputs numbers counts sounds before now after same counted apart going is)
finish-Changes (Err e) files outputs numbers counts sounds before now after same counted apart going is part =
    IsGoingOn-closing outputs counts sounds before now after apart going
    (subst (λ (ns : List ℕ). ClosedInPart outputs ns now after) counted
    (subst (λ (os : List OutputFile). ClosedInPart os numbers now after) same part))

-- new samples are appended to an output of a run that goes on: those after the samples so far
pub record Appends (outputs : List OutputFile) (counts : List ℕ) (sounds : List (List ℤ)) (before now : Option Files) (n : ℕ) (output : OutputFile) (samples new : List ℤ) : Type 0 where
  pub apart : AreApart outputs
  pub going : IsGoingOn outputs counts sounds before now
  pub within : n < length outputs
  pub is : output ≡ get_or outputs n output
  pub first : get_or sounds n [] ≡ take (get_or counts n 0) samples
  pub rest : new ≡ drop (get_or counts n 0) samples

-- the new samples are a slice, from the number of those so far on
pub Appends-slice : (outputs : List OutputFile) (counts : List ℕ) (sounds : List (List ℤ)) (before now : Option Files) (n : ℕ) (output : OutputFile) (samples : List ℤ) (from : ℕ)
    → AreApart outputs → IsGoingOn outputs counts sounds before now → n < length outputs → length counts ≡ length outputs → output ≡ get_or outputs n output
    → from ≡ get_or counts n from → get_or sounds n [] ≡ take (get_or counts n 0) samples
    → Appends outputs counts sounds before now n output samples (take (length samples - from) (drop from samples))
Appends-slice outputs counts sounds before now n output samples from apart going within even is at first = record {
  apart = apart;
  going = going;
  within = within;
  is = is;
  first = first;
  rest = take_all _ _ (omega (arith, length-drop from samples))
      ∙ ap (λ (k : ℕ). drop k samples) (at ∙ get_or_default counts n from 0 (omega (arith, within, even)));
}

module _ (outputs : List OutputFile) (counts : List ℕ) (sounds : List (List ℤ)) (before now after : Option Files) (n : ℕ) (output : OutputFile) (samples new : List ℤ)
    (a : Appends outputs counts sounds before now n output samples new) where
  -- the samples so far and the new ones are all
  more : open_file output (get_or sounds n []) ++ flat_map sample_bytes new ≡ open_file output samples
  more = rw a.rest (open_file-more output samples (get_or sounds n []) (get_or counts n 0) a.first)

  -- the run goes on with them
  pub append-going_on : after ≡ option_map (λ files. with_change (λ content. content ++ flat_map sample_bytes new) files output.name) now
      → IsGoingOn outputs (set counts n (length samples)) (set sounds n samples) before after
  append-going_on appended = record {
    counted = map-length-set sounds n samples ∙ ap (λ (ns : List ℕ). set ns n (length samples)) a.going.counted;
    number = length-set sounds n samples ∙ a.going.number;
    files = appended ∙ ap (option_map (λ files. with_change (λ content. content ++ flat_map sample_bytes new) files output.name)) a.going.files ∙ at before;
  }
    where
      at : (b : Option Files)
          → option_map (λ files. with_change (λ content. content ++ flat_map sample_bytes new) files output.name) (option_map (unfinished_files outputs sounds) b)
          ≡ option_map (unfinished_files outputs (set sounds n samples)) b
      at None = refl
      at (Some m) =
          ap Some (changed-output open_file (λ content. content ++ flat_map sample_bytes new) outputs sounds m n output samples a.apart a.going.number a.within a.is more)

  -- what an append leaves that worked
  pub append-Changes : (targets : List (List ℤ)) → AreLonger (set sounds n samples) targets
      → after ≡ option_map (λ files. with_change (λ content. content ++ flat_map sample_bytes new) files output.name) now
      → Changes (MayHold outputs targets) before after
  append-Changes targets longer appended =
      IsGoingOn-Changes outputs (set counts n (length samples)) (set sounds n samples) targets before after (append-going_on appended) longer

  -- what an append leaves that failed
  pub append_part-Changes : (targets : List (List ℤ)) → AreLonger (set sounds n samples) targets
      → IsPartAppended now after output.name (flat_map sample_bytes new) → Changes (MayHold outputs targets) before after
  append_part-Changes targets longer failed =
      by before (subst (λ (f : Option Files). IsPartAppended f after output.name (flat_map sample_bytes new)) a.going.files failed)
    where
      written : (m : Files) → Changes (MayHold outputs targets) (Some m) (Some (unfinished_files outputs sounds m))
      written m = written-Changes open_file outputs sounds targets (Some m) (AreLonger-forms outputs sounds targets (longer-before sounds targets n samples (get_or counts n 0) a.first longer))

      there : IsPartOf samples (get_or targets n [])
      there = subst (λ (s : List ℤ). IsPartOf s (get_or targets n []))
          (get_or-set_same sounds n samples [] (omega (arith, a.going.number, a.within)))
          (longer-at (set sounds n samples) targets n longer)

      by : (b : Option Files) → IsPartAppended (option_map (unfinished_files outputs sounds) b) after output.name (flat_map sample_bytes new)
          → Changes (MayHold outputs targets) b after
      by None part = closed_files-untold (MayHold outputs targets) after
      by (Some m) (inl same) = rw same (written m)
      by (Some m) (inr part) =
          let now : Files = unfinished_files outputs sounds m in
          rw part.1
          (Changes-then (MayHold outputs targets) (Some m) (Some now) (Some (with_change (λ content. take part.0 (content ++ flat_map sample_bytes new)) now output.name)) (written m)
          (changed-Changes (MayHold outputs targets) (λ content. take part.0 (content ++ flat_map sample_bytes new)) now output.name (open_file output (get_or sounds n []))
          (bytes_under-with_outputs open_file outputs sounds m n output a.apart a.going.number a.within a.is)
          (MayHold-at outputs targets n output (take part.0 (open_file output (get_or sounds n []) ++ flat_map sample_bytes new))
          (longer-length (set sounds n samples) targets longer ∙ length-set sounds n samples ∙ a.going.number) a.within a.is
          (rw more (longer-form output samples (get_or targets n []) part.0 there)))))

-- a head in a file's place, where both are known by other words
pub named-closed : (now after : Option Files) (n name h head : List ℕ) → n ≡ name → h ≡ head
    → after ≡ option_map (λ files. with_change (with_first_bytes h) files n) now
    → after ≡ option_map (λ files. with_change (with_first_bytes head) files name) now
named-closed now after n name h head named is closes = rw (← named, ← is) closes

-- the same of a head that is there in part
pub named-part : (now after : Option Files) (n name h head : List ℕ) → n ≡ name → h ≡ head
    → IsPartFinished now after n h → IsPartFinished now after name head
named-part now after n name h head named is part = rw (← named, ← is) part
