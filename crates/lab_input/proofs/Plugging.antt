-- A file that is converted while its pieces come.
use Rattle.lab_input.specs.Prelude.{ap, append-nil, append_assoc, arith, false, leb, length, List, refl, subst, sym, ℕ, ℤ, [], ◌%◌, ◌*◌, ◌++◌, ◌+◌, ◌<◌, ◌∙◌}
use Rattle.lab_input.specs.Prelude.{◌≡◌, ◌≤◌, cond-false, cond-true, false_from_ne_true, le-leb, lt-leb, nat_tests, length-append, Vec, ForSome, Bool, Err}
use Rattle.lab_input.specs.Prelude.{IfSome, IsOk, IsTrue, None, Ok, Option, Result, Some, ◌↔◌, Completes, Continues, HasTakenBytes, IsBeginning, known_of}
use Rattle.lab_input.specs.Prelude.{plug_of, Stage, WavError, TooLong, error_of, IsOfHead, Raw, raw_file, raw_to_come, Reader, with_bytes, most_bytes, Sound}
use Rattle.lab_input.specs.Prelude.{PlugReader, Shape, IsConverted, IsConverting, IsFed, IsSoFar, conversion_to, converted_file, converted_sound, IsShape}
use Rattle.lab_input.specs.Prelude.{plug_file, short_enough, sound_file}
use Rattle.std.proofs.Math.Nat.{mul-mod_left}
use Rattle.plug_chain.specs.Frames.{Conversion, frame_count}
use Rattle.plug_chain.specs.Growth.{Appends}
use Rattle.plug_chain.specs.Rates.{AreRates, output_count}
use Rattle.plug_chain.specs.Tables.{IsTable}
use Rattle.plug_chain.proofs.Lengths.{known_of-nil, length-plug_of, length-plug_of-append, plug_of-nil}
use Rattle.wav_io.proofs.Sizes.{length-raw_file}

-- ---- the bytes of the samples

-- those that came are no more than a file may have
with_bytes-few : (fed bytes : List ℕ) (r : Result Raw WavError) → IsOk r → with_bytes fed r ≡ raw_file bytes → length fed ≤ most_bytes
with_bytes-few fed bytes (Ok s) ok same =
    omega (arith, length-append fed s.body, length-raw_file bytes (record { channels = s.channels; rate = s.rate; bits = s.bits; body = fed ++ s.body }) (sym same))
with_bytes-few fed bytes (Err e) ok same = absurd (cc)

pub IsFed-few : (r : PlugReader) (channels rate bits : ℕ) (seen : List ℕ) → (so_far : IsFed r channels rate bits seen) → length (so_far.fed ++ r.body.items) ≤ most_bytes
IsFed-few r channels rate bits seen so_far = with_bytes-few (so_far.fed ++ r.body.items) (seen ++ []) (raw_to_come r.reader []) so_far.ends (so_far.same [])

with_bytes-append : (a b : List ℕ) (r : Result Raw WavError) → with_bytes a (with_bytes b r) ≡ with_bytes (a ++ b) r
with_bytes-append a b (Ok s) = ap (λ (x : List ℕ). Ok (record { channels = s.channels; rate = s.rate; bits = s.bits; body = x })) (sym (append_assoc a b s.body))
with_bytes-append a b (Err e) = refl

-- ---- too many samples

-- an answer of a head is of the conversion that the head gives
converted_file-head : (shape : Shape) (channels rate bits : ℕ) (s : Raw) → IsOfHead channels rate bits (Ok s) → conversion_to shape s.channels s.rate s.bits ≡ conversion_to shape channels rate bits
converted_file-head shape channels rate bits s is = grind (arith, nat_tests)

short_enough-long : (sound : Sound) → most_bytes < 2 * length sound.samples → short_enough sound ≡ Err TooLong
short_enough-long sound long = cond-false (leb (2 * length sound.samples) most_bytes) _ _ (lt-leb _ _ long)

pub short_enough-short : (sound : Sound) → 2 * length sound.samples ≤ most_bytes → short_enough sound ≡ Ok sound
short_enough-short sound short = cond-true (leb (2 * length sound.samples) most_bytes) _ _ (le-leb _ _ short)

-- where the first bytes have too many samples, the file is refused
plugged-long : (shape : Shape) (channels rate bits : ℕ) (c : Conversion) (fed : List ℕ) (r : Result Raw WavError) → c ≡ conversion_to shape channels rate bits → AreRates c.rates → IsTable c.table
    → IsOfHead channels rate bits r → most_bytes < 2 * length (plug_of c fed) → converted_file shape (with_bytes fed r) ≡ Err TooLong
plugged-long shape channels rate bits c fed (Ok s) is rates table head long =
    let same : c ≡ conversion_to shape s.channels s.rate s.bits = is ∙ sym (converted_file-head shape channels rate bits s head) in
    let more : length (plug_of c fed) ≤ length (plug_of c (fed ++ s.body)) = length-plug_of-append c fed s.body rates table in
    short_enough-long (converted_sound shape (record { channels = s.channels; rate = s.rate; bits = s.bits; body = fed ++ s.body }))
    (omega (arith, long, more, ap (λ (d : Conversion). length (plug_of d (fed ++ s.body))) same))
plugged-long shape channels rate bits c fed (Err e) is rates table head long = ap (λ (x : WavError). Err x) head

pub plug_file-long : (r : PlugReader) (channels rate bits : ℕ) (seen rest fed : List ℕ) (c : Conversion) → ((more : List ℕ) → with_bytes fed (raw_to_come r.reader more) ≡ raw_file (seen ++ more))
    → c ≡ conversion_to r.shape channels rate bits → AreRates c.rates → IsTable c.table → IsOfHead channels rate bits (raw_to_come r.reader rest)
    → most_bytes < 2 * length (plug_of c fed) → plug_file r.shape (seen ++ rest) ≡ Err TooLong
plug_file-long r channels rate bits seen rest fed c same is rates table head long =
    ap (converted_file r.shape) (sym (same rest)) ∙ plugged-long r.shape channels rate bits c fed (raw_to_come r.reader rest) is rates table head long

pub IsFed-long : (r : PlugReader) (channels rate bits : ℕ) (seen rest : List ℕ) (stage : Stage) → (so_far : IsFed r channels rate bits seen) → IsConverted r.shape r.reader stage so_far.fed r.samples.items
    → IsTable stage.conversion.table → most_bytes < 2 * length (plug_of stage.conversion (so_far.fed ++ r.body.items)) → plug_file r.shape (seen ++ rest) ≡ Err TooLong
IsFed-long r channels rate bits seen rest stage so_far is table long =
    plug_file-long r is.channels is.rate is.bits seen rest (so_far.fed ++ r.body.items) stage.conversion so_far.same is.conversion is.rates table (is.head rest) long

-- ---- a conversion begins

pub IsConverted-first : (s : Shape) (reader : Reader) (stage : Stage) (channels rate bits : ℕ) (fed : List ℕ) (samples : List ℤ) → IsShape s → 1 ≤ rate
    → ((more : List ℕ) → IsOfHead channels rate bits (raw_to_come reader more)) → IsBeginning stage (conversion_to s channels rate bits) → fed ≡ [] → samples ≡ []
    → IsConverted s reader stage fed samples
IsConverted-first s reader stage channels rate bits fed samples shape some head begins none silent =
    let rates : AreRates stage.conversion.rates =
    subst (λ (c : Conversion). AreRates c.rates) (sym begins.conversion) (record { some_input = some; some_output = shape.some_rate; most_output = shape.most_rate }) in
    record {
      channels = channels;
      rate = rate;
      bits = bits;
      conversion = begins.conversion;
      rates = rates;
      head = head;
      taken = subst (λ (x : List ℕ). HasTakenBytes stage x) (sym none) begins.stage;
      known = silent ∙ sym (known_of-nil stage.conversion) ∙ ap (known_of stage.conversion) (sym none);
      short = omega (arith, ap (λ (x : List ℕ). length (plug_of stage.conversion x)) none, ap length (plug_of-nil stage.conversion rates));
    }

-- a call gave this stage
abbrev pub given : Stage → Result Stage WavError
given stage = Ok stage

-- the conversion that has begun, or one that begins
begun_is : (s : Shape) (reader : Reader) (o : Option Stage) (stage : Stage) (channels rate bits : ℕ) (fed : List ℕ) (samples : List ℤ) → IsShape s → 1 ≤ rate
    → ((more : List ℕ) → IsOfHead channels rate bits (raw_to_come reader more)) → IsSoFar s reader o fed samples
    → IfSome o (λ old. given stage ≡ given old) → (o ≡ None → IsBeginning stage (conversion_to s channels rate bits)) → IsConverted s reader stage fed samples
begun_is s reader None stage channels rate bits fed samples shape some head so_far kept begins =
    IsConverted-first s reader stage channels rate bits fed samples shape some head (begins refl) so_far.0 so_far.1
begun_is s reader (Some old) stage channels rate bits fed samples shape some head so_far kept begins =
    let same : stage ≡ old = cc in
    subst (λ (t : Stage). IsConverted s reader t fed samples) (sym same) so_far

pub IsFed-converted : (r : PlugReader) (channels rate bits : ℕ) (seen : List ℕ) (o : Option Stage) (stage : Stage) → 1 ≤ rate → o ≡ r.plug
    → IfSome o (λ old. given stage ≡ given old) → (o ≡ None → IsBeginning stage (conversion_to r.shape channels rate bits))
    → (so_far : IsFed r channels rate bits seen) → IsConverted r.shape r.reader stage so_far.fed r.samples.items
IsFed-converted r channels rate bits seen o stage some is kept begins so_far =
    begun_is r.shape r.reader o stage channels rate bits so_far.fed r.samples.items so_far.shape some so_far.head
    (subst (λ (p : Option Stage). IsSoFar r.shape r.reader p so_far.fed r.samples.items) (sym is) so_far.so_far) kept begins

-- ---- a conversion goes on

pub IsConverted-next : (s : Shape) (reader : Reader) (old new : Stage) (fed body : List ℕ) (samples after : List ℤ) → (is : IsConverted s reader old fed samples) → Continues old new body samples after
    → 2 * length (plug_of old.conversion (fed ++ body)) ≤ most_bytes → IsConverted s reader new (fed ++ body) after
IsConverted-next s reader old new fed body samples after is goes short = grind (arith, nat_tests)

-- ---- a piece

-- what is to come keeps the head of the file
pub IsSoFar-fed : (s : Shape) (old new : Reader) (plug : Option Stage) (piece empty front fed : List ℕ) (samples : List ℤ) → ((more : List ℕ) → with_bytes empty (raw_to_come old (piece ++ more)) ≡ with_bytes front (raw_to_come new more))
    → IsSoFar s old plug fed samples → IsSoFar s new plug fed samples
IsSoFar-fed s old new plug piece empty front fed samples same is = grind (arith, nat_tests)

with_bytes-nil : (r : Result Raw WavError) → with_bytes [] r ≡ r
with_bytes-nil (Ok s) = refl
with_bytes-nil (Err e) = refl

-- the file so far, with a piece more
pub with_bytes-fed : (old new : Reader) (seen piece fed empty front : List ℕ) → ((more : List ℕ) → with_bytes fed (raw_to_come old more) ≡ raw_file (seen ++ more)) → empty ≡ []
    → ((more : List ℕ) → with_bytes empty (raw_to_come old (piece ++ more)) ≡ with_bytes front (raw_to_come new more))
    → (more : List ℕ) → with_bytes (fed ++ front) (raw_to_come new more) ≡ raw_file ((seen ++ piece) ++ more)
with_bytes-fed old new seen piece fed empty front file none same more =
    sym (with_bytes-append fed front (raw_to_come new more))
    ∙ ap (with_bytes fed) (sym (same more) ∙ ap (λ (x : List ℕ). with_bytes x (raw_to_come old (piece ++ more))) none ∙ with_bytes-nil (raw_to_come old (piece ++ more)))
    ∙ file (piece ++ more)
    ∙ ap raw_file (sym (append_assoc seen piece more))

-- what is read with a piece more of a file whose head is there
pub IsFed-next : (old : PlugReader) (reader : Reader) (body : Vec ℕ) (seen piece empty : List ℕ) (channels rate bits : ℕ) → IsConverting old seen → empty ≡ []
    → ((more : List ℕ) → with_bytes empty (raw_to_come old.reader (piece ++ more)) ≡ with_bytes body.items (raw_to_come reader more)) → error_of reader ≡ None
    → ((more : List ℕ) → IsOfHead channels rate bits (raw_to_come reader more)) → IsOk (raw_to_come reader [])
    → IsFed (record old { reader = reader; body = body }) channels rate bits (seen ++ piece)
IsFed-next old reader body seen piece empty channels rate bits so_far none same no_error head ends = record {
  fed = so_far.fed;
  same = with_bytes-fed old.reader reader seen piece so_far.fed empty body.items so_far.same none same;
  no_error = no_error;
  taken = so_far.taken;
  shape = so_far.shape;
  so_far = IsSoFar-fed old.shape old.reader reader old.plug piece empty body.items so_far.fed old.samples.items same so_far.so_far;
  head = head;
  ends = ends;
}

-- ---- the end

-- the file ends, and is a sound
pub plug_file-ended : (r : PlugReader) (seen : List ℕ) (channels rate bits : ℕ) (fed : List ℕ) (samples : List ℤ) → ((more : List ℕ) → with_bytes fed (raw_to_come r.reader more) ≡ raw_file (seen ++ more))
    → raw_to_come r.reader [] ≡ Ok (record { channels = channels; rate = rate; bits = bits; body = [] })
    → samples ≡ plug_of (conversion_to r.shape channels rate bits) fed → 2 * length samples ≤ most_bytes
    → plug_file r.shape seen ≡ Ok (record { channels = r.shape.channels; rate = r.shape.rate; samples = samples })
plug_file-ended r seen channels rate bits fed samples same ends is short =
    ap (λ (b : List ℕ). plug_file r.shape b) (sym (append-nil seen))
    ∙ ap (converted_file r.shape) (sym (same []) ∙ ap (with_bytes fed) ends)
    ∙ ap (λ (b : List ℕ). short_enough (converted_sound r.shape (record { channels = channels; rate = rate; bits = bits; body = b }))) (append-nil fed)
    ∙ ap (λ (zs : List ℤ). short_enough (record { channels = r.shape.channels; rate = r.shape.rate; samples = zs })) (sym is)
    ∙ short_enough-short (record { channels = r.shape.channels; rate = r.shape.rate; samples = samples }) short

-- ---- the samples at the end

-- all samples of the conversion are there
ended_is : (s : Shape) (reader : Reader) (o : Option Stage) (channels rate bits : ℕ) (fed : List ℕ) (samples after : List ℤ) → IsShape s → 1 ≤ rate → IsSoFar s reader o fed samples
    → IfSome o (λ stage. Completes stage samples after) → (o ≡ None → after ≡ samples)
    → raw_to_come reader [] ≡ Ok (record { channels = channels; rate = rate; bits = bits; body = [] }) → after ≡ plug_of (conversion_to s channels rate bits) fed
ended_is s reader None channels rate bits fed samples after shape some so_far completes still ends =
    still refl ∙ so_far.1
    ∙ sym (plug_of-nil (conversion_to s channels rate bits) (record { some_input = some; some_output = shape.some_rate; most_output = shape.most_rate }))
    ∙ ap (plug_of (conversion_to s channels rate bits)) (sym so_far.0)
ended_is s reader (Some stage) channels rate bits fed samples after shape some so_far completes still ends =
    let grown : Appends (known_of stage.conversion fed) (plug_of stage.conversion fed) samples after = completes fed so_far.taken in
    let raw : Raw = record { channels = channels; rate = rate; bits = bits; body = [] } in
    let head : IsOfHead so_far.channels so_far.rate so_far.bits (Ok raw) = subst (λ (r : Result Raw WavError). IsOfHead so_far.channels so_far.rate so_far.bits r) ends (so_far.head []) in
    grown.new_is ∙ ap (λ (x : List ℤ). x ++ grown.more) so_far.known ∙ sym grown.longer_is
    ∙ ap (λ (c : Conversion). plug_of c fed) (so_far.conversion ∙ sym (converted_file-head s so_far.channels so_far.rate so_far.bits raw head))

short_ended : (s : Shape) (reader : Reader) (o : Option Stage) (channels rate bits : ℕ) (fed : List ℕ) (samples after : List ℤ) → IsShape s → 1 ≤ rate → IsSoFar s reader o fed samples
    → IfSome o (λ stage. Completes stage samples after) → (o ≡ None → after ≡ samples) → 2 * length after ≤ most_bytes
short_ended s reader o channels rate bits fed samples after shape some so_far completes still = grind (arith, nat_tests)

pub IsConverting-ended : (r : PlugReader) (seen : List ℕ) (channels rate bits : ℕ) (after : List ℤ) → 1 ≤ rate → (so_far : IsConverting r seen)
    → IfSome r.plug (λ stage. Completes stage r.samples.items after) → (r.plug ≡ None → after ≡ r.samples.items)
    → raw_to_come r.reader [] ≡ Ok (record { channels = channels; rate = rate; bits = bits; body = [] })
    → plug_file r.shape seen ≡ Ok (record { channels = r.shape.channels; rate = r.shape.rate; samples = after })
IsConverting-ended r seen channels rate bits after some so_far completes still ends =
    plug_file-ended r seen channels rate bits so_far.fed after so_far.same ends
    (ended_is r.shape r.reader r.plug channels rate bits so_far.fed r.samples.items after so_far.shape some so_far.so_far completes still ends)
    (short_ended r.shape r.reader r.plug channels rate bits so_far.fed r.samples.items after so_far.shape some so_far.so_far completes still)

-- they are whole frames
pub IsConverting-whole : (r : PlugReader) (seen : List ℕ) (channels rate bits : ℕ) (after : List ℤ) → 1 ≤ rate → (so_far : IsConverting r seen)
    → IfSome r.plug (λ stage. Completes stage r.samples.items after) → (r.plug ≡ None → after ≡ r.samples.items)
    → raw_to_come r.reader [] ≡ Ok (record { channels = channels; rate = rate; bits = bits; body = [] })
    → length after % r.shape.channels ≡ 0
IsConverting-whole r seen channels rate bits after some so_far completes still ends =
    let by : Conversion = conversion_to r.shape channels rate bits in
    let rates : AreRates by.rates = record { some_input = some; some_output = so_far.shape.some_rate; most_output = so_far.shape.most_rate } in
    ap (λ (zs : List ℤ). length zs % r.shape.channels) (ended_is r.shape r.reader r.plug channels rate bits so_far.fed r.samples.items after so_far.shape some so_far.so_far completes still ends)
    ∙ ap (λ (n : ℕ). n % r.shape.channels) (length-plug_of by so_far.fed rates)
    ∙ mul-mod_left (output_count by.rates (frame_count by so_far.fed)) r.shape.channels

-- ---- how long a converted sound is

short_by : (sound other : Sound) → short_enough sound ≡ Ok other → 2 * length other.samples ≤ most_bytes
short_by sound other is = grind (arith, nat_tests)

plugged-short : (shape : Shape) (r : Result Raw WavError) (sound : Sound) → converted_file shape r ≡ Ok sound → 2 * length sound.samples ≤ most_bytes
plugged-short shape (Ok raw) sound is = short_by (converted_sound shape raw) sound is
plugged-short shape (Err e) sound is = absurd (cc)

pub sound_file-short : (shape : Option Shape) (seen : List ℕ) (sound : Sound) → sound_file shape seen ≡ Ok sound → ForSome shape (λ s. 2 * length sound.samples ≤ 67108864)
sound_file-short None seen sound is s some = absurd (cc)
sound_file-short (Some t) seen sound is s some = plugged-short t (raw_file seen) sound is

-- ---- before the data

-- where no head is there, the data didn't begin
pub none_begun : (P : Type 0) (b : Bool) → (P ↔ IsTrue b) → (P → ⊥) → b ≡ false
none_begun P b both none = false_from_ne_true b (λ is. none (both.1 is))
