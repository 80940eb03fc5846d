use Rattle.lab_readers.specs.Prelude.{ap, arith, drop, length, List, subst, sym, take, ℕ, ◌*◌, ◌++◌, ◌+◌, ◌∙◌, ◌≡◌, ◌≤◌, length-append, length-drop}
use Rattle.lab_readers.specs.Prelude.{length-replicate, length-take, min, pos, replicate, ℤ, ◌-◌, most_read, both, HasSpace}
use Rattle.lab_readers.proofs.Called.{called-read, can-read, kept-behind, length-room}
use Rattle.lab_readers.proofs.calls.read.Goals as goal

pub readi-answer-requires-clause-room : goal.readi-answer-requires-clause-room
readi-answer-requires-clause-room g c =
    let r = c.args.reader.now in
    let before = c.len-before.result in
    let channels = c.channels-channels.ensures in
    let wanted = c.read_room-room.result in
    let xs = c.deref_mut.result.now in
    let room : List ℤ = take (length xs - before) (drop before xs) in
    let size : length room ≡ wanted * c.channels-channels.result =
    length-room c.args.samples.now.items xs before (wanted * c.channels-channels.result) (c.deref_mut.ensures.value ∙ c.push_silence.ensures.items) (omega (arith, c.len-before.ensures)) in
    let few : wanted ≤ 4194304 = omega (arith, c.read_room-room.ensures.few, c.requires.few) in
    can-read r room wanted (omega (arith, channels.value, channels.some)) few (size ∙ ap (λ (k : ℕ). wanted * k) channels.value)

pub returns-clause-called : goal.returns-clause-called
returns-clause-called g c =
    let r = c.args.reader.now in
    let old = c.args.samples.now.items in
    let before = c.len-before.result in
    let channels = c.channels-channels.result in
    let wanted = c.read_room-room.result in
    let xs = c.deref_mut.result.now in
    let room : List ℤ = take (length xs - before) (drop before xs) in
    let out = c.readi-answer.new.out in
    let call = c.readi-answer.ensures in
    let xs_is : xs ≡ old ++ replicate (wanted * channels) (pos 0) = c.deref_mut.ensures.value ∙ c.push_silence.ensures.items in
    let size : length old ≡ before = omega (arith, c.len-before.ensures) in
    let whole : length xs ≡ before + wanted * channels =
    ap length xs_is ∙ length-append old (replicate (wanted * channels) (pos 0)) ∙ (let zeros = length-replicate (wanted * channels) (pos 0) in omega (arith, zeros, size)) in
    let dropped = length-drop before xs in
    let taken = length-take (length xs - before) (drop before xs) in
    let room_size : length room ≡ min c.args.frames (most_read r) * length r.setup.bindings =
    length-room old xs before (wanted * channels) xs_is size
    ∙ (λ i. c.read_room-room.ensures.value i * c.channels-channels.ensures.value i) in
    let count = c.readi-answer.auto.out in
    let some : 1 ≤ length r.setup.bindings = omega (arith, c.channels-channels.ensures.value, c.channels-channels.ensures.some) in
    called-read g.P.SnoopPort g.G.Gate g.met.P.SnoopPort.got_composes (both c.args.port.now c.args.gate.now) (both c.readi-answer.new.port c.readi-answer.new.gate)
    r c.readi-answer.new.self old c.truncate.new.self.items room out c.args.frames c.readi-answer.result c.moved_answer.result some room_size
    call.takes call.reads call.keeps c.moved_answer.ensures
    (c.truncate.ensures.items
    ∙ kept-behind old _ xs out _ _ c.push_silence.new.samples.len before _ xs_is size (omega (arith, count, whole, dropped, taken, c.deref_mut.ensures.len))
    ∙ (λ i. old ++ take (c.unwrap_or.ensures i * c.channels-channels.ensures.value i) out))

pub push_silence-requires : goal.push_silence-requires
push_silence-requires g c =
    let wanted : c.read_room-room.result * c.channels-channels.result ≡ min c.args.frames (most_read c.args.reader.now) * length c.args.reader.now.setup.bindings =
    (λ i. c.read_room-room.ensures.value i * c.channels-channels.ensures.value i) in
    subst (λ (count : ℕ). HasSpace count c.args.samples.now) (sym wanted) c.requires.room

pub returns-clause-room : goal.returns-clause-room
returns-clause-room g c =
    let wanted : c.read_room-room.result * c.channels-channels.result ≡ min c.args.frames (most_read c.args.reader.now) * length c.args.reader.now.setup.bindings =
    (λ i. c.read_room-room.ensures.value i * c.channels-channels.ensures.value i) in
    let grown = c.push_silence.ensures.room in
    let len = c.truncate.ensures.len in
    let capacity = c.truncate.ensures.capacity in
    record { few = omega (arith, wanted, grown.few, len); kept = omega (arith, grown.kept, capacity) }
