-- The generator goes on from file to file.
use Rattle.lab_make.specs.Prelude.{ap, arith, get_or, length, List, map, subst, sym, ℕ, ◌∙◌, ◌≡◌, ◌≤◌, nat_tests, get_or-map-range_with_len}
use Rattle.lab_make.specs.Prelude.{length-map-range_with_len, range_with_len, All, advance_zero, multiplier_64, Sound, generator_of, IsMadeSound, made_sound}
use Rattle.lab_make.specs.Prelude.{made_sounds}
use Rattle.lab_make.proofs.Generator.{after_words-file, files-push}
use Rattle.lab_make.proofs.files.made_files.Goals as goal

pub loop-client-init : goal.loop-client-init
unfolding generator_of
loop-client-init c = record {
  files = c.new-files.ensures.items;
  next = c.seed_from_u64-generator.ensures ∙ sym (advance_zero 64 multiplier_64 (generator_of c.args.seed));
}

pub loop-client-preserved : goal.loop-client-preserved
loop-client-preserved c = record {
  files = files-push _ _ _ _ _ _ c.loop-client.invariant.files c.loop-client.invariant.next c.in_ok-made_file.ensures.file c.in_ok-push.ensures.items;
  next = after_words-file _ _ _ _ c.loop-client.invariant.next c.in_ok-made_file.ensures.next;
}

-- each file has as many samples as words are drawn for it
made_sound-is : (seed client : ℕ) → IsMadeSound (made_sound seed client)
made_sound-is seed client = grind (arith, nat_tests)

made_sounds-each : (seed clients : ℕ) → All IsMadeSound (made_sounds seed clients)
made_sounds-each seed clients k d h =
    let count = length-map-range_with_len (made_sound seed) 0 clients in
    let here : get_or (made_sounds seed clients) k d ≡ made_sound seed k =
    get_or-map-range_with_len (made_sound seed) 0 clients k k d (omega (arith, h, count)) (omega arith) in
    subst IsMadeSound (sym here) (made_sound-is seed k)

-- after the last client there are the files of all
made_sounds-all : (seed i clients : ℕ) (files : List Sound) → files ≡ map (made_sound seed) (range_with_len 0 i) → i ≤ clients → clients ≤ i → files ≡ made_sounds seed clients
made_sounds-all seed i clients files before most least = grind (arith, nat_tests)

pub returns-clause-count : goal.returns-clause-count
returns-clause-count c =
    ap length (made_sounds-all c.args.seed _ c.args.clients _ c.loop-client.invariant.files c.loop-client.auto.client-end c.loop-client-test.false)
    ∙ length-map-range_with_len (made_sound c.args.seed) 0 c.args.clients

pub returns-clause-each : goal.returns-clause-each
returns-clause-each c =
    subst (All IsMadeSound)
    (sym (made_sounds-all c.args.seed _ c.args.clients _ c.loop-client.invariant.files c.loop-client.auto.client-end c.loop-client-test.false))
    (made_sounds-each c.args.seed c.args.clients)
