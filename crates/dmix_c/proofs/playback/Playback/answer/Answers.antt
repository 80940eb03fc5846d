use Rattle.dmix_c.specs.Prelude.{ap, arith, refl, to_z-of_z, w64, ℕ, ◌∙◌, to_z_pos, pos, State, state_number, number_of, HasServed}
use Rattle.dmix_c.proofs.Handed.{answered}
use Rattle.dmix_c.specs.declared.client_calls.ClientRequest.TheVariants as request
use Rattle.dmix_c.proofs.playback.Playback.answer.Goals as goal

pub returns-in-Call : goal.returns-in-Call
returns-in-Call c =
    answered HasServed _ (request.Call c.in-Call.call) c.args.self.now c.call.new.self c.number_of.result _ c.in-Call.is
    (to_z-of_z {w = w64} {z = c.number_of.result} (record { sfits = c.number_of.type_inv }))
    (record { made = c.call.result; answered = c.number_of.ensures; call = c.call.ensures.made; same = c.call.ensures.same })

pub returns-in-HwParams : goal.returns-in-HwParams
returns-in-HwParams c =
    let made = c.hw_params.ensures in
    answered HasServed _ (request.HwParams c.in-HwParams.params c.in-HwParams.list) c.args.self.now c.hw_params.new.self c.number_of-in-HwParams.result _ c.in-HwParams.is
    (to_z-of_z {w = w64} {z = c.number_of-in-HwParams.result} (record { sfits = c.number_of-in-HwParams.type_inv }))
    (record { made = c.hw_params.result; answered = c.number_of-in-HwParams.ensures; set_up = made.set_up; seat = made.seat; rate = made.rate })

pub returns-in-SwParams : goal.returns-in-SwParams
returns-in-SwParams c =
    answered HasServed _ (request.SwParams c.in-SwParams.params) c.args.self.now c.sw_params.new.self c.number_of-in-SwParams.result _ c.in-SwParams.is
    (to_z-of_z {w = w64} {z = c.number_of-in-SwParams.result} (record { sfits = c.number_of-in-SwParams.type_inv }))
    (record { made = c.sw_params.result; answered = c.number_of-in-SwParams.ensures ∙ ap number_of c.done_of.ensures; set = c.sw_params.ensures })

pub returns-in-State : goal.returns-in-State
returns-in-State c =
    let p = c.args.self.now in
    answered HasServed _ request.State p p (pos c.number.result) _ c.in-State.is (to_z_pos w64 c.number.result (omega (arith, c.number.type_inv)))
    (record { same = refl; answered = ap (λ (n : ℕ). pos n) (c.number.ensures ∙ ap (λ (s : State). state_number s) c.state.ensures) })

pub returns-in-Write : goal.returns-in-Write
returns-in-Write c =
    answered HasServed _ (request.Write c.in-Write.samples) c.args.self.now c.writei.new.self c.number_of-in-Write.result _ c.in-Write.is
    (to_z-of_z {w = w64} {z = c.number_of-in-Write.result} (record { sfits = c.number_of-in-Write.type_inv }))
    (record { made = c.writei.result; answered = c.number_of-in-Write.ensures; written = c.writei.ensures })
