use Rattle.wav_io.specs.Prelude.{ap, false, refl, Some, sym, take, true, ◌∙◌, ◌≡◌, codes, bytes_eq, NoFormat, IsFormat, verdict_of}
use Rattle.wav_io.proofs.Places.{leads_by, leads_data, leads_head, leads_refused}
use Rattle.wav_io.proofs.next_places.after_head.Goals as goal

pub returns-then-eq : goal.returns-then-eq
unfolding verdict_of
returns-then-eq c depths =
    let head = c.args.head.now in
    let is : bytes_eq (take 4 head) (codes "fmt ") ≡ true = sym (c.eq.ensures ∙ ap (bytes_eq (take 4 head)) c.as_slice.ensures) ∙ c.if-eq.true in
    leads_by depths c.args.format head c.u32_at-size.result _ c.requires.eight c.u32_at-size.ensures (rw is (c.after_format_head.ensures depths (take 4 head)))

pub returns-in-Some : goal.returns-in-Some
unfolding verdict_of
returns-in-Some c depths =
    let head = c.args.head.now in
    let isnt : bytes_eq (take 4 head) (codes "fmt ") ≡ false = sym (c.eq.ensures ∙ ap (bytes_eq (take 4 head)) c.as_slice.ensures) ∙ c.if-eq.false in
    let is : bytes_eq (take 4 head) (codes "data") ≡ true = sym (c.eq-2.ensures ∙ ap (bytes_eq (take 4 head)) c.as_slice-2.ensures) ∙ c.if-eq-2.true in
    let in_order : IsFormat c.in-Some.format = rw c.in-Some.is at c.requires.in_order in
    rw c.in-Some.is
    (leads_by depths (Some c.in-Some.format) head c.u32_at-size.result _ c.requires.eight c.u32_at-size.ensures
    (rw (isnt, is) (leads_data depths c.in-Some.format c.u32_at-size.result _ (λ more. refl) in_order)))

pub returns-in-None : goal.returns-in-None
unfolding verdict_of
returns-in-None c depths =
    let head = c.args.head.now in
    let isnt : bytes_eq (take 4 head) (codes "fmt ") ≡ false = sym (c.eq.ensures ∙ ap (bytes_eq (take 4 head)) c.as_slice.ensures) ∙ c.if-eq.false in
    let is : bytes_eq (take 4 head) (codes "data") ≡ true = sym (c.eq-2.ensures ∙ ap (bytes_eq (take 4 head)) c.as_slice-2.ensures) ∙ c.if-eq-2.true in
    rw c.in-None.is
    (leads_by depths _ head c.u32_at-size.result _ c.requires.eight c.u32_at-size.ensures (rw (isnt, is) (leads_refused depths NoFormat _ (λ more. refl) (λ e. cc))))

pub returns : goal.returns
unfolding verdict_of
returns c depths =
    let head = c.args.head.now in
    let isnt : bytes_eq (take 4 head) (codes "fmt ") ≡ false = sym (c.eq.ensures ∙ ap (bytes_eq (take 4 head)) c.as_slice.ensures) ∙ c.if-eq.false in
    let nor : bytes_eq (take 4 head) (codes "data") ≡ false = sym (c.eq-2.ensures ∙ ap (bytes_eq (take 4 head)) c.as_slice-2.ensures) ∙ c.if-eq-2.false in
    leads_by depths c.args.format head c.u32_at-size.result _ c.requires.eight c.u32_at-size.ensures
    (rw (isnt, nor) (leads_head depths c.args.format _ _ (λ more. refl) c.requires.in_order))
