-- What the tests conclude of a seat: it goes on, and its last standing add is the one that it placed.
use Rattle.sum_table.specs.Prelude.{Ok, refl, subst, sym, ℕ, ℤ, [], ◌∷◌, ◌≡◌, append-nil, an_add, standing, ended_of, OnWhole, MixSeat, IsLaterSeat}
use Rattle.sum_table.specs.Prelude.{IsLaterSeat-same, SeatEndsIn, SeatEndsIn-laid, SeatLaid, view_of}
use Rattle.mix_core.specs.declared.port.Placed.{Placed}
use Rattle.mix_core.specs.declared.port.Placed.TheVariants.{In, Late}

pub stays : (s : MixSeat) → IsLaterSeat s s
stays s = IsLaterSeat-same s

-- after an add that was in time the standing ones end in it
pub ends_in_one : (s t : MixSeat) (placed : Placed) (f c : ℕ) (x : ℤ) → placed ≡ In → OnWhole (ended_of (Ok placed)) (SeatLaid s t (an_add s.member f c x ∷ []))
    → SeatEndsIn t (an_add t.member f c x ∷ [])
ends_in_one s t In f c x is laid =
    let ends : SeatEndsIn t (an_add s.member f c x ∷ []) =
    SeatEndsIn-laid s t [] (an_add s.member f c x ∷ []) (refl, tt) laid (standing (view_of s).laid, sym (append-nil (standing (view_of s).laid))) in
    subst (λ m. SeatEndsIn t (an_add m f c x ∷ [])) (sym laid.goes.member) ends
ends_in_one s t (Late word) f c x is laid = absurd (cc)
