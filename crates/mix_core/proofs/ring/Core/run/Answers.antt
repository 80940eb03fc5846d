use Rattle.mix_core.specs.Prelude.{arith, get_or, length, List, set, subst, sym, take, ℕ, ◌+◌, ◌<◌, ◌∙◌, length-set, take_more, take_more_set, zip, Event}
use Rattle.mix_core.specs.Prelude.{Reply, Entry, IsAnswered, IsRun, KeepsAdds, View}
use Rattle.mix_core.proofs.Replies.{IsRun-more, zip-more}
use Rattle.mix_core.proofs.ring.Core.run.Goals as goal

-- one more event of a list got its reply
next_event : (u v w : View) (st su : List Entry) (es : List Event) (rs : List Reply) (i : ℕ) (d : Event) (r : Reply) → i < length es → i < length rs
    → KeepsAdds st (zip (take i es) (take i rs)) → IsRun u v (take i es) (take i rs) → IsAnswered v w st su (get_or es i d) r → IsRun u w (take (i + 1) es) (take (i + 1) (set rs i r))
next_event u v w st su es rs i d r within room keeps run one =
    rw (take_more es i d within, take_more_set rs i r room) (IsRun-more u v w st su (take i es) (take i rs) (get_or es i d) r keeps run one)

next_keeps : (u v w : View) (st su : List Entry) (es : List Event) (rs : List Reply) (i : ℕ) (d : Event) (r : Reply) → i < length es → i < length rs
    → KeepsAdds st (zip (take i es) (take i rs)) → IsRun u v (take i es) (take i rs) → IsAnswered v w st su (get_or es i d) r → KeepsAdds su (zip (take (i + 1) es) (take (i + 1) (set rs i r)))
next_keeps u v w st su es rs i d r within room keeps run one =
    rw (take_more es i d within, take_more_set rs i r room)
    (subst (KeepsAdds su) (sym (zip-more (take i es) (take i rs) (get_or es i d) r run.one_each)) (one.keeps (zip (take i es) (take i rs)) keeps))

pub loop-i-preserved : goal.loop-i-preserved
loop-i-preserved c =
    let before = c.loop-i.invariant in
    let room : c.loop-i.i < length c.loop-i.replies.items = omega (arith, before.room) in
    record {
      room = length-set c.loop-i.replies.items c.loop-i.i c.reply.result ∙ before.room;
      stood = omega (arith, before.stood, c.reply.ensures.len);
      space = omega (arith, before.space, c.reply.ensures.capacity);
      so_far = next_event _ _ _ _ _ _ _ _ _ _ c.loop-i-test.true room before.keeps before.so_far c.reply.ensures.answer;
      keeps = next_keeps _ _ _ _ _ _ _ _ _ _ c.loop-i-test.true room before.keeps before.so_far c.reply.ensures.answer;
    }
