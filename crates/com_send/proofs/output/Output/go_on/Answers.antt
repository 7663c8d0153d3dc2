use Rattle.std.proofs.Common.{◌≡◌, sym, ap, ◌∙◌}
use Rattle.std.specs.Vec.{with_item}
use Rattle.com_msg.specs.Begun.{Begun, nothing_begun, with_text, ended, finished}
use Rattle.com_msg.specs.declared.message.End.TheVariants.{Emi as with_emi, Egi as with_egi}
use Rattle.com_msg.specs.declared.sending.OutMessage.{OutMessage}
use Rattle.com_msg.specs.declared.sending.Part.{Part}
use Rattle.com_msg.specs.declared.sending.Part.TheVariants.{Portion, Esi, Emi, Egi}
use Rattle.com_send.specs.Outgoing.{with_begun}
use Rattle.com_send.specs.Sending.{deliver, serve}
use Rattle.com_send.specs.Kept.{state_of}
use Rattle.com_send.proofs.Serving.{begun_set, begun_there, serve_there}
use Rattle.com_send.proofs.output.Output.go_on.Goals as goal

pub returns-in-Portion : goal.returns-in-Portion
returns-in-Portion c =
    let self = c.args.self.now in
    let unit = c.args.unit in
    let text = c.args.text.now in
    let lent = c.index_mut-begun.result.now in
    let there = begun_there self.begun.items unit lent c.requires.spare.known c.index_mut-begun.ensures.value in
    let added : c.add.new.self.begun ≡ with_text text lent.begun = rw c.unwrap.ensures at c.add.ensures.ok in
    begun_set self unit c.add.new.self
    ∙ (ap (λ (begun : Begun). with_begun unit begun (state_of self)) added
    ∙ sym (ap (λ (part : Part). serve unit part text (state_of self)) c.in-Portion.is ∙ serve_there unit Portion text (state_of self) lent.begun there))

pub returns-in-Esi : goal.returns-in-Esi
returns-in-Esi c =
    let self = c.args.self.now in
    let unit = c.args.unit in
    let text = c.args.text.now in
    let advance = c.in-Esi.advance in
    let lent = c.index_mut-begun.result.now in
    let there = begun_there self.begun.items unit lent c.requires.spare.known c.index_mut-begun.ensures.value in
    let added : c.add.new.self.begun ≡ with_text text lent.begun = rw c.unwrap.ensures at c.add.ensures.ok in
    let segment : c.end_segment.new.self.begun ≡ ended advance c.add.new.self.begun = rw c.unwrap-in-Esi.ensures at c.end_segment.ensures.ok in
    begun_set self unit c.end_segment.new.self
    ∙ (ap (λ (begun : Begun). with_begun unit begun (state_of self)) (segment ∙ ap (ended advance) added)
    ∙ sym (ap (λ (part : Part). serve unit part text (state_of self)) c.in-Esi.is ∙ serve_there unit (Esi advance) text (state_of self) lent.begun there))

pub returns-in-Emi : goal.returns-in-Emi
returns-in-Emi c =
    let self = c.args.self.now in
    let unit = c.args.unit in
    let text = c.args.text.now in
    let advance = c.in-Emi.advance in
    let lent = c.index_mut-begun.result.now in
    let there = begun_there self.begun.items unit lent c.requires.spare.known c.index_mut-begun.ensures.value in
    let added : c.add.new.self.begun ≡ with_text text lent.begun = rw c.unwrap.ensures at c.add.ensures.ok in
    let message : c.unwrap-message.result ≡ finished advance with_emi c.add.new.self.begun = rw c.unwrap-message.ensures at c.finish.ensures.message in
    let left : c.finish.new.self.begun ≡ nothing_begun = rw c.unwrap-message.ensures at c.finish.ensures.left in
    c.deliver.ensures
    ∙ (ap (λ (given : OutMessage). deliver given (state_of (record self { begun = with_item self.begun unit c.finish.new.self }))) (message ∙ ap (finished advance with_emi) added)
    ∙ (ap (deliver (finished advance with_emi (with_text text lent.begun))) (begun_set self unit c.finish.new.self ∙ ap (λ (begun : Begun). with_begun unit begun (state_of self)) left)
    ∙ sym (ap (λ (part : Part). serve unit part text (state_of self)) c.in-Emi.is ∙ serve_there unit (Emi advance) text (state_of self) lent.begun there)))

pub returns-in-Egi : goal.returns-in-Egi
returns-in-Egi c =
    let self = c.args.self.now in
    let unit = c.args.unit in
    let text = c.args.text.now in
    let advance = c.in-Egi.advance in
    let lent = c.index_mut-begun.result.now in
    let there = begun_there self.begun.items unit lent c.requires.spare.known c.index_mut-begun.ensures.value in
    let added : c.add.new.self.begun ≡ with_text text lent.begun = rw c.unwrap.ensures at c.add.ensures.ok in
    let message : c.unwrap-message-in-Egi.result ≡ finished advance with_egi c.add.new.self.begun = rw c.unwrap-message-in-Egi.ensures at c.finish-in-Egi.ensures.message in
    let left : c.finish-in-Egi.new.self.begun ≡ nothing_begun = rw c.unwrap-message-in-Egi.ensures at c.finish-in-Egi.ensures.left in
    c.deliver-in-Egi.ensures
    ∙ (ap (λ (given : OutMessage). deliver given (state_of (record self { begun = with_item self.begun unit c.finish-in-Egi.new.self }))) (message ∙ ap (finished advance with_egi) added)
    ∙ (ap (deliver (finished advance with_egi (with_text text lent.begun))) (begun_set self unit c.finish-in-Egi.new.self ∙ ap (λ (begun : Begun). with_begun unit begun (state_of self)) left)
    ∙ sym (ap (λ (part : Part). serve unit part text (state_of self)) c.in-Egi.is ∙ serve_there unit (Egi advance) text (state_of self) lent.begun there)))
