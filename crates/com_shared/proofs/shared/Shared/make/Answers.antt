use Rattle.std.proofs.Common.{refl, ◌≡◌, ◌∙◌, ℕ, ◌<◌, ◌^◌, ◌++◌, ◌∷◌, [], length, List, ap, sym, subst, arith}
use Rattle.std.specs.List.{zip}
use Rattle.com_net.specs.declared.net.Net.{Net}
use Rattle.com_events.specs.declared.call.Party.{Party}
use Rattle.com_events.specs.declared.entry.Entry.{Entry}
use Rattle.com_shared.specs.Parties.{Item, parties}
use Rattle.com_shared.specs.Passes.{Log}
use Rattle.com_shared.specs.inner.Turns.{IsAtTurn}
use Rattle.com_shared.proofs.Turning.{rows_more, one_more, room}
use Rattle.com_shared.proofs.shared.Shared.make.Goals as goal

pub commit-requires-clause-room : goal.commit-requires-clause-room
commit-requires-clause-room c =
    room c.book.inside.owners.items c.book.inside.entries.items c.args.book.now.items c.args.pass.now.seen c.book.invariant.0 (ap (λ (b : Log). b.items) c.book.view_is) c.requires.turn.items
    (let ok = c.book.inside.owners.ok in let small = c.book.inside.owners.small in omega (arith, ok.0, ok.1, small))

pub invariant_of-book-2 : goal.invariant_of-book-2
invariant_of-book-2 c =
    let net : c.book.inside.net ≡ c.args.self.now.net = ap (λ (b : Log). b.net) c.book.view_is ∙ c.requires.turn.net in
    let few : c.number-number.result < parties c.book.inside.net = subst (λ (n : ℕ). n < parties c.book.inside.net) (sym c.number-number.ensures) (subst (λ (m : Net). c.args.pass.now.number < parties m) (sym net) c.requires.turn.knows.number) in
    let k = rows_more c.book.inside.net c.book.inside.state c.advance.new.state c.book.inside.owners.items c.push_reserved.new.self.items c.book.inside.entries.items c.push_reserved-2.new.self.items c.number-number.result c.args.call c.in-Ok.replies.0 c.party_at-party.result
    c.book.invariant.0 c.book.invariant.1 c.party_at-party.ensures few c.in-Ok.ensures.step c.requires.call c.in-Ok.ensures.reply
    (c.push_reserved.ensures.items ∙ ap (λ os. os ++ c.number-number.result ∷ []) c.advance.ensures.owners)
    (c.push_reserved-2.ensures.items ∙ ap (λ (es : List Entry). es ++ record { party = c.party_at-party.result; call = c.args.call; reply = c.in-Ok.replies.0 } ∷ []) c.advance.ensures.entries) in
    (k.0, k.1)

pub returns-clause-turn : goal.returns-clause-turn
returns-clause-turn c =
    let net : c.book.inside.net ≡ c.args.self.now.net = ap (λ (b : Log). b.net) c.book.view_is ∙ c.requires.turn.net in
    let few : c.number-number.result < parties c.book.inside.net = subst (λ (n : ℕ). n < parties c.book.inside.net) (sym c.number-number.ensures) (subst (λ (m : Net). c.args.pass.now.number < parties m) (sym net) c.requires.turn.knows.number) in
    let k = rows_more c.book.inside.net c.book.inside.state c.advance.new.state c.book.inside.owners.items c.push_reserved.new.self.items c.book.inside.entries.items c.push_reserved-2.new.self.items c.number-number.result c.args.call c.in-Ok.replies.0 c.party_at-party.result
    c.book.invariant.0 c.book.invariant.1 c.party_at-party.ensures few c.in-Ok.ensures.step c.requires.call c.in-Ok.ensures.reply
    (c.push_reserved.ensures.items ∙ ap (λ os. os ++ c.number-number.result ∷ []) c.advance.ensures.owners)
    (c.push_reserved-2.ensures.items ∙ ap (λ (es : List Entry). es ++ record { party = c.party_at-party.result; call = c.args.call; reply = c.in-Ok.replies.0 } ∷ []) c.advance.ensures.entries) in
    let entry : Entry = record { party = c.party_at-party.result; call = c.args.call; reply = c.in-Ok.replies.0 } in
    let item : Item = (c.number-number.result, entry) in
    let b : Log = record { net = c.book.inside.net; state = c.book.inside.state; items = zip c.book.inside.owners.items c.book.inside.entries.items } in
    let d : Log = record { net = c.book.inside.net; state = c.advance.new.state; items = zip c.push_reserved.new.self.items c.push_reserved-2.new.self.items } in
    let view : b ≡ c.args.book.now = c.book.view_is in
    let items : d.items ≡ b.items ++ item ∷ [] =
    k.2 ∙ ap (λ (who : Party). let e : Entry = record { party = who; call = c.args.call; reply = c.in-Ok.replies.0 } in let i : Item = (c.number-number.result, e) in b.items ++ i ∷ []) (sym c.party_at-party.ensures) in
    one_more c.args.self.now c.args.pass.now c.commit.new.pass b d item (subst (λ (z : Log). IsAtTurn c.args.self.now c.args.pass.now z) (sym view) c.requires.turn) c.commit.ensures.seen refl items k.1
