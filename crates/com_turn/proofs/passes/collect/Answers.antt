use Rattle.std.proofs.Common.{rules, ◌∙◌, ◌∷◌, ◌++◌, [], sym, ap}
use Rattle.std.proofs.lemmas.List.{append-nil, nil_from_length}
use Rattle.std.specs.Option.{option_to_list}
use Rattle.com_turn.proofs.Collecting.{ready_last, starts, goes_on, finishes}
use Rattle.com_turn.proofs.passes.collect.Goals as goal

pub into_seat-seat-requires : goal.into_seat-seat-requires
into_seat-seat-requires g c =
    let e = c.pop.ensures.items ∙ ap (λ z. c.pop.new.self.items ++ option_to_list z) c.in-Some.is in
    (ready_last c.args.board.now c.args.passes.items c.pop.new.self.items [] c.in-Some.first c.requires.all (e ∙ sym (append-nil (c.pop.new.self.items ++ c.in-Some.first ∷ [])))).1.idle

pub loop-pass-init : goal.loop-pass-init
loop-pass-init g c =
    let e = c.pop.ensures.items ∙ ap (λ z. c.pop.new.self.items ++ option_to_list z) c.in-Some.is in
    let seat = c.into_seat-seat.ensures in
    starts c.args.board.now c.args.passes.items c.pop.new.self.items c.in-Some.first c.into_seat-seat.result c.requires.all e seat.turn seat.known seat.idle.0 seat.idle.1 seat.live.1 seat.active

pub into_seat-requires : goal.into_seat-requires
into_seat-requires g c =
    let i = c.loop-pass.invariant in
    let e = c.pop-in-loop-pass.ensures.items ∙ ap (λ z. c.pop-in-loop-pass.new.self.items ++ option_to_list z) c.in-Some-pop.is in
    (ready_last c.args.board.now c.args.passes.items c.pop-in-loop-pass.new.self.items i.done c.in-Some-pop.pass c.requires.all (i.parts ∙ ap (λ z. z ++ i.done) e)).1.idle

pub join-requires-clause-own : goal.join-requires-clause-own
join-requires-clause-own g c =
    let i = c.loop-pass.invariant in
    let e = c.pop-in-loop-pass.ensures.items ∙ ap (λ z. c.pop-in-loop-pass.new.self.items ++ option_to_list z) c.in-Some-pop.is in
    let ready = (ready_last c.args.board.now c.args.passes.items c.pop-in-loop-pass.new.self.items i.done c.in-Some-pop.pass c.requires.all (i.parts ∙ ap (λ z. z ++ i.done) e)).1 in
    (i.own, c.into_seat.ensures.turn ∙ ready.turn_is, c.into_seat.ensures.idle.1)

pub join-requires-clause-inactive : goal.join-requires-clause-inactive
join-requires-clause-inactive g c =
    let i = c.loop-pass.invariant in
    let e = c.pop-in-loop-pass.ensures.items ∙ ap (λ z. c.pop-in-loop-pass.new.self.items ++ option_to_list z) c.in-Some-pop.is in
    let ready = (ready_last c.args.board.now c.args.passes.items c.pop-in-loop-pass.new.self.items i.done c.in-Some-pop.pass c.requires.all (i.parts ∙ ap (λ z. z ++ i.done) e)).1 in
    (i.inactive, c.into_seat.ensures.active ∙ ready.inactive)

pub loop-pass-preserved : goal.loop-pass-preserved
loop-pass-preserved g c = goes_on c.args.board.now c.args.passes.items c.loop-pass.passes.items c.pop-in-loop-pass.new.self.items c.in-Some-pop.pass c.loop-pass.seat c.into_seat.result c.join.new.seat c.loop-pass.invariant
    (c.pop-in-loop-pass.ensures.items ∙ ap (λ z. c.pop-in-loop-pass.new.self.items ++ option_to_list z) c.in-Some-pop.is) c.into_seat.ensures.known c.join.ensures.own c.join.ensures.joined

pub returns-clause-all : goal.returns-clause-all
returns-clause-all g c =
    finishes c.args.board.now c.args.passes.items c.loop-pass.passes.items c.loop-pass.seat c.loop-pass.invariant (nil_from_length c.loop-pass.passes.items (let e = c.in_default-pop.ensures.cases.0 in search rules))
