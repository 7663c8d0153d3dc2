use Rattle.std.proofs.Common.{refl, sym, ◌∙◌}
use Rattle.std.proofs.lemmas.Option.{none-some}
use Rattle.mcs_top.proofs.Performing.{not_done, memory_alone, text_of, none_of, has_text, added_same}
use Rattle.mcs_top.proofs.script.perform_line.Goals as goal

pub returns-in_err-party-clause-done : goal.returns-in_err-party-clause-done
returns-in_err-party-clause-done c = not_done _ _ c.from_residual.result c.from_residual.ensures.1

pub returns-in_err-party-clause-refused : goal.returns-in_err-party-clause-refused
returns-in_err-party-clause-refused c = memory_alone c.args.run.now.state c.args.line.now c.from_residual.result c.from_residual.ensures.1

pub returns-in_default-clause-refused : goal.returns-in_default-clause-refused
returns-in_default-clause-refused c = λ party call text. none-some (party, call) (sym c.in_default.is ∙ c.in_ok-party.ensures.each_text party call text)

pub returns-then-not-may-clause-refused : goal.returns-then-not-may-clause-refused
returns-then-not-may-clause-refused c = record {
  party = c.in-Some.party;
  call = c.in-Some.call;
  text = text_of c.args.line.now c.in_ok-party.field-0 c.in-Some.party c.in-Some.call c.in_ok-party.ensures.found c.in-Some.is;
  undefined = none_of _ c.may.result c.may.ensures c.if-not-may.true;
}

pub apply-requires-clause-may : goal.apply-requires-clause-may
apply-requires-clause-may c = sym c.may.ensures ∙ c.if-not-may.false

pub apply-requires-clause-call : goal.apply-requires-clause-call
apply-requires-clause-call c = (text_of c.args.line.now c.in_ok-party.field-0 c.in-Some.party c.in-Some.call c.in_ok-party.ensures.found c.in-Some.is).ranges

pub returns-in_err-reply-clause-done : goal.returns-in_err-reply-clause-done
returns-in_err-reply-clause-done c = not_done _ _ c.from_residual-in_err-reply.result c.from_residual-in_err-reply.ensures.1

pub returns-in_err-reply-clause-refused : goal.returns-in_err-reply-clause-refused
returns-in_err-reply-clause-refused c = memory_alone c.args.run.now.state c.args.line.now c.from_residual-in_err-reply.result c.from_residual-in_err-reply.ensures.1

pub add-requires-clause-text : goal.add-requires-clause-text
add-requires-clause-text c =
    has_text c.in-Some.party c.in-Some.call c.in_ok-reply.reply c.args.line.now (text_of c.args.line.now c.in_ok-party.field-0 c.in-Some.party c.in-Some.call c.in_ok-party.ensures.found c.in-Some.is)
    c.in_ok-reply.ensures.reply

pub add-requires-clause-call : goal.add-requires-clause-call
add-requires-clause-call c = text_of c.args.line.now c.in_ok-party.field-0 c.in-Some.party c.in-Some.call c.in_ok-party.ensures.found c.in-Some.is

pub add-requires-clause-arrivals : goal.add-requires-clause-arrivals
add-requires-clause-arrivals c = c.requires.arrivals

pub add-requires-clause-portions : goal.add-requires-clause-portions
add-requires-clause-portions c = c.requires.portions

pub returns-in_err-add-clause-done : goal.returns-in_err-add-clause-done
returns-in_err-add-clause-done c = not_done _ _ c.from_residual-in_err-add.result c.from_residual-in_err-add.ensures.1

pub returns-in_err-add-clause-refused : goal.returns-in_err-add-clause-refused
returns-in_err-add-clause-refused c = memory_alone c.args.run.now.state c.args.line.now c.from_residual-in_err-add.result c.from_residual-in_err-add.ensures.1

pub returns-clause-done : goal.returns-clause-done
returns-clause-done c = record {
  entry = record { party = c.in-Some.party; call = c.in-Some.call; reply = c.in_ok-reply.reply };
  text = text_of c.args.line.now c.in_ok-party.field-0 c.in-Some.party c.in-Some.call c.in_ok-party.ensures.found c.in-Some.is;
  stepped = rw c.in_ok-add.ensures.state c.in_ok-reply.ensures.step;
  added = added_same _ _ c.args.run.now c.add.new.self refl refl refl refl c.in_ok-add.ensures.added;
}
