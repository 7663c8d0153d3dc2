use Rattle.std.proofs.Common.{[], ◌∷◌, ap, ◌∙◌}
use Rattle.std.proofs.lemmas.List.{map-append}
use Rattle.cob_code.specs.inner.Written.{shown, written}
use Rattle.cob_code.proofs.Rows.{if_list, on_ok, receive_list}
use Rattle.cob_code.proofs.statements.+statements.Goals as goal

pub push_statement-returns-in_ok-push_statements-in-If : goal.push_statement-returns-in_ok-push_statements-in-If
push_statement-returns-in_ok-push_statements-in-If t c =
    on_ok c.push_statements-in-If.result _ _
    (λ g. if_list (shown c.args.list.now.items) (shown c.push.new.self.items) (shown c.push_statements.new.list.items) (shown c.push_statements-in-If.new.list.items) c.args.statement.now c.in-If.position c.in-If.condition c.in-If.holds c.in-If.otherwise c.deref.result.now c.deref-in-If.result.now
    c.in-If.is c.deref.ensures.value c.deref-in-If.ensures.value (ap shown c.in_ok-push.ensures.items ∙ map-append (λ s. written s.now) c.args.list.now.items (c.args.statement ∷ [])) c.in_ok-push_statements-in-If.ensures g)
    c.push_statements-in-If.ensures

pub push_statement-returns-in-Receive : goal.push_statement-returns-in-Receive
push_statement-returns-in-Receive t c =
    on_ok c.push_statements-in-Receive.result _ _
    (λ g. receive_list (shown c.args.list.now.items) (shown c.push.new.self.items) (shown c.push_statements-in-Receive.new.list.items) c.args.statement.now c.in-Receive.cd c.in-Receive.segment c.in-Receive.into c.in-Receive.no_data c.deref-in-Receive.result.now
    c.in-Receive.is c.deref-in-Receive.ensures.value (ap shown c.in_ok-push.ensures.items ∙ map-append (λ s. written s.now) c.args.list.now.items (c.args.statement ∷ [])) g)
    c.push_statements-in-Receive.ensures
