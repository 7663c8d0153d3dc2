use Rattle.com_tree.proofs.Underneath.{chooses, chosen_waits, some_waits}
use Rattle.com_tree.proofs.laws.a_node_chooses_where_a_message_waits.Goals as goal

pub returns-clause-chooses : goal.returns-clause-chooses
returns-clause-chooses c = λ rows node first written within.
    (some_waits rows node first written within, λ under. chooses rows node first under.0 written within under.1)

pub returns-clause-chosen : goal.returns-clause-chosen
returns-clause-chosen c = λ rows node first written within. chosen_waits rows node first written within
