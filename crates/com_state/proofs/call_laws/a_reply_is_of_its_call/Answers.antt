use Rattle.com_state.proofs.Replying.{own_kind, waits_only, no_data_only, names_only}
use Rattle.com_state.proofs.call_laws.a_reply_is_of_its_call.Goals as goal

pub returns-clause-kind : goal.returns-clause-kind
returns-clause-kind c = λ S next who call reply stepped. own_kind S who call reply next stepped

pub returns-clause-waits : goal.returns-clause-waits
returns-clause-waits c = λ S next name unit area kind size no_data found stepped. waits_only S name unit area kind size no_data next found stepped

pub returns-clause-no_data : goal.returns-clause-no_data
returns-clause-no_data c = λ S next name unit area after kind size no_data found stepped. no_data_only S name unit area after kind size no_data next found stepped

pub returns-clause-names : goal.returns-clause-names
returns-clause-names c = λ S next name unit names found stepped. names_only S name unit names next found stepped
