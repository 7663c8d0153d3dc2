use Rattle.com_recv.proofs.Awaited.{data_where}
use Rattle.com_recv.proofs.laws.there_is_data_where_something_waits.Goals as goal

pub returns : goal.returns
returns c = λ tree incoming unit node written within. data_where tree incoming unit node written within
