use Rattle.std.proofs.Common.{false}
use Rattle.std.proofs.lemmas.List.{get_or-replicate}
use Rattle.com_send.proofs.areas.Named.new.Goals as goal

pub loop-destination-init : goal.loop-destination-init
loop-destination-init c = λ at d within. get_or-replicate 64 at false d within
