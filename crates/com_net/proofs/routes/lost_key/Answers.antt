use Rattle.com_net.specs.inner.Seen.{seen}
use Rattle.com_net.proofs.SoundParts.{sound_terminal, sound_unit}
use Rattle.com_net.proofs.routes.lost_key.Goals as goal

pub leads_to_no_leaf-requires : goal.leads_to_no_leaf-requires
leads_to_no_leaf-requires c = (sound_terminal (seen c.args.at.now) c.requires c.in-Terminal.is).route

pub leads_to_no_node-requires : goal.leads_to_no_node-requires
leads_to_no_node-requires c = (sound_unit (seen c.args.at.now) c.requires c.in-Unit.is).schedule
