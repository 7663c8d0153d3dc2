use Rattle.com_net.specs.inner.Seen.{seen}
use Rattle.com_net.proofs.SoundParts.{sound_terminal, sound_unit}
use Rattle.com_net.proofs.gather.Gathered.add.Goals as goal

pub terminal_of-requires-clause-input : goal.terminal_of-requires-clause-input
terminal_of-requires-clause-input c = (sound_terminal (seen c.args.at.now) c.requires.names c.in-Terminal.is).input

pub terminal_of-requires-clause-route : goal.terminal_of-requires-clause-route
terminal_of-requires-clause-route c = (sound_terminal (seen c.args.at.now) c.requires.names c.in-Terminal.is).route

pub unit_of-requires-clause-name : goal.unit_of-requires-clause-name
unit_of-requires-clause-name c = (sound_unit (seen c.args.at.now) c.requires.names c.in-Unit.is).name

pub unit_of-requires-clause-schedule : goal.unit_of-requires-clause-schedule
unit_of-requires-clause-schedule c = (sound_unit (seen c.args.at.now) c.requires.names c.in-Unit.is).schedule
