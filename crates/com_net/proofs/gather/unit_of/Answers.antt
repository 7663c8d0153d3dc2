use Rattle.toml.specs.View.{table_view}
use Rattle.com_net.specs.declared.keys.Key.TheVariants as key
use Rattle.com_net.specs.Values.{string_at}
use Rattle.com_net.proofs.FileNames.{IsText-file_name}
use Rattle.com_net.proofs.gather.unit_of.Goals as goal

pub text_at-requires : goal.text_at-requires
text_at-requires c = IsText-file_name (string_at key.Source (table_view c.args.table.now)) c.requires.source
