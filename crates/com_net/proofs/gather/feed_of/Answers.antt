use Rattle.std.proofs.Common.{sym}
use Rattle.toml.specs.View.{table_view}
use Rattle.com_net.specs.declared.keys.Key.TheVariants as key
use Rattle.com_net.specs.Network.{is_file_name}
use Rattle.com_net.specs.Values.{has, string_at}
use Rattle.com_net.proofs.FileNames.{IsText-file_name, if_there}
use Rattle.com_net.proofs.gather.feed_of.Goals as goal

pub text_at-requires : goal.text_at-requires
text_at-requires c =
    let content = table_view c.args.table.now in
    let named = if_there (has key.Input content) (is_file_name (string_at key.Input content)) c.requires.input (sym c.if-not-has.ensures) in
    IsText-file_name (string_at key.Input content) named
