use Rattle.std.proofs.Common.{Some}
use Rattle.com_turn.proofs.turn.Turn.commit.Given as goal

abbrev pub ghosts-commit : goal.ghosts-commit
ghosts-commit g a = record { item = Some a.item.now }
