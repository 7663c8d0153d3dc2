use Rattle.std.proofs.Common.{◌-◌, length, drop, sym, arith, length-drop}
use Rattle.std.proofs.lemmas.List.{take_all}
use Rattle.std.proofs.lemmas.Option.{none-some}
use Rattle.com_journal.proofs.Options.{None-of}
use Rattle.com_journal.proofs.Fields.{front-split_counted, split_counted-StandsAt}
use Rattle.com_journal.proofs.line.split_counted.Goals as goal

pub returns-in_err-from : goal.returns-in_err-from
returns-in_err-from c =
    let bytes = c.args.bytes.now in
    rw c.from_residual.ensures (None-of _ (λ found h.
    let front = front-split_counted bytes found.0 found.1 h in
    none-some _ (c.in_err-from.ensures.put found.0 found.1 front.0 front.1)))

pub returns : goal.returns
returns c =
    let stands = c.in_ok-from.ensures.found in
    let bytes = c.args.bytes.now in
    let whole = take_all (length bytes - c.in_ok-from.past) (drop c.in_ok-from.past bytes) (omega (arith, length-drop c.in_ok-from.past bytes)) in
    rw whole (sym (split_counted-StandsAt bytes c.in_ok-from.from c.in_ok-from.past stands))
