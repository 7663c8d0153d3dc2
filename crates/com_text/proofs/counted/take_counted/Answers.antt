use Rattle.std.proofs.Common.{◌≡◌, length, refl, arith}
use Rattle.std.specs.Prelude.{decimal}
use Rattle.com_text.proofs.CountedFields.{position-counted, take-counted, StandsAt-read, length-counted, length-le-counted}
use Rattle.com_text.proofs.counted.take_counted.Goals as goal

pub returns-in_err-colon-clause-put : goal.returns-in_err-colon-clause-put
returns-in_err-colon-clause-put c content rest few e =
    let place = position-counted c.args.bytes.now content rest few e in
    cc (c.in_err-colon.was)

pub returns-in_err-count-clause-put : goal.returns-in_err-count-clause-put
returns-in_err-count-clause-put c content rest few e =
    let place = position-counted c.args.bytes.now content rest few e in
    let colon : c.in_ok-colon.colon ≡ length (decimal (length content)) = cc (c.in_ok-colon.was) in
    let read = (c.count_of.ensures (length content)).1 (few, rw colon (take-counted c.args.bytes.now content rest e)) in
    cc (c.in_err-count.was)

pub returns-then-count-bytes-clause-put : goal.returns-then-count-bytes-clause-put
returns-then-count-bytes-clause-put c content rest few e =
    let place = position-counted c.args.bytes.now content rest few e in
    let colon : c.in_ok-colon.colon ≡ length (decimal (length content)) = cc (c.in_ok-colon.was) in
    let read = (c.count_of.ensures (length content)).1 (few, rw colon (take-counted c.args.bytes.now content rest e)) in
    let count : c.in_ok-count.count ≡ length content = cc (c.in_ok-count.was) in
    absurd (omega (arith, length-le-counted c.args.bytes.now content rest e))

pub returns-clause-found : goal.returns-clause-found
returns-clause-found c =
    let count = (c.in_ok-count.ensures c.in_ok-count.count).0 refl in
    StandsAt-read c.args.bytes.now c.in_ok-colon.colon c.in_ok-count.count (cc (c.in_ok-colon.was)) count.1 count.0 (omega arith)

pub returns-clause-put : goal.returns-clause-put
returns-clause-put c content rest few e =
    let place = position-counted c.args.bytes.now content rest few e in
    let colon : c.in_ok-colon.colon ≡ length (decimal (length content)) = cc (c.in_ok-colon.was) in
    let read = (c.count_of.ensures (length content)).1 (few, rw colon (take-counted c.args.bytes.now content rest e)) in
    let count : c.in_ok-count.count ≡ length content = cc (c.in_ok-count.was) in
    rw (colon, count, length-counted content) refl
