use Rattle.std.proofs.Common.{◌≡◌, ◌+◌, ◌-◌, ◌*◌, ◌++◌, set, arith}
use Rattle.com_text.specs.Name.{spaces}
use Rattle.com_cd.specs.OutputArea.{opening_output}
use Rattle.com_cd.proofs.Outputs.{held, front_of_padded, opening_more, opening_done, length-opening_output, IsText-opening_output}
use Rattle.com_cd.proofs.output_area.OutArea.opening.Goals as goal

pub loop-at-preserved : goal.loop-at-preserved
loop-at-preserved c =
    let n = c.loop-at.at in
    let start : c.start.result ≡ 10 + 13 * n = c.start.ensures in
    let step = opening_more n (omega (arith, c.loop-at-test.true, c.requires.few)) in
    let written : set c.loop-at.bytes c.start.result 48 ≡ opening_output (n + 1) ++ spaces (104 - 13 * (n + 1)) =
    rw (start, c.loop-at.invariant) step in
    written

pub invariant_of-result : goal.invariant_of-result
invariant_of-result c =
    let n = c.args.occurrences in
    let bytes = c.loop-at.bytes in
    let same = opening_done bytes c.loop-at.at n c.loop-at.invariant (omega (arith, c.loop-at.auto.at-end, c.loop-at-test.false)) in
    held (opening_output n) bytes n (length-opening_output n) c.requires.at_least_one c.requires.few (IsText-opening_output n) same

pub returns : goal.returns
returns c =
    let n = c.args.occurrences in
    let bytes = c.loop-at.bytes in
    let same = opening_done bytes c.loop-at.at n c.loop-at.invariant (omega (arith, c.loop-at.auto.at-end, c.loop-at-test.false)) in
    front_of_padded (opening_output n) bytes n (length-opening_output n) same
